-- Whole numbers on nested sets: if after each set they add up to at most B either way at a station of it, they add up to at most B times the sets at every station.
-- By induction on the sets: the sums at two stations of a set differ by at most B times the sets inside it, less one.
use Rattle.std.proofs.Common.{◌≡◌, ℕ, zero, suc, ◌+◌, ◌*◌, ◌<◌, ◌≤◌, Bool, true, false, cond, ◌⊎◌, ℤ, pos, ◌+ℤ◌, ◌≤ℤ◌, sym, refl, ap, ◌∙◌, subst, ap₂, inl, inr, mul-le-mul_left, arith}
use native.Mathlib.Decide.{ℕ_discrete, dec_lt}
use Rattle.std.proofs.lemmas.Int.{ints}
use Rattle.stations.specs.Sets.{In, has, Part}
use Rattle.stations.proofs.Digits.{has→In, In→has, Part-antisym}
use Rattle.duality.specs.Entries.{count_sum}
use Rattle.duality.proofs.Searches.{last_or_none}
use Rattle.duality.proofs.Sums.{count_sum_mono, count_sum_plus, count_sum_longer, count_sum_≤_each}
use Rattle.duality.proofs.Nests.{Nested, LastWith, inside_last}

-- at most b either way
pub record Within (b : ℕ) (z : ℤ) : Type 0 where
  pub above : z ≤ℤ pos b
  pub under : pos 0 ≤ℤ (z +ℤ pos b)

pub within_more : (b d : ℕ) (z : ℤ) → b ≤ d → Within b z → Within d z
within_more b d z h w = record { above = omega (arith, ints); under = omega (arith, ints) }

pub within_sum : (b d : ℕ) (z w : ℤ) → Within b z → Within d w → Within (b + d) (z +ℤ w)
within_sum b d z w h k = record { above = omega (arith, ints); under = omega (arith, ints) }

-- ---- sums of whole numbers

abbrev pub int_sum : (ℕ → ℤ) → ℕ → ℤ
int_sum f zero = pos 0
int_sum f (suc m) = int_sum f m +ℤ f m

pub int_sum_cong : (f g : ℕ → ℤ) (m : ℕ) → ((k : ℕ) → k < m → f k ≡ g k) → int_sum f m ≡ int_sum g m
int_sum_cong f g zero h = refl
int_sum_cong f g (suc m) h = ap₂ ◌+ℤ◌ (int_sum_cong f g m (λ k l. h k (omega arith))) (h m (omega arith))

-- terms that are all 0 change nothing
pub int_sum_still : (f : ℕ → ℤ) (m d : ℕ) → m ≤ d → ((k : ℕ) → m ≤ k → k < d → f k ≡ pos 0) → int_sum f d ≡ int_sum f m
int_sum_still f m zero h still = ap (int_sum f) (none m h)
  where
    none : (m : ℕ) → m ≤ 0 → 0 ≡ m
    none m h = omega arith
int_sum_still f m (suc d) h still =
    go (ℕ_discrete m (suc d)) (λ l. int_sum_still f m d l (λ k a b. still k a (omega arith)))
  where
    go : Dec (m ≡ suc d) → (m ≤ d → int_sum f d ≡ int_sum f m) → (int_sum f d +ℤ f d) ≡ int_sum f m
    go (yes e) rest = ap (int_sum f) (sym e)
    go (no ne) rest = omega (arith, ints, rest (omega arith), still d (omega arith) (omega arith))

-- ---- levels

-- the numbers f of the first j sets that hold station x, together
abbrev pub level : (ℕ → ℕ) → (ℕ → ℤ) → ℕ → ℕ → ℤ
level Z f j x = int_sum (λ i. cond (has (Z i) x) (f i) (pos 0)) j

pub level_in : (Z : ℕ → ℕ) (f : ℕ → ℤ) (j x : ℕ) → In (Z j) x → level Z f (suc j) x ≡ (level Z f j x +ℤ f j)
level_in Z f j x a = ap (λ (b : Bool). level Z f j x +ℤ cond b (f j) (pos 0)) (In→has (Z j) x a)

level_at_last : (Z : ℕ → ℕ) (f : ℕ → ℤ) (j x : ℕ) (t : LastWith Z x j) → level Z f j x ≡ level Z f (suc t.at) x
level_at_last Z f j x t =
    int_sum_still (λ i. cond (has (Z i) x) (f i) (pos 0)) (suc t.at) j t.before
    (λ k a b. ap (λ (c : Bool). cond c (f k) (pos 0)) (t.later k a b))

level_at_none : (Z : ℕ → ℕ) (f : ℕ → ℤ) (j x : ℕ) → ((k : ℕ) → k < j → has (Z k) x ≡ false) → level Z f j x ≡ pos 0
level_at_none Z f j x none =
    int_sum_still (λ i. cond (has (Z i) x) (f i) (pos 0)) 0 j (omega arith) (λ k a b. ap (λ (c : Bool). cond c (f k) (pos 0)) (none k b))

module _ (p : ℕ) (Z : ℕ → ℕ) (nest : Nested p Z) (f : ℕ → ℤ) (B : ℕ) (v : ℕ → ℕ)
    (anchor : (j : ℕ) → j < p → In (Z j) (v j)) (anchored : (j : ℕ) → j < p → Within B (level Z f (suc j) (v j))) where
  -- B for each set up to j whose anchor is in set j
  reach : ℕ → ℕ
  reach j = count_sum (λ i. cond (has (Z j) (v i)) B 0) (suc j)

  reach_≤ : (j : ℕ) → reach j ≤ B * suc j
  unfolding reach
  reach_≤ j = count_sum_≤_each (λ i. cond (has (Z j) (v i)) B 0) B (suc j) (λ k l. one (has (Z j) (v k)))
    where
      one : (b : Bool) → cond b B 0 ≤ B
      one true = omega arith
      one false = omega arith

  reach_own : (j : ℕ) → j < p → reach j ≡ count_sum (λ i. cond (has (Z j) (v i)) B 0) j + B
  unfolding reach
  reach_own j h = ap (λ (b : Bool). count_sum (λ i. cond (has (Z j) (v i)) B 0) j + cond b B 0) (In→has (Z j) (v j) (anchor j h))

  reach_itself : (j : ℕ) → j < p → B ≤ reach j
  reach_itself j h = omega (arith, reach_own j h)

  reach_part : (l j : ℕ) → l < j → j < p → Part (Z l) (Z j) → reach l + B ≤ reach j
  unfolding reach
  reach_part l j h g part =
      omega (
        arith,
        reach_own j g,
        count_sum_longer (λ i. cond (has (Z l) (v i)) B 0) (suc l) j h,
        count_sum_mono (λ i. cond (has (Z l) (v i)) B 0) (λ i. cond (has (Z j) (v i)) B 0) j (λ i d. one (v i) (has (Z l) (v i)) refl),
      )
    where
      one : (x : ℕ) (b : Bool) → has (Z l) x ≡ b → cond b B 0 ≤ cond (has (Z j) x) B 0
      one x false e = omega arith
      one x true e = subst (λ (b : Bool). B ≤ cond b B 0) (sym (In→has (Z j) x (part x (has→In (Z l) x e)))) (omega arith)

  reach_parts : (l m j : ℕ) → l < j → m < j → j < p → Part (Z l) (Z j) → Part (Z m) (Z j) → ((s : ℕ) → In (Z l) s → In (Z m) s → ⊥)
      → reach l + reach m + B ≤ reach j
  unfolding reach
  reach_parts l m j h d g one other apart =
      omega (
        arith,
        reach_own j g,
        count_sum_longer (at l) (suc l) j h,
        count_sum_longer (at m) (suc m) j d,
        count_sum_plus (at l) (at m) j,
        count_sum_mono (λ i. at l i + at m i) (at j) j (λ i q. both (v i) (has (Z l) (v i)) (has (Z m) (v i)) refl refl),
      )
    where
      at : ℕ → ℕ → ℕ
      at j i = cond (has (Z j) (v i)) B 0

      full : (x : ℕ) → In (Z j) x → B ≤ cond (has (Z j) x) B 0
      full x a = subst (λ (b : Bool). B ≤ cond b B 0) (sym (In→has (Z j) x a)) (omega arith)

      both : (x : ℕ) (a b : Bool) → has (Z l) x ≡ a → has (Z m) x ≡ b → cond a B 0 + cond b B 0 ≤ cond (has (Z j) x) B 0
      both x true true e r = absurd (apart x (has→In (Z l) x e) (has→In (Z m) x r))
      both x true false e r = omega (arith, full x (one x (has→In (Z l) x e)))
      both x false true e r = omega (arith, full x (other x (has→In (Z m) x r)))
      both x false false e r = omega arith

  -- what holds at the stations of set j once it is in
  record Spread (j : ℕ) : Type 0 where
    close : (x y : ℕ) → In (Z j) x → In (Z j) y → (level Z f (suc j) x +ℤ pos B) ≤ℤ (level Z f (suc j) y +ℤ pos (reach j))
    bounded : (x : ℕ) → In (Z j) x → Within (reach j) (level Z f (suc j) x)

  -- how far the levels of two stations of set j are apart before it
  apart_before : (j : ℕ) → j < p → ((l : ℕ) → l < j → Spread l) → (x y : ℕ) → In (Z j) x → In (Z j) y
      → (level Z f j x +ℤ pos B) ≤ℤ (level Z f j y +ℤ pos (reach j))
  apart_before j h before x y a b = go (last_or_none (λ i. has (Z i) x) j) (last_or_none (λ i. has (Z i) y) j)
    where
      inner : (u : ℕ) → In (Z j) u → (t : LastWith Z u j) → Part (Z t.at) (Z j)
      inner u m t = (nest t.at j u t.before h (has→In (Z t.at) u t.passes) m).0

      held : (u : ℕ) (t : LastWith Z u j) → In (Z t.at) u
      held u t = has→In (Z t.at) u t.passes

      here : (u : ℕ) (t : LastWith Z u j) → Within (reach t.at) (level Z f j u)
      here u t = subst (Within (reach t.at)) (sym (level_at_last Z f j u t)) ((before t.at t.before).bounded u (held u t))

      two : (t : LastWith Z x j) (w : LastWith Z y j) → Dec (t.at ≡ w.at) → (level Z f j x +ℤ pos B) ≤ℤ (level Z f j y +ℤ pos (reach j))
      two t w (yes e) =
          omega (
            arith,
            ints,
            level_at_last Z f j x t,
            level_at_last Z f j y w ∙ ap (λ (i : ℕ). level Z f (suc i) y) (sym e),
            (before t.at t.before).close x y (held x t) (subst (λ (i : ℕ). In (Z i) y) (sym e) (held y w)),
            reach_part t.at j t.before h (inner x a t),
          )
      two t w (no ne) =
          omega (arith, ints, (here x t).above, (here y w).under, reach_parts t.at w.at j t.before w.before h (inner x a t) (inner y b w) none)
        where
          order : (i k : ℕ) → i < j → k < j → Part (Z i) (Z k) → Part (Z k) (Z i) → (s : ℕ) → In (Z i) s → i < k → ⊥
          order i k p₁ p₂ q r s m l =
              (nest i k s l (omega arith) m (q s m)).1 (Part-antisym (Z i) (Z k) q r)

          none : (s : ℕ) → In (Z t.at) s → In (Z w.at) s → ⊥
          none s m k = compare (dec_lt t.at w.at)
            where
              down : Part (Z w.at) (Z t.at)
              down = inside_last p Z nest j x t (omega arith) w.at s w.before k m

              up : Part (Z t.at) (Z w.at)
              up = inside_last p Z nest j y w (omega arith) t.at s t.before m k

              compare : Dec (t.at < w.at) → ⊥
              compare (yes l) = order t.at w.at t.before w.before up down s m l
              compare (no l) = order w.at t.at w.before t.before down up s k (omega arith)

      go : LastWith Z x j ⊎ ((k : ℕ) → k < j → has (Z k) x ≡ false) → LastWith Z y j ⊎ ((k : ℕ) → k < j → has (Z k) y ≡ false)
          → (level Z f j x +ℤ pos B) ≤ℤ (level Z f j y +ℤ pos (reach j))
      go (inl t) (inl w) = two t w (ℕ_discrete t.at w.at)
      go (inl t) (inr no_y) =
          omega (arith, ints, (here x t).above, level_at_none Z f j y no_y, reach_part t.at j t.before h (inner x a t))
      go (inr no_x) (inl w) =
          omega (arith, ints, level_at_none Z f j x no_x, (here y w).under, reach_part w.at j w.before h (inner y b w))
      go (inr no_x) (inr no_y) =
          omega (arith, ints, level_at_none Z f j x no_x, level_at_none Z f j y no_y, reach_itself j h)

  spread_after : (j : ℕ) → j < p → ((l : ℕ) → l < j → Spread l) → Spread j
  spread_after j h before = record { close = near; bounded = small }
    where
      near : (x y : ℕ) → In (Z j) x → In (Z j) y → (level Z f (suc j) x +ℤ pos B) ≤ℤ (level Z f (suc j) y +ℤ pos (reach j))
      near x y a b = omega (arith, ints, level_in Z f j x a, level_in Z f j y b, apart_before j h before x y a b)

      small : (x : ℕ) → In (Z j) x → Within (reach j) (level Z f (suc j) x)
      small x a = record {
        above = omega (arith, ints, near x (v j) a (anchor j h), (anchored j h).above);
        under = omega (arith, ints, near (v j) x (anchor j h) a, (anchored j h).under);
      }

  spread_below : (m j : ℕ) → j < m → j < p → Spread j
  spread_below zero j h g = absurd (omega arith)
  spread_below (suc m) j h g = spread_after j g (λ l d. spread_below m l (omega arith) (omega arith))

  pub level_within : (i x : ℕ) → i ≤ p → Within (B * i) (level Z f i x)
  level_within i x h = go (last_or_none (λ k. has (Z k) x) i)
    where
      go : LastWith Z x i ⊎ ((k : ℕ) → k < i → has (Z k) x ≡ false) → Within (B * i) (level Z f i x)
      go (inr none) =
          let e = level_at_none Z f i x none in
          record { above = omega (arith, ints); under = omega (arith, ints) }
      go (inl t) =
          let far : B * suc t.at ≤ B * i = mul-le-mul_left B t.before in
          within_more (reach t.at) (B * i) (level Z f i x) (omega (arith, reach_≤ t.at))
          (subst (Within (reach t.at)) (sym (level_at_last Z f i x t))
          ((spread_below (suc t.at) t.at (omega arith) (omega (arith, t.before))).bounded x (has→In (Z t.at) x t.passes)))
