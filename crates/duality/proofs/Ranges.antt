-- Under an additive map to the whole numbers that is at most B either way at each price, whatever is left and each amount stays within B times one more than the sets.
-- What was taken from a link is the level of its head just before a set first had both its ends.
use Rattle.std.proofs.Common.{◌≡◌, ℕ, zero, suc, ◌+◌, ◌*◌, ◌<◌, ◌≤◌, Bool, true, false, cond, not, ◌&&◌, length, ℤ, pos, ◌+ℤ◌, sym, refl, ap, ◌∙◌, subst, ap₂, true≢false, mul-le-mul_left, mul-suc, arith}
use native.Mathlib.Decide.{ℕ_discrete, dec_lt}
use Rattle.std.proofs.lemmas.Int.{ints}
use Rattle.digraph.specs.Links.{Slots}
use Rattle.digraph.specs.Entering.{enters_at}
use Rattle.stations.specs.Sets.{In, has}
use Rattle.stations.proofs.Digits.{has→In, In→has}
use Rattle.duality.specs.Families.{Family}
use Rattle.duality.proofs.Amounts.{Amounts, given}
use Rattle.duality.proofs.Sums.{sum}
use Rattle.duality.proofs.Entering.{head_at, tail_at, head_in, tail_out, enters_by_ends, entering_is_listed}
use Rattle.duality.proofs.Nests.{Nested}
use Rattle.duality.proofs.WeakDuality.{load}
use Rattle.duality.proofs.Packing.{Packing, left_and_load, nested}
use Rattle.duality.proofs.Levels.{Within, within_more, int_sum, int_sum_cong, level, level_in, level_within}

-- ---- what is taken from a link

-- the numbers f of the first j sets that link k enters, together
abbrev drawn : Slots → (ℕ → ℕ) → (ℕ → ℤ) → ℕ → ℕ → ℤ
drawn slots Z f j k = int_sum (λ i. cond (enters_at slots k (Z i)) (f i) (pos 0)) j

module _ (slots : Slots) (p : ℕ) (Z : ℕ → ℕ) (nest : Nested p Z) (f : ℕ → ℤ) (k : ℕ) where
  -- no set so far has both ends of the link, or some set had, and what is drawn was a level of its head before it
  data Drawn (i : ℕ) : Type 0 where
    open_yet : ((j : ℕ) → j < i → In (Z j) (head_at slots k) → In (Z j) (tail_at slots k) → ⊥)
        → drawn slots Z f i k ≡ level Z f i (head_at slots k) → Drawn i
    shut : (m j : ℕ) → m ≤ i → j < i → In (Z j) (head_at slots k) → In (Z j) (tail_at slots k)
        → drawn slots Z f i k ≡ level Z f m (head_at slots k) → Drawn i

  across_is : (i : ℕ) (x y : Bool) → has (Z i) (head_at slots k) ≡ x → has (Z i) (tail_at slots k) ≡ y
      → drawn slots Z f (suc i) k ≡ (drawn slots Z f i k +ℤ cond (x && not y) (f i) (pos 0))
  across_is i x y a b =
      ap (λ (c : Bool). drawn slots Z f i k +ℤ cond c (f i) (pos 0))
      (enters_by_ends slots k (Z i) ∙ ap₂ (λ (u w : Bool). u && not w) a b)

  level_is : (i : ℕ) (x : Bool) → has (Z i) (head_at slots k) ≡ x
      → level Z f (suc i) (head_at slots k) ≡ (level Z f i (head_at slots k) +ℤ cond x (f i) (pos 0))
  level_is i x a = ap (λ (c : Bool). level Z f i (head_at slots k) +ℤ cond c (f i) (pos 0)) a

  drawn_next : (i : ℕ) → i < p → Drawn i → Drawn (suc i)
  drawn_next i h (open_yet none e) = go (has (Z i) (head_at slots k)) (has (Z i) (tail_at slots k)) refl refl
    where
      still : ((In (Z i) (head_at slots k)) → In (Z i) (tail_at slots k) → ⊥)
          → (j : ℕ) → j < suc i → In (Z j) (head_at slots k) → In (Z j) (tail_at slots k) → ⊥
      still last j l a b = by (ℕ_discrete j i)
        where
          by : Dec (j ≡ i) → ⊥
          by (yes q) = last (subst (λ (x : ℕ). In (Z x) (head_at slots k)) q a) (subst (λ (x : ℕ). In (Z x) (tail_at slots k)) q b)
          by (no q) = none j (omega arith) a b

      go : (x y : Bool) → has (Z i) (head_at slots k) ≡ x → has (Z i) (tail_at slots k) ≡ y → Drawn (suc i)
      go true true a b =
          shut i i (omega arith) (omega arith) (has→In (Z i) (head_at slots k) a) (has→In (Z i) (tail_at slots k) b)
          (omega (arith, ints, across_is i true true a b))
      go true false a b =
          open_yet (still (λ u w. true≢false (sym (In→has (Z i) (tail_at slots k) w) ∙ b)))
          (omega (arith, ints, across_is i true false a b, level_is i true a))
      go false y a b =
          open_yet (still (λ u w. true≢false (sym (In→has (Z i) (head_at slots k) u) ∙ a)))
          (omega (arith, ints, across_is i false y a b, level_is i false a))
  drawn_next i h (shut m j l d a b e) = go (has (Z i) (head_at slots k)) (has (Z i) (tail_at slots k)) refl refl
    where
      same : drawn slots Z f (suc i) k ≡ (drawn slots Z f i k +ℤ pos 0) → Drawn (suc i)
      same s = shut m j (omega arith) (omega arith) a b (omega (arith, ints))

      go : (x y : Bool) → has (Z i) (head_at slots k) ≡ x → has (Z i) (tail_at slots k) ≡ y → Drawn (suc i)
      go true true u w = same (across_is i true true u w)
      go true false u w =
          absurd (true≢false (sym (In→has (Z i) (tail_at slots k)
          ((nest j i (head_at slots k) d h a (has→In (Z i) (head_at slots k) u)).0 (tail_at slots k) b)) ∙ w))
      go false y u w = same (across_is i false y u w)

  drawn_by : (i : ℕ) → i ≤ p → Drawn i
  drawn_by zero h = open_yet (λ j l a b. omega arith) refl
  drawn_by (suc i) h = drawn_next i (omega arith) (drawn_by i (omega arith))

  -- what is drawn from a link is a level of its head
  drawn_is_level : (i : ℕ) → i ≤ p → (m : ℕ) × (m ≤ i) × (drawn slots Z f i k ≡ level Z f m (head_at slots k))
  drawn_is_level i h = go (drawn_by i h)
    where
      go : Drawn i → (m : ℕ) × (m ≤ i) × (drawn slots Z f i k ≡ level Z f m (head_at slots k))
      go (open_yet none e) = (i, omega arith, e)
      go (shut m j l d a b e) = (m, l, e)

  -- before a set that the link enters no set had both its ends
  drawn_before_entering : (j : ℕ) → j < p → enters_at slots k (Z j) ≡ true → drawn slots Z f j k ≡ level Z f j (head_at slots k)
  drawn_before_entering j h e = go (drawn_by j (omega arith))
    where
      go : Drawn j → drawn slots Z f j k ≡ level Z f j (head_at slots k)
      go (open_yet none q) = q
      go (shut m i l d a b q) =
          absurd (tail_out slots k (Z j) e ((nest i j (head_at slots k) d h a (head_in slots k (Z j) e)).0 (tail_at slots k) b))

-- ---- of the first stage

module _ (G : Amounts) (slots : Slots) (Member : ℕ → Type 0) (n : ℕ) (F : Family n Member)
    (p : ℕ) (Z : ℕ → ℕ) (y : ℕ → G.Amount) (c : ℕ → ℕ → G.Amount) (P : Packing G slots Member p Z y c)
    (φ : G.Amount → ℤ) (additive : (a b : G.Amount) → φ (G.◌⊕◌ a b) ≡ (φ a +ℤ φ b))
    (B : ℕ) (small : (k : ℕ) → k < length slots → Within B (φ (c 0 k))) where
  open G use {Amount, ◌⊕◌, 𝟘}

  infixl 65 ◌⊕◌
  at_nothing : φ 𝟘 ≡ pos 0
  at_nothing = omega (arith, ints, sym (ap φ (G.with_nothing 𝟘)) ∙ additive 𝟘 𝟘)

  at_given : (b : Bool) (a : Amount) → φ (given G b a) ≡ cond b (φ a) (pos 0)
  at_given true a = refl
  at_given false a = at_nothing

  at_sum : (g : ℕ → Amount) (m : ℕ) → φ (sum G g m) ≡ int_sum (λ k. φ (g k)) m
  at_sum g zero = at_nothing
  at_sum g (suc m) = additive (sum G g m) (g m) ∙ ap (λ (x : ℤ). x +ℤ φ (g m)) (at_sum g m)

  amounts : ℕ → ℤ
  amounts i = φ (y i)

  at_load : (i k : ℕ) → φ (load G slots Z y i k) ≡ drawn slots Z amounts i k
  unfolding amounts
  at_load i k =
      at_sum (λ j. given G (enters_at slots k (Z j)) (y j)) i
      ∙ int_sum_cong (λ j. φ (given G (enters_at slots k (Z j)) (y j))) (λ j. cond (enters_at slots k (Z j)) (φ (y j)) (pos 0)) i
      (λ j l. at_given (enters_at slots k (Z j)) (y j))

  left_and_drawn : (i k : ℕ) → i ≤ p → k < length slots → (φ (c i k) +ℤ drawn slots Z amounts i k) ≡ φ (c 0 k)
  left_and_drawn i k h l =
      ap (λ (x : ℤ). φ (c i k) +ℤ x) (sym (at_load i k))
      ∙ sym (additive (c i k) (load G slots Z y i k))
      ∙ ap φ (left_and_load G slots Member p Z y c P i k h l)

  nest : Nested p Z
  nest = nested G slots Member p Z y c P n F

  -- the head of the link whose price is used up by a set, and the level there
  pivot : (j : ℕ) → (v : ℕ) × ((j < p → In (Z j) v) × (j < p → Within B (level Z amounts (suc j) v)))
  unfolding amounts
  pivot j = go (dec_lt j p)
    where
      go : Dec (j < p) → (v : ℕ) × ((j < p → In (Z j) v) × (j < p → Within B (level Z amounts (suc j) v)))
      go (no q) = (0, (λ h. absurd (q h), λ h. absurd (q h)))
      go (yes h) =
          let t = P.tight j h in
          let k = t.0 in
          let listed = entering_is_listed slots k (Z j) t.1 in
          let inside = head_in slots k (Z j) t.1 in
          let whole : level Z amounts (suc j) (head_at slots k) ≡ φ (c 0 k) =
          omega (
            arith,
            ints,
            level_in Z amounts j (head_at slots k) inside,
            drawn_before_entering slots p Z nest amounts k j h t.1,
            left_and_drawn j k (omega arith) listed,
            ap φ t.2,
          ) in
          (head_at slots k, (λ _. inside, λ _. subst (Within B) (sym whole) (small k listed)))

  drawn_within : (i k : ℕ) → i ≤ p → Within (B * i) (drawn slots Z amounts i k)
  drawn_within i k h =
      let t = drawn_is_level slots p Z nest amounts k i h in
      within_more (B * t.0) (B * i) (drawn slots Z amounts i k) (mul-le-mul_left B t.1)
      (subst (Within (B * t.0)) (sym t.2)
      (level_within p Z nest amounts B (λ j. (pivot j).0) (λ j g. (pivot j).1.0 g) (λ j g. (pivot j).1.1 g) t.0 (head_at slots k) (omega (arith, t.1))))

  pub left_within : (i k : ℕ) → i ≤ p → k < length slots → Within (B * (p + 1)) (φ (c i k))
  left_within i k h l =
      let grown : B * suc i ≤ B * (p + 1) = mul-le-mul_left B (omega arith) in
      let d = drawn_within i k h in
      let s = small k l in
      let e = left_and_drawn i k h l in
      record { above = omega (arith, ints, mul-suc B i); under = omega (arith, ints, mul-suc B i) }

  pub amount_within : (i : ℕ) → i < p → Within (B * (p + 1)) (φ (y i))
  amount_within i h =
      let t = P.tight i h in
      subst (λ (x : Amount). Within (B * (p + 1)) (φ x)) t.2
      (left_within i t.0 (omega arith) (entering_is_listed slots t.0 (Z i) t.1))
