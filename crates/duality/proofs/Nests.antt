-- Sets one after another, each holding those before it with which it shares a station: of n stations there are fewer than 2n.
-- Each set raises the number of stations that are in a set, or of those that are in one set with a lower station.
use Rattle.std.proofs.Common.{◌≡◌, ℕ, zero, suc, ◌+◌, ◌*◌, ◌^◌, ◌<◌, ◌≤◌, Bool, true, false, not, ◌&&◌, ◌⊎◌, sym, refl, ◌∙◌, subst, inl, inr, true≢false, arith}
use lib.Count.{count_trailing_zeros}
use mathlib.Core.Bool.{false≢true}
use native.Mathlib.Decide.{ℕ_discrete, dec_lt}
use Rattle.stations.specs.Sets.{digit, In, has, Part}
use Rattle.stations.proofs.Digits.{has→In, In→has, In-below, Part-antisym, digit_of_0, Lowest, trailing_lowest}
use Rattle.duality.proofs.Searches.{Last, last_or_none, some, some_passes, none_passes, some_later}
use Rattle.duality.proofs.Sums.{count, count_≤, count_mono, count_rises, count_without_first}

-- of p sets, each has those before it that share a station with it for proper parts
abbrev pub Nested : ℕ → (ℕ → ℕ) → Type 0
Nested p Z = (i j s : ℕ) → i < j → j < p → In (Z i) s → In (Z j) s → Part (Z i) (Z j) × (Z i ≡ Z j → ⊥)

-- the last of the first j sets that holds station v
abbrev pub LastWith : (ℕ → ℕ) → ℕ → ℕ → Type 0
LastWith Z v j = Last (λ i. has (Z i) v) j

-- station s is in one of the first j sets
abbrev covered : (ℕ → ℕ) → ℕ → ℕ → Bool
covered Z j s = some (λ i. has (Z i) s) j

-- station s is in one of the first j sets with a lower station
abbrev paired : (ℕ → ℕ) → ℕ → ℕ → Bool
paired Z j s = some (λ i. has (Z i) s && some (has (Z i)) s) j

abbrev height : (ℕ → ℕ) → ℕ → ℕ → ℕ
height Z n j = count (covered Z j) n + count (paired Z j) n

both_true : (x y : Bool) → x ≡ true → y ≡ true → (x && y) ≡ true
both_true true y p q = q
both_true false y p q = p

both_left : (x y : Bool) → (x && y) ≡ true → x ≡ true
both_left true y e = refl
both_left false y e = e

both_right : (x y : Bool) → (x && y) ≡ true → y ≡ true
both_right true y e = e
both_right false y e = absurd (false≢true e)

not_true : (x : Bool) → not x ≡ true → x ≡ false
not_true true e = absurd (false≢true e)
not_true false e = refl

-- one thing and not another, or, if it is the first, it is the other
one_without : (x y : Bool) → (x && not y) ≡ false → x ≡ true → y ≡ true
one_without true true e p = refl
one_without true false e p = absurd (true≢false e)
one_without false y e p = absurd (false≢true p)

not_both : (x y : Bool) → (x ≡ true → y ≡ false) → (x && y) ≡ false
not_both true y h = h refl
not_both false y h = refl

module _ (p : ℕ) (Z : ℕ → ℕ) (nest : Nested p Z) where
  -- a set that shares a station with the last set that holds v lies inside that one
  pub inside_last : (j v : ℕ) (t : LastWith Z v j) → j ≤ p → (i s : ℕ) → i < j → In (Z i) s → In (Z t.at) s → Part (Z i) (Z t.at)
  inside_last j v t h i s l a b = go (dec_lt i t.at) (ℕ_discrete i t.at)
    where
      go : Dec (i < t.at) → Dec (i ≡ t.at) → Part (Z i) (Z t.at)
      go (yes q) d = (nest i t.at s q (omega (arith, t.before)) a b).0
      go (no q) (yes e) = subst (λ (x : ℕ). Part (Z i) (Z x)) e (λ u m. m)
      go (no q) (no ne) =
          let after : t.at < i = omega arith in
          let held = (nest t.at i s after (omega arith) b a).0 v (has→In (Z t.at) v t.passes) in
          absurd (true≢false (sym (In→has (Z i) v held) ∙ t.later i after l))

  -- the last sets that hold two stations share none, if the first does not hold the second station
  pub lasts_apart : (j u v : ℕ) (t : LastWith Z u j) (w : LastWith Z v j) → j ≤ p → (In (Z t.at) v → ⊥)
      → (s : ℕ) → In (Z t.at) s → In (Z w.at) s → ⊥
  lasts_apart j u v t w h out s a b =
      out (inside_last j u t h w.at s w.before b a v (has→In (Z w.at) v w.passes))

module _ (n p : ℕ) (Z : ℕ → ℕ) (nest : Nested p Z) (filled : (i : ℕ) → i < p → (s : ℕ) × In (Z i) s) (within : (i : ℕ) → i < p → Z i < 2 ^ n) where
  in_reach : (i s : ℕ) → i < p → In (Z i) s → s < n
  in_reach i s h a = In-below n (Z i) s (within i h) a

  lowest : (i : ℕ) → i < p → Lowest n (Z i) (count_trailing_zeros n (Z i))
  lowest i h =
      let s = filled i h in
      trailing_lowest n (Z i) (positive (Z i) s.0 s.1) (within i h)
    where
      positive : (m s : ℕ) → In m s → 0 < m
      positive zero s a = omega (arith, digit_of_0 s)
      positive (suc m) s a = omega arith

  rises_by_new : (j s : ℕ) → j < p → In (Z j) s → covered Z j s ≡ false → height Z n j < height Z n (suc j)
  rises_by_new j s h a new =
      let one = count_rises (covered Z j) (covered Z (suc j)) n s (λ i l. some_later (λ k. has (Z k) i) j) (in_reach j s h a) new
      (some_passes (λ k. has (Z k) s) (suc j) j (omega arith) (In→has (Z j) s a)) in
      let other = count_mono (paired Z j) (paired Z (suc j)) n (λ i l. some_later (λ k. has (Z k) i && some (has (Z k)) i) j) in
      omega arith

  -- s is lowest in the last set with a station v, and the new set holds a lower one too
  rises_by_pair : (j v s t : ℕ) (w : LastWith Z v j) → j < p → In (Z w.at) s → ((u : ℕ) → u < s → digit (Z w.at) u ≡ 0)
      → t < s → In (Z j) s → In (Z j) t → height Z n j < height Z n (suc j)
  rises_by_pair j v s t w h a low l b c =
      let one = count_mono (covered Z j) (covered Z (suc j)) n (λ i l. some_later (λ k. has (Z k) i) j) in
      let other = count_rises (paired Z j) (paired Z (suc j)) n s (λ i l. some_later (λ k. has (Z k) i && some (has (Z k)) i) j) (in_reach j s h b)
      (none_passes (λ k. has (Z k) s && some (has (Z k)) s) j before)
      (some_passes (λ k. has (Z k) s && some (has (Z k)) s) (suc j) j (omega arith)
      (both_true (has (Z j) s) (some (has (Z j)) s) (In→has (Z j) s b) (some_passes (has (Z j)) s t l (In→has (Z j) t c)))) in
      omega arith
    where
      before : (k : ℕ) → k < j → (has (Z k) s && some (has (Z k)) s) ≡ false
      before k d = not_both (has (Z k) s) (some (has (Z k)) s) (λ e. none_passes (has (Z k)) s (λ u g. lower u g (has (Z k) u) refl (has→In (Z k) s e)))
        where
          lower : (u : ℕ) → u < s → (x : Bool) → has (Z k) u ≡ x → In (Z k) s → x ≡ false
          lower u g true e m =
              let held = inside_last p Z nest j v w (omega arith) k s d m a u (has→In (Z k) u e) in
              absurd (omega (arith, low u g))
          lower u g false e m = refl

  -- two sets that share no station, both inside the new one
  rises_by_two : (j u v : ℕ) (t : LastWith Z u j) (w : LastWith Z v j) → j < p → In (Z j) u → In (Z j) v → (In (Z t.at) v → ⊥)
      → height Z n j < height Z n (suc j)
  rises_by_two j u v t w h a b out = go (dec_lt x y) (dec_lt y x)
    where
      x : ℕ
      x = count_trailing_zeros n (Z t.at)

      y : ℕ
      y = count_trailing_zeros n (Z w.at)

      low_x : Lowest n (Z t.at) x
      low_x = lowest t.at (omega (arith, t.before))

      low_y : Lowest n (Z w.at) y
      low_y = lowest w.at (omega (arith, w.before))

      x_in : In (Z j) x
      x_in = (nest t.at j u t.before h (has→In (Z t.at) u t.passes) a).0 x low_x.inside

      y_in : In (Z j) y
      y_in = (nest w.at j v w.before h (has→In (Z w.at) v w.passes) b).0 y low_y.inside

      go : Dec (x < y) → Dec (y < x) → height Z n j < height Z n (suc j)
      go (yes l) d = rises_by_pair j v y x w h low_y.inside low_y.least l y_in x_in
      go (no q) (yes l) = rises_by_pair j u x y t h low_x.inside low_x.least l x_in y_in
      go (no q) (no r) =
          let same : y ≡ x = omega arith in
          absurd (lasts_apart p Z nest j u v t w (omega arith) out x low_x.inside (subst (λ (m : ℕ). In (Z w.at) m) same low_y.inside))

  rises : (j : ℕ) → j < p → height Z n j < height Z n (suc j)
  rises j h = by_new (last_or_none (λ s. has (Z j) s && not (covered Z j s)) n)
    where
      by_covered : ((s : ℕ) → In (Z j) s → covered Z j s ≡ true) → (u : ℕ) → In (Z j) u → height Z n j < height Z n (suc j)
      by_covered all u a = with_last (last_or_none (λ i. has (Z i) u) j)
        where
          with_last : LastWith Z u j ⊎ ((k : ℕ) → k < j → has (Z k) u ≡ false) → height Z n j < height Z n (suc j)
          with_last (inr none) = absurd (true≢false (sym (all u a) ∙ none_passes (λ i. has (Z i) u) j none))
          with_last (inl t) = other (last_or_none (λ s. has (Z j) s && not (has (Z t.at) s)) n)
            where
              inner : Part (Z t.at) (Z j) × (Z t.at ≡ Z j → ⊥)
              inner = nest t.at j u t.before h (has→In (Z t.at) u t.passes) a

              second : (v : ℕ) → In (Z j) v → (In (Z t.at) v → ⊥) → LastWith Z v j ⊎ ((k : ℕ) → k < j → has (Z k) v ≡ false)
                  → height Z n j < height Z n (suc j)
              second v b out (inl w) = rises_by_two j u v t w h a b out
              second v b out (inr none) = absurd (true≢false (sym (all v b) ∙ none_passes (λ i. has (Z i) v) j none))

              other : Last (λ s. has (Z j) s && not (has (Z t.at) s)) n ⊎ ((s : ℕ) → s < n → (has (Z j) s && not (has (Z t.at) s)) ≡ false)
                  → height Z n j < height Z n (suc j)
              other (inl w) =
                  let v = w.at in
                  second v (has→In (Z j) v (both_left (has (Z j) v) (not (has (Z t.at) v)) w.passes))
                  (λ m. true≢false (sym (In→has (Z t.at) v m) ∙ not_true (has (Z t.at) v) (both_right (has (Z j) v) (not (has (Z t.at) v)) w.passes)))
                  (last_or_none (λ i. has (Z i) v) j)
              other (inr none) =
                  absurd (inner.1 (Part-antisym (Z t.at) (Z j) inner.0
                  (λ s m. has→In (Z t.at) s (one_without (has (Z j) s) (has (Z t.at) s) (none s (in_reach j s h m)) (In→has (Z j) s m)))))

      by_new : Last (λ s. has (Z j) s && not (covered Z j s)) n ⊎ ((s : ℕ) → s < n → (has (Z j) s && not (covered Z j s)) ≡ false)
          → height Z n j < height Z n (suc j)
      by_new (inl t) =
          let s = t.at in
          rises_by_new j s h (has→In (Z j) s (both_left (has (Z j) s) (not (covered Z j s)) t.passes))
          (not_true (covered Z j s) (both_right (has (Z j) s) (not (covered Z j s)) t.passes))
      by_new (inr none) =
          let x = filled j h in
          by_covered (λ s m. one_without (has (Z j) s) (covered Z j s) (none s (in_reach j s h m)) (In→has (Z j) s m)) x.0 x.1

  as_high : (j : ℕ) → j ≤ p → j ≤ height Z n j
  as_high zero h = omega arith
  as_high (suc j) h = omega (arith, as_high j (omega arith), rises j (omega arith))

  not_higher : 1 ≤ n → height Z n p + 1 ≤ 2 * n
  not_higher h = go n refl h
    where
      first : paired Z p 0 ≡ false
      first = none_passes (λ k. has (Z k) 0 && some (has (Z k)) 0) p (λ k l. not_both (has (Z k) 0) false (λ e. refl))

      go : (m : ℕ) → n ≡ m → 1 ≤ m → height Z m p + 1 ≤ 2 * m
      go zero e l = absurd (omega arith)
      go (suc m) e l = omega (arith, count_≤ (covered Z p) (suc m), count_without_first (paired Z p) m first)

  pub fewer_than_twice : 1 ≤ n → p + 1 ≤ 2 * n
  fewer_than_twice h = omega (arith, as_high p (omega arith), not_higher h)
