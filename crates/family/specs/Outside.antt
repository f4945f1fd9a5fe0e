-- The stations outside a set; the stations not reached from a start are the greatest set without it
-- that no marked link enters; and whether a set is entered can be searched. By digits, place by place.
use Rattle.std.specs.Prelude.{◌≡◌, ℕ, zero, suc, ◌^◌, ◌<◌, ◌≤◌, Bool, true, false, ◌&&◌, ◌⊎◌, List, length, None}
use Rattle.std.proofs.Common.{inl, inr, ⊎_elim, ap, subst, arith}
use Rattle.std.proofs.lemmas.Nat.{pow_pos}
use Rattle.std.proofs.lemmas.List.{get_or_past}
use Rattle.std.proofs.lemmas.Bool.{and_parts, and_from, both_ways, cases_Bool, cases_lt}
use Rattle.stations.specs.Sets.{In, Part, has}
use Rattle.stations.proofs.Digits.{has→In, In→has, lacks→out, out→lacks, digit_not, In-below}
use Rattle.digraph.specs.Entering.{marked, enters, enters_at, Entered}
use Rattle.digraph.specs.Links.{Slots}
use Rattle.digraph.specs.Links.{Proper}
use Rattle.family.specs.Choices.{others}
use Rattle.family.specs.Laws.{Unentered}
use Rattle.family.specs.Reach.{reached_from}
use Rattle.family.specs.Marking.{outside_closed_is_unentered, outside_unentered_is_closed}
use Rattle.family.specs.Reaching.{reached_closed, reached_least, reached_inside}

module _ (n set : ℕ) (small : set < 2 ^ n) where
  pub others_inside : others n set < 2 ^ n
  others_inside = omega (arith, pow_pos n)

  pub others_apart : (v : ℕ) → In (others n set) v → has set v ≡ false
  others_apart v h = out→lacks set v (omega (arith, digit_not n set v small (In-below n (others n set) v others_inside h)))

  pub others_all : (v : ℕ) → v < n → has set v ≡ false → In (others n set) v
  others_all v low lacks = omega (arith, digit_not n set v small low, lacks→out set v lacks)

-- a test at some place below a bound, or at none
pub find_below : (p : ℕ → Bool) (n : ℕ) → ((k : ℕ) × (k < n) × (p k ≡ true)) ⊎ ((k : ℕ) → k < n → p k ≡ false)
find_below p zero = inr (λ k h. absurd (none k h))
  where
    none : (k : ℕ) → k < 0 → ⊥
    none k h = omega arith
find_below p (suc n) = ⊎_elim (λ (k, h, e). inl (k, omega arith, e)) (λ rest. ⊎_elim (λ e. inl (n, omega arith, e)) (λ e. inr (last rest e)) (cases_Bool (p n))) (find_below p n)
  where
    last : ((k : ℕ) → k < n → p k ≡ false) → p n ≡ false → (k : ℕ) → k < suc n → p k ≡ false
    last rest e k h = ⊎_elim (rest k) (λ g. subst (λ x. p x ≡ false) (let z : n ≡ k = omega arith in z) e) (cases_lt k n)

-- a set that cannot fail to be entered is entered
pub entered_if_not_unentered : (slots : Slots) (marks : List ℕ) (set : ℕ) → (Unentered slots marks set → ⊥) → Entered slots marks set
entered_if_not_unentered slots marks set not_out =
    ⊎_elim (λ (k, h, e). (k, (and_parts (marked marks k) (enters_at slots k set) e).0, (and_parts (marked marks k) (enters_at slots k set) e).1))
    (λ none. absurd (not_out (λ (k, m, e). both_ways (marked marks k && enters_at slots k set) (none_at none k e) (and_from (marked marks k) (enters_at slots k set) m e))))
    (find_below (λ k. marked marks k && enters_at slots k set) (length slots))
  where
    none_at : ((k : ℕ) → k < length slots → (marked marks k && enters_at slots k set) ≡ false) → (k : ℕ) → enters_at slots k set ≡ true → (marked marks k && enters_at slots k set) ≡ false
    none_at none k e = ⊎_elim (none k) (λ past. absurd (both_ways (enters_at slots k set) (ap (λ o. enters o set) (get_or_past slots k None past)) e)) (cases_lt k (length slots))

module _ (n : ℕ) (slots : Slots) (proper : Proper n slots) (few : n ≤ 40) (sized : length slots ≡ 200) (marks : List ℕ) (s : ℕ) (station : s < n) where
  inside : reached_from slots marks s < 2 ^ n
  inside = reached_inside n slots proper few sized marks s station

  pub not_reached_unentered : Unentered slots marks (others n (reached_from slots marks s))
  not_reached_unentered =
      outside_closed_is_unentered n slots proper few sized marks (reached_from slots marks s) (others n (reached_from slots marks s))
      (reached_closed n slots proper few sized marks s station) (others_apart n (reached_from slots marks s) inside) (others_all n (reached_from slots marks s) inside)

  pub not_reached_greatest : (x : ℕ) → x < 2 ^ n → has x s ≡ false → Unentered slots marks x → Part x (others n (reached_from slots marks s))
  not_reached_greatest x small without out v h =
      others_all n (reached_from slots marks s) inside v (In-below n x v small h)
      (⊎_elim (λ reached. absurd (both_ways (has x v) (others_apart n x small v (reached_least n slots proper few sized marks s station (others n x) (others_all n x small s station without)
      (outside_unentered_is_closed n slots proper few sized marks x (others n x) out (others_apart n x small) (others_all n x small)) v (has→In (reached_from slots marks s) v reached))) (In→has x v h)))
      (λ lacks. lacks) (cases_Bool (has (reached_from slots marks s) v)))
