-- The tightest link of a set enters it and has no more left than any that does; where there is none, no
-- link enters the set. By going through the numbers with the best so far.
use Rattle.std.proofs.Common.{◌≡◌, ℕ, zero, suc, ◌+◌, ◌<◌, Bool, true, false, cond, List, length, ℤ, Some, None, Option, unwrap_or, sym, refl, ap, ◌∙◌, subst, ap₂, ⊎_elim, arith}
use Rattle.std.proofs.lemmas.Bool.{both_ways, cases_eq}
use Rattle.amount.specs.Parts.{below}
use Rattle.amount.proofs.Order.{not_below_itself, not_below_back, not_below_trans}
use Rattle.digraph.specs.Entering.{enters_at}
use Rattle.digraph.specs.Links.{Slots}
use Rattle.duality.specs.Trees.{is_link}
use Rattle.stages.specs.Packing.{Left, left_of, tighter, tightest_from, tightest}
use Rattle.stages.proofs.Lawful.{entering_is_link, not_none}

module _ (slots : Slots) (left : Left) (set : ℕ) where
  -- the best of the numbers below k
  abbrev pub Best : ℕ → Option ℕ → Type 0
  Best k None = (j : ℕ) → j < k → enters_at slots j set ≡ false
  Best k (Some best) =
      (enters_at slots best set ≡ true)
      × ((j : ℕ) → j < k → enters_at slots j set ≡ true → below (left_of left j) (left_of left best) ≡ false)

  below_more : (k : ℕ) (P : ℕ → Type 0) → ((j : ℕ) → j < k → P j) → P k → (j : ℕ) → j < k + 1 → P j
  below_more k P before here j h = ⊎_elim (λ e. subst P (sym e) here) (λ ne. before j (omega arith)) (cases_eq j k)

  no_link_here : (k : ℕ) (best : Option ℕ) → enters_at slots k set ≡ false → Best k best → Best (k + 1) best
  no_link_here k None out b = below_more k (λ j. enters_at slots j set ≡ false) b out
  no_link_here k (Some best) out b =
      (b.0, below_more k (λ j. enters_at slots j set ≡ true → below (left_of left j) (left_of left best) ≡ false) b.1 (λ e. absurd (both_ways (enters_at slots k set) out e)))

  link_here : (k : ℕ) (best : Option ℕ) → enters_at slots k set ≡ true → Best k best → Best (k + 1) (tighter left best k)
  link_here k None enters b =
      (enters, below_more k (λ j. enters_at slots j set ≡ true → below (left_of left j) (left_of left k) ≡ false) (λ j h e. absurd (both_ways (enters_at slots j set) (b j h) e)) (λ e. not_below_itself (left_of left k)))
  link_here k (Some best) enters b = go (below (left_of left k) (left_of left best)) refl
    where
      go : (less : Bool) → below (left_of left k) (left_of left best) ≡ less → Best (k + 1) (cond less (Some k) (Some best))
      go true e = (
        enters,
        below_more k (λ j. enters_at slots j set ≡ true → below (left_of left j) (left_of left k) ≡ false)
            (λ j h i. not_below_trans (left_of left j) (left_of left best) (left_of left k) (b.1 j h i) (not_below_back (left_of left k) (left_of left best) e))
            (λ i. not_below_itself (left_of left k)),
      )
      go false e = (b.0, below_more k (λ j. enters_at slots j set ≡ true → below (left_of left j) (left_of left best) ≡ false) b.1 (λ i. e))

  one_on : (k : ℕ) (best : Option ℕ) → Best k best → Best (k + 1) (cond (enters_at slots k set) (tighter left best k) best)
  one_on k best b = go (enters_at slots k set) refl
    where
      go : (e : Bool) → enters_at slots k set ≡ e → Best (k + 1) (cond e (tighter left best k) best)
      go true e = link_here k best e b
      go false e = no_link_here k best e b

  best_from : (more k : ℕ) (best : Option ℕ) → Best k best → Best (k + more) (tightest_from slots left set best k more)
  best_from zero k best b = subst (λ x. Best x best) (let z : k ≡ k + 0 = omega arith in z) b
  best_from (suc more) k best b =
      subst (λ x. Best x (tightest_from slots left set best k (suc more))) (let z : k + 1 + more ≡ k + suc more = omega arith in z)
      (best_from more (k + 1) (cond (enters_at slots k set) (tighter left best k) best) (one_on k best b))

  pub tightest_is_best : Best 200 (tightest slots left set)
  tightest_is_best = best_from 200 0 None (λ j h. absurd (omega arith))

  module _ (sized : length slots ≡ 200) (k : ℕ) (enters : enters_at slots k set ≡ true) (placed : k < 200) where
    -- where a link enters the set, the tightest does
    pub tightest_enters : enters_at slots (unwrap_or (tightest slots left set) 0) set ≡ true
    tightest_enters = go (tightest slots left set) tightest_is_best
      where
        go : (o : Option ℕ) → Best 200 o → enters_at slots (unwrap_or o 0) set ≡ true
        go None b = absurd (both_ways (enters_at slots k set) (b k placed) enters)
        go (Some best) b = b.0

    pub tightest_is_some : (o : Option ℕ) → tightest slots left set ≡ o → o ≡ Some (unwrap_or o 0)
    tightest_is_some None e =
        absurd (both_ways (enters_at slots k set) (subst (Best 200) e tightest_is_best k placed) enters)
    tightest_is_some (Some best) e = refl

    pub no_less_left : below (left_of left k) (left_of left (unwrap_or (tightest slots left set) 0)) ≡ false
    no_less_left = go (tightest slots left set) tightest_is_best
      where
        go : (o : Option ℕ) → Best 200 o → below (left_of left k) (left_of left (unwrap_or o 0)) ≡ false
        go None b = absurd (both_ways (enters_at slots k set) (b k placed) enters)
        go (Some best) b = b.1 k placed enters

-- columns that agree at links have the same tightest link
module _ (slots : Slots) (one other : Left) (same : (k : ℕ) → is_link slots k ≡ true → left_of one k ≡ left_of other k) (set : ℕ) where
  abbrev LinkOrNone : Option ℕ → Type 0
  LinkOrNone o = (k : ℕ) → o ≡ Some k → is_link slots k ≡ true

  tighter_same : (best : Option ℕ) (k : ℕ) → LinkOrNone best → is_link slots k ≡ true → tighter one best k ≡ tighter other best k
  tighter_same None k b link = refl
  tighter_same (Some j) k b link = ap₂ (λ (x y : List ℤ). cond (below x y) (Some k) (Some j)) (same k link) (same j (b j refl))

  tighter_link : (best : Option ℕ) (k : ℕ) → LinkOrNone best → is_link slots k ≡ true → LinkOrNone (tighter one best k)
  tighter_link None k b link j e = subst (λ x. is_link slots x ≡ true) (let s : k ≡ j = cc in s) link
  tighter_link (Some i) k b link j e = go (below (left_of one k) (left_of one i)) e
    where
      go : (less : Bool) → cond less (Some k) (Some i) ≡ Some j → is_link slots j ≡ true
      go true e = subst (λ x. is_link slots x ≡ true) (let s : k ≡ j = cc in s) link
      go false e = b j e

  tightest_from_same : (more : ℕ) (best : Option ℕ) (k : ℕ) → LinkOrNone best → tightest_from slots one set best k more ≡ tightest_from slots other set best k more
  tightest_from_same zero best k b = refl
  tightest_from_same (suc more) best k b = go (enters_at slots k set) refl (λ next. tightest_from_same more next (k + 1))
    where
      go : (e : Bool) → enters_at slots k set ≡ e
          → ((next : Option ℕ) → LinkOrNone next → tightest_from slots one set next (k + 1) more ≡ tightest_from slots other set next (k + 1) more)
          → tightest_from slots one set (cond e (tighter one best k) best) (k + 1) more ≡ tightest_from slots other set (cond e (tighter other best k) best) (k + 1) more
      go false e on = on best b
      go true e on =
          let link = entering_is_link slots k set e in
          on (tighter one best k) (tighter_link best k b link) ∙ ap (λ (o : Option ℕ). tightest_from slots other set o (k + 1) more) (tighter_same best k b link)

  pub tightest_same : tightest slots one set ≡ tightest slots other set
  tightest_same = tightest_from_same 200 None 0 (λ k e. absurd (not_none (Some k) refl (sym e)))
