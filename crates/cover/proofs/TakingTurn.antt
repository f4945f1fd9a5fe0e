-- One turn of stage 2: a link is found that was not taken before, so one place fewer is unmarked, and the
-- marks are those after one turn more.
use Rattle.std.proofs.Common.{◌≡◌, ℕ, suc, ◌<◌, true, List, length, get_or, set, is_some, Some, None, Option, sym, refl, ap, ◌∙◌, subst, ⊎_elim, arith}
use Rattle.std.proofs.lemmas.Bool.{cases_eq}
use Rattle.digraph.specs.Links.{Slots}
use Rattle.remainders.specs.Marks.{unmarked}
use Rattle.remainders.proofs.Noting.{unmarked_one_less}
use Rattle.stages.specs.Taking.{first_entering, taken_after}
use Rattle.stages.proofs.Lawful.{not_none}
use Rattle.stages.proofs.Takes.{length_taken, taken_one_more}
use Rattle.cover.specs.Turns.{Findable}

-- the marks after some number of turns, each of which the question asked for
abbrev pub Underway : Slots → (List ℕ → Option ℕ) → List ℕ → List ℕ → Type 0
Underway slots largest order marks =
    (t : ℕ) × (marks ≡ taken_after slots largest order t) × ((u : ℕ) → u < t → is_some (largest (taken_after slots largest order u)) ≡ true)

module _ (slots : Slots) (largest : List ℕ → Option ℕ) (order : List ℕ) (findable : Findable slots largest order)
    (marks : List ℕ) (underway : Underway slots largest order marks) (X : ℕ) (given : largest marks ≡ Some X) where
  given_there : largest (taken_after slots largest order underway.0) ≡ Some X
  given_there = ap largest (sym underway.1) ∙ given

  pub some_is_found : first_entering slots X order ≡ None → ⊥
  some_is_found none = let (k, e, h, z) = findable underway.0 X given_there in not_none (Some k) refl (sym e ∙ none)

  module _ (link : ℕ) (found : first_entering slots X order ≡ Some link) where
    same_link : (findable underway.0 X given_there).0 ≡ link
    same_link = let (k, e, h, z) = findable underway.0 X given_there in some_is_one k link (sym e ∙ found)
      where
        some_is_one : (j k : ℕ) → Some j ≡ Some k → j ≡ k
        some_is_one j k e = cc

    pub link_is_numbered : link < 200
    link_is_numbered = subst (λ k. k < 200) same_link (findable underway.0 X given_there).2

    link_is_new : get_or marks link 0 ≡ 0
    link_is_new =
        ap (λ m. get_or m link 0) underway.1 ∙ subst (λ k. get_or (taken_after slots largest order underway.0) k 0 ≡ 0) same_link (findable underway.0 X given_there).3

    marks_long : length marks ≡ 200
    marks_long = ap length underway.1 ∙ length_taken slots largest order underway.0

    pub fewer_unmarked : unmarked (set marks link 1) < unmarked marks
    fewer_unmarked = omega (arith, unmarked_one_less marks link (omega (arith, marks_long, link_is_numbered)) link_is_new)

    pub one_turn_more : Underway slots largest order (set marks link 1)
    one_turn_more = (
      suc underway.0,
      ap (λ m. set m link 1) underway.1 ∙ sym (taken_one_more slots largest order underway.0 X link given_there found),
      λ u h. ⊎_elim (λ e. subst (λ x. is_some (largest (taken_after slots largest order x)) ≡ true) (sym e) (ap is_some given_there)) (λ ne. underway.2 u (omega arith)) (cases_eq u underway.0),
    )
