-- The stages put together: stage 2 always finds a link, the links kept have small prices, and what all
-- stages leave is small and a cheapest cover.
use Rattle.std.proofs.Common.{◌≡◌, ℕ, true, cond, not, eqb, List, [], map, length, get_or, ℤ, is_some, Some, unwrap_or, sym, ap, ◌∙◌, subst, ⊎_elim, arith}
use Rattle.std.proofs.lemmas.List.FromFn.{get_or-map-range_with_len}
use Rattle.std.proofs.lemmas.List.{get_or-take, take-map}
use Rattle.std.proofs.lemmas.Bool.{cases_Bool, and_parts, not-false, eqb-true}
use Rattle.amount.specs.Parts.{below, nothing, within}
use Rattle.digraph.specs.Entering.{marked}
use Rattle.duality.specs.Costs.{summed}
use Rattle.duality.specs.Trees.{is_link}
use Rattle.stages.specs.Asked.{Asked, StopsAfter, price_of}
use Rattle.stages.specs.Packing.{answer_after, amount_at, order_after}
use Rattle.stages.specs.Taking.{first_entering, taken_after}
use Rattle.stages.specs.Keeping.{kept_of}
use Rattle.stages.specs.Done.{Done, taken_marks}
use Rattle.stages.specs.Theorems.{CheapestCover, cost_in_force}
use Rattle.stages.proofs.Lawful.{Lawful, link_is_placed}
use Rattle.stages.proofs.Lefts.{few_sets, left_within, amount_within}
use Rattle.stages.proofs.Takes.{wanting, link_taken, link_is_some, link_enters, link_placed, wanting_is_largest, kept_is_link, summed_same}
use Rattle.cover.specs.Memory.{Room}
use Rattle.cover.specs.Turns.{Findable, AllTaken}
use Rattle.cover.specs.Filled.{RoomFilled, Small}

unmarked_is_0 : (marks : List ℕ) (k : ℕ) → (marked marks k ≡ true → ⊥) → get_or marks k 0 ≡ 0
unmarked_is_0 marks k out =
    ⊎_elim (λ yes. absurd (out yes)) (λ no. eqb-true (get_or marks k 0) 0 (not-false (eqb (get_or marks k 0) 0) no)) (cases_Bool (marked marks k))

module _ (n : ℕ) (a : Asked) (Member : ℕ → Type 0) (L : Lawful n a Member) (sets : ℕ) (stops : StopsAfter (answer_after a) sets) where
  open a use {width, slots}

  pub stage_2_finds : Findable slots a.largest (order_after a sets)
  stage_2_finds t X given =
      let some = ap is_some given in
      let wanted : wanting n a Member L sets stops t ≡ X = ap (λ o. unwrap_or o 0) given in
      let k = link_taken n a Member L sets stops t in (
        k,
        subst (λ x. first_entering slots x (order_after a sets) ≡ Some k) wanted (link_is_some n a Member L sets stops t some),
        link_placed n a Member L sets stops t some,
        unmarked_is_0 (taken_marks a sets t) k (λ chosen. (wanting_is_largest n a Member L sets stops t some).unentered (k, chosen, link_enters n a Member L sets stops t some)),
      )

  module _ (order : List ℕ) (order_is : order ≡ order_after a sets) (taken : List ℕ) (all : AllTaken slots a.largest order taken)
      (marks : List ℕ) (kept : marks ≡ kept_of a.largest taken 200) where
    pub stages_done : Done a sets marks
    stages_done =
        let q = all.turns in
        record {
          packed = stops;
          turns = q;
          took = subst (λ o. StopsAfter (λ t. a.largest (taken_after slots a.largest o t)) q) order_is all.took;
          kept = kept ∙ ap (λ m. kept_of a.largest m 200) (all.marks_are ∙ ap (λ o. taken_after slots a.largest o q) order_is);
        }

    pub marked_is_link : (k : ℕ) → marked marks k ≡ true → is_link slots k ≡ true
    marked_is_link k e =
        kept_is_link n a Member L sets stops stages_done.turns stages_done.took.before k (subst (λ m. marked m k ≡ true) stages_done.kept e)

    pub marked_price_small : (k : ℕ) → marked marks k ≡ true → within 100000 (get_or a.column k []) ≡ true
    marked_price_small k e =
        let p = get_or a.column k [] in
        (and_parts (not (below p (nothing (length p)))) (within 100000 p) (L.price_legal k (marked_is_link k e))).1

    -- a sum over the column is what the marked links cost
    pub cost_is : summed width (λ k. cond (marked marks k) (get_or a.column k []) (nothing width)) 200 ≡ cost_in_force a (marked marks)
    cost_is =
        summed_same width (λ k. cond (marked marks k) (get_or a.column k []) (nothing width)) (λ k. cond (marked marks k) (price_of a k) (nothing width)) 200
        (λ k h. ⊎_elim (λ e. ap (λ (x : List ℤ). cond (marked marks k) x (nothing width)) (sym (ap (λ b. cond b (get_or a.column k []) (nothing width)) (marked_is_link k e))))
        (λ e. ap (λ b. cond b (get_or a.column k []) (nothing width)) e ∙ sym (ap (λ b. cond b (price_of a k) (nothing width)) e)) (cases_Bool (marked marks k)))
        ∙ ap (summed width (λ k. cond (marked marks k) (price_of a k) (nothing width))) (sym L.sized)

  pub stays_small : {T : Type 0} (parts : T → List ℤ) (old new : Room T) → RoomFilled parts a old new sets → Small parts a new sets
  stays_small parts old new filled =
      record {
        few_sets = few_sets n a Member L sets stops.before;
        left_small = λ k link.
            ap (within 8000000) (filled.left_written k link)
            ∙ left_within n a Member L sets stops.before sets k (omega arith) (omega (arith, link_is_placed slots k link, L.sized));
        amounts_small = λ i h.
            ap (within 8000000)
            (sym (get_or-take sets (map parts new.amounts) i [] h) ∙ ap (λ l. get_or l i []) (take-map parts sets new.amounts ∙ filled.amounts_written)
            ∙ get_or-map-range_with_len (amount_at a) 0 sets i i [] h (omega arith))
            ∙ amount_within n a Member L sets stops.before i h;
      }

-- of other names for the marks and the cost
pub cheapest_of : (a : Asked) (Member : ℕ → Type 0) (marks copy : List ℕ) (cost : List ℤ) → copy ≡ marks → cost ≡ cost_in_force a (marked marks)
    → CheapestCover a Member marks (cost_in_force a (marked marks)) → CheapestCover a Member copy cost
cheapest_of a Member marks copy cost same paid best = subst (λ m. CheapestCover a Member m cost) (sym same) (subst (CheapestCover a Member marks) (sym paid) best)
