-- A link is noted: one place fewer is unmarked, by induction on the marks. And what marks and order say
-- once some numbers were gone over, one number on: by the places passed, and by one more number kept.
use Rattle.std.proofs.Common.{◌≡◌, ℕ, zero, suc, ◌+◌, ◌<◌, Bool, true, false, cond, List, [], ◌∷◌, ◌++◌, length, get_or, set, filter, sym, ap, ◌∙◌, ap₂, add-one, arith}
use Rattle.std.specs.List.{range_with_len}
use Rattle.std.proofs.lemmas.List.FromFn.{filter_of_map_range_with_len_more, fill_by_all}
use Rattle.std.proofs.lemmas.List.{append-nil, append_assoc, map-id}
use Rattle.std.proofs.lemmas.Bool.{cond-true, cond-false}
use Rattle.stages.specs.Asked.{for_each}
use Rattle.remainders.specs.Marks.{unmarked}
use Rattle.remainders.proofs.Passing.{Passed, passed_unwritten, passed_written}

pub unmarked_one_less : (ms : List ℕ) (k : ℕ) → k < length ms → get_or ms k 0 ≡ 0 → unmarked (set ms k 1) + 1 ≡ unmarked ms
unmarked_one_less [] k h e = absurd (omega arith)
unmarked_one_less (zero ∷ ms) zero h e = add-one (unmarked ms)
unmarked_one_less (suc m ∷ ms) zero h e = absurd (omega arith)
unmarked_one_less (zero ∷ ms) (suc k) h e = omega (arith, unmarked_one_less ms k (omega arith) e)
unmarked_one_less (suc m ∷ ms) (suc k) h e = unmarked_one_less ms k (omega arith) e

-- so there is room for one more number in the order, and the room that is left after it
pub room_for_one : (marks : List ℕ) (count k : ℕ) → length marks ≡ 200 → count + unmarked marks ≡ 200 → k < 200 → get_or marks k 0 ≡ 0
    → (count < 200) × (count + 1 + unmarked (set marks k 1) ≡ 200)
room_for_one marks count k sized room within fresh =
    let less = unmarked_one_less marks k (omega arith) fresh in (omega arith, omega arith)

-- of the numbers below k those that pass the test are marked and stand in the order, after what there was
pub record Noted (test : ℕ → Bool) (old_marks old_order : List ℕ) (k : ℕ) (marks order : List ℕ) : Type 0 where
  pub marking : Passed 0 k (λ j. cond (test j) 1 (get_or old_marks j 0)) (λ j. get_or old_marks j 0) marks
  pub ordering : order ≡ old_order ++ filter test (range_with_len 0 k)

kept_one_more : (test : ℕ → Bool) (k : ℕ) → filter test (range_with_len 0 (k + 1)) ≡ filter test (range_with_len 0 k) ++ cond (test k) (k ∷ []) []
kept_one_more test k =
    ap (filter test) (sym (map-id (range_with_len 0 (k + 1))))
    ∙ filter_of_map_range_with_len_more test (λ j. j) 0 k k (omega arith)
    ∙ ap (λ xs. filter test xs ++ cond (test k) (k ∷ []) []) (map-id (range_with_len 0 k))

pub noted_none : (test : ℕ → Bool) (old_marks old_order marks order : List ℕ) → marks ≡ old_marks → order ≡ old_order → Noted test old_marks old_order 0 marks order
noted_none test old_marks old_order marks order m o =
    record {
      marking = record { done = λ j h. absurd (omega arith); ahead = λ j h. ap (λ xs. get_or xs j 0) m };
      ordering = o ∙ sym (append-nil old_order);
    }

module _ (test : ℕ → Bool) (old_marks old_order : List ℕ) (k : ℕ) (marks order : List ℕ) (so_far : Noted test old_marks old_order k marks order) where
  -- number k is noted or not, as the test says
  module _ (here : k < length marks) (new_marks new_order : List ℕ) where
    marking_one_on : (noted : Bool) → test k ≡ noted → new_marks ≡ cond noted (set marks k 1) marks → Passed 0 (k + 1) (λ j. cond (test j) 1 (get_or old_marks j 0)) (λ j. get_or old_marks j 0) new_marks
    marking_one_on true t m = passed_written 0 k _ _ marks so_far.marking new_marks 1 here m (sym (cond-true (test k) 1 _ t))
    marking_one_on false t m = passed_unwritten 0 k _ _ marks so_far.marking new_marks m (sym (cond-false (test k) 1 _ t))

    pub noted_one_on : (noted : Bool) → test k ≡ noted → new_marks ≡ cond noted (set marks k 1) marks → new_order ≡ order ++ cond noted (k ∷ []) []
        → Noted test old_marks old_order (k + 1) new_marks new_order
    noted_one_on noted t m o =
        record {
          marking = marking_one_on noted t m;
          ordering = o
              ∙ ap₂ (λ xs b. xs ++ cond b (k ∷ []) []) so_far.ordering (sym t)
              ∙ append_assoc old_order (filter test (range_with_len 0 k)) (cond (test k) (k ∷ []) [])
              ∙ ap (λ xs. old_order ++ xs) (sym (kept_one_more test k));
        }

  -- once all numbers were gone over
  pub noted_marks : k ≡ 200 → length marks ≡ 200 → (mark : ℕ → ℕ) → ((j : ℕ) → j < 200 → cond (test j) 1 (get_or old_marks j 0) ≡ mark j) → marks ≡ for_each mark
  noted_marks end sized mark same =
      fill_by_all mark marks 200 0 sized (λ j h. so_far.marking.done j (omega arith) ∙ same j h)

  pub noted_order : k ≡ 200 → order ≡ old_order ++ filter test (range_with_len 0 200)
  noted_order end = so_far.ordering ∙ ap (λ n. old_order ++ filter test (range_with_len 0 n)) end
