-- Stage 1 under way, as the code has it: what was written so far is what the definition says after as many
-- sets. It holds at the first prices, every turn keeps it, and where the question says none it is the answer.
use Rattle.std.proofs.Common.{◌≡◌, ℕ, zero, suc, ◌+◌, ◌<◌, true, false, cond, ◌&&◌, List, [], ◌∷◌, ◌++◌, map, length, get_or, take, drop, set, ℤ, is_some, Some, None, filter, Option, sym, refl, ap, ◌∙◌, ap₂, ⊎_elim, arith}
use Rattle.std.specs.List.{range_with_len}
use Rattle.std.proofs.lemmas.List.FromFn.{get_or-map-range_with_len, length-map-range_with_len, map-range_with_len_more}
use Rattle.std.proofs.lemmas.List.{ext_get_or, take_more_set, map_push, drop-set-lt, drop-drop}
use Rattle.std.proofs.lemmas.Bool.Decides.{nat_tests}
use Rattle.std.proofs.lemmas.Bool.{both_ways, cases_Bool, and_left}
use Rattle.digraph.specs.Entering.{enters_at}
use Rattle.digraph.specs.Links.{link_at}
use Rattle.duality.specs.Trees.{is_link}
use Rattle.duality.proofs.Entering.{no_link_enters_nothing}
use Rattle.amount.specs.Parts.{minus, nothing}
use Rattle.remainders.specs.Column.{spent, spent_link, gone}
use Rattle.stages.specs.Asked.{Asked, for_each}
use Rattle.stages.specs.Packing.{left_of, used_up, used_marks, tightest, left_after, answer_after, set_at, amount_at, order_after}
use Rattle.stages.proofs.Lawful.{Lawful, link_is_placed, entering_is_link}
use Rattle.stages.proofs.Lefts.{left_of_first}
use Rattle.stages.proofs.Orders.{order_at_first}
use Rattle.cover.specs.Memory.{Room, room, room_sized}
use Rattle.cover.specs.Filled.{RoomFilled}
use Rattle.cover.proofs.PackingTurn.{kept_by_same, set_is, goes_on, amount_is, marks_next, order_next, cells_next}

-- columns that agree at a place agree there by their parts
pub same_parts : {T : Type 0} (f : T → List ℤ) (xs ys : List T) (k : ℕ) → length xs ≡ length ys → ((d : T) → get_or xs k d ≡ get_or ys k d) → get_or (map f xs) k [] ≡ get_or (map f ys) k []
same_parts f [] [] k h same = refl
same_parts f [] (y ∷ ys) k h same = absurd (omega arith)
same_parts f (x ∷ xs) [] k h same = absurd (omega arith)
same_parts f (x ∷ xs) (y ∷ ys) zero h same = ap f (same x)
same_parts f (x ∷ xs) (y ∷ ys) (suc k) h same = same_parts f xs ys k (omega arith) same

not_some : {A : Type 0} (o : Option A) → is_some o ≡ false → o ≡ None
not_some None e = refl
not_some (Some x) e = absurd (both_ways true e refl)

-- what was not touched behind n places was not behind one more
drop_one_more : {T : Type 0} (xs ys : List T) (n : ℕ) → drop n xs ≡ drop n ys → drop (n + 1) xs ≡ drop (n + 1) ys
drop_one_more xs ys n e = sym (drop-drop 1 n xs) ∙ ap (drop 1) e ∙ drop-drop 1 n ys

pub room_lengths : {T : Type 0} (m : Room T) → room_sized m ≡ true → (length m.left ≡ 200) × (length m.sets ≡ 80) × (length m.amounts ≡ 80)
room_lengths m e = (grind (arith, nat_tests), grind (arith, nat_tests), grind (arith, nat_tests))

pub record Progress {T : Type 0} (parts : T → List ℤ) (a : Asked) (old new : Room T) (count : ℕ) (marks order : List ℕ) : Type 0 where
  pub before : (i : ℕ) → i < count → is_some (answer_after a i) ≡ true
  pub marks_show : marks ≡ used_marks a (left_after a count)
  pub order_is : order ≡ order_after a count
  pub filled : RoomFilled parts a old new count

module _ {T : Type 0} (parts : T → List ℤ) (n : ℕ) (a : Asked) (Member : ℕ → Type 0) (L : Lawful n a Member) where
  open a use {width, slots}

  placed : (k : ℕ) → is_link slots k ≡ true → k < 200
  placed k link = omega (arith, link_is_placed slots k link, L.sized)

  -- ---- at first

  module _ (prices left : List T) (column : map parts prices ≡ a.column) (long : length left ≡ length prices)
      (copied : (k : ℕ) (d : T) → is_link slots k ≡ true → get_or left k d ≡ get_or prices k d) where
    first_shown : (k : ℕ) → is_link slots k ≡ true → get_or (map parts left) k [] ≡ left_of (left_after a 0) k
    first_shown k link =
        same_parts parts left prices k long (λ d. copied k d link)
        ∙ ap (λ c. get_or c k []) column ∙ sym (ap (λ b. cond b (get_or a.column k []) (nothing width)) link) ∙ sym (left_of_first a k (placed k link))

    spent_at_first : (k : ℕ) → spent_link width slots (map parts left) k ≡ used_up a (left_after a 0) k
    spent_at_first k =
        ⊎_elim (λ link. ap (λ (x : List ℤ). is_link slots k && spent width x) (first_shown k link))
        (λ none. and_left (is_link slots k) (spent width (get_or (map parts left) k [])) none ∙ sym (and_left (is_link slots k) (spent width (left_of (left_after a 0) k)) none)) (cases_Bool (is_link slots k))

    pub progress_at_first : (sets : List ℕ) (amounts : List T) (marks order : List ℕ)
        → marks ≡ for_each (λ k. cond (spent_link width slots (map parts left) k) 1 0) → order ≡ filter (spent_link width slots (map parts left)) (range_with_len 0 200)
        → Progress parts a (room left sets amounts) (room left sets amounts) 0 marks order
    progress_at_first sets amounts marks order m o =
        record {
          before = λ i h. absurd (omega arith);
          marks_show =
              let f = λ (k : ℕ). cond (spent_link width slots (map parts left) k) 1 0 in
              let g = λ (k : ℕ). cond (used_up a (left_after a 0) k) 1 0 in
              m ∙ ext_get_or 0 (for_each f) (for_each g) (length-map-range_with_len f 0 200 ∙ sym (length-map-range_with_len g 0 200))
              (λ k h.
              let small : k < 200 = omega (arith, length-map-range_with_len f 0 200) in
              get_or-map-range_with_len f 0 200 k k 0 small (omega arith) ∙ ap (λ b. cond b 1 0) (spent_at_first k) ∙ sym (get_or-map-range_with_len g 0 200 k k 0 small (omega arith)));
          order_is = o ∙ kept_by_same (spent_link width slots (map parts left)) (used_up a (left_after a 0)) 200 0 (λ j h. spent_at_first j) ∙ sym (order_at_first a);
          filled =
              record {
                left_written = first_shown;
                left_untouched = λ k d none. refl;
                left_sized = refl;
                sets_written = refl;
                sets_untouched = refl;
                amounts_written = refl;
                amounts_untouched = refl;
              };
        }

  -- ---- one set more

  module _ (old : Room T) (left : List T) (sets : List ℕ) (amounts : List T) (count : ℕ) (marks order : List ℕ)
      (P : Progress parts a old (room left sets amounts) count marks order) (X : ℕ) (given : a.smallest marks ≡ Some X)
      (link : ℕ) (found : tightest slots (map parts left) X ≡ Some link) (amount : T) (read : get_or (map parts left) link [] ≡ parts amount)
      (room_for_set : count < length sets) (room_for_amount : count < length amounts) where
    pub amount_taken : parts amount ≡ amount_at a count
    amount_taken = sym read ∙ amount_is n a Member L count P.before marks P.marks_show X given (map parts left) P.filled.left_written link found

    pub progress_after : (after : List T) (marks_after order_after : List ℕ) → length after ≡ length left
        → ((k : ℕ) → k < 200 → enters_at slots k X ≡ true → get_or (map parts after) k [] ≡ minus (get_or (map parts left) k []) (parts amount))
        → ((k : ℕ) (d : T) → enters_at slots k X ≡ false → get_or after k d ≡ get_or left k d)
        → marks_after ≡ for_each (λ k. cond (gone width slots (map parts left) X (parts amount) k) 1 (get_or marks k 0))
        → order_after ≡ order ++ filter (gone width slots (map parts left) X (parts amount)) (range_with_len 0 200)
        → Progress parts a old (room after (set sets count X) (set amounts count amount)) (count + 1) marks_after order_after
    progress_after after marks_after order_after long lowered others m o =
        record {
          before = goes_on n a Member L count P.before marks P.marks_show X given (map parts left) shown;
          marks_show = m ∙ marks_next n a Member L count P.before marks P.marks_show X given (map parts left) shown (parts amount) amount_taken;
          order_is =
              o ∙ ap (λ xs. xs ++ filter (gone width slots (map parts left) X (parts amount)) (range_with_len 0 200)) P.order_is
              ∙ order_next n a Member L count P.before marks P.marks_show X given (map parts left) shown (parts amount) amount_taken;
          filled =
              record {
                left_written = λ k is_a_link.
                    cells_next n a Member L count P.before marks P.marks_show X given (map parts left) shown (parts amount) amount_taken (map parts after)
                    (λ j e. lowered j (placed j (entering_is_link slots j X e)) e)
                    (λ j e. same_parts parts after left j long (λ d. others j d e)) k is_a_link (placed k is_a_link);
                left_untouched = λ k d none. others k d (no_link_enters_nothing slots k X (not_some (link_at slots k) none)) ∙ P.filled.left_untouched k d none;
                left_sized = long ∙ P.filled.left_sized;
                sets_written =
                    take_more_set sets count X room_for_set
                    ∙ ap₂ (λ xs y. xs ++ y ∷ []) P.filled.sets_written (sym (set_is n a Member L count P.before marks P.marks_show X given (map parts left) shown))
                    ∙ sym (map-range_with_len_more (set_at a) 0 count count (omega arith));
                sets_untouched =
                    drop-set-lt (count + 1) sets count X (omega arith) ∙ drop_one_more sets old.sets count P.filled.sets_untouched;
                amounts_written =
                    ap (map parts) (take_more_set amounts count amount room_for_amount) ∙ map_push parts (take count amounts) amount
                    ∙ ap₂ (λ xs y. xs ++ y ∷ []) P.filled.amounts_written amount_taken
                    ∙ sym (map-range_with_len_more (amount_at a) 0 count count (omega arith));
                amounts_untouched =
                    drop-set-lt (count + 1) amounts count amount (omega arith) ∙ drop_one_more amounts old.amounts count P.filled.amounts_untouched;
              };
        }
      where
        shown : (k : ℕ) → is_link slots k ≡ true → get_or (map parts left) k [] ≡ left_of (left_after a count) k
        shown = P.filled.left_written

-- what the prices were copied over counts as untouched from before the copy
pub filled_from : {T : Type 0} (parts : T → List ℤ) (a : Asked) (entry copied : List T) (sets : List ℕ) (amounts : List T) (new : Room T) (count : ℕ)
    → length copied ≡ length entry → ((k : ℕ) (d : T) → is_link a.slots k ≡ false → get_or copied k d ≡ get_or entry k d)
    → RoomFilled parts a (room copied sets amounts) new count → RoomFilled parts a (room entry sets amounts) new count
filled_from parts a entry copied sets amounts new count long same filled =
    record {
      left_written = filled.left_written;
      left_untouched = λ k d none. filled.left_untouched k d none ∙ same k d none;
      left_sized = filled.left_sized ∙ long;
      sets_written = filled.sets_written;
      sets_untouched = filled.sets_untouched;
      amounts_written = filled.amounts_written;
      amounts_untouched = filled.amounts_untouched;
    }
