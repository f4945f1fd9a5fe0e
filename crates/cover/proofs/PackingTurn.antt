-- One turn of stage 1: from marks and a column that show what is left after i sets, and the set that the
-- question gives for them, to marks, column and order after one set more.
use Rattle.std.proofs.Common.{◌≡◌, ℕ, zero, suc, ◌+◌, ◌<◌, ◌≤◌, Bool, true, false, cond, ◌&&◌, List, [], ◌∷◌, ◌++◌, get_or, ℤ, is_some, Some, None, filter, unwrap_or, sym, refl, ap, ◌∙◌, subst, ap₂, ⊎_elim, add-one, arith}
use Rattle.std.specs.List.{range_with_len}
use Rattle.std.proofs.lemmas.List.FromFn.{get_or-map-range_with_len, length-map-range_with_len}
use Rattle.std.proofs.lemmas.List.{ext_get_or}
use Rattle.std.proofs.lemmas.Bool.{cases_Bool, cases_eq, and_left}
use Rattle.amount.specs.Parts.{minus, Fitting}
use Rattle.digraph.specs.Entering.{enters_at}
use Rattle.duality.specs.Trees.{is_link}
use Rattle.duality.proofs.Entering.{entering_is_listed}
use Rattle.remainders.specs.Column.{spent, gone}
use Rattle.stages.specs.Asked.{Asked, for_each}
use Rattle.stages.specs.Packing.{left_of, used_up, used_marks, tightest, left_after, answer_after, set_at, amount_at, coming_to_nothing, order_after}
use Rattle.stages.proofs.Lawful.{Lawful, entering_is_link, not_none}
use Rattle.stages.proofs.Lefts.{left_falls, set_is_unused, few_sets, left_fits, answer_is_smallest, member_entered}
use Rattle.stages.proofs.Orders.{order_grows}
use Rattle.stages.proofs.Tightest.{tightest_is_some, tightest_same, tightest_enters}

pub kept_by_same : (p q : ℕ → Bool) (m k : ℕ) → ((j : ℕ) → j < m + k → p j ≡ q j) → filter p (range_with_len k m) ≡ filter q (range_with_len k m)
kept_by_same p q zero k same = refl
kept_by_same p q (suc m) k same =
    ap₂ (λ (b : Bool) (rest : List ℕ). cond b (k ∷ rest) rest) (same k (omega arith)) (kept_by_same p q m (k + 1) (λ j h. same j (omega arith)))

module _ (n : ℕ) (a : Asked) (Member : ℕ → Type 0) (L : Lawful n a Member) (i : ℕ) (before : (j : ℕ) → j < i → is_some (answer_after a j) ≡ true)
    (marks : List ℕ) (marks_show : marks ≡ used_marks a (left_after a i)) (X : ℕ) (given : a.smallest marks ≡ Some X)
    (cells : List (List ℤ)) (cells_show : (k : ℕ) → is_link a.slots k ≡ true → get_or cells k [] ≡ left_of (left_after a i) k) where
  open a use {width, slots}

  answer : answer_after a i ≡ Some X
  answer = ap a.smallest (sym marks_show) ∙ given

  pub set_is : set_at a i ≡ X
  set_is = ap (λ o. unwrap_or o 0) answer

  some_here : is_some (answer_after a i) ≡ true
  some_here = ap is_some answer

  pub goes_on : (j : ℕ) → j < i + 1 → is_some (answer_after a j) ≡ true
  goes_on j h = ⊎_elim (λ e. subst (λ x. is_some (answer_after a x) ≡ true) (sym e) some_here) (λ ne. before j (omega arith)) (cases_eq j i)

  pub has_room : i + 1 ≤ 79
  has_room = few_sets n a Member L (i + 1) goes_on

  placed : (k : ℕ) → enters_at slots k X ≡ true → k < 200
  placed k e = omega (arith, entering_is_listed slots k X e, L.sized)

  tightest_is : tightest slots cells X ≡ tightest slots (left_after a i) X
  tightest_is = tightest_same slots cells (left_after a i) cells_show X

  -- some link enters the set
  entering : (k : ℕ) × (enters_at slots k X ≡ true)
  entering =
      let (k, all, e) = member_entered n a Member L X (subst Member set_is (answer_is_smallest n a Member L i some_here).member) in (k, e)

  pub some_is_tightest : tightest slots cells X ≡ None → ⊥
  some_is_tightest none =
      let (k, e) = entering in
      not_none (Some 0) refl (sym (tightest_is_some slots (left_after a i) X L.sized k e (placed k e) None (sym tightest_is ∙ none)))

  module _ (link : ℕ) (found : tightest slots cells X ≡ Some link) where
    link_is : unwrap_or (tightest slots (left_after a i) X) 0 ≡ link
    link_is = ap (λ o. unwrap_or o 0) (sym tightest_is ∙ found)

    link_enters : enters_at slots link X ≡ true
    link_enters =
        let (k, e) = entering in
        subst (λ x. enters_at slots x X ≡ true) link_is (tightest_enters slots (left_after a i) X L.sized k e (placed k e))

    pub link_placed : link < 200
    link_placed = placed link link_enters

    -- the amount is what is left of that link
    pub amount_is : get_or cells link [] ≡ amount_at a i
    amount_is =
        cells_show link (entering_is_link slots link X link_enters) ∙ ap (left_of (left_after a i)) (sym link_is)
        ∙ ap (λ x. left_of (left_after a i) (unwrap_or (tightest slots (left_after a i) x) 0)) (sym set_is)

  marks_at : (k : ℕ) → k < 200 → get_or marks k 0 ≡ cond (used_up a (left_after a i) k) 1 0
  marks_at k h = ap (λ m. get_or m k 0) marks_show ∙ get_or-map-range_with_len (λ j. cond (used_up a (left_after a i) j) 1 0) 0 200 k k 0 h (omega arith)

  -- no link that enters the set has come to nothing before
  pub unused : (k : ℕ) → enters_at slots k X ≡ true → get_or marks k 0 ≡ 0
  unused k e = marks_at k (placed k e) ∙ ⊎_elim (λ used. absurd (set_is_unused n a Member L i k some_here (subst (λ x. enters_at slots k x ≡ true) (sym set_is) e) used)) (ap (λ b. cond b 1 0)) (cases_Bool (used_up a (left_after a i) k))

  module _ (y : List ℤ) (y_is : y ≡ amount_at a i) where
    falls : (k : ℕ) → k < 200 → left_of (left_after a (i + 1)) k ≡ cond (enters_at slots k X) (minus (left_of (left_after a i) k) y) (left_of (left_after a i) k)
    falls k h =
        ap (λ x. left_of (left_after a x) k) (add-one i) ∙ left_falls a i k some_here h
        ∙ ap₂ (λ x z. cond (enters_at slots k x) (minus (left_of (left_after a i) k) z) (left_of (left_after a i) k)) set_is (sym y_is)

    pub falls_in : (k : ℕ) → enters_at slots k X ≡ true → minus (get_or cells k []) y ≡ left_of (left_after a (i + 1)) k
    falls_in k e =
        ap (λ x. minus x y) (cells_show k (entering_is_link slots k X e))
        ∙ sym (falls k (placed k e) ∙ ap (λ b. cond b (minus (left_of (left_after a i) k) y) (left_of (left_after a i) k)) e)

    pub falls_out : (k : ℕ) → k < 200 → enters_at slots k X ≡ false → left_of (left_after a i) k ≡ left_of (left_after a (i + 1)) k
    falls_out k h e = sym (falls k h ∙ ap (λ b. cond b (minus (left_of (left_after a i) k) y) (left_of (left_after a i) k)) e)

    -- what will be left fits
    pub fits : (k : ℕ) → enters_at slots k X ≡ true → Fitting (minus (get_or cells k []) y)
    fits k e = subst Fitting (sym (falls_in k e)) (left_fits n a Member L (i + 1) goes_on (i + 1) k (omega arith) (placed k e))

    gone_is : (k : ℕ) → k < 200 → gone width slots cells X y k ≡ coming_to_nothing a (left_after a (i + 1)) X k
    gone_is k h = ⊎_elim inside outside (cases_Bool (enters_at slots k X))
      where
        inside : enters_at slots k X ≡ true → gone width slots cells X y k ≡ coming_to_nothing a (left_after a (i + 1)) X k
        inside e =
            ap (λ (z : List ℤ). enters_at slots k X && spent width z) (falls_in k e)
            ∙ ap (λ b. enters_at slots k X && (b && spent width (left_of (left_after a (i + 1)) k))) (sym (entering_is_link slots k X e))

        outside : enters_at slots k X ≡ false → gone width slots cells X y k ≡ coming_to_nothing a (left_after a (i + 1)) X k
        outside e = and_left (enters_at slots k X) (spent width (minus (get_or cells k []) y)) e ∙ sym (and_left (enters_at slots k X) (used_up a (left_after a (i + 1)) k) e)

    mark_next : (k : ℕ) → k < 200 → cond (gone width slots cells X y k) 1 (get_or marks k 0) ≡ cond (used_up a (left_after a (i + 1)) k) 1 0
    mark_next k h = ap (λ b. cond b 1 (get_or marks k 0)) (gone_is k h) ∙ ⊎_elim inside outside (cases_Bool (enters_at slots k X))
      where
        inside : enters_at slots k X ≡ true → cond (coming_to_nothing a (left_after a (i + 1)) X k) 1 (get_or marks k 0) ≡ cond (used_up a (left_after a (i + 1)) k) 1 0
        inside e =
            ap₂ (λ b m. cond (b && used_up a (left_after a (i + 1)) k) 1 m) e (unused k e)

        outside : enters_at slots k X ≡ false → cond (coming_to_nothing a (left_after a (i + 1)) X k) 1 (get_or marks k 0) ≡ cond (used_up a (left_after a (i + 1)) k) 1 0
        outside e =
            ap₂ (λ b m. cond (b && used_up a (left_after a (i + 1)) k) 1 m) e (marks_at k h)
            ∙ ap (λ (z : List ℤ). cond (is_link slots k && spent width z) 1 0) (falls_out k h e)

    pub marks_next : for_each (λ k. cond (gone width slots cells X y k) 1 (get_or marks k 0)) ≡ used_marks a (left_after a (i + 1))
    marks_next =
        let f = λ (k : ℕ). cond (gone width slots cells X y k) 1 (get_or marks k 0) in
        let g = λ (k : ℕ). cond (used_up a (left_after a (i + 1)) k) 1 0 in
        ext_get_or 0 (for_each f) (for_each g) (length-map-range_with_len f 0 200 ∙ sym (length-map-range_with_len g 0 200))
        (λ k h.
        let small : k < 200 = omega (arith, length-map-range_with_len f 0 200) in
        get_or-map-range_with_len f 0 200 k k 0 small (omega arith) ∙ mark_next k small ∙ sym (get_or-map-range_with_len g 0 200 k k 0 small (omega arith)))

    pub order_next : order_after a i ++ filter (gone width slots cells X y) (range_with_len 0 200) ≡ order_after a (i + 1)
    order_next =
        ap (λ ks. order_after a i ++ ks)
        (kept_by_same (gone width slots cells X y) (coming_to_nothing a (left_after a (i + 1)) X) 200 0 (λ k h. gone_is k (omega arith))
        ∙ ap₂ (λ x z. filter (coming_to_nothing a (left_after a x) z) (range_with_len 0 200)) (add-one i) (sym set_is))
        ∙ sym (order_grows a i) ∙ ap (order_after a) (sym (add-one i))

    pub cells_next : (after : List (List ℤ)) → ((k : ℕ) → enters_at slots k X ≡ true → get_or after k [] ≡ minus (get_or cells k []) y)
        → ((k : ℕ) → enters_at slots k X ≡ false → get_or after k [] ≡ get_or cells k [])
        → (k : ℕ) → is_link slots k ≡ true → k < 200 → get_or after k [] ≡ left_of (left_after a (i + 1)) k
    cells_next after lowered others k link h =
        ⊎_elim (λ e. lowered k e ∙ falls_in k e) (λ e. others k e ∙ cells_show k link ∙ falls_out k h e) (cases_Bool (enters_at slots k X))
