-- The stages at lists of parts: they are stages of the general kind, whose amounts are the lists with their lengths.
-- What the general theory says of them is read off at the lists.
use Rattle.std.proofs.Common.{◌≡◌, ℕ, zero, suc, ◌+◌, ◌*◌, ◌^◌, ◌<◌, ◌≤◌, Bool, true, false, cond, List, length, ℤ, sym, ap, ◌∙◌, subst, ap₂, arith}
use Rattle.amount.specs.Parts.{plus, minus, below, nothing, within}
use Rattle.amount.proofs.Group.{length_minus, minus_plus, plus_nothing}
use Rattle.digraph.specs.Links.{Slots}
use Rattle.digraph.specs.Entering.{enters_at}
use Rattle.duality.specs.Entries.{entries}
use Rattle.duality.specs.Families.{Family, Covering}
use Rattle.duality.specs.Costs.{summed, repeated, cost_of, cost_of_counts}
use Rattle.duality.specs.Stages.{Packed, Taken, OneOf, Cheapest}
use Rattle.duality.specs.Theorems.{FewNested, AllFit, TakenApart}
use Rattle.duality.proofs.Amounts.{given}
use Rattle.duality.proofs.Sums.{sum, times}
use Rattle.duality.proofs.Entering.{entering_is_listed, leads_head}
use Rattle.duality.proofs.Levels.{Within}
use Rattle.duality.proofs.WeakDuality.{cost, choice_cost}
use Rattle.duality.proofs.Packing.{Packing, apart_or_inside, few_sets}
use Rattle.duality.proofs.Taking.{Taking, taken, is_taken, heads_differ, entered_at_most_once}
use Rattle.duality.proofs.Covers.{CheapestCover, cheapest_cover, often_covered_costs_more}
use Rattle.duality.proofs.Ranges.{left_within, amount_within}
use Rattle.duality.proofs.Wide.{Wide, wide, widen, widen_is, same_list, given_list, sum_list, times_list, part, part_additive, parts_within, fitting_of_parts}

-- ---- costs

pub cost_list : (width : ℕ) (slots : Slots) (c : ℕ → Wide width) (prices : ℕ → List ℤ) (L : ℕ → Bool)
    → ((k : ℕ) → k < length slots → (c k).0 ≡ prices k) → (choice_cost (wide width) slots c L).0 ≡ cost_of width slots prices L
cost_list width slots c prices L same =
    sum_list width (λ k. given (wide width) (L k) (c k)) (λ k. cond (L k) (prices k) (nothing width)) (length slots)
    (λ k l. given_list width (L k) (c k) ∙ ap (λ (x : List ℤ). cond (L k) x (nothing width)) (same k l))

pub cost_list_counts : (width : ℕ) (slots : Slots) (c : ℕ → Wide width) (prices : ℕ → List ℤ) (r : ℕ → ℕ)
    → ((k : ℕ) → k < length slots → (c k).0 ≡ prices k) → (cost (wide width) slots c r).0 ≡ cost_of_counts width slots prices r
cost_list_counts width slots c prices r same =
    sum_list width (λ k. times (wide width) (r k) (c k)) (λ k. repeated width (r k) (prices k)) (length slots)
    (λ k l. times_list width (r k) (c k) ∙ ap (repeated width (r k)) (same k l))

-- ---- the first stage

-- the amounts and what is left, as amounts of the general kind
abbrev pub wide_amounts : (width : ℕ) → (ℕ → List ℤ) → ℕ → Wide width
wide_amounts width y i = widen width (y i)

abbrev pub wide_left : (width : ℕ) → (ℕ → ℕ → List ℤ) → ℕ → ℕ → Wide width
wide_left width left i k = widen width (left i k)

module _ (width : ℕ) (slots : Slots) (Member : ℕ → Type 0) (p : ℕ) (Z : ℕ → ℕ) (y : ℕ → List ℤ) (left : ℕ → ℕ → List ℤ)
    (K : Packed width slots Member p Z y left) where
  amount_wide_if : (i : ℕ) → i < p → ((k : ℕ) → k < length slots → length (left i k) ≡ width) → length (y i) ≡ width
  amount_wide_if i h all =
      let t = K.tight i h in ap length (sym t.2) ∙ all t.0 (entering_is_listed slots t.0 (Z i) t.1)

  pub left_wide : (i k : ℕ) → i ≤ p → k < length slots → length (left i k) ≡ width
  left_wide zero k h l = K.prices_wide k l
  left_wide (suc i) k h l =
      ap length (K.fall i k (omega arith) l)
      ∙ go (enters_at slots k (Z i)) (left_wide i k (omega arith) l) (amount_wide_if i (omega arith) (λ j d. left_wide i j (omega arith) d))
    where
      go : (b : Bool) → length (left i k) ≡ width → length (y i) ≡ width → length (cond b (minus (left i k) (y i)) (left i k)) ≡ width
      go true e f = length_minus (left i k) (y i) e f
      go false e f = e

  pub amount_wide : (i : ℕ) → i < p → length (y i) ≡ width
  amount_wide i h = amount_wide_if i h (λ k l. left_wide i k (omega arith) l)

  pub amount_is : (i : ℕ) → i < p → (wide_amounts width y i).0 ≡ y i
  amount_is i h = widen_is width (y i) (amount_wide i h)

  pub left_is : (i k : ℕ) → i ≤ p → k < length slots → (wide_left width left i k).0 ≡ left i k
  left_is i k h l = widen_is width (left i k) (left_wide i k h l)

  is_nothing : (i k : ℕ) → i ≤ p → k < length slots → wide_left width left i k ≡ (wide width).𝟘 → left i k ≡ nothing width
  is_nothing i k h l e = sym (left_is i k h l) ∙ ap (λ (w : Wide width). w.0) e

  as_nothing : (i k : ℕ) → i ≤ p → k < length slots → left i k ≡ nothing width → wide_left width left i k ≡ (wide width).𝟘
  as_nothing i k h l e = same_list (left_is i k h l ∙ e)

  fall_by_sum : (i k : ℕ) → i < p → k < length slots
      → plus (wide_left width left (suc i) k).0 (given (wide width) (enters_at slots k (Z i)) (wide_amounts width y i)).0 ≡ (wide_left width left i k).0
  fall_by_sum i k h l =
      ap₂ plus (left_is (suc i) k h l ∙ K.fall i k h l)
      (given_list width (enters_at slots k (Z i)) (wide_amounts width y i) ∙ ap (λ (x : List ℤ). cond (enters_at slots k (Z i)) x (nothing width)) (amount_is i h))
      ∙ go (enters_at slots k (Z i)) ∙ sym (left_is i k (omega arith) l)
    where
      go : (b : Bool) → plus (cond b (minus (left i k) (y i)) (left i k)) (cond b (y i) (nothing width)) ≡ left i k
      go true = minus_plus (left i k) (y i) (left_wide i k (omega arith) l) (amount_wide i h)
      go false = plus_nothing width (left i k) (left_wide i k (omega arith) l)

  pub packing_of_lists : Packing (wide width) slots Member p Z (wide_amounts width y) (wide_left width left)
  packing_of_lists = record {
    member = K.member;
    unentered = λ i k h e z. K.unentered i k h e (is_nothing i k (omega arith) (entering_is_listed slots k (Z i) e) z);
    least = λ i h X m part free. K.least i h X m part
        (λ k e z. free k e (as_nothing i k (omega arith) (entering_is_listed slots k X e) z));
    tight = λ i h. let t = K.tight i h in (t.0, t.1, ap (widen width) t.2);
    at_most = λ i k h e.
        ap₂ below (left_is i k (omega arith) (entering_is_listed slots k (Z i) e)) (amount_is i h) ∙ K.at_most i k h e;
    fall = λ i k h l. same_list (fall_by_sum i k h l);
    prices = λ k l. ap (λ (x : List ℤ). below x (nothing width)) (left_is 0 k (omega arith) l) ∙ K.prices k l;
  }

  pub entering_often_costs : (r : ℕ → ℕ) (often : ℕ) → ((i : ℕ) → i < p → often ≤ entries slots r (Z i))
      → below (cost_of_counts width slots (left 0) r) (repeated width often (summed width y p)) ≡ false
  entering_often_costs r often h =
      sym (ap₂ below (cost_list_counts width slots (wide_left width left 0) (left 0) r (λ k l. left_is 0 k (omega arith) l))
      (times_list width often (sum (wide width) (wide_amounts width y) p) ∙ ap (repeated width often) (sum_list width (wide_amounts width y) y p (λ i l. amount_is i l))))
      ∙ often_covered_costs_more (wide width) slots Member p Z (wide_amounts width y) (wide_left width left) packing_of_lists r often h

  module _ (n : ℕ) (F : Family n Member) where
    pub few_and_nested : FewNested n p Z
    few_and_nested = record {
      nested = apart_or_inside (wide width) slots Member p Z (wide_amounts width y) (wide_left width left) packing_of_lists n F;
      few = few_sets (wide width) slots Member p Z (wide_amounts width y) (wide_left width left) packing_of_lists n F;
    }

    module _ (B : ℕ) (small : (k : ℕ) → k < length slots → within B (left 0 k) ≡ true) where
      price_within : (i k : ℕ) → k < length slots → Within B (part i (wide_left width left 0 k).0)
      price_within i k l =
          subst (λ (x : List ℤ). Within B (part i x)) (sym (left_is 0 k (omega arith) l)) (parts_within B (left 0 k) (small k l) i)

      pub left_parts_within : (part_number i k : ℕ) → i ≤ p → k < length slots → Within (B * (p + 1)) (part part_number (left i k))
      left_parts_within j i k h l =
          subst (λ (x : List ℤ). Within (B * (p + 1)) (part j x)) (left_is i k h l)
          (left_within (wide width) slots Member n F p Z (wide_amounts width y) (wide_left width left) packing_of_lists
          (λ a. part j a.0) (part_additive width j) B (price_within j) i k h l)

      pub amount_parts_within : (part_number i : ℕ) → i < p → Within (B * (p + 1)) (part part_number (y i))
      amount_parts_within j i h =
          subst (λ (x : List ℤ). Within (B * (p + 1)) (part j x)) (amount_is i h)
          (amount_within (wide width) slots Member n F p Z (wide_amounts width y) (wide_left width left) packing_of_lists
          (λ a. part j a.0) (part_additive width j) B (price_within j) i h)

      pub all_fit : B * (p + 1) < 2 ^ 63 → AllFit slots p y left
      all_fit fits = record {
        left_fits = λ i k h l. fitting_of_parts (B * (p + 1)) (left i k) fits (λ j d. left_parts_within j i k h l);
        amounts_fit = λ i h. fitting_of_parts (B * (p + 1)) (y i) fits (λ j d. amount_parts_within j i h);
      }

    -- ---- the second and the third stage

    module _ (q : ℕ) (l M : ℕ → ℕ) (T : Taken width slots Member p left q l M) where
      listed : (t : ℕ) → t < q → l t < length slots
      listed t h = entering_is_listed slots (l t) (M t) (T.enters t h)

      pub taking_of_lists : Taking (wide width) slots Member p (wide_left width left) q l M
      taking_of_lists = record {
        member = T.member;
        unentered = T.unentered;
        greatest = T.greatest;
        enters = T.enters;
        nothing_left = λ t h. as_nothing p (l t) (omega arith) (listed t h) (T.nothing_left t h);
        earliest = λ t i d h g e z.
            as_nothing i (l t) g (listed t h) (T.earliest t i d h g e (is_nothing i d g (entering_is_listed slots d (M t) e) z));
      }

      pub taken_apart : TakenApart slots p Z q l
      taken_apart = record {
        one_each = entered_at_most_once (wide width) slots Member n F p (wide_left width left) q l M taking_of_lists Z (wide_amounts width y) packing_of_lists;
        heads_differ = λ t u s v w h g a b.
            heads_differ (wide width) slots Member n F p (wide_left width left) q l M taking_of_lists t u h g
            (leads_head slots (l t) a ∙ sym (leads_head slots (l u) b));
      }

      pub kept_cheapest : (kept : ℕ → Bool) → ((k : ℕ) → kept k ≡ true → OneOf q l k) → Covering slots Member kept
          → Cheapest width slots Member (left 0) kept (summed width y p)
      kept_cheapest kept one_of covers = record {
        covers = covers;
        costs = sym (cost_list width slots (wide_left width left 0) (left 0) kept price) ∙ ap (λ (w : Wide width). w.0) best.costs ∙ worth;
        choices_cost_more = λ L h.
            sym (ap₂ below (cost_list width slots (wide_left width left 0) (left 0) L price) worth) ∙ best.choices_cost_more L h;
        counts_cost_more = λ r h.
            sym (ap₂ below (cost_list_counts width slots (wide_left width left 0) (left 0) r price) worth) ∙ best.counts_cost_more r h;
      }
        where
          price : (k : ℕ) → k < length slots → (wide_left width left 0 k).0 ≡ left 0 k
          price k d = left_is 0 k (omega arith) d

          worth : (sum (wide width) (wide_amounts width y) p).0 ≡ summed width y p
          worth = sum_list width (wide_amounts width y) y p (λ i d. amount_is i d)

          of_taken : (k : ℕ) → kept k ≡ true → taken q l k ≡ true
          of_taken k e = let t = one_of k e in subst (λ (x : ℕ). taken q l x ≡ true) t.2 (is_taken q l t.0 t.1)

          best : CheapestCover (wide width) slots Member (wide_left width left 0) kept (sum (wide width) (wide_amounts width y) p)
          best = cheapest_cover (wide width) slots Member p Z (wide_amounts width y) (wide_left width left) packing_of_lists n F q l M taking_of_lists kept of_taken covers
