-- Trees and their revised prices at lists of parts: they are those of the general kind, at the lists with their lengths.
-- A price list is read at links only; at the other numbers of the table it is taken to be the prices in force.
use Rattle.std.proofs.Common.{◌≡◌, ℕ, suc, ◌+◌, ◌<◌, ◌≤◌, Bool, true, false, cond, List, [], ◌∷◌, length, get_or, ℤ, sym, refl, ap, ◌∙◌, subst, ap₂, true≢false, arith}
use Rattle.amount.specs.Parts.{plus, minus, below, nothing, deviation}
use Rattle.amount.proofs.Group.{deviation_itself}
use Rattle.digraph.specs.Links.{Slots}
use Rattle.digraph.specs.Trees.{SpanningTree}
use Rattle.cuts.specs.Families.{TreeMember, listed}
use Rattle.cuts.proofs.EntryCounts.{enters→is_link}
use Rattle.cuts.proofs.TreeExtremes.{listed→place}
use Rattle.duality.specs.Costs.{summed, cost_of}
use Rattle.duality.specs.Entries.{count_sum, single, entries}
use Rattle.duality.specs.Stages.{Packed}
use Rattle.duality.specs.Trees.{is_link, PriceList, cost_of_list, CheapestTree, list_deviation, revised, concession, TreeKept, Quoted, ChangesAtMost}
use Rattle.duality.proofs.Amounts.{given}
use Rattle.duality.proofs.Sums.{sum}
use Rattle.duality.proofs.WeakDuality.{choice_cost}
use Rattle.duality.proofs.Packing.{Packing}
use Rattle.duality.proofs.Taking.{taken, is_taken}
use Rattle.duality.proofs.Covers.{entered_counts}
use Rattle.duality.proofs.Wide.{Wide, wide, widen, widen_is, same_list, given_list, sum_list}
use Rattle.duality.proofs.Listed.{wide_amounts, wide_left, left_is, amount_is, packing_of_lists, taking_of_lists, kept_cheapest}
use Rattle.duality.proofs.Listings.{list_cost, link_is_listed, tree_choice_cost}
use Rattle.duality.proofs.Deviations.{apart, NoSlack, not_below_without, is_without}
use Rattle.duality.proofs.CheapestTrees.{CheapestTreeAt, keeping_the_tree_deviates, nearest_keeping_the_tree}
use Rattle.duality.proofs.RevisedPrices.{tree_family, revised as revised_at, revised_keep_the_tree, revised_deviate_by, kept_are_one_fewer}

-- ---- costs and deviations

list_cost_list : (width : ℕ) (c : ℕ → Wide width) (prices : ℕ → List ℤ) (list : List ℕ)
    → ((i : ℕ) → i < length list → (c (get_or list i 0)).0 ≡ prices (get_or list i 0)) → (list_cost (wide width) c list).0 ≡ cost_of_list width prices list
list_cost_list width c prices [] same = refl
list_cost_list width c prices (k ∷ ks) same =
    ap₂ plus (same 0 (omega arith)) (list_cost_list width c prices ks (λ i h. same (suc i) (omega arith)))

-- the cost of a choice, with the prices of the links chosen alone
chosen_cost_list : (width : ℕ) (slots : Slots) (c : ℕ → Wide width) (prices : ℕ → List ℤ) (L : ℕ → Bool)
    → ((k : ℕ) → L k ≡ true → (c k).0 ≡ prices k) → (choice_cost (wide width) slots c L).0 ≡ cost_of width slots prices L
chosen_cost_list width slots c prices L same =
    sum_list width (λ k. given (wide width) (L k) (c k)) (λ k. cond (L k) (prices k) (nothing width)) (length slots)
    (λ k h. given_list width (L k) (c k) ∙ go (L k) (c k).0 (prices k) (same k))
  where
    go : (b : Bool) (x z : List ℤ) → (b ≡ true → x ≡ z) → cond b x (nothing width) ≡ cond b z (nothing width)
    go true x z e = e refl
    go false x z e = refl

apart_list : (width : ℕ) (a b : Wide width) → (apart (wide width) a b).0 ≡ deviation a.0 b.0
apart_list width a b = go (below a.0 b.0)
  where
    go : (x : Bool) → (cond x ((wide width).◌⊖◌ b a) ((wide width).◌⊖◌ a b)).0 ≡ cond x (minus b.0 a.0) (minus a.0 b.0)
    go true = refl
    go false = refl

-- where both are of the given lists at links, and equal elsewhere
deviation_list : (width : ℕ) (slots : Slots) (c d : ℕ → Wide width) (w v : ℕ → List ℤ)
    → ((k : ℕ) → is_link slots k ≡ true → (c k).0 ≡ w k) → ((k : ℕ) → is_link slots k ≡ true → (d k).0 ≡ v k)
    → ((k : ℕ) → is_link slots k ≡ false → (c k).0 ≡ (d k).0)
    → (sum (wide width) (λ k. apart (wide width) (c k) (d k)) (length slots)).0 ≡ list_deviation width slots w v
deviation_list width slots c d w v at_w at_v same =
    sum_list width (λ k. apart (wide width) (c k) (d k)) (λ k. cond (is_link slots k) (deviation (w k) (v k)) (nothing width)) (length slots)
    (λ k h. apart_list width (c k) (d k) ∙ go k (is_link slots k) refl)
  where
    go : (k : ℕ) (b : Bool) → is_link slots k ≡ b → deviation (c k).0 (d k).0 ≡ cond b (deviation (w k) (v k)) (nothing width)
    go k true e = ap₂ deviation (at_w k e) (at_v k e)
    go k false e = ap (λ (x : List ℤ). deviation x (d k).0) (same k e) ∙ deviation_itself width (d k).0 (d k).1

-- ---- the revised prices

module _ (width n : ℕ) (slots : Slots) (list : List ℕ) (tree : SpanningTree n slots list)
    (p : ℕ) (Z : ℕ → ℕ) (y : ℕ → List ℤ) (left : ℕ → ℕ → List ℤ) (K : Packed width slots (TreeMember n slots list) p Z y left) where
  -- the prices in force and the revised ones, as amounts of the general kind
  price : ℕ → Wide width
  price = wide_left width left 0

  new_price : ℕ → Wide width
  new_price = revised_at (wide width) list price (wide_left width left p)

  price_is : (k : ℕ) → k < length slots → (price k).0 ≡ left 0 k
  unfolding price
  price_is k h = left_is width slots (TreeMember n slots list) p Z y left K 0 k (omega arith) h

  new_price_is : (k : ℕ) → k < length slots → (new_price k).0 ≡ revised list (left 0) (left p) k
  unfolding new_price
  new_price_is k h = go (listed list k)
    where
      go : (b : Bool) → (cond b ((wide width).◌⊖◌ (price k) (wide_left width left p k)) (price k)).0 ≡ cond b (minus (left 0 k) (left p k)) (left 0 k)
      go true = ap₂ minus (price_is k h) (left_is width slots (TreeMember n slots list) p Z y left K p k (omega arith) h)
      go false = price_is k h

  worth_is : (sum (wide width) (wide_amounts width y) p).0 ≡ summed width y p
  worth_is = sum_list width (wide_amounts width y) y p (λ i h. amount_is width slots (TreeMember n slots list) p Z y left K i h)

  -- a number that is no link's is not listed
  new_price_elsewhere : (k : ℕ) → is_link slots k ≡ false → (new_price k).0 ≡ (price k).0
  unfolding new_price
  new_price_elsewhere k e = go (listed list k) refl
    where
      go : (b : Bool) → listed list k ≡ b → (cond b ((wide width).◌⊖◌ (price k) (wide_left width left p k)) (price k)).0 ≡ (price k).0
      go false f = refl
      go true f =
          let t = listed→place list k f in
          absurd (true≢false (sym (tree.of_links t.0 t.1) ∙ ap (is_link slots) t.2 ∙ e))

  pub tree_kept : TreeKept width n slots list (left 0) (revised list (left 0) (left p)) (summed width y p)
  unfolding price new_price
  tree_kept = record {
    price_list = λ k e. ap length (sym (new_price_is k (link_is_listed slots k e))) ∙ (new_price k).1;
    cheapest = record {
      spans = tree;
      no_less = λ other spans. sym (ap₂ below (new_cost other spans) (new_cost list tree)) ∙ best.no_less other spans;
    };
    deviates =
        sym (deviation_list width slots new_price price (revised list (left 0) (left p)) (left 0)
        (λ k e. new_price_is k (link_is_listed slots k e)) (λ k e. price_is k (link_is_listed slots k e)) new_price_elsewhere)
        ∙ ap (λ (a : Wide width). a.0)
        (is_without (wide width) (sum (wide width) (λ k. apart (wide width) (new_price k) (price k)) (length slots)) (sum (wide width) (wide_amounts width y) p)
        (list_cost (wide width) price list)
        (revised_deviate_by (wide width) n slots list tree p Z (wide_amounts width y) (wide_left width left) packing))
        ∙ ap₂ minus (list_cost_list width price (left 0) list (λ i h. price_is (get_or list i 0) (link_is_listed slots (get_or list i 0) (tree.of_links i h)))) worth_is;
  }
    where
      packing : Packing (wide width) slots (TreeMember n slots list) p Z (wide_amounts width y) (wide_left width left)
      packing = packing_of_lists width slots (TreeMember n slots list) p Z y left K

      best : CheapestTreeAt (wide width) n slots (revised_at (wide width) list (wide_left width left 0) (wide_left width left p)) list
      best = revised_keep_the_tree (wide width) n slots list tree p Z (wide_amounts width y) (wide_left width left) packing

      new_cost : (other : List ℕ) → SpanningTree n slots other
          → (list_cost (wide width) new_price other).0 ≡ cost_of_list width (revised list (left 0) (left p)) other
      new_cost other spans =
          list_cost_list width new_price (revised list (left 0) (left p)) other
          (λ i h. new_price_is (get_or other i 0) (link_is_listed slots (get_or other i 0) (spans.of_links i h)))

-- ---- any other prices

module _ (width n : ℕ) (slots : Slots) (list : List ℕ) (p : ℕ) (Z : ℕ → ℕ) (y : ℕ → List ℤ) (left : ℕ → ℕ → List ℤ)
    (q : ℕ) (l M : ℕ → ℕ) (kept : ℕ → Bool) (Q : Quoted width n slots list p Z y left q l M kept) where
  of_taken : (k : ℕ) → kept k ≡ true → taken q l k ≡ true
  of_taken k e = let t = Q.of_taken k e in subst (λ (x : ℕ). taken q l x ≡ true) t.2 (is_taken q l t.0 t.1)

  kept_is_link : (k : ℕ) → kept k ≡ true → is_link slots k ≡ true
  kept_is_link k e =
      let t = Q.of_taken k e in
      subst (λ (x : ℕ). is_link slots x ≡ true) t.2 (enters→is_link slots (l t.0) (M t.0) (Q.taken.enters t.0 t.1))

  as_many : count_sum (single kept) (length slots) + 1 ≡ n
  as_many =
      kept_are_one_fewer (wide width) n slots list Q.spans p (wide_left width left) q l M
      (taking_of_lists width slots (TreeMember n slots list) p Z y left Q.packed n (tree_family n slots list Q.spans) q l M Q.taken)
      kept of_taken Q.covers

  pub quote_keeps_the_tree : TreeKept width n slots list (left 0) (revised list (left 0) (left p)) (cost_of width slots (left 0) kept)
  quote_keeps_the_tree =
      subst (TreeKept width n slots list (left 0) (revised list (left 0) (left p)))
      (sym (kept_cheapest width slots (TreeMember n slots list) p Z y left Q.packed n (tree_family n slots list Q.spans) q l M Q.taken kept Q.of_taken Q.covers).costs)
      (tree_kept width n slots list Q.spans p Z y left Q.packed)

  module _ (w : ℕ → List ℤ) (price_list : PriceList width slots w) (cheapest : CheapestTree width n slots w list) where
    -- the price list, and at numbers that are no link's the prices in force
    other_price : ℕ → Wide width
    other_price k = cond (is_link slots k) (widen width (w k)) (wide_left width left 0 k)

    other_price_is : (k : ℕ) → is_link slots k ≡ true → (other_price k).0 ≡ w k
    unfolding other_price
    other_price_is k e =
        ap (λ (b : Bool). (cond b (widen width (w k)) (wide_left width left 0 k)).0) e ∙ widen_is width (w k) (price_list k e)

    other_price_elsewhere : (k : ℕ) → is_link slots k ≡ false → (other_price k).0 ≡ (wide_left width left 0 k).0
    unfolding other_price
    other_price_elsewhere k e = ap (λ (b : Bool). (cond b (widen width (w k)) (wide_left width left 0 k)).0) e

    old_price_is : (k : ℕ) → is_link slots k ≡ true → (wide_left width left 0 k).0 ≡ left 0 k
    old_price_is k e = left_is width slots (TreeMember n slots list) p Z y left Q.packed 0 k (omega arith) (link_is_listed slots k e)

    other_cost : (other : List ℕ) → SpanningTree n slots other → (list_cost (wide width) other_price other).0 ≡ cost_of_list width w other
    other_cost other spans =
        list_cost_list width other_price w other (λ i h. other_price_is (get_or other i 0) (spans.of_links i h))

    is_cheapest : CheapestTreeAt (wide width) n slots other_price list
    is_cheapest = record {
      spans = cheapest.spans;
      no_less = λ other spans. ap₂ below (other_cost other spans) (other_cost list cheapest.spans) ∙ cheapest.no_less other spans;
    }

    -- the deviation, and the concession, as amounts of the general kind
    off : Wide width
    off = sum (wide width) (λ k. apart (wide width) (other_price k) (wide_left width left 0 k)) (length slots)

    tree_costs : Wide width
    tree_costs = list_cost (wide width) (wide_left width left 0) list

    kept_costs : Wide width
    kept_costs = choice_cost (wide width) slots (wide_left width left 0) kept

    off_is : off.0 ≡ list_deviation width slots w (left 0)
    unfolding off
    off_is = deviation_list width slots other_price (wide_left width left 0) w (left 0) other_price_is old_price_is other_price_elsewhere

    concession_is : ((wide width).◌⊖◌ tree_costs kept_costs).0 ≡ concession width slots (left 0) list kept
    unfolding tree_costs kept_costs
    concession_is =
        ap₂ minus
        (list_cost_list width (wide_left width left 0) (left 0) list (λ i h. old_price_is (get_or list i 0) (cheapest.spans.of_links i h)))
        (chosen_cost_list width slots (wide_left width left 0) (left 0) kept (λ k e. old_price_is k (kept_is_link k e)))

    entered : (X : ℕ) → TreeMember n slots list X → 1 ≤ entries slots (single kept) X
    entered X m = entered_counts slots kept X (Q.covers X m)

    pub deviates_by_the_concession : below (list_deviation width slots w (left 0)) (concession width slots (left 0) list kept) ≡ false
    unfolding off tree_costs kept_costs
    deviates_by_the_concession =
        sym (ap₂ below off_is concession_is)
        ∙ not_below_without (wide width) off kept_costs tree_costs
        (keeping_the_tree_deviates (wide width) n slots Q.proper other_price list is_cheapest kept as_many entered (wide_left width left 0))

    pub nearest_changes_at_most : list_deviation width slots w (left 0) ≡ concession width slots (left 0) list kept
        → ChangesAtMost width slots list kept (left 0) w
    unfolding off tree_costs kept_costs
    nearest_changes_at_most near = record {
      unchanged = λ k e same.
          sym (other_price_is k e) ∙ ap (λ (a : Wide width). a.0) (none.unchanged_in_both_or_neither k (link_is_listed slots k e) same) ∙ old_price_is k e;
      not_raised = λ k e f. sym (ap₂ below (old_price_is k e) (other_price_is k e)) ∙ none.first_not_raised k (link_is_listed slots k e) f;
      not_lowered = λ k e f. sym (ap₂ below (other_price_is k e) (old_price_is k e)) ∙ none.second_not_lowered k (link_is_listed slots k e) f;
      costs_equal =
          sym (chosen_cost_list width slots other_price w kept (λ k e. other_price_is k (kept_is_link k e)))
          ∙ ap (λ (a : Wide width). a.0) (none.costs_equal ∙ tree_choice_cost n slots list cheapest.spans (wide width) other_price)
          ∙ other_cost list cheapest.spans;
    }
      where
        exact : (wide width).◌⊕◌ off kept_costs ≡ tree_costs
        exact =
            ap (λ (a : Wide width). (wide width).◌⊕◌ a kept_costs) (same_list (off_is ∙ near ∙ sym concession_is))
            ∙ (wide width).taken_and_added tree_costs kept_costs

        none : NoSlack (wide width) (listed list) kept other_price (wide_left width left 0) (length slots)
        none = nearest_keeping_the_tree (wide width) n slots Q.proper other_price list is_cheapest kept as_many entered (wide_left width left 0) exact
