-- Where a spanning tree is cheapest, at any amounts, as many links that enter every set which the tree enters once cost no less than it.
-- With all amounts raised alike, a tight tree exists; the two together enter each of its sets twice, and it costs no less than the first.
use Rattle.std.proofs.Common.{◌≡◌, ℕ, zero, suc, ◌+◌, ◌<◌, ◌≤◌, Bool, true, false, cond, List, length, sym, refl, ap, ◌∙◌, subst, ap₂, arith}
use native.Mathlib.Decide.{ℕ_discrete}
use Rattle.digraph.specs.Entering.{enters_at}
use Rattle.digraph.specs.Links.{Slots, Proper}
use Rattle.digraph.specs.Trees.{SpanningTree}
use Rattle.cuts.specs.Entries.{entries as list_entries}
use Rattle.cuts.specs.Families.{FeedMember, TreeMember, listed}
use Rattle.cuts.proofs.EntryCounts.{entries→entered_by}
use Rattle.cuts.proofs.TreeEntries.{tree_enters_feed_member}
use Rattle.duality.specs.Entries.{count_sum, single, entries}
use Rattle.duality.proofs.Amounts.{Amounts, plus_mono, plus_not_below_nothing, not_below_itself}
use Rattle.duality.proofs.Sums.{sum, times, sum_cong, sum_plus, times_add, times_plus, times_count_sum, count_sum_cong, count_sum_plus}
use Rattle.duality.proofs.WeakDuality.{cost, choice_cost, cost_of_choice, entered_twice_costs_twice}
use Rattle.duality.proofs.Steps.{one_more}
use Rattle.duality.proofs.Listings.{often, list_cost, tree_count, tree_entries, tree_cost, tree_choice_cost}
use Rattle.duality.proofs.Deviations.{apart, apart_not_below_nothing, apart_reaches, NoSlack, deviation_not_below_difference, nearest_has_no_slack}
use Rattle.duality.proofs.FeedTrees.{TightTree, tight_tree}

-- a spanning tree that no spanning tree costs less than
pub record CheapestTreeAt (G : Amounts) (n : ℕ) (slots : Slots) (w : ℕ → G.Amount) (list : List ℕ) : Type 0 where
  pub spans : SpanningTree n slots list
  pub no_less : (other : List ℕ) → SpanningTree n slots other → G.below (list_cost G w other) (list_cost G w list) ≡ false

module _ (G : Amounts) where
  open G use {Amount, ◌⊕◌, 𝟘, below, associative, commutative, translation}

  infixl 65 ◌⊕◌
  -- ---- amounts raised alike

  -- an amount that brings each of the first m to nothing or more
  pub raise : (w : ℕ → Amount) (m : ℕ) → (a : Amount) × (below a 𝟘 ≡ false) × ((k : ℕ) → k < m → below (w k ⊕ a) 𝟘 ≡ false)
  raise w zero = (𝟘, not_below_itself G 𝟘 𝟘 refl, λ k h. absurd (omega arith))
  raise w (suc m) =
      let t = raise w m in (
        t.0 ⊕ apart G (w m) 𝟘,
        plus_not_below_nothing G t.0 (apart G (w m) 𝟘) t.1 (apart_not_below_nothing G (w m) 𝟘),
        one_more (λ k. below (w k ⊕ (t.0 ⊕ apart G (w m) 𝟘)) 𝟘 ≡ false) m
            (λ k h.
            subst (λ (x : Amount). below x 𝟘 ≡ false) (associative (w k) t.0 (apart G (w m) 𝟘))
            (plus_not_below_nothing G (w k ⊕ t.0) (apart G (w m) 𝟘) (t.2 k h) (apart_not_below_nothing G (w m) 𝟘)))
            (subst (λ (x : Amount). below x 𝟘 ≡ false) (last_first t.0 (apart G (w m) 𝟘) (w m))
            (plus_not_below_nothing G t.0 (apart G (w m) 𝟘 ⊕ w m) t.1 (apart_reaches G (w m) 𝟘))),
      )
    where
      last_first : (x y z : Amount) → x ⊕ (y ⊕ z) ≡ z ⊕ (x ⊕ y)
      last_first x y z = sym (associative x y z) ∙ commutative (x ⊕ y) z

  pub cost_raised : (slots : Slots) (w : ℕ → Amount) (a : Amount) (r : ℕ → ℕ)
      → cost G slots (λ k. w k ⊕ a) r ≡ cost G slots w r ⊕ times G (count_sum r (length slots)) a
  cost_raised slots w a r =
      sum_cong G (λ k. times G (r k) (w k ⊕ a)) (λ k. times G (r k) (w k) ⊕ times G (r k) a) (length slots) (λ k h. times_plus G (r k) (w k) a)
      ∙ sum_plus G (λ k. times G (r k) (w k)) (λ k. times G (r k) a) (length slots)
      ∙ ap (λ (x : Amount). cost G slots w r ⊕ x) (sym (times_count_sum G r (length slots) a))

  -- as many links keep their order when all amounts are raised alike
  pub order_kept_raised : (slots : Slots) (w : ℕ → Amount) (a : Amount) (r s : ℕ → ℕ) → count_sum r (length slots) ≡ count_sum s (length slots)
      → below (cost G slots (λ k. w k ⊕ a) r) (cost G slots (λ k. w k ⊕ a) s) ≡ below (cost G slots w r) (cost G slots w s)
  order_kept_raised slots w a r s same =
      ap₂ below (cost_raised slots w a r ∙ ap (λ (x : ℕ). cost G slots w r ⊕ times G x a) same) (cost_raised slots w a s)
      ∙ translation (cost G slots w r) (cost G slots w s) (times G (count_sum s (length slots)) a)

  -- ---- links counted together

  pub cost_of_both : (slots : Slots) (w : ℕ → Amount) (r s : ℕ → ℕ) → cost G slots w (λ k. r k + s k) ≡ cost G slots w r ⊕ cost G slots w s
  cost_of_both slots w r s =
      sum_cong G (λ k. times G (r k + s k) (w k)) (λ k. times G (r k) (w k) ⊕ times G (s k) (w k)) (length slots) (λ k h. times_add G (r k) (s k) (w k))
      ∙ sum_plus G (λ k. times G (r k) (w k)) (λ k. times G (s k) (w k)) (length slots)

pub entries_of_both : (slots : Slots) (r s : ℕ → ℕ) (X : ℕ) → entries slots (λ k. r k + s k) X ≡ entries slots r X + entries slots s X
entries_of_both slots r s X =
    count_sum_cong (λ k. cond (enters_at slots k X) (r k + s k) 0) (λ k. cond (enters_at slots k X) (r k) 0 + cond (enters_at slots k X) (s k) 0) (length slots)
    (λ k h. shared (enters_at slots k X) (r k) (s k))
    ∙ count_sum_plus (λ k. cond (enters_at slots k X) (r k) 0) (λ k. cond (enters_at slots k X) (s k) 0) (length slots)
  where
    shared : (b : Bool) (x y : ℕ) → cond b (x + y) 0 ≡ cond b x 0 + cond b y 0
    shared true x y = refl
    shared false x y = omega arith

-- links that enter every set which the tree enters once, and the tree, enter every set without the base twice
tree_and_cover_enter_twice : (n : ℕ) (slots : Slots) (list : List ℕ) → SpanningTree n slots list → (r : ℕ → ℕ)
    → ((X : ℕ) → TreeMember n slots list X → 1 ≤ entries slots r X) → (X : ℕ) → FeedMember n X → 2 ≤ entries slots (λ k. often list k + r k) X
tree_and_cover_enter_twice n slots list tree r covers X member = go (ℕ_discrete (list_entries slots list X) 1)
  where
    go : Dec (list_entries slots list X ≡ 1) → 2 ≤ entries slots (λ k. often list k + r k) X
    go (yes e) = omega (arith, entries_of_both slots (often list) r X, tree_entries n slots list tree X, covers X (member.0, member.1, e))
    go (no ne) =
        omega (arith, entries_of_both slots (often list) r X, tree_entries n slots list tree X, tree_enters_feed_member n slots list X tree member)

module _ (G : Amounts) (n : ℕ) (slots : Slots) (proper : Proper n slots) (w : ℕ → G.Amount) (list : List ℕ) (cheapest : CheapestTreeAt G n slots w list) where
  open G use {Amount, ◌⊕◌, 𝟘, below, commutative, not_below_transitive, translation}

  infixl 65 ◌⊕◌
  -- some link enters each set without the base
  tree_enters_by : (X : ℕ) → FeedMember n X → (k : ℕ) × (enters_at slots k X ≡ true)
  tree_enters_by X member =
      let t = entries→entered_by slots list (λ k. true) X (λ i h. refl) (tree_enters_feed_member n slots list X cheapest.spans member) in (t.0, t.2)

  module _ (r : ℕ → ℕ) (as_many : count_sum r (length slots) + 1 ≡ n) (covers : (X : ℕ) → TreeMember n slots list X → 1 ≤ entries slots r X) where
    pub cover_costs_no_less : below (cost G slots w r) (cost G slots w (often list)) ≡ false
    cover_costs_no_less =
        sym (order_kept_raised G slots w lift.0 r (often list) (omega (arith, tree_count n slots list cheapest.spans)))
        ∙ halved (cost G slots raised (often list)) (cost G slots raised r) (cost G slots raised (often t.tree)) twice no_less
      where
        lift : (a : Amount) × (below a 𝟘 ≡ false) × ((k : ℕ) → k < length slots → below (w k ⊕ a) 𝟘 ≡ false)
        lift = raise G w (length slots)

        raised : ℕ → Amount
        raised k = w k ⊕ lift.0

        t : TightTree G n slots raised
        t = tight_tree G n slots (omega (arith, cheapest.spans.one_fewer)) proper tree_enters_by raised lift.2

        -- the tight tree costs no less than the tree
        no_less : below (cost G slots raised (often t.tree)) (cost G slots raised (often list)) ≡ false
        no_less =
            order_kept_raised G slots w lift.0 (often t.tree) (often list)
            (omega (arith, tree_count n slots t.tree t.spans, tree_count n slots list cheapest.spans))
            ∙ ap₂ below (tree_cost n slots t.tree t.spans G w) (tree_cost n slots list cheapest.spans G w)
            ∙ cheapest.no_less t.tree t.spans

        -- the tree and the cover cost no less than the tight tree twice
        twice : below (cost G slots raised (often list) ⊕ cost G slots raised r)
            (cost G slots raised (often t.tree) ⊕ cost G slots raised (often t.tree)) ≡ false
        twice =
            sym (ap₂ below (cost_of_both G slots raised (often list) r) (ap₂ ◌⊕◌ (sym t.costs) (sym t.costs)))
            ∙ entered_twice_costs_twice G slots t.p t.Z t.y raised (λ k. often list k + r k) t.amounts t.within
            (λ i h. tree_and_cover_enter_twice n slots list cheapest.spans r covers (t.Z i) (t.member i h))

        halved : (f c s : Amount) → below (f ⊕ c) (s ⊕ s) ≡ false → below s f ≡ false → below c f ≡ false
        halved f c s h g =
            sym (translation c f f)
            ∙ subst (λ (x : Amount). below x (f ⊕ f) ≡ false) (commutative f c)
            (not_below_transitive (f ⊕ c) (s ⊕ s) (f ⊕ f) h (plus_mono G f s f s g g))

  -- ---- against prices v

  module _ (L : ℕ → Bool) (as_many : count_sum (single L) (length slots) + 1 ≡ n)
      (covers : (X : ℕ) → TreeMember n slots list X → 1 ≤ entries slots (single L) X) (v : ℕ → Amount) where
    chosen_cost_no_less : below (choice_cost G slots w L) (choice_cost G slots w (listed list)) ≡ false
    chosen_cost_no_less =
        sym (ap₂ below (cost_of_choice G slots w L)
        (tree_cost n slots list cheapest.spans G w ∙ sym (tree_choice_cost n slots list cheapest.spans G w)))
        ∙ cover_costs_no_less (single L) as_many covers

    pub keeping_the_tree_deviates :
        below (sum G (λ k. apart G (w k) (v k)) (length slots) ⊕ choice_cost G slots v L) (list_cost G v list) ≡ false
    keeping_the_tree_deviates =
        subst (λ (x : Amount). below (sum G (λ k. apart G (w k) (v k)) (length slots) ⊕ choice_cost G slots v L) x ≡ false)
        (tree_choice_cost n slots list cheapest.spans G v)
        (deviation_not_below_difference G (listed list) L w v (length slots) chosen_cost_no_less)

    pub nearest_keeping_the_tree :
        sum G (λ k. apart G (w k) (v k)) (length slots) ⊕ choice_cost G slots v L ≡ list_cost G v list → NoSlack G (listed list) L w v (length slots)
    nearest_keeping_the_tree nearest =
        nearest_has_no_slack G (listed list) L w v (length slots) chosen_cost_no_less
        (nearest ∙ sym (tree_choice_cost n slots list cheapest.spans G v))
