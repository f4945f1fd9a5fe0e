-- For any prices not below nothing there are amounts on sets without the base that no price is exceeded by, and a spanning tree that costs just them.
-- The two stages, at the sets that have a station but not the base: the links taken have different heads, so they are a spanning tree.
use Rattle.std.proofs.Common.{◌≡◌, ℕ, ◌-◌, ◌<◌, ◌≤◌, true, false, cond, List, length, get_or, is_some, sym, ap, ◌∙◌, subst, arith}
use Rattle.digraph.specs.Entering.{enters_at}
use Rattle.digraph.specs.Links.{Slots, link_at, Leads, Proper}
use Rattle.digraph.specs.Trees.{SpanningTree}
use Rattle.cuts.specs.Entries.{entries as list_entries}
use Rattle.cuts.specs.Families.{FeedMember}
use Rattle.cuts.proofs.EntryCounts.{enters→is_link}
use Rattle.cuts.proofs.Extremes.{feed_entered_or_least, feed_entered_or_greatest}
use Rattle.cuts.proofs.FeedFamily.{not_empty→In, feed_member_station, feed_member_and, feed_member_or}
use Rattle.cuts.proofs.TreeEntries.{distinct_heads→spanning_tree, tree_enters_feed_member}
use Rattle.duality.specs.Entries.{single}
use Rattle.duality.specs.Families.{Family}
use Rattle.duality.proofs.Amounts.{Amounts}
use Rattle.duality.proofs.Sums.{sum, sum_cong, times, count_sum_cong}
use Rattle.duality.proofs.Entering.{head_at, leads_head}
use Rattle.duality.proofs.WeakDuality.{load, cost, cost_of_choice, choice_cost, entered_costs_at_least}
use Rattle.duality.proofs.Packing.{amount_not_below_nothing, load_within_price}
use Rattle.duality.proofs.Taking.{Taking, taken, links_differ}
use Rattle.duality.proofs.Covers.{entered_counts, taken_cost_the_amounts}
use Rattle.duality.proofs.Singles.{OneLinkEach, one_link_each}
use Rattle.duality.proofs.StagesExist.{Answers, FirstStage, SecondStage, first_stage, second_stage}
use Rattle.duality.proofs.Listings.{often, AllBelow, listing, length_listing, place_in_listing, often_in_listing, entries_of_list, cost_of_equal_counts, link_is_listed, tree_entries}

pub feed_family : (n : ℕ) → Family n (FeedMember n)
feed_family n = record {
  not_empty = λ X m. not_empty→In X m.2;
  inside = λ X m. m.0;
  meet = feed_member_and n;
  union = feed_member_or n;
}

pub feed_answers : (n : ℕ) (slots : Slots) → Answers slots (FeedMember n)
feed_answers n slots = record { smallest = feed_entered_or_least n slots; largest = feed_entered_or_greatest n slots }

-- amounts y on p sets Z without the base, and a spanning tree that costs just them
pub record TightTree (G : Amounts) (n : ℕ) (slots : Slots) (prices : ℕ → G.Amount) : Type 0 where
  pub p : ℕ
  pub Z : ℕ → ℕ
  pub y : ℕ → G.Amount
  pub member : (i : ℕ) → i < p → FeedMember n (Z i)
  pub amounts : (i : ℕ) → i < p → G.below (y i) G.𝟘 ≡ false
  pub within : (k : ℕ) → k < length slots → G.below (prices k) (load G slots Z y p k) ≡ false
  pub tree : List ℕ
  pub spans : SpanningTree n slots tree
  pub costs : cost G slots prices (often tree) ≡ sum G y p

module _ (G : Amounts) (n : ℕ) (slots : Slots) (some : 1 ≤ n) (proper : Proper n slots) where
  open G use {Amount, 𝟘, below}

  -- the links that a second stage takes for such sets
  module _ (p : ℕ) (c : ℕ → ℕ → Amount) (q : ℕ) (l M : ℕ → ℕ) (T : Taking G slots (FeedMember n) p c q l M)
      (covers : (X : ℕ) → FeedMember n X → (k : ℕ) × (taken q l k ≡ true) × (enters_at slots k X ≡ true)) where
    each : OneLinkEach slots n (taken q l) q l
    each = one_link_each G slots (FeedMember n) n (feed_family n) p c q l M T (taken q l) (λ k e. e) covers (feed_member_station n)
        (λ X m at. omega (arith, m.1))

    differ : (t u : ℕ) → t < q → u < q → l t ≡ l u → t ≡ u
    differ = links_differ G slots (FeedMember n) n (feed_family n) p c q l M T

    is_a_link : (i : ℕ) → i < length (listing l q) → is_some (link_at slots (get_or (listing l q) i 0)) ≡ true
    is_a_link i h =
        subst (λ (x : ℕ). is_some (link_at slots x) ≡ true) (sym (place_in_listing l q i (omega (arith, length_listing l q))))
        (enters→is_link slots (l (q - 1 - i)) (M (q - 1 - i)) (T.enters (q - 1 - i) (omega (arith, length_listing l q))))

    -- the head of the link at a place of the list
    head_at_place : (i s v : ℕ) → i < length (listing l q) → Leads slots (get_or (listing l q) i 0) s v → head_at slots (l (q - 1 - i)) ≡ v
    head_at_place i s v h leads =
        ap (head_at slots) (sym (place_in_listing l q i (omega (arith, length_listing l q)))) ∙ leads_head slots (get_or (listing l q) i 0) {u = s} {v = v} leads

    taken_below : AllBelow (length slots) (listing l q)
    taken_below i h = link_is_listed slots (get_or (listing l q) i 0) (is_a_link i h)

    entered : (X : ℕ) → FeedMember n X → 1 ≤ list_entries slots (listing l q) X
    entered X m =
        omega (
          arith,
          entries_of_list slots X (listing l q) taken_below,
          count_sum_cong (λ k. cond (enters_at slots k X) (often (listing l q) k) 0) (λ k. cond (enters_at slots k X) (single (taken q l) k) 0) (length slots)
              (λ k h. ap (λ (x : ℕ). cond (enters_at slots k X) x 0) (often_in_listing l q differ k)),
          entered_counts slots (taken q l) X (covers X m),
        )

    pub taken_links_are_a_tree : SpanningTree n slots (listing l q)
    taken_links_are_a_tree =
        distinct_heads→spanning_tree n slots (listing l q) proper entered some is_a_link
        (λ i j s t v h g a b.
        let same = each.only_one (q - 1 - i) (q - 1 - j) (omega (arith, length_listing l q)) (omega (arith, length_listing l q))
        (head_at_place i s v h a ∙ sym (head_at_place j t v g b)) in
        omega (arith, length_listing l q))
        (λ u (i, h, leads). omega (arith, head_at_place i u 0 h leads, each.not_into_base (q - 1 - i) (omega (arith, length_listing l q))))

    pub cost_of_taken : (w : ℕ → Amount) → cost G slots w (often (listing l q)) ≡ choice_cost G slots w (taken q l)
    cost_of_taken w =
        cost_of_equal_counts G slots w (often (listing l q)) (single (taken q l)) (λ k h. often_in_listing l q differ k)
        ∙ cost_of_choice G slots w (taken q l)

  -- every set with a station but not the base has a link into it
  pub tight_tree : ((X : ℕ) → FeedMember n X → (k : ℕ) × (enters_at slots k X ≡ true)) → (prices : ℕ → Amount)
      → ((k : ℕ) → k < length slots → below (prices k) 𝟘 ≡ false) → TightTree G n slots prices
  tight_tree enterable prices not_below = record {
    p = one.p;
    Z = one.Z;
    y = one.y;
    member = one.packing.member;
    amounts = amount_not_below_nothing G slots (FeedMember n) one.p one.Z one.y one.c one.packing;
    within = λ k h.
        subst (λ (x : Amount). below x (load G slots one.Z one.y one.p k) ≡ false) (one.from_prices k)
        (load_within_price G slots (FeedMember n) one.p one.Z one.y one.c one.packing one.p k (omega arith) h);
    tree = listing two.l two.q;
    spans = taken_links_are_a_tree one.p one.c two.q two.l two.M two.taking two.covers;
    costs =
        sum_cong G (λ k. times G (often (listing two.l two.q) k) (prices k)) (λ k. times G (often (listing two.l two.q) k) (one.c 0 k)) (length slots)
        (λ k h. ap (times G (often (listing two.l two.q) k)) (sym (one.from_prices k)))
        ∙ cost_of_taken one.p one.c two.q two.l two.M two.taking two.covers (one.c 0)
        ∙ taken_cost_the_amounts G slots (FeedMember n) one.p one.Z one.y one.c one.packing n (feed_family n) two.q two.l two.M two.taking two.covers;
  }
    where
      one : FirstStage G slots (FeedMember n) prices
      one = first_stage G slots (FeedMember n) n (feed_family n) (feed_answers n slots) enterable prices some not_below

      two : SecondStage G slots (FeedMember n) one.p one.c
      two = second_stage G slots (FeedMember n) n (feed_family n) (feed_answers n slots) one.p one.Z one.y one.c one.packing one.ended

-- no spanning tree costs less
pub tight_tree_is_cheapest : (G : Amounts) (n : ℕ) (slots : Slots) (prices : ℕ → G.Amount) (t : TightTree G n slots prices)
    → (list : List ℕ) → SpanningTree n slots list → G.below (cost G slots prices (often list)) (cost G slots prices (often t.tree)) ≡ false
tight_tree_is_cheapest G n slots prices t list tree =
    subst (λ (x : G.Amount). G.below (cost G slots prices (often list)) x ≡ false) (sym t.costs)
    (entered_costs_at_least G slots t.p t.Z t.y prices (often list) t.amounts t.within
    (λ i h. omega (arith, tree_entries n slots list tree (t.Z i), tree_enters_feed_member n slots list (t.Z i) tree (t.member i h))))
