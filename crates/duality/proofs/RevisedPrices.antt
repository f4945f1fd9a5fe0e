-- The tree's own family: with the prices of tree links lowered by what the first stage left of them, the tree is cheapest, and the prices lie just as far off as the tree cost more than the amounts.
-- Each tree link is then tight and each set entered once by the tree; and every spanning tree enters each set.
use Rattle.std.proofs.Common.{◌≡◌, ℕ, ◌+◌, ◌-◌, ◌<◌, Bool, true, false, cond, ◌⊎◌, List, length, sym, refl, ap, ◌∙◌, subst, ap₂, inl, inr, true≢false, arith}
use Rattle.digraph.specs.Links.{Slots}
use Rattle.digraph.specs.Trees.{SpanningTree}
use Rattle.cuts.specs.Families.{TreeMember, listed}
use Rattle.cuts.proofs.FeedFamily.{not_empty→In}
use Rattle.cuts.proofs.TreeEntries.{tree_enters_feed_member}
use Rattle.cuts.proofs.TreeFamily.{tree_member_not_empty, tree_member_and, tree_member_or, tree_member_station}
use Rattle.duality.specs.Entries.{count_sum, one_if, single}
use Rattle.duality.specs.Families.{Family, Covering}
use Rattle.duality.proofs.Amounts.{Amounts, given, nothing_and, cancel, more_with, not_below_itself, added_and_taken}
use Rattle.duality.proofs.Sums.{sum, sum_cong, sum_plus, count_sum_cong}
use Rattle.duality.proofs.Entering.{entering_is_listed}
use Rattle.duality.proofs.WeakDuality.{load, entered_costs_at_least, entered_once_costs_just}
use Rattle.duality.proofs.Packing.{Packing, left_and_load, left_not_below_nothing, load_within_price, amount_not_below_nothing}
use Rattle.duality.proofs.Taking.{Taking, taken, taken_is, links_differ}
use Rattle.duality.proofs.Singles.{OneLinkEach, one_link_each}
use Rattle.duality.proofs.Listings.{often, AllBelow, list_cost, listing, length_listing, place_in_listing, often_in_listing, often_in_all, tree_often, tree_entries, tree_cost, tree_choice_cost}
use Rattle.duality.proofs.Deviations.{apart, apart_from_lower}
use Rattle.duality.proofs.CheapestTrees.{CheapestTreeAt}

pub tree_family : (n : ℕ) (slots : Slots) (list : List ℕ) → SpanningTree n slots list → Family n (TreeMember n slots list)
tree_family n slots list tree = record {
  not_empty = λ X m. not_empty→In X (tree_member_not_empty n slots list X m).2;
  inside = λ X m. m.0;
  meet = tree_member_and n slots list tree;
  union = tree_member_or n slots list tree;
}

-- ---- the tree at its revised prices

-- of a listed link the price less what is left, of another the price
abbrev pub revised : (G : Amounts) → List ℕ → (prices left : ℕ → G.Amount) → ℕ → G.Amount
revised G list prices left k = cond (listed list k) (G.◌⊖◌ (prices k) (left k)) (prices k)

module _ (G : Amounts) (n : ℕ) (slots : Slots) (list : List ℕ) (tree : SpanningTree n slots list)
    (p : ℕ) (Z : ℕ → ℕ) (y : ℕ → G.Amount) (c : ℕ → ℕ → G.Amount) (P : Packing G slots (TreeMember n slots list) p Z y c) where
  open G use {Amount, ◌⊕◌, ◌⊖◌, 𝟘, below, commutative, with_nothing, taken_and_added, irreflexive}

  infixl 65 ◌⊕◌
  infixl 65 ◌⊖◌
  -- the price of a link less what is left is what the sets that it enters have
  used_is_load : (k : ℕ) → k < length slots → c 0 k ⊖ c p k ≡ load G slots Z y p k
  used_is_load k h =
      ap (λ (x : Amount). x ⊖ c p k) (sym (left_and_load G slots (TreeMember n slots list) p Z y c P p k (omega arith) h) ∙ commutative (c p k) (load G slots Z y p k))
      ∙ added_and_taken G (load G slots Z y p k) (c p k)

  pub revised_of_listed : (k : ℕ) → k < length slots → listed list k ≡ true → revised G list (c 0) (c p) k ≡ load G slots Z y p k
  revised_of_listed k h e = ap (λ (b : Bool). cond b (c 0 k ⊖ c p k) (c 0 k)) e ∙ used_is_load k h

  revised_of_other : (k : ℕ) → listed list k ≡ false → revised G list (c 0) (c p) k ≡ c 0 k
  revised_of_other k e = ap (λ (b : Bool). cond b (c 0 k ⊖ c p k) (c 0 k)) e

  -- no revised price is exceeded
  within : (k : ℕ) → k < length slots → below (revised G list (c 0) (c p) k) (load G slots Z y p k) ≡ false
  within k h = go (listed list k) refl
    where
      go : (b : Bool) → listed list k ≡ b → below (revised G list (c 0) (c p) k) (load G slots Z y p k) ≡ false
      go true e = not_below_itself G (revised G list (c 0) (c p) k) (load G slots Z y p k) (revised_of_listed k h e)
      go false e =
          subst (λ (x : Amount). below x (load G slots Z y p k) ≡ false) (sym (revised_of_other k e))
          (load_within_price G slots (TreeMember n slots list) p Z y c P p k (omega arith) h)

  pub revised_tree_cost : list_cost G (revised G list (c 0) (c p)) list ≡ sum G y p
  revised_tree_cost =
      sym (tree_cost n slots list tree G (revised G list (c 0) (c p)))
      ∙ entered_once_costs_just G slots p Z y (revised G list (c 0) (c p)) (often list) (λ k h. tight k h (listed list k) refl)
      (λ i h. tree_entries n slots list tree (Z i) ∙ (P.member i h).2)
    where
      tight : (k : ℕ) → k < length slots → (b : Bool) → listed list k ≡ b → (often list k ≡ 0) ⊎ (load G slots Z y p k ≡ revised G list (c 0) (c p) k)
      tight k h true e = inr (sym (revised_of_listed k h e))
      tight k h false e = inl (tree_often n slots list tree k ∙ ap one_if e)

  -- also if the first stage was stopped early
  pub revised_keep_the_tree : CheapestTreeAt G n slots (revised G list (c 0) (c p)) list
  revised_keep_the_tree = record {
    spans = tree;
    no_less = λ other spans.
        ap₂ below (sym (tree_cost n slots other spans G (revised G list (c 0) (c p)))) revised_tree_cost
        ∙ entered_costs_at_least G slots p Z y (revised G list (c 0) (c p)) (often other)
        (amount_not_below_nothing G slots (TreeMember n slots list) p Z y c P) within
        (λ i h.
        omega (
          arith,
          tree_entries n slots other spans (Z i),
          tree_enters_feed_member n slots other (Z i) spans (tree_member_not_empty n slots list (Z i) (P.member i h)),
        ));
  }

  -- the revised price lies from the price as far as what is left of a listed link
  apart_is_left : (k : ℕ) → k < length slots → apart G (revised G list (c 0) (c p) k) (c 0 k) ≡ given G (listed list k) (c p k)
  apart_is_left k h = go (listed list k)
    where
      left : below (c p k) 𝟘 ≡ false
      left = left_not_below_nothing G slots (TreeMember n slots list) p Z y c P p k (omega arith) h

      go : (b : Bool) → apart G (cond b (c 0 k ⊖ c p k) (c 0 k)) (c 0 k) ≡ given G b (c p k)
      go true =
          cancel G (apart G (c 0 k ⊖ c p k) (c 0 k)) (c p k) (c 0 k ⊖ c p k)
          (apart_from_lower G (c 0 k ⊖ c p k) (c 0 k)
          (subst (λ (x : Amount). below x (c 0 k ⊖ c p k) ≡ false) (taken_and_added (c 0 k) (c p k)) (more_with G (c 0 k ⊖ c p k) (c p k) left))
          ∙ sym (commutative (c p k) (c 0 k ⊖ c p k) ∙ taken_and_added (c 0 k) (c p k)))
      go false =
          cancel G (apart G (c 0 k) (c 0 k)) 𝟘 (c 0 k)
          (apart_from_lower G (c 0 k) (c 0 k) (irreflexive (c 0 k)) ∙ sym (nothing_and G (c 0 k)))

  -- the deviation and the amounts make the cost of the tree
  pub revised_deviate_by : sum G (λ k. apart G (revised G list (c 0) (c p) k) (c 0 k)) (length slots) ⊕ sum G y p ≡ list_cost G (c 0) list
  revised_deviate_by =
      ap₂ ◌⊕◌
      (sum_cong G (λ k. apart G (revised G list (c 0) (c p) k) (c 0 k)) (λ k. given G (listed list k) (c p k)) (length slots) apart_is_left)
      (sym revised_tree_cost ∙ sym (tree_choice_cost n slots list tree G (revised G list (c 0) (c p))))
      ∙ sym (sum_plus G (λ k. given G (listed list k) (c p k)) (λ k. given G (listed list k) (revised G list (c 0) (c p) k)) (length slots))
      ∙ sum_cong G (λ k. given G (listed list k) (c p k) ⊕ given G (listed list k) (revised G list (c 0) (c p) k)) (λ k. given G (listed list k) (c 0 k)) (length slots)
      (λ k h. whole k (listed list k))
      ∙ tree_choice_cost n slots list tree G (c 0)
    where
      whole : (k : ℕ) (b : Bool) → given G b (c p k) ⊕ given G b (cond b (c 0 k ⊖ c p k) (c 0 k)) ≡ given G b (c 0 k)
      whole k true = commutative (c p k) (c 0 k ⊖ c p k) ∙ taken_and_added (c 0 k) (c p k)
      whole k false = with_nothing 𝟘

-- ---- the links that a second stage takes for the tree's family

module _ (G : Amounts) (n : ℕ) (slots : Slots) (list : List ℕ) (tree : SpanningTree n slots list)
    (p : ℕ) (c : ℕ → ℕ → G.Amount) (q : ℕ) (l M : ℕ → ℕ) (T : Taking G slots (TreeMember n slots list) p c q l M)
    (kept : ℕ → Bool) (of_taken : (k : ℕ) → kept k ≡ true → taken q l k ≡ true) (covers : Covering slots (TreeMember n slots list) kept) where
  each : OneLinkEach slots n kept q l
  each = one_link_each G slots (TreeMember n slots list) n (tree_family n slots list tree) p c q l M T kept of_taken covers
      (tree_member_station n slots list tree) (λ X m at. omega (arith, m.1))

  -- all of them are kept
  kept_is_taken : (k : ℕ) → kept k ≡ taken q l k
  kept_is_taken k = go (kept k) (taken q l k) refl refl
    where
      go : (a b : Bool) → kept k ≡ a → taken q l k ≡ b → a ≡ b
      go true b e f = sym (of_taken k e) ∙ f
      go false false e f = refl
      go false true e f =
          let t = taken_is q l k f in
          absurd (true≢false (sym (subst (λ (x : ℕ). kept x ≡ true) t.2 (each.all_kept t.0 t.1)) ∙ e))

  taken_below : AllBelow (length slots) (listing l q)
  taken_below i h =
      let within : q - 1 - i < q = omega (arith, length_listing l q) in
      subst (λ (x : ℕ). x < length slots) (sym (place_in_listing l q i (omega (arith, length_listing l q))))
      (entering_is_listed slots (l (q - 1 - i)) (M (q - 1 - i)) (T.enters (q - 1 - i) within))

  -- so they are one fewer than the stations
  pub kept_are_one_fewer : count_sum (single kept) (length slots) + 1 ≡ n
  kept_are_one_fewer =
      omega (
        arith,
        count_sum_cong (single kept) (often (listing l q)) (length slots)
            (λ k h. ap one_if (kept_is_taken k)
            ∙ sym (often_in_listing l q (links_differ G slots (TreeMember n slots list) n (tree_family n slots list tree) p c q l M T) k)),
        often_in_all (length slots) (listing l q) taken_below,
        length_listing l q,
        each.as_many (omega (arith, tree.one_fewer)),
      )
