-- What a quote leaves keeps the tree by just the concession, and no list of prices does for less: the
-- stages are read as those of the general theory, and its two theorems at the columns that the code has.
use Rattle.std.proofs.Common.{◌≡◌, ℕ, ◌<◌, Bool, true, cond, List, [], length, get_or, ℤ, is_some, sym, refl, ap, ◌∙◌, subst, ap₂, arith}
use Rattle.amount.specs.Parts.{minus, below, nothing}
use Rattle.cuts.specs.Families.{listed}
use Rattle.digraph.specs.Entering.{marked}
use Rattle.digraph.specs.Trees.{SpanningTree}
use Rattle.duality.specs.Costs.{cost_of}
use Rattle.duality.specs.Families.{Covering}
use Rattle.duality.specs.Trees.{is_link, cost_of_list, revised, concession, TreeKept, Quoted}
use Rattle.duality.proofs.ListedTrees.{quote_keeps_the_tree, deviates_by_the_concession}
use Rattle.sheet.specs.Calls.{priced}
use Rattle.sheet.specs.Held.{Held}
use Rattle.sheet.specs.Sound.{Sound}
use Rattle.stages.specs.Asked.{Asked, price_of}
use Rattle.stages.specs.Packing.{left_of, left_after, set_at, amount_at}
use Rattle.stages.specs.Done.{Done}
use Rattle.stages.specs.Theorems.{cost_in_force}
use Rattle.stages.proofs.Lawful.{Lawful, link_is_placed}
use Rattle.stages.proofs.Lefts.{left_of_first, packed_stage}
use Rattle.stages.proofs.Takes.{wanting, link_taken, taken_stage, kept_of_taken, kept_covers, cost_at_first}
use Rattle.tree_family.specs.Members.{Member}
use Rattle.tree_shape.specs.Trees.{tree_of}
use Rattle.quote.specs.Quotes.{quote_asked, revised_price, tree_cost}
use Rattle.quote.specs.Trees.{shown, NoSmallerConcession, KeepsTheTree}
use Rattle.quote.proofs.Differences.{list_cost_same, deviation_same}
use Rattle.quote.proofs.TreeQuotes.{tree, tree_lawful}

module _ (h : Held) (sound : Sound h) (planted : is_some h.tree ≡ true) (width : ℕ) (column : List (List ℤ)) (sized : length column ≡ 200)
    (legal_all : priced h.links column ≡ true) (wide : (k : ℕ) → k < 200 → length (get_or column k []) ≡ width)
    (sets : ℕ) (marks : List ℕ) (done : Done (quote_asked width h column) sets marks) where
  a : Asked
  a = quote_asked width h column

  L : Lawful h.stations (quote_asked width h column) (Member h)
  L = tree_lawful h sound planted width column sized legal_all wide

  -- what is left of each link before set i, as a function
  abbrev left : ℕ → ℕ → List ℤ
  left i k = left_of (left_after (quote_asked width h column) i) k

  abbrev kept : ℕ → Bool
  kept = marked marks

  quoted : Quoted width h.stations h.links (tree_of h) sets (set_at (quote_asked width h column)) (amount_at (quote_asked width h column)) left
      done.turns (link_taken h.stations (quote_asked width h column) (Member h) L sets done.packed) (wanting h.stations (quote_asked width h column) (Member h) L sets done.packed) kept
  quoted =
      record {
        proper = sound.proper;
        spans = tree h sound planted;
        packed = packed_stage h.stations (quote_asked width h column) (Member h) L sets done.packed.before;
        taken = taken_stage h.stations (quote_asked width h column) (Member h) L sets done.packed done.turns done.took.before;
        of_taken = λ k e. kept_of_taken h.stations (quote_asked width h column) (Member h) L sets done.packed done.turns done.took.before k (subst (λ m. marked m k ≡ true) done.kept e);
        covers = subst (λ m. Covering h.links (Member h) (marked m)) (sym done.kept) (kept_covers h.stations (quote_asked width h column) (Member h) L sets done.packed done.turns done.took.before done.took.none);
      }

  placed : (k : ℕ) → is_link h.links k ≡ true → k < 200
  placed k link = omega (arith, link_is_placed h.links k link, sound.sized)

  -- at a link the first remainder, the price in force and the column are the same
  price_is : (k : ℕ) → is_link h.links k ≡ true → left 0 k ≡ price_of (quote_asked width h column) k
  price_is k link = left_of_first (quote_asked width h column) k (placed k link)

  column_is : (k : ℕ) → is_link h.links k ≡ true → left 0 k ≡ shown column k
  column_is k link = price_is k link ∙ ap (λ b. cond b (get_or column k []) (nothing width)) link

  tree_cost_is : cost_of_list width (left 0) (tree_of h) ≡ tree_cost width h column
  tree_cost_is =
      list_cost_same width (left 0) (price_of (quote_asked width h column)) (tree_of h) (λ i l. price_is (get_or (tree_of h) i 0) ((tree h sound planted).of_links i l))

  cover_cost_is : cost_of width h.links (left 0) kept ≡ cost_in_force (quote_asked width h column) kept
  cover_cost_is = cost_at_first h.stations (quote_asked width h column) (Member h) L sets done.packed kept

  module _ (cost paid : List ℤ) (cost_is : cost ≡ cost_in_force (quote_asked width h column) kept) (paid_is : paid ≡ minus (tree_cost width h column) cost) where
    concession_is : concession width h.links (left 0) (tree_of h) kept ≡ paid
    concession_is = ap₂ minus tree_cost_is (cover_cost_is ∙ sym cost_is) ∙ sym paid_is

    pub no_smaller_concession : NoSmallerConcession width h column paid
    no_smaller_concession prices price_list cheapest =
        sym (ap₂ below (deviation_same width h.links prices (left 0) prices (shown column) (λ k link. refl) column_is) concession_is)
        ∙ deviates_by_the_concession width h.stations h.links (tree_of h) sets (set_at (quote_asked width h column)) (amount_at (quote_asked width h column)) left
        done.turns (link_taken h.stations (quote_asked width h column) (Member h) L sets done.packed) (wanting h.stations (quote_asked width h column) (Member h) L sets done.packed) kept quoted
        prices price_list (record { spans = tree h sound planted; no_less = cheapest })

    module _ (new : List (List ℤ)) (written : (k : ℕ) → is_link h.links k ≡ true → shown new k ≡ revised_price width h column sets k) where
      theory : TreeKept width h.stations h.links (tree_of h) (left 0) (revised (tree_of h) (left 0) (left sets)) (cost_of width h.links (left 0) kept)
      theory =
          quote_keeps_the_tree width h.stations h.links (tree_of h) sets (set_at (quote_asked width h column)) (amount_at (quote_asked width h column)) left
          done.turns (link_taken h.stations (quote_asked width h column) (Member h) L sets done.packed) (wanting h.stations (quote_asked width h column) (Member h) L sets done.packed) kept quoted

      new_is : (k : ℕ) → is_link h.links k ≡ true → shown new k ≡ revised (tree_of h) (left 0) (left sets) k
      new_is k link = written k link ∙ ap (λ (p : List ℤ). cond (listed (tree_of h) k) (minus p (left sets k)) p) (sym (price_is k link))

      new_cost : (other : List ℕ) → SpanningTree h.stations h.links other → cost_of_list width (shown new) other ≡ cost_of_list width (revised (tree_of h) (left 0) (left sets)) other
      new_cost other spans = list_cost_same width (shown new) (revised (tree_of h) (left 0) (left sets)) other (λ i l. new_is (get_or other i 0) (spans.of_links i l))

      pub keeps_the_tree : KeepsTheTree width h column new paid
      keeps_the_tree =
          record {
            cheapest = λ other spans. ap₂ below (new_cost other spans) (new_cost (tree_of h) (tree h sound planted)) ∙ theory.cheapest.no_less other spans;
            deviates =
                deviation_same width h.links (shown new) (shown column) (revised (tree_of h) (left 0) (left sets)) (left 0) new_is (λ k link. sym (column_is k link))
                ∙ theory.deviates ∙ concession_is;
          }
