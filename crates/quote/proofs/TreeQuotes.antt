-- The family of an installed tree is one that the stages can work with: its laws, that links enter every
-- member, and what is known of the tree's links and their prices.
use Rattle.std.proofs.Common.{◌≡◌, ℕ, ◌<◌, ◌≤◌, true, not, eqb, List, [], length, get_or, replicate, ℤ, is_some, Some, None, refl, ap, ⊎_elim, arith}
use Rattle.std.proofs.lemmas.List.{get_or-replicate}
use Rattle.std.proofs.lemmas.Bool.{and_parts}
use Rattle.amount.specs.Parts.{below, nothing, within}
use Rattle.cuts.proofs.TreeFamily.{tree_link, tree_member_not_empty, tree_member_and, tree_member_or}
use Rattle.digraph.specs.Trees.{SpanningTree}
use Rattle.duality.specs.Trees.{is_link}
use Rattle.duality.proofs.Entering.{entering_is_listed}
use Rattle.sheet.specs.Calls.{priced}
use Rattle.sheet.specs.Held.{Held}
use Rattle.sheet.specs.Sound.{Sound}
use Rattle.stages.proofs.Asking.{LawfulFamily, lawful_of}
use Rattle.stages.proofs.Lawful.{Lawful, some_or_none, link_is_placed}
use Rattle.tree_family.specs.Choices.{tree_smallest, tree_largest}
use Rattle.tree_family.specs.Members.{Member}
use Rattle.tree_family.specs.Largest.{tree_largest_found, tree_largest_none}
use Rattle.tree_family.specs.Smallest.{tree_smallest_found, tree_smallest_none}
use Rattle.tree_shape.specs.Trees.{tree_of}
use Rattle.tree_shape.proofs.Planted.{planted_tree}
use Rattle.quote.specs.Quotes.{quote_asked}
use Rattle.quote.specs.Trees.{shown}

module _ (h : Held) (sound : Sound h) (planted : is_some h.tree ≡ true) where
  pub tree : SpanningTree h.stations h.links (tree_of h)
  tree = planted_tree h sound planted

  pub tree_laws : LawfulFamily h.stations (Member h) (tree_smallest h) (tree_largest h)
  tree_laws =
      record {
        inside = λ X m. m.0;
        some = λ X m e. let some = (tree_member_not_empty h.stations h.links (tree_of h) X m).2 in omega arith;
        common_part = tree_member_and h.stations h.links (tree_of h) tree;
        union = tree_member_or h.stations h.links (tree_of h) tree;
        smallest_found = λ other marks X right same e. tree_smallest_found h other sound tree right same marks X e;
        smallest_none = λ other marks X right same e m. tree_smallest_none h other sound tree right same marks X e m;
        largest_found = λ other marks X right same e. tree_largest_found h other sound tree right same marks X e;
        largest_none = λ other marks X right same e m. tree_largest_none h other sound tree right same marks X e m;
      }

  -- the tree itself enters every member
  pub none_left_out : tree_smallest h h (replicate 200 1) ≡ None
  none_left_out = ⊎_elim (λ (X, e). absurd (entered X e)) (λ none. none) (some_or_none (tree_smallest h h (replicate 200 1)))
    where
      entered : (X : ℕ) → tree_smallest h h (replicate 200 1) ≡ Some X → ⊥
      entered X e =
          let found = tree_smallest_found h h sound tree sound refl (replicate 200 1) X e in
          let (i, (within, enters)) = tree_link h.stations h.links (tree_of h) X found.member in
          let k = get_or (tree_of h) i 0 in
          let small : k < 200 = omega (arith, entering_is_listed h.links k X enters, sound.sized) in
          found.unentered (k, ap (λ m. not (eqb m 0)) (get_or-replicate 200 k 1 0 small), enters)

  pub tree_is_short : length (tree_of h) ≤ 39
  tree_is_short = omega (arith, tree.one_fewer, sound.few)

  pub tree_link_placed : (i : ℕ) → i < length (tree_of h) → get_or (tree_of h) i 0 < 200
  tree_link_placed i l = omega (arith, link_is_placed h.links (get_or (tree_of h) i 0) (tree.of_links i l), sound.sized)

  module _ (width : ℕ) (column : List (List ℤ)) (sized : length column ≡ 200) (legal_all : priced h.links column ≡ true)
      (wide : (k : ℕ) → k < 200 → length (get_or column k []) ≡ width) where
    pub tree_lawful : Lawful h.stations (quote_asked width h column) (Member h)
    tree_lawful = lawful_of width h column h.stations (Member h) (tree_smallest h) (tree_largest h) sound tree_laws refl sized legal_all wide none_left_out

    pub link_price_small : (k : ℕ) → is_link h.links k ≡ true → within 100000 (shown column k) ≡ true
    link_price_small k link =
        let p = get_or column k [] in
        (and_parts (not (below p (nothing (length p)))) (within 100000 p) (tree_lawful.price_legal k link)).1
