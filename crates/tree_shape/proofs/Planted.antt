-- A sheet with an installed tree has a spanning tree: what the sheet keeps of its tree, read off for `tree_of`; and how the tree's list
-- tells whether a number is one of the tree.
use Rattle.std.proofs.Common.{◌≡◌, ℕ, ◌<◌, Bool, true, ◌||◌, eqb, List, [], ◌∷◌, length, get_or, is_some, Some, None, Option, unwrap_or, sym, refl, ap, ◌∙◌, subst}
use Rattle.std.proofs.lemmas.Bool.{false≢true}
use Rattle.digraph.specs.Trees.{SpanningTree}
use Rattle.sheet.specs.Calls.{listed as in_list, in_tree}
use Rattle.sheet.specs.Held.{Held}
use Rattle.sheet.specs.Sound.{Sound}
use Rattle.cuts.specs.Families.{listed}
use Rattle.cuts.proofs.ShownTrees.{shown_tree}
use Rattle.cuts.proofs.TreeExtremes.{place→listed, listed→place}
use Rattle.tree_shape.specs.Trees.{tree_of}

pub planted_tree : (t : Held) → Sound t → is_some t.tree ≡ true → SpanningTree t.stations t.links (tree_of t)
planted_tree t sound some = shown_tree t.stations t.links (tree_of t) sound.proper (go t.tree refl some)
  where
    go : (o : Option (List ℕ)) → t.tree ≡ o → is_some o ≡ true → ∥ SpanningTree t.stations t.links (unwrap_or t.tree []) ∥₁
    go None e q = absurd (false≢true q)
    go (Some list) e q = subst (λ (o : Option (List ℕ)). ∥ SpanningTree t.stations t.links (unwrap_or o []) ∥₁) (sym e) (sound.spans list e)

in_list_is_listed : (k : ℕ) (list : List ℕ) → in_list k list ≡ listed list k
in_list_is_listed k [] = refl
in_list_is_listed k (x ∷ xs) = ap (λ (b : Bool). eqb x k || b) (in_list_is_listed k xs)

pub in_tree→place : (t : Held) (k : ℕ) → in_tree t k ≡ true → (i : ℕ) × (i < length (tree_of t)) × (get_or (tree_of t) i 0 ≡ k)
in_tree→place t k e = listed→place (tree_of t) k (sym (in_list_is_listed k (tree_of t)) ∙ e)

pub place→in_tree : (t : Held) (i : ℕ) → i < length (tree_of t) → in_tree t (get_or (tree_of t) i 0) ≡ true
place→in_tree t i h = in_list_is_listed (get_or (tree_of t) i 0) (tree_of t) ∙ place→listed (tree_of t) i h
