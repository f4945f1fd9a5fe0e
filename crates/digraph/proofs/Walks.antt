-- A path goes over to other steps, and so does a spanning tree to another table that has the same
-- links at the tree's numbers. Both by going along the path.
use Rattle.std.proofs.Common.{◌≡◌, ℕ, ◌<◌, List, length, get_or, is_some, sym, ap, ◌∙◌}
use Rattle.digraph.specs.Links.{Slots, link_at}
use Rattle.digraph.specs.Paths.{Path, stay, step}
use Rattle.digraph.specs.Trees.{SpanningTree}

pub path_by_other_steps : {E F : ℕ → ℕ → Type 0} {s v : ℕ} → ((a b : ℕ) → E a b → F a b) → Path E s v → Path F s v
path_by_other_steps f stay = stay
path_by_other_steps f (step {u = u} {v = v} p e) = step (path_by_other_steps f p) (f u v e)

pub spanning_tree_of_same_links
    : (n : ℕ) (slots other : Slots) (list : List ℕ)
    → ((i : ℕ) → i < length list → link_at slots (get_or list i 0) ≡ link_at other (get_or list i 0))
    → SpanningTree n slots list
    → SpanningTree n other list
spanning_tree_of_same_links n slots other list same t =
    record {
      one_fewer = t.one_fewer;
      of_links = λ i h. ap is_some (sym (same i h)) ∙ t.of_links i h;
      reaches = λ v h. path_by_other_steps (λ a b (i, j, e). (i, j, sym (same i j) ∙ e)) (t.reaches v h);
    }
