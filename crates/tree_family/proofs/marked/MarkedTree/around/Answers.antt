use Rattle.std.proofs.Common.{ℕ, List, Decides, sym, ap, ◌∙◌, subst}
use Rattle.stations.specs.Sets.{has}
use Rattle.digraph.specs.Paths.{Path}
use Rattle.digraph.specs.Search.{reach_set}
use Rattle.tree_shape.specs.Shapes.{tree_in}
use Rattle.tree_family.specs.Choices.{around}
use Rattle.tree_family.specs.Meanings.{StepBeside}
use Rattle.tree_family.proofs.Pathways.{around_by_paths}
use Rattle.tree_family.proofs.marked.MarkedTree.around.Goals as goal

pub returns : goal.returns
returns c =
    let t = tree_in c.args.self.now.shape.now in
    let v = c.args.station in
    let is = c.reached.ensures.value ∙ ap (λ (m : List ℕ). reach_set m v) c.beside.ensures in
    record {
      value = is;
      paths = λ h marks u asked same.
          subst (λ (set : ℕ). Decides (has set u) (Path (StepBeside t h marks v) u v)) (sym (is ∙ ap (λ (m : List ℕ). around t m v) same)) (around_by_paths t h marks v asked u);
    }
