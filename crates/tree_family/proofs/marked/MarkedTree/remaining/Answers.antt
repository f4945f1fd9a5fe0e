use Rattle.std.proofs.Common.{ℕ, ◌^◌, ◌<◌, List, Decides, sym, ap, ◌∙◌, subst, ap₂, arith}
use Rattle.stations.specs.Sets.{has}
use Rattle.digraph.specs.Paths.{Path}
use Rattle.digraph.specs.Search.{reach_set}
use Rattle.family.specs.Choices.{others}
use Rattle.tree_shape.specs.Shapes.{tree_in}
use Rattle.tree_shape.proofs.Shapes.{shape_is_sound, shape_spans}
use Rattle.tree_family.specs.Choices.{remaining}
use Rattle.tree_family.specs.Meanings.{StepBeside, Below}
use Rattle.tree_family.specs.Remaining.{reach_small, remaining_is}
use Rattle.tree_family.proofs.Pathways.{remaining_by_paths}
use Rattle.tree_family.proofs.marked.MarkedTree.remaining.Goals as goal

pub others-requires : goal.others-requires
others-requires c =
    let m = c.args.self.now in
    let shape = m.shape.now in
    let t = tree_in shape in
    let is = c.reached-base_reaches.ensures.value ∙ ap (λ (steps : List ℕ). reach_set steps 0) c.beside.ensures in
    let small = reach_small t (shape_is_sound shape) (shape_spans shape) m.marked.next m.marked.sized m.inside c.args.station c.requires.not_base c.requires.station in
    record {
      few = omega (arith, c.stations.ensures, (shape_is_sound shape).few);
      inside = subst (λ (n : ℕ). c.reached-base_reaches.result < 2 ^ n) (sym c.stations.ensures) (subst (λ (r : ℕ). r < 2 ^ t.stations) (sym is) small);
    }

pub returns : goal.returns
returns c =
    let m = c.args.self.now in
    let shape = m.shape.now in
    let t = tree_in shape in
    let v = c.args.station in
    let reached_is = c.reached-base_reaches.ensures.value ∙ ap (λ (steps : List ℕ). reach_set steps 0) c.beside.ensures in
    let is = c.others.ensures ∙ ap₂ others c.stations.ensures reached_is
    ∙ remaining_is t (shape_is_sound shape) (shape_spans shape) m.marked.next m.marked.sized m.inside v c.requires.not_base c.requires.station in
    record {
      value = is;
      paths = λ h marks w asked same low.
          subst (λ (set : ℕ). Decides (has set w) (Below t w v × ((u : ℕ) → u < t.stations → (Below t u v → ⊥) → Path (StepBeside t h marks v) u w → ⊥)))
          (sym (is ∙ ap (λ (steps : List ℕ). remaining t steps v) same)) (remaining_by_paths t h marks v asked w low);
    }
