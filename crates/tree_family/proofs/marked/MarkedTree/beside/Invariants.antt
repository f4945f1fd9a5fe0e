use Rattle.std.proofs.Common.{◌≡◌, map, drop}
use Rattle.std.specs.List.{range_with_len}
use Rattle.digraph.specs.Steps.{steps_from}
use Rattle.tree_shape.specs.Shapes.{tree_in}
use Rattle.tree_family.specs.Choices.{step_of_tree}
use Rattle.tree_family.proofs.marked.MarkedTree.beside.Given as goal

-- the tree links still to come bring these steps to the answer
abbrev pub invariant-loop-other : goal.invariant-loop-other
invariant-loop-other l =
    let t = tree_in l.self.shape.now in
    let os = map (step_of_tree l.way t l.station) (range_with_len 0 t.stations) in
    steps_from l.steps.next (drop l.other os) ≡ steps_from l.self.marked.next os
