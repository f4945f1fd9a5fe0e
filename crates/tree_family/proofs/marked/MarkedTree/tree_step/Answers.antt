use Rattle.std.proofs.Common.{ℕ, ap, ◌∙◌}
use Rattle.family.specs.Reach.{turned}
use Rattle.tree_shape.specs.Shapes.{tree_in}
use Rattle.tree_family.specs.Besides.{tree_step_given}
use Rattle.tree_family.proofs.marked.MarkedTree.tree_step.Goals as goal

pub returns : goal.returns
returns c =
    let w = c.args.other in
    tree_step_given c.args.way (tree_in c.args.self.now.shape.now) c.args.station w c.turn.result c.if-other-eq0.false c.if-other-station.false
    (c.turn.ensures ∙ ap (λ (up : ℕ). turned c.args.way (record { tail = up; head = w })) c.parent.ensures)
