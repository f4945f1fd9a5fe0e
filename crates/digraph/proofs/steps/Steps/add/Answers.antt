use Rattle.digraph.proofs.Stepping.{next_step_sized, next_step_low}
use Rattle.digraph.proofs.steps.Steps.add.Goals as goal

pub invariant_of-self : goal.invariant_of-self
invariant_of-self c =
    let was = c.args.self.now in
    record {
      sized = rw c.add_step.ensures (next_step_sized c.args.link was.next was.sized);
      bounded = λ u. rw c.add_step.ensures (next_step_low c.args.link was.next c.requires was.bounded u);
    }
