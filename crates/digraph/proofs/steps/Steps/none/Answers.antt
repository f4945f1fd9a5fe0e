use Rattle.std.proofs.Common.{refl, lit<}
use Rattle.digraph.proofs.Stepping.{same_low}
use Rattle.digraph.proofs.steps.Steps.none.Goals as goal

pub invariant_of-result : goal.invariant_of-result
invariant_of-result c = record { sized = refl; bounded = λ u. same_low 40 0 u (lit< tt) }
