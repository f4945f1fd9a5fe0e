use Rattle.std.proofs.Common.{take}
use Rattle.sheet.specs.Held.{held}
use Rattle.remainders.specs.Marks.{unmarked}
use Rattle.cover.proofs.TakingTurn.{Underway}
use Rattle.cover.proofs.taking.take.Given as goal

abbrev pub invariant-loop-set : goal.invariant-loop-set
invariant-loop-set g l =
    Underway l.sheet.links.slots (g.F.Family.large l.family (held l.sheet)) (take l.used.count l.used.order) l.taken

abbrev pub decreases-loop-set : goal.decreases-loop-set
decreases-loop-set g l = unmarked l.taken
