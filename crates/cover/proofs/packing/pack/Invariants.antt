use Rattle.std.proofs.Common.{◌-◌, take}
use Rattle.cover.specs.Questions.{asked}
use Rattle.cover.specs.Memory.{room}
use Rattle.cover.proofs.PackingProgress.{Progress}
use Rattle.cover.proofs.packing.pack.Given as goal

-- what was written so far is what the definition says after as many sets
abbrev pub invariant-loop-set : goal.invariant-loop-set
invariant-loop-set g l =
    let f = g.T.Amount.parts in
    let a = asked l.question in
    Progress f a (room l.initial.left l.initial.sets l.initial.amounts) (room l.left l.sets l.amounts) l.count l.used.marks (take l.used.count l.used.order)

abbrev pub decreases-loop-set : goal.decreases-loop-set
decreases-loop-set g l = 80 - l.count
