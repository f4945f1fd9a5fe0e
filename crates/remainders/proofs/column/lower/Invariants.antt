use Rattle.std.proofs.Common.{take}
use Rattle.remainders.proofs.Lowering.{Lowered}
use Rattle.remainders.proofs.column.lower.Given as goal

-- of the numbers passed, the links that enter the set are lowered, and those that came to nothing are noted
abbrev pub invariant-loop-k : goal.invariant-loop-k
invariant-loop-k g l =
    let f = g.T.Amount.parts in
    let used = l.initial.used in
    Lowered f g.T.Amount.width l.sheet.links.slots l.set (f l.amount) l.initial.left used.marks (take used.count used.order) l.k l.left l.used.marks (take l.used.count l.used.order)
