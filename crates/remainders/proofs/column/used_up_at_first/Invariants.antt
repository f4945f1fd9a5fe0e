use Rattle.std.proofs.Common.{[], map, take, replicate}
use Rattle.remainders.specs.Column.{spent_link}
use Rattle.remainders.proofs.Noting.{Noted}
use Rattle.remainders.proofs.column.used_up_at_first.Given as goal

-- of the numbers passed, those of links with nothing left are noted
abbrev pub invariant-loop-k : goal.invariant-loop-k
invariant-loop-k g l =
    Noted (spent_link g.T.Amount.width l.sheet.links.slots (map g.T.Amount.parts l.left)) (replicate 200 0) [] l.k l.used.marks (take l.used.count l.used.order)
