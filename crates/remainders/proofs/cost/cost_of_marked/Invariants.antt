use Rattle.std.proofs.Common.{◌≡◌, ◌≤◌, map, length, drop}
use Rattle.duality.specs.Costs.{summed}
use Rattle.remainders.proofs.Summing.{priced_if_marked}
use Rattle.remainders.proofs.cost.cost_of_marked.Given as goal

-- the marks and prices still to come, and the prices so far
abbrev pub invariant-loop-mark : goal.invariant-loop-mark
invariant-loop-mark g l =
    let n = length l.yielded in
    (l.mark-iterator.a.rest.now ≡ drop n l.marks) × (l.mark-iterator.b.rest.now ≡ drop n l.prices)
    × (g.T.Amount.parts l.total ≡ summed g.T.Amount.width (priced_if_marked g.T.Amount.width l.marks (map g.T.Amount.parts l.prices)) n)
    × (n ≤ 200)
