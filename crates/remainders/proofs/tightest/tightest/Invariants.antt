use Rattle.std.proofs.Common.{◌≡◌, ◌-◌, map}
use Rattle.stages.specs.Packing.{tightest, tightest_from}
use Rattle.remainders.specs.Marks.{Numbered}
use Rattle.remainders.proofs.tightest.tightest.Given as goal

-- the numbers still to look at bring this link to the answer
abbrev pub invariant-loop-k : goal.invariant-loop-k
invariant-loop-k g l =
    let slots = l.sheet.links.slots in
    let left = map g.T.Amount.parts l.left in
    (tightest_from slots left l.set l.best l.k (200 - l.k) ≡ tightest slots left l.set) × Numbered l.best
