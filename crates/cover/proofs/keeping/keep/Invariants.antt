use Rattle.std.proofs.Common.{◌≡◌}
use Rattle.sheet.specs.Held.{held}
use Rattle.stages.specs.Keeping.{kept_of}
use Rattle.cover.proofs.keeping.keep.Given as goal

-- the turns still to come bring these marks to the answer
abbrev pub invariant-loop-k : goal.invariant-loop-k
invariant-loop-k g l =
    let largest = g.F.Family.large l.family (held l.sheet) in
    kept_of largest l.marks l.k ≡ kept_of largest l.initial.marks 200
