use Rattle.std.proofs.Common.{◌≡◌, map, drop, replicate}
use Rattle.std.specs.List.{range_with_len}
use Rattle.digraph.specs.Steps.{steps_from}
use Rattle.family.specs.Reach.{marked_link}
use Rattle.family.proofs.reach.steps.Given as goal

-- what is still to look at brings these steps to the answer
abbrev pub invariant-loop-k : goal.invariant-loop-k
invariant-loop-k l =
    let os = map (marked_link l.way l.sheet.links.slots l.marks) (range_with_len 0 200) in
    steps_from l.steps.next (drop l.k os) ≡ steps_from (replicate 40 0) os
