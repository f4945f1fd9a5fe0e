use Rattle.std.proofs.Common.{◌≡◌, map, drop, replicate}
use Rattle.digraph.specs.Links.{link_at}
use Rattle.digraph.specs.Steps.{steps_from}
use Rattle.sheet.proofs.spanning.steps_along.Given as goal

-- what is still to look at brings these steps to the answer
abbrev pub invariant-loop-i : goal.invariant-loop-i
invariant-loop-i g l =
    let os = map (link_at l.sheet.links.slots) (g.L.Numbers.numbers l.list) in
    steps_from l.steps.next (drop l.i os) ≡ steps_from (replicate 40 0) os
