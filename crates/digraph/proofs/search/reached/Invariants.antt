use Rattle.std.proofs.Common.{◌-◌, ◌^◌}
use Rattle.digraph.proofs.Searching.{Searched}
use Rattle.digraph.proofs.search.reached.Given as goal

abbrev pub invariant-loop-progress : goal.invariant-loop-progress
invariant-loop-progress l = Searched l.next l.start l.progress.seen l.progress.todo

abbrev pub decreases-loop-progress : goal.decreases-loop-progress
decreases-loop-progress l = 2 ^ 64 - (l.progress.seen - l.progress.todo)
