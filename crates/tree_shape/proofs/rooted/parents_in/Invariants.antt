use Rattle.sheet.specs.Held.{held}
use Rattle.tree_shape.proofs.Noting.{Noted}
use Rattle.tree_shape.proofs.rooted.parents_in.Given as goal

-- the links of the numbers so far are put down
abbrev pub invariant-loop-number : goal.invariant-loop-number
invariant-loop-number l = Noted (held l.sheet) l.parents l.number
