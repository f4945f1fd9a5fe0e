use Rattle.std.proofs.Common.{◌≡◌, length, take}
use Rattle.sheet.proofs.spanning.tree_of.Given as goal

abbrev pub invariant-loop-i : goal.invariant-loop-i
invariant-loop-i g l = (length l.numbers ≡ 39) × (take l.i l.numbers ≡ take l.i (g.L.Numbers.numbers l.list))
