use Rattle.std.proofs.Common.{◌≡◌, ℕ, ◌<◌, length, get_or}
use Rattle.sheet.specs.Held.{held}
use Rattle.tree_shape.proofs.Climbs.{level_upto}
use Rattle.tree_shape.proofs.rooted.Rooted.levels.Given as goal

-- each depth has its stations among those so far
abbrev pub invariant-loop-station : goal.invariant-loop-station
invariant-loop-station l = (length l.levels ≡ 40) × ((d : ℕ) → d < 40 → get_or l.levels d 0 ≡ level_upto (held l.self.sheet) l.station d)
