use Rattle.std.proofs.Common.{◌≡◌, ◌+◌, ◌-◌, ◌<◌}
use Rattle.sheet.specs.Held.{held}
use Rattle.cuts.specs.Climbing.{steps_up}
use Rattle.tree_shape.specs.Trees.{tree_of, depth_of}
use Rattle.tree_shape.proofs.rooted.Rooted.depth.Given as goal

-- the steps up so far and those still to go are the depth
abbrev pub invariant-loop-depth : goal.invariant-loop-depth
invariant-loop-depth l =
    let t = held l.self.sheet in
    (l.at < t.stations) × (steps_up t.links (tree_of t) (t.stations - 1 - l.depth) l.at + l.depth ≡ depth_of t l.station)
