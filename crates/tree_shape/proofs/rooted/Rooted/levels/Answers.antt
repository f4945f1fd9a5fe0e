use lib.Bits.{bit_or}
use Rattle.std.proofs.Common.{◌≡◌, ℕ, suc, ◌+◌, ◌*◌, ◌%◌, ◌^◌, ◌<◌, get_or, refl, ◌∙◌, subst, arith}
use Rattle.std.proofs.lemmas.Nat.{one_shl}
use Rattle.std.proofs.lemmas.List.{length-set, get_or-replicate}
use Rattle.sheet.specs.Held.{held}
use Rattle.cuts.proofs.Parents.{depth_below}
use Rattle.tree_shape.specs.Trees.{tree_of}
use Rattle.tree_shape.proofs.Climbs.{level_upto, level_more, levels_all}
use Rattle.tree_shape.proofs.Shapes.{rooted_tree, rooted_few}
use Rattle.tree_shape.proofs.rooted.Rooted.levels.Goals as goal

pub loop-station-init : goal.loop-station-init
loop-station-init c = (refl, λ d h. get_or-replicate 40 d 0 0 h)

-- a depth is a place of the table
depth_is_place : (c : goal.After-depth) → c.depth.result < 40
depth_is_place c =
    let r = c.args.self.now in
    let t = held r.sheet in
    omega (arith, rooted_few r, c.depth.ensures, depth_below t.stations t.links (tree_of t) (rooted_tree r) c.loop-station.station (omega (arith, c.stations-station-end.ensures)))

pub bounds-levels-depth : goal.bounds-levels-depth
bounds-levels-depth c = depth_is_place c

pub bounds-levels-depth-in-loop-station : goal.bounds-levels-depth-in-loop-station
bounds-levels-depth-in-loop-station c = depth_is_place c

pub loop-station-preserved : goal.loop-station-preserved
loop-station-preserved c =
    let r = c.args.self.now in
    let k = c.loop-station.station in
    let at = c.depth.result in
    let bit = (1 * 2 ^ k) % 2 ^ 64 in
    let on : k + 1 ≡ suc k = omega arith in
    let low : k < 64 = omega (arith, rooted_few r, c.stations-station-end.ensures) in (
      length-set c.loop-station.levels at (bit_or (get_or c.loop-station.levels at 0) bit) ∙ c.loop-station.invariant.0,
      level_more (held r.sheet) c.loop-station.levels k (k + 1) at bit c.loop-station.invariant.0 (depth_is_place c) c.depth.ensures on (one_shl k 64 low) c.loop-station.invariant.1,
    )

pub returns : goal.returns
returns c =
    let t = held c.args.self.now.sheet in
    let all : c.loop-station.station ≡ t.stations = omega (arith, c.stations-station-end.ensures) in
    levels_all t c.loop-station.levels c.loop-station.invariant.0
    (λ d h. subst (λ (x : ℕ). get_or c.loop-station.levels d 0 ≡ level_upto t x d) all (c.loop-station.invariant.1 d h))
