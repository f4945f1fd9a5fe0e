use Rattle.std.proofs.Common.{ℕ, ◌-◌, ◌<◌, sym, subst, arith}
use Rattle.sheet.specs.Held.{held}
use Rattle.cuts.proofs.Parents.{parent_is_station}
use Rattle.tree_shape.specs.Trees.{tree_of}
use Rattle.tree_shape.proofs.Climbs.{climbed_none, climbed_all, climbed_more}
use Rattle.tree_shape.proofs.Shapes.{rooted_tree, rooted_few}
use Rattle.tree_shape.proofs.rooted.Rooted.depth.Goals as goal

pub loop-depth-init : goal.loop-depth-init
loop-depth-init c =
    let r = c.args.self.now in
    (c.requires, climbed_none (held r.sheet) (rooted_tree r) c.args.station)

pub returns-then-at-eq0 : goal.returns-then-at-eq0
returns-then-at-eq0 c =
    let r = c.args.self.now in
    climbed_all (held r.sheet) (rooted_tree r) c.args.station c.loop-depth.at c.loop-depth.depth c.if-at-eq0.true c.loop-depth.invariant.1

pub parent-at-requires : goal.parent-at-requires
parent-at-requires c = omega (arith, c.loop-depth.invariant.0, rooted_few c.args.self.now)

pub loop-depth-preserved : goal.loop-depth-preserved
loop-depth-preserved c =
    let r = c.args.self.now in
    let t = held r.sheet in
    let at = c.loop-depth.at in
    let up = c.parent-at.ensures in
    let steps : c.loop-depth.depth < t.stations - 1 = omega (arith, c.stations-most.ensures) in (
      subst (λ (x : ℕ). x < t.stations) (sym up) (parent_is_station t.stations t.links (tree_of t) (rooted_tree r) at c.loop-depth.invariant.0),
      climbed_more t (rooted_tree r) c.args.station at c.parent-at.result c.loop-depth.depth steps c.if-at-eq0.false up c.loop-depth.invariant.1,
    )
