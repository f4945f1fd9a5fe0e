use Rattle.std.proofs.Common.{◌≡◌, ℕ, ◌+◌, ◌<◌, List, map, get_or, drop, None, sym, ap, ◌∙◌, subst, arith}
use Rattle.std.proofs.lemmas.List.FromFn.{get_or-map-range_with_len, length-map-range_with_len}
use Rattle.std.proofs.lemmas.List.{drop_all}
use Rattle.std.specs.List.{range_with_len}
use Rattle.digraph.specs.Steps.{Low, steps_from}
use Rattle.digraph.proofs.Stepping.{steps_one_on}
use Rattle.tree_shape.specs.Shapes.{tree_in}
use Rattle.tree_shape.proofs.Shapes.{shape_is_sound, shape_spans}
use Rattle.tree_family.specs.Choices.{step_of_tree, beside}
use Rattle.tree_family.specs.Besides.{tree_step_low}
use Rattle.tree_family.proofs.marked.MarkedTree.beside.Goals as goal

pub tree_step-requires : goal.tree_step-requires
tree_step-requires c = omega (arith, c.stations-other-end.ensures, (shape_is_sound c.args.self.now.shape.now).few)

pub add-requires : goal.add-requires
add-requires c =
    let shape = c.args.self.now.shape.now in
    let w = c.loop-other.other in
    subst Low (sym c.tree_step.ensures) (tree_step_low (tree_in shape) (shape_is_sound shape) (shape_spans shape) c.args.way c.args.station w (omega (arith, c.stations-other-end.ensures)))

pub loop-other-preserved : goal.loop-other-preserved
loop-other-preserved c =
    let t = tree_in c.args.self.now.shape.now in
    let step = step_of_tree c.args.way t c.args.station in
    let os = map step (range_with_len 0 t.stations) in
    let w = c.loop-other.other in
    let low : w < t.stations = omega (arith, c.stations-other-end.ensures) in
    let read : c.tree_step.result ≡ get_or os w None = c.tree_step.ensures ∙ sym (get_or-map-range_with_len step 0 t.stations w w None low (omega arith)) in
    ap (λ (m : List ℕ). steps_from m (drop (w + 1) os)) c.add.ensures
    ∙ steps_one_on os c.loop-other.steps.next w c.tree_step.result (omega (arith, length-map-range_with_len step 0 t.stations)) read
    ∙ c.loop-other.invariant

pub returns : goal.returns
unfolding beside
returns c =
    let t = tree_in c.args.self.now.shape.now in
    let step = step_of_tree c.args.way t c.args.station in
    ap (steps_from c.loop-other.steps.next) (sym (drop_all c.loop-other.other (map step (range_with_len 0 t.stations)) (omega (arith, length-map-range_with_len step 0 t.stations, c.stations-other-end.ensures)))) ∙ c.loop-other.invariant
