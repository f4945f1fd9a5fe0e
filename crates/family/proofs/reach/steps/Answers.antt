use Rattle.std.proofs.Common.{◌≡◌, ◌+◌, map, get_or, drop, None, sym, ap, ◌∙◌, subst, arith}
use Rattle.std.specs.List.{range_with_len}
use Rattle.std.proofs.lemmas.List.FromFn.{get_or-map-range_with_len, length-map-range_with_len}
use Rattle.std.proofs.lemmas.List.{drop_all}
use Rattle.digraph.specs.Steps.{Low, steps_from}
use Rattle.digraph.proofs.Stepping.{steps_one_on}
use Rattle.family.specs.Reach.{marked_link, marked_steps}
use Rattle.family.specs.Marking.{marked_link_low}
use Rattle.family.proofs.reach.steps.Goals as goal

pub add-requires : goal.add-requires
add-requires c =
    let s = c.args.sheet.now in
    subst Low (sym c.marked.ensures) (marked_link_low s.stations.count s.links.slots s.proper s.stations.few s.links.sized c.args.marks.now c.args.way c.loop-k.k)

pub loop-k-init : goal.loop-k-init
loop-k-init c = ap (λ m. steps_from m (map (marked_link c.args.way c.args.sheet.now.links.slots c.args.marks.now) (range_with_len 0 200))) c.none-steps.ensures

pub loop-k-preserved : goal.loop-k-preserved
loop-k-preserved c =
    let f = marked_link c.args.way c.args.sheet.now.links.slots c.args.marks.now in
    let os = map f (range_with_len 0 200) in
    let k = c.loop-k.k in
    let read : c.marked.result ≡ get_or os k None = c.marked.ensures ∙ sym (get_or-map-range_with_len f 0 200 k k None (omega arith) (omega arith)) in
    ap (λ m. steps_from m (drop (k + 1) os)) c.add.ensures
    ∙ steps_one_on os c.loop-k.steps.next k c.marked.result (omega (arith, length-map-range_with_len f 0 200)) read
    ∙ c.loop-k.invariant

pub returns : goal.returns
unfolding marked_steps
returns c =
    let f = marked_link c.args.way c.args.sheet.now.links.slots c.args.marks.now in
    ap (steps_from c.loop-k.steps.next) (sym (drop_all c.loop-k.k (map f (range_with_len 0 200)) (omega (arith, length-map-range_with_len f 0 200)))) ∙ c.loop-k.invariant
