use Rattle.std.proofs.Common.{◌≡◌, ◌+◌, ◌<◌, map, length, get_or, drop, None, sym, ap, ◌∙◌, arith}
use Rattle.std.proofs.lemmas.List.{drop_all, get_or-map, length-map}
use Rattle.digraph.specs.Links.{link_at}
use Rattle.digraph.specs.Steps.{steps_from}
use Rattle.digraph.proofs.Stepping.{steps_one_on}
use Rattle.sheet.proofs.spanning.steps_along.Goals as goal

pub loop-i-init : goal.loop-i-init
loop-i-init g c = ap (λ m. steps_from m (map (link_at c.args.sheet.now.links.slots) (g.L.Numbers.numbers c.args.list.now))) c.none-steps.ensures

pub add-requires : goal.add-requires
add-requires g c l e =
    let s = c.args.sheet.now in
    let p = s.proper c.at.result l (sym c.link.ensures ∙ e) in
    (omega (arith, p.0, s.stations.few), omega (arith, p.1, s.stations.few))

pub loop-i-preserved : goal.loop-i-preserved
loop-i-preserved g c =
    let slots = c.args.sheet.now.links.slots in
    let ks = g.L.Numbers.numbers c.args.list.now in
    let os = map (link_at slots) ks in
    let i = c.loop-i.i in
    let here : i < length ks = omega arith in
    let read : c.link.result ≡ get_or os i None = c.link.ensures ∙ ap (link_at slots) c.at.ensures ∙ sym (get_or-map (link_at slots) ks i 0 None here) in
    ap (λ m. steps_from m (drop (i + 1) os)) c.add.ensures
    ∙ steps_one_on os c.loop-i.steps.next i c.link.result (omega (arith, length-map ks (link_at slots))) read
    ∙ c.loop-i.invariant

pub returns : goal.returns
returns g c =
    let slots = c.args.sheet.now.links.slots in
    let ks = g.L.Numbers.numbers c.args.list.now in
    ap (steps_from c.loop-i.steps.next) (sym (drop_all c.loop-i.i (map (link_at slots) ks) (omega (arith, length-map ks (link_at slots))))) ∙ c.loop-i.invariant
