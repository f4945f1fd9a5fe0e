use Rattle.std.proofs.Common.{take, sym, ap, ◌∙◌, arith}
use Rattle.sheet.specs.Held.{held}
use Rattle.stages.proofs.Takes.{none_taken}
use Rattle.cover.proofs.TakingTurn.{some_is_found, link_is_numbered, fewer_unmarked, one_turn_more}
use Rattle.cover.proofs.taking.take.Goals as goal

pub loop-set-init : goal.loop-set-init
loop-set-init g c =
    (0, sym (none_taken c.args.sheet.now.links.slots (g.F.Family.large c.args.family.now (held c.args.sheet.now)) (take c.args.used.now.count c.args.used.now.order)), λ u h. absurd (omega arith))

pub bounds-taken-link : goal.bounds-taken-link
bounds-taken-link g c =
    link_is_numbered c.args.sheet.now.links.slots (g.F.Family.large c.args.family.now (held c.args.sheet.now)) (take c.args.used.now.count c.args.used.now.order)
    c.requires c.loop-set.taken c.loop-set.invariant c.in-Some.set (sym c.largest.ensures ∙ c.in-Some.is) c.in-Some-earliest.link (sym c.earliest.ensures ∙ c.in-Some-earliest.is)

pub loop-set-smaller : goal.loop-set-smaller
loop-set-smaller g c =
    fewer_unmarked c.args.sheet.now.links.slots (g.F.Family.large c.args.family.now (held c.args.sheet.now)) (take c.args.used.now.count c.args.used.now.order)
    c.requires c.loop-set.taken c.loop-set.invariant c.in-Some.set (sym c.largest.ensures ∙ c.in-Some.is) c.in-Some-earliest.link (sym c.earliest.ensures ∙ c.in-Some-earliest.is)

pub loop-set-preserved : goal.loop-set-preserved
loop-set-preserved g c =
    one_turn_more c.args.sheet.now.links.slots (g.F.Family.large c.args.family.now (held c.args.sheet.now)) (take c.args.used.now.count c.args.used.now.order)
    c.requires c.loop-set.taken c.loop-set.invariant c.in-Some.set (sym c.largest.ensures ∙ c.in-Some.is) c.in-Some-earliest.link (sym c.earliest.ensures ∙ c.in-Some-earliest.is)

pub returns-in_default-earliest : goal.returns-in_default-earliest
returns-in_default-earliest g c =
    absurd (some_is_found c.args.sheet.now.links.slots (g.F.Family.large c.args.family.now (held c.args.sheet.now)) (take c.args.used.now.count c.args.used.now.order)
    c.requires c.loop-set.taken c.loop-set.invariant c.in-Some.set (sym c.largest.ensures ∙ c.in-Some.is) (sym c.earliest.ensures ∙ c.in_default-earliest.is))

pub returns-in_default : goal.returns-in_default
returns-in_default g c =
    let t = c.loop-set.invariant in
    let largest = g.F.Family.large c.args.family.now (held c.args.sheet.now) in
    record { turns = t.0; took = record { before = t.2; none = ap largest (sym t.1) ∙ sym c.largest.ensures ∙ c.in_default.is }; marks_are = t.1 }
