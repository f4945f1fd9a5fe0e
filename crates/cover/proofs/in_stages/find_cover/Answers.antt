use Rattle.std.proofs.Common.{◌≡◌, take, sym, refl, ap, ◌∙◌, subst}
use Rattle.std.proofs.lemmas.List.{length-map}
use Rattle.stages.specs.Done.{Done}
use Rattle.stages.specs.Theorems.{cost_in_force}
use Rattle.digraph.specs.Entering.{marked}
use Rattle.stages.proofs.Asking.{LawfulFamily}
use Rattle.stages.proofs.Lawful.{Lawful}
use Rattle.stages.proofs.Takes.{done_is_cheapest}
use Rattle.cover.specs.Lent.{contents}
use Rattle.cover.specs.Memory.{room}
use Rattle.cover.specs.Questions.{asked}
use Rattle.cover.specs.declared.question.Question.{Question}
use Rattle.cover.specs.Turns.{Findable}
use Rattle.cover.proofs.Readiness.{ready_is_lawful}
use Rattle.cover.proofs.Finding.{stage_2_finds, stages_done, marked_price_small, cost_is, stays_small, cheapest_of}
use Rattle.cover.proofs.in_stages.find_cover.Given as given
use Rattle.cover.proofs.in_stages.find_cover.Goals as goal

laws : (g : given.Over) (f : g.row.F.Denot) → LawfulFamily (g.F.Family.size f) (g.F.Family.member f) (g.F.Family.small f) (g.F.Family.large f)
laws g f =
    record {
      inside = g.met.F.Family.inside f;
      some = g.met.F.Family.some f;
      common_part = g.met.F.Family.common_part f;
      union = g.met.F.Family.union f;
      smallest_found = g.met.F.Family.smallest_found f;
      smallest_none = g.met.F.Family.smallest_none f;
      largest_found = g.met.F.Family.largest_found f;
      largest_none = g.met.F.Family.largest_none f;
    }

lawful : (g : given.Over) (q : Question g.row.T.Denot g.row.F.Denot g.T.Amount g.F.Family) → Lawful q.sheet.now.stations.count (asked q) (g.F.Family.member q.family.now)
lawful g q =
    ready_is_lawful g.T.Amount.parts g.T.Amount.width g.met.T.Amount.as_wide q.sheet.now q.prices.now (g.F.Family.size q.family.now) (g.F.Family.member q.family.now)
    (g.F.Family.small q.family.now) (g.F.Family.large q.family.now) (laws g q.family.now) q.ready

pub take-kept-requires : goal.take-kept-requires
take-kept-requires g c =
    let s = c.args.question.now.sheet.now in
    let prices = c.args.question.now.prices.now in
    let f = c.args.question.now.family.now in
    let a = asked c.args.question.now in
    subst (λ o. Findable s.links.slots a.largest o) (sym c.pack-packing.ensures.order)
    (stage_2_finds s.stations.count a (g.F.Family.member f) (lawful g c.args.question.now) c.pack-packing.result.sets c.pack-packing.ensures.stops)

pub cost_of_marked-requires : goal.cost_of_marked-requires
cost_of_marked-requires g c =
    let s = c.args.question.now.sheet.now in
    let prices = c.args.question.now.prices.now in
    let f = c.args.question.now.family.now in
    let p = c.pack-packing in
    record {
      sized = sym (length-map prices g.T.Amount.parts) ∙ c.args.question.now.ready.column_sized;
      small = marked_price_small s.stations.count (asked c.args.question.now) (g.F.Family.member f) (lawful g c.args.question.now) p.result.sets p.ensures.stops
          (take p.result.used.count p.result.used.order) p.ensures.order c.take-kept.result c.take-kept.ensures c.keep.new.marks c.keep.ensures;
    }

pub returns : goal.returns
returns g c =
    let parts = g.T.Amount.parts in
    let s = c.args.question.now.sheet.now in
    let prices = c.args.question.now.prices.now in
    let f = c.args.question.now.family.now in
    let a = asked c.args.question.now in
    let Member = g.F.Family.member f in
    let L = lawful g c.args.question.now in
    let p = c.pack-packing in
    let sets = p.result.sets in
    let order = take p.result.used.count p.result.used.order in
    let done : Done a sets c.keep.new.marks = stages_done s.stations.count a Member L sets p.ensures.stops order p.ensures.order c.take-kept.result c.take-kept.ensures c.keep.new.marks c.keep.ensures in
    let cost : parts c.cost_of_marked.result ≡ cost_in_force a (marked c.keep.new.marks) =
    c.cost_of_marked.ensures ∙ cost_is s.stations.count a Member L sets p.ensures.stops order p.ensures.order c.take-kept.result c.take-kept.ensures c.keep.new.marks c.keep.ensures in
    let copied = c.copy_from_slice.ensures.after in
    record {
      same_memory = record { left = refl; sets = refl; amounts = refl; marks = refl; left_length = p.auto.left; sets_length = p.auto.sets; amounts_length = p.auto.amounts; marks_length = c.copy_from_slice.auto.self };
      filled =
          record {
            packing = p.ensures.filled;
            stages = subst (Done a sets) (sym copied) done;
            cost_of_marked = cost ∙ ap (λ m. cost_in_force a (marked m)) (sym copied);
          };
      small = stays_small s.stations.count a Member L sets p.ensures.stops parts (contents c.args.memory.now).packing (room p.new.left p.new.sets p.new.amounts) p.ensures.filled;
      cheapest = cheapest_of a Member c.keep.new.marks c.copy_from_slice.new.self (parts c.cost_of_marked.result) copied cost (done_is_cheapest s.stations.count a Member L sets c.keep.new.marks done);
    }
