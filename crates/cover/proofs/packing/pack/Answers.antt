use Rattle.std.proofs.Common.{◌≡◌, ◌+◌, ◌<◌, ◌≤◌, cond, map, length, get_or, take, Some, sym, refl, ap, ◌∙◌, arith, rules}
use Rattle.std.proofs.lemmas.List.{length-map}
use Rattle.sheet.specs.Held.{held}
use Rattle.remainders.proofs.Reading.{get_or-map_read}
use Rattle.stages.specs.Packing.{tightest}
use Rattle.stages.proofs.Asking.{LawfulFamily}
use Rattle.stages.proofs.Lawful.{Lawful}
use Rattle.cover.specs.Memory.{room}
use Rattle.cover.specs.Questions.{asked}
use Rattle.cover.specs.declared.question.Question.{Question}
use Rattle.cover.proofs.Readiness.{ready_is_lawful}
use Rattle.cover.proofs.PackingTurn.{has_room, some_is_tightest, link_placed, amount_is, unused, fits}
use Rattle.cover.proofs.PackingProgress.{progress_at_first, progress_after, room_lengths, filled_from}
use Rattle.cover.proofs.packing.pack.Given as given
use Rattle.cover.proofs.packing.pack.Goals as goal
use Rattle.cover.proofs.packing.pack.Goals.{In-Some-tightest}

laws : (g : given.Over) (f : g.row.F.Denot) → LawfulFamily (g.F.Family.size f) (g.F.Family.member f) (g.F.Family.small f) (g.F.Family.large f)
laws g f =
    record {
      inside = g.met.F.Family.inside f;
      some = g.met.F.Family.some f;
      common_part = g.met.F.Family.common_part f;
      union = g.met.F.Family.union f;
      smallest_found = g.met.F.Family.smallest_found f;
      smallest_none = g.met.F.Family.smallest_none f;
      largest_found = g.met.F.Family.largest_found f;
      largest_none = g.met.F.Family.largest_none f;
    }

lawful : (g : given.Over) (q : Question g.row.T.Denot g.row.F.Denot g.T.Amount g.F.Family) → Lawful q.sheet.now.stations.count (asked q) (g.F.Family.member q.family.now)
lawful g q =
    ready_is_lawful g.T.Amount.parts g.T.Amount.width g.met.T.Amount.as_wide q.sheet.now q.prices.now (g.F.Family.size q.family.now) (g.F.Family.member q.family.now)
    (g.F.Family.small q.family.now) (g.F.Family.large q.family.now) (laws g q.family.now) q.ready

pub copy_prices-requires : goal.copy_prices-requires
copy_prices-requires g c =
    record {
      prices = sym (length-map c.args.question.now.prices.now g.T.Amount.parts) ∙ c.args.question.now.ready.column_sized;
      left = (room_lengths (room c.args.left.now c.args.sets.now c.args.amounts.now) c.requires).0;
    }

pub loop-set-init : goal.loop-set-init
loop-set-init g c =
    let parts = g.T.Amount.parts in
    let s = c.args.question.now.sheet.now in
    let prices = c.args.question.now.prices.now in
    let f = c.args.question.now.family.now in
    let lengths = room_lengths (room c.args.left.now c.args.sets.now c.args.amounts.now) c.requires in
    progress_at_first parts s.stations.count (asked c.args.question.now) (g.F.Family.member f) (lawful g c.args.question.now) prices c.copy_prices.new.left refl
    (c.copy_prices.auto.left ∙ lengths.0 ∙ sym (sym (length-map prices parts) ∙ c.args.question.now.ready.column_sized))
    (λ k d link. c.copy_prices.ensures k d ∙ ap (λ b. cond b (get_or prices k d) (get_or c.args.left.now k d)) link)
    c.args.sets.now c.args.amounts.now c.used_up_at_first-used.result.marks (take c.used_up_at_first-used.result.count c.used_up_at_first-used.result.order)
    c.used_up_at_first-used.ensures.marks c.used_up_at_first-used.ensures.order

pub tightest-requires : goal.tightest-requires
tightest-requires g c =
    c.loop-set.auto.left ∙ c.copy_prices.auto.left ∙ (room_lengths (room c.args.left.now c.args.sets.now c.args.amounts.now) c.requires).0

-- ---- a turn: what the question gave, and the link that holds it down

given_set : (g : given.Over) (c : goal.In-Some-tightest g) → g.F.Family.small c.args.question.now.family.now (held c.args.question.now.sheet.now) c.loop-set.used.marks ≡ Some c.in-Some.set
given_set g c = sym c.smallest.ensures ∙ c.in-Some.is

found_link : (g : given.Over) (c : goal.In-Some-tightest g)
    → tightest c.args.question.now.sheet.now.links.slots (map g.T.Amount.parts c.loop-set.left) c.in-Some.set ≡ Some c.in-Some-tightest.link
found_link g c = sym c.tightest.ensures ∙ c.in-Some-tightest.is

lawful_here : (g : given.Over) (c : goal.In-Some-tightest g) → Lawful c.args.question.now.sheet.now.stations.count (asked c.args.question.now) (g.F.Family.member c.args.question.now.family.now)
lawful_here g c = lawful g c.args.question.now

-- there is room for one set more
room_left : (g : given.Over) (c : goal.In-Some-tightest g) → c.loop-set.count + 1 ≤ 79
room_left g c =
    let s = c.args.question.now.sheet.now in
    let f = c.args.question.now.family.now in
    let P = c.loop-set.invariant in
    has_room s.stations.count (asked c.args.question.now) (g.F.Family.member f) (lawful_here g c) c.loop-set.count P.before
    c.loop-set.used.marks P.marks_show c.in-Some.set (given_set g c) (map g.T.Amount.parts c.loop-set.left) P.filled.left_written

-- the lists and the column are as long as they were
lengths : (g : given.Over) (c : goal.In-Some-tightest g) → (length c.loop-set.left ≡ 200) × (length c.loop-set.sets ≡ 80) × (length c.loop-set.amounts ≡ 80)
lengths g c =
    let at_first = room_lengths (room c.args.left.now c.args.sets.now c.args.amounts.now) c.requires in
    (c.loop-set.auto.left ∙ c.copy_prices.auto.left ∙ at_first.0, c.loop-set.auto.sets ∙ at_first.1, c.loop-set.auto.amounts ∙ at_first.2)

link_in_column : (g : given.Over) (c : goal.In-Some-tightest g) → c.in-Some-tightest.link < length c.loop-set.left
link_in_column g c =
    let s = c.args.question.now.sheet.now in
    let f = c.args.question.now.family.now in
    let P = c.loop-set.invariant in
    omega (
      arith,
      (lengths g c).0,
      link_placed s.stations.count (asked c.args.question.now) (g.F.Family.member f) (lawful_here g c) c.loop-set.count P.before
          c.loop-set.used.marks P.marks_show c.in-Some.set (given_set g c) (map g.T.Amount.parts c.loop-set.left) P.filled.left_written
          c.in-Some-tightest.link (found_link g c),
    )

pub offset_bounds-left-link : goal.offset_bounds-left-link
offset_bounds-left-link g c =
    let i : c.in-Some-tightest.link < length c.args.left.now = omega (arith, link_in_column g c, c.loop-set.auto.left, c.copy_prices.auto.left) in search rules

pub bounds-left-link : goal.bounds-left-link
bounds-left-link g c = link_in_column g c

pub offset_bounds-sets-count : goal.offset_bounds-sets-count
offset_bounds-sets-count g c = omega (arith, room_left g (goal.at.offset_bounds-sets-count g c).In-Some-tightest)

pub bounds-sets-count : goal.bounds-sets-count
bounds-sets-count g c =
    let t = (goal.at.bounds-sets-count g c).In-Some-tightest in omega (arith, room_left g t, (lengths g t).1)

room_for_amount : (g : given.Over) (c : goal.In-Some-tightest g) → c.loop-set.count < length c.loop-set.amounts
room_for_amount g c = omega (arith, room_left g c, (lengths g c).2)

pub offset_bounds-amounts-count : goal.offset_bounds-amounts-count
offset_bounds-amounts-count g c =
    let i : c.loop-set.count < length c.args.amounts.now = omega (arith, room_for_amount g (goal.at.offset_bounds-amounts-count g c).In-Some-tightest, c.loop-set.auto.amounts) in search rules

pub bounds-amounts-count : goal.bounds-amounts-count
bounds-amounts-count g c = room_for_amount g (goal.at.bounds-amounts-count g c).In-Some-tightest

pub overflow_add-count : goal.overflow_add-count
overflow_add-count g c = omega (arith, room_left g (goal.at.overflow_add-count g c).In-Some-tightest)

pub lower-requires : goal.lower-requires
lower-requires g c =
    let t = (goal.at.lower-requires g c).In-Some-tightest in
    let parts = g.T.Amount.parts in
    let s = c.args.question.now.sheet.now in
    let f = c.args.question.now.family.now in
    let a = asked c.args.question.now in
    let P = c.loop-set.invariant in
    let left = c.loop-set.left in
    record {
      sized = (lengths g t).0;
      unused = unused s.stations.count a (g.F.Family.member f) (lawful_here g t) c.loop-set.count P.before c.loop-set.used.marks P.marks_show c.in-Some.set (given_set g t) (map parts left) P.filled.left_written;
      fits = fits s.stations.count a (g.F.Family.member f) (lawful_here g t) c.loop-set.count P.before c.loop-set.used.marks P.marks_show c.in-Some.set (given_set g t) (map parts left) P.filled.left_written
          (parts c.index-left-link.result)
          (sym (get_or-map_read parts left c.in-Some-tightest.link c.index-left-link.result (link_in_column g t) c.index-left-link.is)
          ∙ amount_is s.stations.count a (g.F.Family.member f) (lawful_here g t) c.loop-set.count P.before c.loop-set.used.marks P.marks_show c.in-Some.set (given_set g t) (map parts left) P.filled.left_written c.in-Some-tightest.link (found_link g t));
    }

pub loop-set-smaller : goal.loop-set-smaller
loop-set-smaller g c = omega (arith, room_left g (goal.at.loop-set-smaller g c).In-Some-tightest)

pub loop-set-preserved : goal.loop-set-preserved
loop-set-preserved g c =
    let t = (goal.at.loop-set-preserved g c).In-Some-tightest in
    let parts = g.T.Amount.parts in
    let s = c.args.question.now.sheet.now in
    let f = c.args.question.now.family.now in
    let left = c.loop-set.left in
    progress_after parts s.stations.count (asked c.args.question.now) (g.F.Family.member f) (lawful_here g t)
    (room c.copy_prices.new.left c.args.sets.now c.args.amounts.now) left c.loop-set.sets c.loop-set.amounts c.loop-set.count
    c.loop-set.used.marks (take c.loop-set.used.count c.loop-set.used.order) c.loop-set.invariant c.in-Some.set (given_set g t)
    c.in-Some-tightest.link (found_link g t) c.index-left-link.result
    (get_or-map_read parts left c.in-Some-tightest.link c.index-left-link.result (link_in_column g t) c.index-left-link.is)
    (omega (arith, room_left g t, (lengths g t).1)) (room_for_amount g t)
    c.lower.new.left c.lower.new.used.marks (take c.lower.new.used.count c.lower.new.used.order) c.lower.auto.left
    c.lower.ensures.lowered c.lower.ensures.others c.lower.ensures.marks c.lower.ensures.order

-- ---- the end

pub returns-in_default-tightest : goal.returns-in_default-tightest
returns-in_default-tightest g c =
    let s = c.args.question.now.sheet.now in
    let f = c.args.question.now.family.now in
    let P = c.loop-set.invariant in
    absurd (some_is_tightest s.stations.count (asked c.args.question.now) (g.F.Family.member f) (lawful g c.args.question.now) c.loop-set.count P.before
    c.loop-set.used.marks P.marks_show c.in-Some.set (sym c.smallest.ensures ∙ c.in-Some.is) (map g.T.Amount.parts c.loop-set.left) P.filled.left_written
    (sym c.tightest.ensures ∙ c.in_default-tightest.is))

pub returns-in_default : goal.returns-in_default
returns-in_default g c =
    let a = asked c.args.question.now in
    let P = c.loop-set.invariant in
    record {
      stops = record { before = P.before; none = ap a.smallest (sym P.marks_show) ∙ sym c.smallest.ensures ∙ c.in_default.is };
      order = P.order_is;
      filled = filled_from g.T.Amount.parts a c.args.left.now c.copy_prices.new.left c.args.sets.now c.args.amounts.now
          (room c.loop-set.left c.loop-set.sets c.loop-set.amounts) c.loop-set.count c.copy_prices.auto.left
          (λ k d none. c.copy_prices.ensures k d ∙ ap (λ b. cond b (get_or c.args.question.now.prices.now k d) (get_or c.args.left.now k d)) none) P.filled;
    }
