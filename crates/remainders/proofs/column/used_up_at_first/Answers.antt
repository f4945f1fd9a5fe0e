use Rattle.std.proofs.Common.{◌≡◌, true, false, cond, [], map, take, replicate, is_some, sym, ap, ◌∙◌, arith}
use Rattle.std.proofs.lemmas.List.{append-nil, get_or-replicate}
use Rattle.std.proofs.lemmas.Bool.{and_from, and_left, and_right}
use Rattle.remainders.proofs.Reading.{get_or-map_read}
use Rattle.remainders.specs.Column.{spent, spent_link}
use Rattle.remainders.proofs.Noting.{noted_none, noted_one_on, noted_marks, noted_order}
use Rattle.remainders.proofs.column.used_up_at_first.Goals as goal
use Rattle.remainders.proofs.column.used_up_at_first.Goals.{then-is_some+then-is_spent, else-is_some, else-is_some-via-then-is_some+else-is_spent, else-is_some-via-else-is_some}

pub loop-k-init : goal.loop-k-init
loop-k-init g c =
    noted_none _ (replicate 200 0) [] _ _ c.none-used.ensures.marks c.none-used.ensures.order

pub note-requires : goal.note-requires
note-requires g c =
    record {
      within = omega arith;
      fresh = c.loop-k.invariant.marking.ahead c.loop-k.k (omega arith) ∙ get_or-replicate 200 c.loop-k.k 0 0 (omega arith);
    }

pub loop-k-preserved : goal.loop-k-preserved
loop-k-preserved g c =
    let f = g.T.Amount.parts in
    let width = g.T.Amount.width in
    let left = c.args.left.now in
    let k = c.loop-k.k in
    let used = c.if-is_some.used in
    let linked = ap is_some (sym c.link.ensures) ∙ sym c.is_some.ensures in
    let on = noted_one_on _ (replicate 200 0) [] k _ _ c.loop-k.invariant (omega (arith, c.loop-k.used.sized)) used.marks (take used.count used.order) in
    elim c.if-is_some.branch [
      | then-is_some+then-is_spent w ↦
          on true
          (and_from _ _ (linked ∙ w.if-is_some.true) (ap (spent width) (get_or-map_read f left k w.index-left-k.result (omega (arith, c.requires)) w.index-left-k.is) ∙ sym w.is_spent.ensures ∙ w.if-is_spent.true))
          (ap (λ u. u.marks) w.used-is ∙ w.note.ensures.marks)
          (ap (λ u. take u.count u.order) w.used-is ∙ w.note.ensures.order)
      | else-is_some w ↦
          let passed_by : spent_link width c.args.sheet.now.links.slots (map f left) k ≡ false = elim w.else-is_some.branch [
            | else-is_some-via-then-is_some+else-is_spent v ↦
                and_right _ _ (ap (spent width) (get_or-map_read f left k v.index-left-k.result (omega (arith, c.requires)) v.index-left-k.is) ∙ sym v.is_spent.ensures ∙ v.if-is_spent.false)
            | else-is_some-via-else-is_some v ↦ and_left _ _ (linked ∙ v.if-is_some.false)
          ] in
          on false passed_by
          (ap (λ u. u.marks) w.used-is)
          (ap (λ u. take u.count u.order) w.used-is ∙ sym (append-nil _))
    ]

pub returns : goal.returns
returns g c =
    let end : c.loop-k.k ≡ 200 = omega arith in
    let test = spent_link g.T.Amount.width c.args.sheet.now.links.slots (map g.T.Amount.parts c.args.left.now) in
    record {
      marks = noted_marks test (replicate 200 0) [] c.loop-k.k _ _ c.loop-k.invariant end c.loop-k.used.sized (λ j. cond (test j) 1 0) (λ j h. ap (cond (test j) 1) (get_or-replicate 200 j 0 0 h));
      order = noted_order test (replicate 200 0) [] c.loop-k.k _ _ c.loop-k.invariant end;
    }
