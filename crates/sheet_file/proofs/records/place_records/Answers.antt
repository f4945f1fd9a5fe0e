use Rattle.std.proofs.Common.{◌/◌, length, is_ok, Err, sym, ap, ◌∙◌, rules, arith}
use Rattle.std.proofs.lemmas.Bool.{cond-true}
use Rattle.std.proofs.lemmas.Result.{err_from_is_err_and}
use Rattle.amount.specs.Records.{length_of_record}
use Rattle.sheet.specs.Held.{held}
use Rattle.sheet_file.proofs.OneOn.{record_is_inside, placed_ok, placed_err, refused_here, accepted_here}
use Rattle.sheet_file.proofs.records.place_records.Goals as goal

pub record_at-record-requires : goal.record_at-record-requires
record_at-record-requires g c =
    record_is_inside (length c.args.records.now) (length_of_record g.T.Amount.width) c.loop-place.place-counter (omega arith)

pub loop-place-preserved : goal.loop-place-preserved
loop-place-preserved g c =
    let w = g.T.Amount.width in
    let bs = c.args.records.now in
    let n = length bs / length_of_record w in
    let ok = sym c.map_err.ensures.variant ∙ ap is_ok c.in_ok-map_err.was in
    accepted_here w bs c.loop-place.place-counter n (omega arith) _ c.record_at-record.ensures (held c.loop-place.sheet) (held c.place.new.self) (sym c.place.ensures.refusal ∙ placed_ok c.place.result ok) (c.place.ensures.holds ∙ cond-true _ _ _ ok)
    ∙ c.loop-place.invariant

pub returns-in_err-map_err : goal.returns-in_err-map_err
returns-in_err-map_err g c =
    let w = g.T.Amount.width in
    let bs = c.args.records.now in
    let n = length bs / length_of_record w in
    let place = c.loop-place.place-counter in
    let told = placed_err place (λ why d given. search rules) c.place.result c.map_err.result _ c.map_err.ensures.cases c.in_err-map_err.was in
    let q = err_from_is_err_and c.from_residual.result c.from_residual.ensures.1 in
    rw (q.1, q.2)
    (ap Err told.2
    ∙ sym (refused_here w bs place n (omega arith) _ c.record_at-record.ensures (held c.loop-place.sheet) told.0 (sym c.place.ensures.refusal ∙ told.1))
    ∙ c.loop-place.invariant)
