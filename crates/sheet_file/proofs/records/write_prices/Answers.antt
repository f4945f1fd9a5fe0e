use Rattle.std.proofs.Common.{◌≡◌, ◌+◌, ◌/◌, map, length, set, ap, ◌∙◌, arith}
use Rattle.std.proofs.lemmas.List.{map-set, get_or-set_other}
use Rattle.sheet_file.specs.Files.{entry_at}
use Rattle.amount.specs.Records.{length_of_record}
use Rattle.sheet_file.proofs.OneOn.{record_is_inside, written_here, not_mentioned_at}
use Rattle.sheet_file.proofs.records.write_prices.Goals as goal

pub record_at-record-requires : goal.record_at-record-requires
record_at-record-requires g c =
    record_is_inside (length c.args.records.now) (length_of_record g.T.Amount.width) c.loop-place.place (omega arith)

pub loop-place-preserved : goal.loop-place-preserved
loop-place-preserved g c =
    let w = g.T.Amount.width in
    let f = g.T.Amount.parts in
    let bs = c.args.records.now in
    let n = length bs / length_of_record w in
    let place = c.loop-place.place in
    let ps = c.loop-place.prices in
    let k = c.from.result in
    let p = c.record_at-record.result.price in (
      written_here w bs place n (omega arith) _ c.record_at-record.ensures (map f ps) (map f (set ps k p)) (map-set f ps k p ∙ ap (λ j. set (map f ps) j (f p)) c.from.ensures) ∙ c.loop-place.invariant.0,
      λ j d none. get_or-set_other ps k j p d (λ e. not_mentioned_at w bs j 0 n none place (omega arith) (e ∙ c.from.ensures ∙ ap (λ x. x.number) c.record_at-record.ensures ∙ ap (λ x. (entry_at w bs x).number) (let z : place ≡ 0 + place = omega arith in z))) ∙ c.loop-place.invariant.1 j d none,
    )
