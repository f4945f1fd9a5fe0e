-- The four appends, each behind the one before, are one append of the line.
-- The room is there: the word, a number and what is carried take at most 7, 21 and 192 bytes.
use Rattle.std.proofs.Common.{◌≤◌, [], ◌∷◌, ◌++◌, length, length-append, codes, arith, decimal, append_assoc}
use Rattle.annex.proofs.Appending.{room_within, begun, gone_on, done}
use Rattle.annex.proofs.Lengths.{length_number_le}
use Rattle.annex.specs.Lines.{spaced}
use Rattle.refusal.specs.Numbers.{carried_by}
use Rattle.annex.proofs.text.Text.push_line.Goals as goal

pub push_spaced-requires : goal.push_spaced-requires
push_spaced-requires c = omega (arith, length_number_le c.number.result (omega arith))

pub push_carried-requires : goal.push_carried-requires
push_carried-requires c = omega (arith, length_number_le c.number.result (omega arith))

pub push_byte-requires : goal.push_byte-requires
push_byte-requires c = omega (arith, length_number_le c.number.result (omega arith), c.push_carried.ensures.short)

pub returns : goal.returns
returns c =
    let number = 32 ∷ decimal c.number.result in
    let carried = spaced (carried_by c.args.refusal) in
    let whole = codes "refused" ++ (number ++ (carried ++ (10 ∷ []))) in
    let short : length whole ≤ 221 = simp length-append (omega (arith, length_number_le c.number.result (omega arith), c.push_carried.ensures.short)) in
    let word = gone_on (codes "refused") (number ++ (carried ++ (10 ∷ []))) (begun (room_within c.args.self.now whole 221 short c.requires)) c.push_bytes.ensures in
    let numbered = gone_on number (carried ++ (10 ∷ [])) word c.push_spaced.ensures in
    let told = gone_on carried (10 ∷ []) numbered c.push_carried.ensures.written in
    rw (← c.number.ensures, append_assoc (decimal c.number.result) carried (10 ∷ [])) (done (gone_on (10 ∷ []) [] told c.push_byte.ensures))
