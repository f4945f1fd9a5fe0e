-- What a refusal carries takes at most 192 bytes: 64 stations, or two numbers, which are appended one behind the other.
-- The stations' text is kept shut: it is handed on whole, and never computed.
use Rattle.std.proofs.Common.{◌≡◌, ℕ, ◌^◌, ◌<◌, ◌≤◌, [], ◌∷◌, length, length-append, decimal, arith, ap, ◌∙◌}
use Rattle.annex.proofs.Appending.{begun, room_within, gone_on, done}
use Rattle.annex.proofs.Lengths.{length_number_le, length_rising_le}
use Rattle.annex.specs.Lines.{spaced}
use Rattle.refusal.specs.Conversions.{refusal_of_link, refusal_of_tree}
use Rattle.refusal.specs.Numbers.{number_of}
use Rattle.stations.specs.Sets.{rising}
use Rattle.annex.proofs.text.Text.push_carried.Goals as goal

pub push_stations-requires : goal.push_stations-requires
push_stations-requires c = room_within c.args.self.now (spaced (rising c.in-MemberNotEntered.set)) 192 (length_rising_le c.in-MemberNotEntered.set) c.requires

pub returns-in-MemberNotEntered-clause-short : goal.returns-in-MemberNotEntered-clause-short
returns-in-MemberNotEntered-clause-short c = rw c.in-MemberNotEntered.is (length_rising_le c.in-MemberNotEntered.set)

-- one number after a space, or two
length_one_le : (n : ℕ) → n < 2 ^ 64 → length (spaced (n ∷ [])) ≤ 192
length_one_le n h = simp length-append (omega (arith, length_number_le n h))

length_two_le : (m n : ℕ) → m < 2 ^ 64 → n < 2 ^ 64 → length (spaced (m ∷ n ∷ [])) ≤ 192
length_two_le m n hm hn = simp length-append (omega (arith, length_number_le m hm, length_number_le n hn))

pub push_spaced-requires : goal.push_spaced-requires
push_spaced-requires c = omega (arith, length_number_le c.in-FileRecord.place (omega arith))

pub push_spaced-requires-in-FileRecord : goal.push_spaced-requires-in-FileRecord
push_spaced-requires-in-FileRecord c =
    omega (arith, length_number_le c.in-FileRecord.place (omega arith), length_number_le c.number-inner.result (omega arith))

pub returns-in-FileRecord : goal.returns-in-FileRecord
returns-in-FileRecord c =
    let place = c.in-FileRecord.place in
    let inner = c.number-inner.result in
    let told : inner ≡ number_of (refusal_of_link c.in-FileRecord.inner) = c.number-inner.ensures ∙ ap number_of c.from.ensures in
    let short = length_two_le place inner (omega arith) (omega arith) in
    let whole = begun (room_within c.args.self.now (spaced (place ∷ inner ∷ [])) 192 short c.requires) in
    let first = gone_on (32 ∷ decimal place) (spaced (inner ∷ [])) whole c.push_spaced.ensures in
    rw (c.in-FileRecord.is, ← told) (record { written = done (gone_on (32 ∷ decimal inner) [] first c.push_spaced-in-FileRecord.ensures); short = short })

pub push_spaced-requires-in-FileTree : goal.push_spaced-requires-in-FileTree
push_spaced-requires-in-FileTree c = omega (arith, length_number_le c.number.result (omega arith))

pub returns-in-FileTree-clause-short : goal.returns-in-FileTree-clause-short
returns-in-FileTree-clause-short c =
    let told : c.number.result ≡ number_of (refusal_of_tree c.in-FileTree.inner) = c.number.ensures ∙ ap number_of c.from-in-FileTree.ensures in
    rw (c.in-FileTree.is, ← told) (length_one_le c.number.result (omega arith))
