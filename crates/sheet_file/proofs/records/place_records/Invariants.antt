use Rattle.std.proofs.Common.{◌≡◌, ◌-◌, ◌/◌, length}
use Rattle.amount.specs.Records.{length_of_record}
use Rattle.sheet.specs.Held.{held}
use Rattle.sheet_file.specs.Files.{entries_from}
use Rattle.sheet_file.specs.Placing.{placing}
use Rattle.sheet_file.proofs.records.place_records.Given as goal

-- the records still to come bring this sheet to the answer
abbrev pub invariant-loop-place : goal.invariant-loop-place
invariant-loop-place g l =
    let w = g.T.Amount.width in
    let n = length l.records / length_of_record w in
    placing l.place-counter (held l.sheet) (entries_from w l.records l.place-counter (n - l.place-counter)) ≡ placing 0 (held l.initial.sheet) (entries_from w l.records 0 n)
