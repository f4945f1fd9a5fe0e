use Rattle.std.proofs.Common.{◌≡◌, ℕ, ◌-◌, ◌/◌, false, map, length, get_or}
use Rattle.amount.specs.Records.{length_of_record}
use Rattle.sheet_file.specs.Files.{entries_from}
use Rattle.sheet_file.specs.Loading.{mentions}
use Rattle.sheet_file.specs.Placing.{writing}
use Rattle.sheet_file.proofs.records.write_prices.Given as goal

-- the records still to come bring this column to the answer, and a number of no record is as it was
abbrev pub invariant-loop-place : goal.invariant-loop-place
invariant-loop-place g l =
    let w = g.T.Amount.width in
    let f = g.T.Amount.parts in
    let n = length l.records / length_of_record w in
    (writing (map f l.prices) (entries_from w l.records l.place (n - l.place)) ≡ writing (map f l.initial.prices) (entries_from w l.records 0 n))
    × ((k : ℕ) (d : g.row.T.Denot) → mentions k (entries_from w l.records 0 n) ≡ false → get_or l.prices k d ≡ get_or l.initial.prices k d)
