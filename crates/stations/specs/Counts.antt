-- How many stations there may be.
use Rattle.std.specs.Prelude.{◌≡◌, ℕ, Bool, true, ◌||◌, nat_lt, Result, MatchResult}
use Rattle.stations.specs.declared.count.StationCount.{StationCount}
use Rattle.stations.specs.declared.count.WrongCount.{WrongCount}

-- fewer than 2 or more than 40
abbrev pub out_of_range : ℕ → Bool
out_of_range n = nat_lt n 2 || nat_lt 40 n

-- the result is that count, or a refusal of a number that is out of range
abbrev pub Counts : ℕ → Result StationCount WrongCount → Type 0
Counts n r = MatchResult r (λ stations. stations.count ≡ n) (λ _. out_of_range n ≡ true)
