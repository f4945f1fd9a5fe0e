-- A set of stations is a number: bit s stands for station s.
use Rattle.std.specs.Prelude.{ℕ, zero, suc, ◌/◌, ◌%◌, ◌^◌, eqb, Bool, cond, List, [], ◌∷◌, ◌≡◌}

-- bit s of a set, 0 or 1
abbrev pub digit : ℕ → ℕ → ℕ
digit set s = set / 2 ^ s % 2

-- station s is in the set, as a fact
abbrev pub In : ℕ → ℕ → Type 0
In set s = digit set s ≡ 1

-- and as a test
abbrev pub has : ℕ → ℕ → Bool
has set s = eqb (digit set s) 1

-- every station of the first set is in the second
abbrev pub Part : ℕ → ℕ → Type 0
Part a b = (s : ℕ) → In a s → In b s

-- the stations of a set from s on, rising, as far as k stations go
abbrev pub rising_from : ℕ → ℕ → ℕ → List ℕ
rising_from set s zero = []
rising_from set s (suc k) = let rest = rising_from set (suc s) k in cond (has set s) (s ∷ rest) rest

-- the stations of a set, rising
abbrev pub rising : ℕ → List ℕ
rising set = rising_from set 0 64
