-- How many bytes numbers take, each after a space.
-- By going along the stations that a list is made of.
use Rattle.std.proofs.Common.{ℕ, zero, suc, ◌+◌, ◌*◌, ◌^◌, ◌<◌, ◌≤◌, Bool, true, false, cond, List, ◌∷◌, length, decimal, arith, lit≤, length-append}
use Rattle.annex.specs.Lines.{spaced}
use Rattle.std.proofs.lemmas.Fmt.{length-decimal-le}
use Rattle.stations.specs.Sets.{rising_from, rising, has}

-- a number of 64 bits takes at most 20 bytes after its space
pub length_number_le : (n : ℕ) → n < 2 ^ 64 → length (32 ∷ decimal n) ≤ 21
length_number_le n fits = omega (arith, length-decimal-le 20 n (omega arith) (omega arith) fits)

length_more_le : (b : Bool) (s m : ℕ) (ns : List ℕ) → s < 100 → length (spaced ns) ≤ m → length (spaced (cond b (s ∷ ns) ns)) ≤ 3 + m
length_more_le true s m ns small le =
    simp length-append (omega (arith, length-decimal-le 2 s (omega arith) small (omega arith)))
length_more_le false s m ns small le = omega arith

-- a station takes at most three bytes
pub length_stations_le : (set s k : ℕ) → s + k ≤ 64 → length (spaced (rising_from set s k)) ≤ 3 * k
length_stations_le set s zero h = omega arith
length_stations_le set s (suc k) h =
    omega (arith, length_more_le (has set s) s (3 * k) (rising_from set (suc s) k) (omega arith) (length_stations_le set (suc s) k (omega arith)))

-- the 64 stations that a set can hold take at most 192 bytes
pub length_rising_le : (set : ℕ) → length (spaced (rising set)) ≤ 192
length_rising_le set = length_stations_le set 0 64 (lit≤ tt)
