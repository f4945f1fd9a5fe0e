-- How a price stands in a file: after the three bytes of a record's number, tail and head, its parts
-- in order, each a signed 32-bit number of four bytes, lowest byte first.
use Rattle.std.specs.Prelude.{ℕ, zero, suc, ◌+◌, ◌*◌, List, [], ◌∷◌, drop, ℤ}
use Rattle.std.specs.Int.{w32, from_le_bytes, cast_signed}

-- the length of a link record with a price of so many parts
abbrev pub length_of_record : ℕ → ℕ
length_of_record width = 3 + 4 * width

-- four bytes as a number without a sign
abbrev pub word : List ℕ → ℕ
word bs = from_le_bytes w32 bs

-- a 32-bit number read as signed: from 2^31 on it stands for itself less 2^32
abbrev pub signed : ℕ → ℤ
signed n = cast_signed w32 n

-- so many parts from the front of some bytes
abbrev pub parts_at : ℕ → List ℕ → List ℤ
parts_at zero bs = []
parts_at (suc width) bs = signed (word bs) ∷ parts_at width (drop 4 bs)

-- the price of a record
abbrev pub price_at : ℕ → List ℕ → List ℤ
price_at width record_bytes = parts_at width (drop 3 record_bytes)
