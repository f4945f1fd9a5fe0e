-- The memory that a cover is handed.
use Rattle.std.specs.Prelude.{ℕ, Bool, ◌&&◌, List, length, ◌==◌}

-- what stage 1 fills: what is left of each link, and the sets with their amounts
pub record Room (T : Type 0) : Type 0 where
  pub left : List T
  pub sets : List ℕ
  pub amounts : List T

abbrev pub room : {T : Type 0} → List T → List ℕ → List T → Room T
room left sets amounts = record { left = left; sets = sets; amounts = amounts }

-- a place for each link number in the left column, 80 places in each list
abbrev pub room_sized : {T : Type 0} → Room T → Bool
room_sized m = length m.left == 200 && length m.sets == 80 && length m.amounts == 80

-- and with it the marks of the cover, one for each link number
pub record Memory (T : Type 0) : Type 0 where
  pub packing : Room T
  pub marks : List ℕ

abbrev pub memory : {T : Type 0} → List T → List ℕ → List T → List ℕ → Memory T
memory left sets amounts marks = record { packing = room left sets amounts; marks = marks }

abbrev pub memory_sized : {T : Type 0} → Memory T → Bool
memory_sized m = room_sized m.packing && length m.marks == 200
