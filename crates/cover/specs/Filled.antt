-- What a cover leaves: every place of the memory that it was handed.
use Rattle.std.specs.Prelude.{◌≡◌, ℕ, ◌<◌, ◌≤◌, true, false, List, [], map, length, take, drop, ℤ, slice_index_or}
use Rattle.std.specs.List.{range_with_len}
use Rattle.amount.specs.Parts.{within}
use Rattle.digraph.specs.Entering.{marked}
use Rattle.duality.specs.Trees.{is_link}
use Rattle.stages.specs.Asked.{Asked}
use Rattle.stages.specs.Packing.{left_of, left_after, set_at, amount_at}
use Rattle.stages.specs.Done.{Done}
use Rattle.stages.specs.Theorems.{cost_in_force}
use Rattle.cover.specs.Memory.{Room, Memory}

-- what stage 1 leaves after so many sets
pub record RoomFilled {T : Type 0} (parts : T → List ℤ) (a : Asked) (old new : Room T) (sets : ℕ) : Type 0 where
  -- what is left of each link, and no other place is touched
  pub left_written : (k : ℕ) → is_link a.slots k ≡ true → slice_index_or (map parts new.left) k [] ≡ left_of (left_after a sets) k
  pub left_untouched : (k : ℕ) (d : T) → is_link a.slots k ≡ false → slice_index_or new.left k d ≡ slice_index_or old.left k d
  pub left_sized : length new.left ≡ length old.left
  -- the sets and their amounts in the order found, and no place behind the last is touched
  pub sets_written : take sets new.sets ≡ map (set_at a) (range_with_len 0 sets)
  pub sets_untouched : drop sets new.sets ≡ drop sets old.sets
  pub amounts_written : map parts (take sets new.amounts) ≡ map (amount_at a) (range_with_len 0 sets)
  pub amounts_untouched : drop sets new.amounts ≡ drop sets old.amounts

-- what a cover leaves that answers a number of sets and a cost
pub record Filled {T : Type 0} (parts : T → List ℤ) (a : Asked) (old new : Memory T) (sets : ℕ) (cost : List ℤ) : Type 0 where
  pub packing : RoomFilled parts a old.packing new.packing sets
  -- the three stages came to so many sets and these marks
  pub stages : Done a sets new.marks
  -- the answer is what the marked links cost
  pub cost_of_marked : cost ≡ cost_in_force a (marked new.marks)

-- there are at most 79 sets, and no part of what is left or of an amount lies beyond 8,000,000 either way
pub record Small {T : Type 0} (parts : T → List ℤ) (a : Asked) (new : Room T) (sets : ℕ) : Type 0 where
  pub few_sets : sets ≤ 79
  pub left_small : (k : ℕ) → is_link a.slots k ≡ true → within 8000000 (slice_index_or (map parts new.left) k []) ≡ true
  pub amounts_small : (i : ℕ) → i < sets → within 8000000 (slice_index_or (map parts new.amounts) i []) ≡ true
