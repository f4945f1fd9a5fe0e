-- Memory that a caller lends: what it holds, and that it is still the same.
use Rattle.std.specs.Prelude.{◌≡◌, length}
use Rattle.cover.specs.Memory.{Memory, memory}
use Rattle.cover.specs.declared.memory.CoverMemory.{CoverMemory}

abbrev pub contents : {T : Type 0} → CoverMemory T → Memory T
contents m = memory m.left.now m.sets.now m.amounts.now m.marks.now

-- each reference is the one that it was, whatever was written behind it, and what it lends is as long as it was
pub record SameMemory {T : Type 0} (old new : CoverMemory T) : Type 0 where
  pub left : new.left.ghost_name ≡ old.left.ghost_name
  pub sets : new.sets.ghost_name ≡ old.sets.ghost_name
  pub amounts : new.amounts.ghost_name ≡ old.amounts.ghost_name
  pub marks : new.marks.ghost_name ≡ old.marks.ghost_name
  pub left_length : length new.left.now ≡ length old.left.now
  pub sets_length : length new.sets.now ≡ length old.sets.now
  pub amounts_length : length new.amounts.now ≡ length old.amounts.now
  pub marks_length : length new.marks.now ≡ length old.marks.now
