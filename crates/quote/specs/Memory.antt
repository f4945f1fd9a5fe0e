-- The memory that a quote is handed: that of a cover, and a column for the revised prices.
use Rattle.std.specs.Prelude.{ℕ, Bool, ◌&&◌, List, length, ◌==◌}
use Rattle.cover.specs.Memory.{Memory, memory, memory_sized}

pub record QuoteMemory (T : Type 0) : Type 0 where
  pub cover : Memory T
  pub revised : List T

abbrev pub quote_memory : {T : Type 0} → List T → List T → List ℕ → List T → List ℕ → QuoteMemory T
quote_memory left revised sets amounts marks = record { cover = memory left sets amounts marks; revised = revised }

abbrev pub quote_memory_sized : {T : Type 0} → QuoteMemory T → Bool
quote_memory_sized m = memory_sized m.cover && length m.revised == 200
