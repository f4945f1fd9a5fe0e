-- What the calls of a run work on: what the sheet holds, the price column, and the memory that quotes and covers fill.
use Rattle.std.specs.Prelude.{ℕ, List}
use Rattle.quote.specs.Lent.{quote_contents}
use Rattle.quote.specs.Memory.{QuoteMemory as Memory}
use Rattle.quote.specs.declared.memory.QuoteMemory.{QuoteMemory}
use Rattle.sheet.specs.Held.{Held, held, opened}
use Rattle.sheet.specs.declared.Sheet.{Sheet}

pub record State (T : Type 0) : Type 0 where
  pub sheet : Held
  pub column : List T
  pub memory : Memory T

abbrev pub state : {T : Type 0} → Sheet → List T → QuoteMemory T → State T
state sheet column memory = record { sheet = held sheet; column = column; memory = quote_contents memory }

-- as a run begins: a sheet just opened for so many stations, and column and memory as they were handed over
abbrev pub at_first : {T : Type 0} → ℕ → List T → QuoteMemory T → State T
at_first stations column memory = record { sheet = opened stations; column = column; memory = quote_contents memory }
