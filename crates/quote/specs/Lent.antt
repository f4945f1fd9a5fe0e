-- Memory that a caller lends to a quote: what it holds, and that it is still the same.
use Rattle.std.specs.Prelude.{◌≡◌, length}
use Rattle.quote.specs.Memory.{QuoteMemory as Memory, quote_memory}
use Rattle.quote.specs.declared.memory.QuoteMemory.{QuoteMemory}

abbrev pub quote_contents : {T : Type 0} → QuoteMemory T → Memory T
quote_contents m = quote_memory m.left.now m.revised.now m.sets.now m.amounts.now m.marks.now

-- each reference is the one that it was, whatever was written behind it, and what it lends is as long as it was
pub record SameQuoteMemory {T : Type 0} (old new : QuoteMemory T) : Type 0 where
  pub left : new.left.ghost_name ≡ old.left.ghost_name
  pub sets : new.sets.ghost_name ≡ old.sets.ghost_name
  pub amounts : new.amounts.ghost_name ≡ old.amounts.ghost_name
  pub marks : new.marks.ghost_name ≡ old.marks.ghost_name
  pub revised : new.revised.ghost_name ≡ old.revised.ghost_name
  pub left_length : length new.left.now ≡ length old.left.now
  pub sets_length : length new.sets.now ≡ length old.sets.now
  pub amounts_length : length new.amounts.now ≡ length old.amounts.now
  pub marks_length : length new.marks.now ≡ length old.marks.now
  pub revised_length : length new.revised.now ≡ length old.revised.now
