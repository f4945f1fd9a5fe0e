-- One call: what refuses it, what it moves on the sheet and in the column, and what it fills.
use Rattle.std.specs.Prelude.{◌≡◌, ℕ, Bool, cond, List, map, ℤ, Some, None, is_ok, MatchResult, Decides, Option, slice_set}
use Rattle.std.specs.Result.{result_err}
use Rattle.cover.specs.Filled.{Filled, Small}
use Rattle.cover.specs.Memory.{memory_sized}
use Rattle.cover.specs.Ready.{cover_checks}
use Rattle.cover.specs.declared.in_stages.Cover.{Cover}
use Rattle.digraph.specs.Trees.{SpanningTree}
use Rattle.quote.specs.Memory.{quote_memory_sized}
use Rattle.quote.specs.Quotes.{quote_asked, quote_checks, QuoteFilled}
use Rattle.quote.specs.Trees.{KeepsTheTree, NoSmallerConcession}
use Rattle.quote.specs.declared.finding.Quote.{Quote as QuoteAnswer}
use Rattle.refusal.specs.Checks.{first}
use Rattle.refusal.specs.declared.Refusal.{Refusal}
use Rattle.sheet.specs.Calls.{add_checks, reprice_checks, withdraw_checks, install_checks}
use Rattle.sheet.specs.Held.{Held, with_link, with_tree}
use Rattle.stages.specs.Asked.{Asked, asked_of}
use Rattle.stages.specs.Theorems.{CheapestCover}
use Rattle.run.specs.States.{State}
use Rattle.run.specs.History.{Outcome}
use Rattle.run.specs.declared.calls.Call.{Call}
use Rattle.run.specs.declared.calls.Call.TheVariants.{Add, Reprice, Withdraw, Install, Quote, Cover as CoverOf}
use Rattle.run.specs.declared.calls.Answer.{Answer}
use Rattle.run.specs.declared.calls.Answer.TheVariants.{Done, Quoted, Covered}

-- what amounts and families mean: the width and the parts of an amount, and of a family its number of
-- stations and what its two questions answer
pub record Kinds (T F : Type 0) : Type 0 where
  pub width : ℕ
  pub parts : T → List ℤ
  pub size : F → ℕ
  pub small : F → Held → List ℕ → Option ℕ
  pub large : F → Held → List ℕ → Option ℕ

abbrev pub kinds : {T F : Type 0} → ℕ → (T → List ℤ) → (F → ℕ) → (F → Held → List ℕ → Option ℕ) → (F → Held → List ℕ → Option ℕ) → Kinds T F
kinds width parts size small large = record { width = width; parts = parts; size = size; small = small; large = large }

module _ {T F : Type 0} (K : Kinds T F) where
  -- the column by its parts
  abbrev pub prices_of : State T → List (List ℤ)
  prices_of s = map K.parts s.column

  -- what a cover of a family asks for
  abbrev pub cover_asked : State T → F → Asked
  cover_asked s f = asked_of K.width s.sheet (prices_of s) (K.small f) (K.large f)

  -- a call is refused by the first check that fails, and accepted if none does
  abbrev pub RefusedBy : State T → Call T F → Option Refusal → Type 0
  RefusedBy s (Add k l price) why = why ≡ first (add_checks s.sheet (prices_of s) k l.tail l.head (K.parts price))
  RefusedBy s (Reprice k price) why = why ≡ first (reprice_checks s.sheet (prices_of s) k (K.parts price))
  RefusedBy s (Withdraw k) why = why ≡ first (withdraw_checks s.sheet (prices_of s) k)
  RefusedBy s (Install lent) why =
      (spanning : Bool) → Decides spanning (SpanningTree s.sheet.stations s.sheet.links lent.now)
      → why ≡ first (install_checks s.sheet (prices_of s) lent.now spanning)
  RefusedBy s Quote why = why ≡ first (quote_checks s.sheet (prices_of s) (quote_memory_sized s.memory))
  RefusedBy s (CoverOf f) why = why ≡ first (cover_checks s.sheet (cover_asked s f) (K.size f) (memory_sized s.memory.cover))

  -- what an accepted call leaves on the sheet, and in the column
  abbrev pub sheet_after : State T → Call T F → Held
  sheet_after s (Add k l price) = with_link s.sheet k (Some l)
  sheet_after s (Withdraw k) = with_link s.sheet k None
  sheet_after s (Install lent) = with_tree s.sheet lent.now
  sheet_after s _ = s.sheet

  abbrev pub column_after : State T → Call T F → List T
  column_after s (Add k l price) = slice_set s.column k price
  column_after s (Reprice k price) = slice_set s.column k price
  column_after s _ = s.column

  -- what an accepted quote answers and fills, and that it is the least that keeps the tree
  pub record QuoteMade (s after : State T) (q : QuoteAnswer T) : Type 0 where
    pub filled : QuoteFilled K.parts K.width s.sheet (prices_of s) s.memory after.memory q.sets (K.parts q.cost) (K.parts q.concession)
    pub small : Small K.parts (quote_asked K.width s.sheet (prices_of s)) after.memory.cover.packing q.sets
    pub keeps : KeepsTheTree K.width s.sheet (prices_of s) (map K.parts after.memory.revised) (K.parts q.concession)
    pub least : NoSmallerConcession K.width s.sheet (prices_of s) (K.parts q.concession)

  -- what an accepted cover answers and fills, and that it is cheapest
  pub record CoverMade (member : F → ℕ → Type 0) (s after : State T) (f : F) (c : Cover T) : Type 0 where
    pub filled : Filled K.parts (cover_asked s f) s.memory.cover after.memory.cover c.sets (K.parts c.cost)
    pub revised_untouched : after.memory.revised ≡ s.memory.revised
    pub small : Small K.parts (cover_asked s f) after.memory.cover.packing c.sets
    pub cheapest : CheapestCover (cover_asked s f) (member f) after.memory.cover.marks (K.parts c.cost)

  -- what an accepted call answers, and what it leaves in the memory; only a quote and a cover fill it
  abbrev pub Answered : (member : F → ℕ → Type 0) → State T → State T → Call T F → Answer T → Type 0
  Answered member s after (Add k l price) Done = after.memory ≡ s.memory
  Answered member s after (Reprice k price) Done = after.memory ≡ s.memory
  Answered member s after (Withdraw k) Done = after.memory ≡ s.memory
  Answered member s after (Install lent) Done = after.memory ≡ s.memory
  Answered member s after Quote (Quoted q) = QuoteMade s after q
  Answered member s after (CoverOf f) (Covered c) = CoverMade member s after f c
  Answered member s after _ _ = ⊥

  -- what a call answers and leaves in the memory; a refused one leaves the memory alone
  abbrev pub Became : (member : F → ℕ → Type 0) → State T → State T → Call T F → Outcome T → Type 0
  Became member s after call o = MatchResult o (Answered member s after call) (λ _. after.memory ≡ s.memory)

  -- a call that was made, from one state to the next
  pub record Made (member : F → ℕ → Type 0) (s after : State T) (call : Call T F) (o : Outcome T) : Type 0 where
    pub refusal : RefusedBy s call (result_err o)
    pub sheet : after.sheet ≡ cond (is_ok o) (sheet_after s call) s.sheet
    pub column : after.column ≡ cond (is_ok o) (column_after s call) s.column
    pub became : Became member s after call o
