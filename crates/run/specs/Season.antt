-- The law of runs: what holds at every place of a list of calls, however long, said of the history.
use Rattle.std.specs.Prelude.{◌≡◌, ℕ, suc, ◌≤◌, not, List, [], ◌∷◌, map, length, Some, Ok, Err, ◌==◌}
use Rattle.std.specs.List.{slice_get}
use Rattle.std.specs.Result.{result_err}
use Rattle.quote.specs.Trees.{KeepsTheTree, NoSmallerConcession}
use Rattle.refusal.specs.Checks.{Check, ◌refuses_with◌}
use Rattle.refusal.specs.declared.Refusal.{Refusal}
use Rattle.refusal.specs.declared.Refusal.TheVariants.{StationCount, MemorySize}
use Rattle.stations.specs.Counts.{out_of_range}
use Rattle.stages.specs.Theorems.{CheapestCover}
use Rattle.run.specs.States.{State}
use Rattle.run.specs.History.{Outcome, Shows}
use Rattle.run.specs.Made.{Kinds, prices_of, cover_asked, RefusedBy, Became}
use Rattle.run.specs.declared.calls.Call.{Call}
use Rattle.run.specs.declared.calls.Call.TheVariants.{Quote, Cover}
use Rattle.run.specs.declared.calls.Answer.TheVariants.{Quoted, Covered}

-- a run itself is turned back by its number of stations, and by an outcome list of another size than the list of calls
abbrev pub run_checks : ℕ → ℕ → ℕ → List (Check Refusal)
run_checks stations calls outcomes =
    (out_of_range stations refuses_with StationCount) ∷ (not (outcomes == calls) refuses_with MemorySize) ∷ []

pub record Season {T F : Type 0} (K : Kinds T F) (member : F → ℕ → Type 0) (stations : ℕ) (calls : List (Call T F)) (outcomes : List (Outcome T))
    (start end : State T) : Type 0 where
  -- what sheet, column and memory are after so many calls: the first as handed over with the sheet just
  -- opened, the last as given back
  pub states : ℕ → State T
  pub begins : states 0 ≡ start
  pub ends : states (length calls) ≡ end
  pub outcome_of_each : length outcomes ≡ length calls
  -- sheet and column are what the history of the calls before says
  pub history_shows : (i : ℕ) → i ≤ length calls → Shows calls outcomes stations start.column i (states i).sheet (states i).column
  -- a call is refused by the first condition that holds of what the history before it says, and accepted if none does
  pub refused_as_defined : (i : ℕ) (call : Call T F) (o : Outcome T) → slice_get calls i ≡ Some call → slice_get outcomes i ≡ Some o → RefusedBy K (states i) call (result_err o)
  pub refused_changes_nothing : (i : ℕ) (why : _) → slice_get outcomes i ≡ Some (Err why) → states (suc i) ≡ states i
  -- what a call answers and leaves in the memory is what is defined for it there
  pub answers_as_defined : (i : ℕ) (call : Call T F) (o : Outcome T) → slice_get calls i ≡ Some call → slice_get outcomes i ≡ Some o → Became K member (states i) (states (suc i)) call o
  -- under an accepted quote's revised prices no spanning tree costs less than the installed one, and they
  -- deviate from the prices in force by just the concession
  pub quotes_keep_the_tree : (i : ℕ) (q : _) → slice_get calls i ≡ Some Quote → slice_get outcomes i ≡ Some (Ok (Quoted q))
      → KeepsTheTree K.width (states i).sheet (prices_of K (states i)) (map K.parts (states (suc i)).memory.revised) (K.parts q.concession)
  -- every other list of prices under which the installed tree is cheapest deviates by at least that concession
  pub no_smaller_concession : (i : ℕ) (q : _) → slice_get calls i ≡ Some Quote → slice_get outcomes i ≡ Some (Ok (Quoted q))
      → NoSmallerConcession K.width (states i).sheet (prices_of K (states i)) (K.parts q.concession)
  -- the links that an accepted cover marks enter each member and cost what it answers, and no choice that
  -- enters each member costs less
  pub covers_are_cheapest : (i : ℕ) (f : F) (c : _) → slice_get calls i ≡ Some (Cover f) → slice_get outcomes i ≡ Some (Ok (Covered c))
      → CheapestCover (cover_asked K (states i) f) (member f) (states (suc i)).memory.cover.marks (K.parts c.cost)
