-- A run under way: states after each call so far, each next one what the call made of the one before. It is
-- carried on by one call at a time, and at the end it is the law of runs.
use Rattle.std.proofs.Common.{◌≡◌, ℕ, zero, suc, ◌+◌, ◌<◌, ◌≤◌, cond, leb, List, length, set, Some, None, Ok, Err, Option, sym, refl, ap, ◌∙◌, ⊎_elim, add-one, arith}
use Rattle.std.specs.List.{slice_get}
use Rattle.std.proofs.lemmas.List.{length-replicate}
use Rattle.std.proofs.lemmas.Grind.{common_steps}
use Rattle.std.proofs.lemmas.Option.{gets, none-some, slice_get_cases, slice_get_within}
use Rattle.std.proofs.lemmas.Bool.{cases_eq, le-leb, lt-leb}
use Rattle.digraph.specs.declared.link.Link.{Link}
use Rattle.refusal.specs.declared.Refusal.{Refusal}
use Rattle.sheet.specs.Held.{opened}
use Rattle.sheet.proofs.Keeping.{none_in_empty}
use Rattle.run.specs.States.{State, at_first}
use Rattle.run.specs.History.{Outcome, Shows}
use Rattle.run.specs.Made.{Kinds, Made}
use Rattle.run.specs.Season.{Season}
use Rattle.run.specs.declared.calls.Answer.TheVariants.{Quoted, Covered}
use Rattle.run.specs.declared.calls.Call.{Call}
use Rattle.run.specs.declared.calls.Call.TheVariants.{Quote, Cover}
use Rattle.run.proofs.HistorySteps.{refused_shows, accepted_shows}

-- what stands at a place of a list that was written there, or at another place
get_set_same : {A : Type 0} (xs : List A) (i : ℕ) (x y : A) → slice_get (set xs i x) i ≡ Some y → y ≡ x
get_set_same xs i x y e = grind (arith, common_steps, gets)

get_set_other : {A : Type 0} (xs : List A) (i j : ℕ) (x y : A) → (j ≡ i → ⊥) → slice_get (set xs i x) j ≡ Some y → slice_get xs j ≡ Some y
get_set_other xs i j x y ne e = grind (arith, common_steps, gets)

-- each place of a list has something
there : {A : Type 0} (xs : List A) (i : ℕ) → i < length xs → (x : A) × (slice_get xs i ≡ Some x)
there xs i h = ⊎_elim (λ (x, within, is, read). (x, is)) (λ (past, none). absurd (omega arith)) (slice_get_cases xs i).1

module _ {T F : Type 0} (K : Kinds T F) (member : F → ℕ → Type 0) (calls : List (Call T F)) (start : State T) where
  -- n calls are made, and have come to this state
  pub record Underway (outcomes : List (Outcome T)) (n : ℕ) (current : State T) : Type 0 where
    pub states : ℕ → State T
    pub begins : states 0 ≡ start
    pub comes_to : states n ≡ current
    pub each : (j : ℕ) (call : Call T F) (o : Outcome T) → j < n → slice_get calls j ≡ Some call → slice_get outcomes j ≡ Some o → Made K member (states j) (states (suc j)) call o

  pub none_made : (outcomes : List (Outcome T)) (current : State T) → start ≡ current → Underway outcomes 0 current
  none_made outcomes current same = record { states = λ j. start; begins = refl; comes_to = same; each = λ j call o h. absurd (omega arith) }

  module _ (outcomes : List (Outcome T)) (n : ℕ) (current : State T) (U : Underway outcomes n current) (call : Call T F) (this : slice_get calls n ≡ Some call)
      (o : Outcome T) (next : State T) (made : Made K member current next call o) where
    -- the states so far, and the next one behind them
    longer : ℕ → State T
    longer j = cond (leb j n) (U.states j) next

    longer_before : (j : ℕ) → j ≤ n → longer j ≡ U.states j
    unfolding longer
    longer_before j h = ap (λ b. cond b (U.states j) next) (le-leb j n h)

    longer_next : longer (suc n) ≡ next
    unfolding longer
    longer_next = ap (λ b. cond b (U.states (suc n)) next) (lt-leb (suc n) n (omega arith))

    pub one_more_made : Underway (set outcomes n o) (n + 1) next
    one_more_made =
        record {
          states = longer;
          begins = longer_before 0 (omega arith) ∙ U.begins;
          comes_to = ap longer (add-one n) ∙ longer_next;
          each = λ j c x h e f. ⊎_elim (λ same. at_once j c x same e f)
              (λ ne. rw (longer_before j (omega arith), longer_before (suc j) (omega arith)) (U.each j c x (omega arith) e (get_set_other outcomes n j o x ne f))) (cases_eq j n);
        }
      where
        at_once : (j : ℕ) (c : Call T F) (x : Outcome T) → j ≡ n → slice_get calls j ≡ Some c → slice_get (set outcomes n o) j ≡ Some x → Made K member (longer j) (longer (suc j)) c x
        at_once j c x same e f =
            let same_call : c ≡ call = cc in
            let same_outcome = get_set_same outcomes n o x (ap (slice_get (set outcomes n o)) (sym same) ∙ f) in
            rw (same, same_call, same_outcome, longer_before n (omega arith), U.comes_to, longer_next) made

-- ---- the end of a run

module _ {T F : Type 0} (K : Kinds T F) (member : F → ℕ → Type 0) (stations : ℕ) (calls : List (Call T F)) (column : List T) (memory : _) (outcomes : List (Outcome T)) (end : State T)
    (as_many : length outcomes ≡ length calls) (U : Underway K member calls (at_first stations column memory) outcomes (length calls) end) where
  opened_shows : Shows calls outcomes stations column 0 (opened stations) column
  opened_shows =
      record {
        stations_are = refl;
        place_for_each_number = length-replicate {A = Option Link} 200 None;
        links = record { was_added = λ k l e. absurd (none-some l (sym (none_in_empty 200 k) ∙ e)); is_link = λ k l on. absurd (omega (arith, on.before)) };
        tree = record { was_installed = λ list e. cc; is_tree = λ list on. absurd (omega (arith, on.before)) };
        prices = record { in_force = λ k price on. absurd (omega (arith, on.before)); never_priced = λ k d none. refl; sized = refl };
      }

  shows_next : (i : ℕ) (s after : State T) (call : Call T F) (o : Outcome T) → slice_get calls i ≡ Some call → slice_get outcomes i ≡ Some o → Made K member s after call o
      → Shows calls outcomes stations column i s.sheet s.column → Shows calls outcomes stations column (suc i) after.sheet after.column
  shows_next i s after call (Ok answer) this became made shown =
      rw (made.sheet, made.column) (accepted_shows K calls outcomes i stations column s shown answer became call this made.refusal)
  shows_next i s after call (Err why) this became made shown =
      rw (made.sheet, made.column) (refused_shows K calls outcomes i stations column s shown why became)

  shows_at : (i : ℕ) → i ≤ length calls → Shows calls outcomes stations column i (U.states i).sheet (U.states i).column
  shows_at zero h = rw U.begins opened_shows
  shows_at (suc i) h =
      let (call, this) = there calls i h in
      let (o, became) = there outcomes i (omega arith) in
      shows_next i (U.states i) (U.states (suc i)) call o this became (U.each i call o h this became) (shows_at i (omega arith))

  refused_keeps : (s after : State T) (call : Call T F) (why : Refusal) → Made K member s after call (Err why) → after ≡ s
  refused_keeps s after call why made =
      let same : ◌≡◌ {A = State T} (record { sheet = after.sheet; column = after.column; memory = after.memory }) (record { sheet = s.sheet; column = s.column; memory = s.memory }) = cc in
      same

  placed : (i : ℕ) (o : Outcome T) → slice_get outcomes i ≡ Some o → i < length calls
  placed i o e = omega (arith, slice_get_within outcomes i o e)

  pub run_is_lawful : Season K member stations calls outcomes (at_first stations column memory) end
  run_is_lawful =
      record {
        states = U.states;
        begins = U.begins;
        ends = U.comes_to;
        outcome_of_each = as_many;
        history_shows = shows_at;
        refused_as_defined = λ i call o this became. (made_at i call o this became).refusal;
        refused_changes_nothing = λ i why became.
            let (call, this) = there calls i (placed i (Err why) became) in
            refused_keeps (U.states i) (U.states (suc i)) call why (made_at i call (Err why) this became);
        answers_as_defined = λ i call o this became. (made_at i call o this became).became;
        quotes_keep_the_tree = λ i q this became. (made_at i Quote (Ok (Quoted q)) this became).became.keeps;
        no_smaller_concession = λ i q this became. (made_at i Quote (Ok (Quoted q)) this became).became.least;
        covers_are_cheapest = λ i f c this became. (made_at i (Cover f) (Ok (Covered c)) this became).became.cheapest;
      }
    where
      made_at : (i : ℕ) (call : Call T F) (o : Outcome T) → slice_get calls i ≡ Some call → slice_get outcomes i ≡ Some o → Made K member (U.states i) (U.states (suc i)) call o
      made_at i call o this became = U.each i call o (placed i o became) this became
