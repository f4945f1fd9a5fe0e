-- What turns a cover back, and what is known once nothing did.
use Rattle.std.specs.Prelude.{◌≡◌, ℕ, Bool, true, not, List, [], ◌∷◌, ◌++◌, length, replicate, is_some, None, Option, ◌==◌}
use Rattle.std.specs.Option.{unwrap_or}
use Rattle.refusal.specs.Checks.{Check, ◌refuses_with◌}
use Rattle.refusal.specs.declared.Refusal.{Refusal}
use Rattle.refusal.specs.declared.Refusal.TheVariants.{MemorySize, MemberNotEntered, FamilyStations}
use Rattle.sheet.specs.Calls.{column_checks, priced}
use Rattle.sheet.specs.Held.{Held}
use Rattle.stages.specs.Asked.{Asked}

-- what the smallest question answers when all links are marked: a member that no link enters, if there is one
abbrev pub left_out : (List ℕ → Option ℕ) → Option ℕ
left_out smallest = smallest (replicate 200 1)

-- the family, made for so many stations, is one for the sheet and has no member that no link enters
abbrev pub suited_checks : Held → (List ℕ → Option ℕ) → ℕ → List (Check Refusal)
suited_checks h smallest size =
    (not (size == h.stations) refuses_with FamilyStations) ∷
    (is_some (left_out smallest) refuses_with MemberNotEntered (unwrap_or (left_out smallest) 0)) ∷ []

-- and before it the memory has the right size
abbrev pub family_checks : Held → (List ℕ → Option ℕ) → ℕ → Bool → List (Check Refusal)
family_checks h smallest size memory_fits = (not memory_fits refuses_with MemorySize) ∷ suited_checks h smallest size

abbrev pub cover_checks : Held → Asked → ℕ → Bool → List (Check Refusal)
cover_checks h a size memory_fits = column_checks h a.column ++ family_checks h a.smallest size memory_fits

-- the stages can begin: legal prices, a family for the sheet's stations, and every member entered by some link
pub record Ready (h : Held) (a : Asked) (size : ℕ) : Type 0 where
  pub column_sized : length a.column ≡ 200
  pub links_priced : priced h.links a.column ≡ true
  pub same_stations : h.stations ≡ size
  pub all_entered : left_out a.smallest ≡ None
