-- What turns the making of a family back.
use Rattle.std.specs.Prelude.{ℕ, ◌||◌, List, [], ◌∷◌, ◌++◌, nat_eq, nat_le}
use Rattle.refusal.specs.Checks.{Check, ◌refuses_with◌}
use Rattle.refusal.specs.declared.Refusal.{Refusal}
use Rattle.refusal.specs.declared.Refusal.TheVariants.{NoSuchStation, EqualRouteEnds}
use Rattle.sheet.specs.Calls.{open_checks}

-- a route from s to t for n stations
abbrev pub route_checks : ℕ → ℕ → ℕ → List (Check Refusal)
route_checks n s t =
    open_checks n ++ (((nat_le n s || nat_le n t) refuses_with NoSuchStation) ∷ (nat_eq s t refuses_with EqualRouteEnds) ∷ [])
