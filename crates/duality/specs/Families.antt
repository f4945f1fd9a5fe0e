-- Families of station sets: not empty, inside n stations, and closed under the meet and the union of two that share a station.
use Rattle.std.specs.Prelude.{ℕ, ◌^◌, ◌<◌, Bool, bit_and, bit_or}
use Rattle.digraph.specs.Links.{Slots}
use Rattle.digraph.specs.Entering.{EnteredBy}
use Rattle.stations.specs.Sets.{In}

pub record Family (n : ℕ) (Member : ℕ → Type 0) : Type 0 where
  pub not_empty : (X : ℕ) → Member X → (s : ℕ) × In X s
  pub inside : (X : ℕ) → Member X → X < 2 ^ n
  pub meet : (X Y s : ℕ) → Member X → Member Y → In X s → In Y s → Member (bit_and X Y)
  pub union : (X Y s : ℕ) → Member X → Member Y → In X s → In Y s → Member (bit_or X Y)

-- a link of the choice enters every member
abbrev pub Covering : Slots → (ℕ → Type 0) → (ℕ → Bool) → Type 0
Covering slots Member choice = (X : ℕ) → Member X → EnteredBy slots choice X
