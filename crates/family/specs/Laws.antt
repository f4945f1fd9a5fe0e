-- What a family's answers have to be: among its members that no marked link enters, one without such
-- a member as a proper part, or one that is no proper part of another.
use Rattle.std.specs.Prelude.{◌≡◌, ℕ, List}
use Rattle.digraph.specs.Entering.{Entered}
use Rattle.digraph.specs.Links.{Slots}
use Rattle.stations.specs.Sets.{Part}

-- no marked link enters the set
abbrev pub Unentered : Slots → List ℕ → ℕ → Type 0
Unentered slots marks set = Entered slots marks set → ⊥

-- an unentered member of which no proper part is one
pub record Smallest (Member : ℕ → Type 0) (slots : Slots) (marks : List ℕ) (set : ℕ) : Type 0 where
  pub member : Member set
  pub unentered : Unentered slots marks set
  pub no_part : (other : ℕ) → Member other → Unentered slots marks other → Part other set → other ≡ set

-- an unentered member that is no proper part of one
pub record Largest (Member : ℕ → Type 0) (slots : Slots) (marks : List ℕ) (set : ℕ) : Type 0 where
  pub member : Member set
  pub unentered : Unentered slots marks set
  pub no_whole : (other : ℕ) → Member other → Unentered slots marks other → Part set other → other ≡ set
