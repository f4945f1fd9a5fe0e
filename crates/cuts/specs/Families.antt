-- Families of sets of stations, none of which has the base, station 0; and sets that no chosen link enters.
use Rattle.std.specs.Prelude.{◌≡◌, ℕ, ◌^◌, ◌<◌, Bool, false, not, ◌&&◌, ◌||◌, List, [], ◌∷◌, ◌==◌}
use Rattle.stations.specs.Sets.{digit, In, Part}
use Rattle.digraph.specs.Entering.{EnteredBy}
use Rattle.digraph.specs.Links.{Slots}
use Rattle.cuts.specs.Entries.{entries}

-- a set of some of the n stations, but not the base
abbrev pub FeedMember : ℕ → ℕ → Type 0
FeedMember n set = (set < 2 ^ n) × (digit set 0 ≡ 0) × (0 < set)

-- a set without the base that the listed links enter just once
abbrev pub TreeMember : ℕ → Slots → List ℕ → ℕ → Type 0
TreeMember n slots list set = (set < 2 ^ n) × (digit set 0 ≡ 0) × (entries slots list set ≡ 1)

-- a set that has the station t, but not s
abbrev pub RouteMember : ℕ → ℕ → ℕ → ℕ → Type 0
RouteMember n s t set = (set < 2 ^ n) × (digit set s ≡ 0) × In set t

-- number k stands in the list
abbrev pub listed : List ℕ → ℕ → Bool
listed [] k = false
listed (x ∷ xs) k = x == k || listed xs k

-- the choice, and with it the listed numbers but f
abbrev pub besides : List ℕ → ℕ → (ℕ → Bool) → ℕ → Bool
besides list f choice k = choice k || (listed list k && not (k == f))

-- no link of the choice enters the set
abbrev pub Unentered : Slots → (ℕ → Bool) → ℕ → Type 0
Unentered slots choice set = EnteredBy slots choice set → ⊥

-- a member that no link of the choice enters, though they enter each member that is a proper part of it
pub record LeastUnentered (slots : Slots) (choice : ℕ → Bool) (Member : ℕ → Type 0) (set : ℕ) : Type 0 where
  pub member : Member set
  pub unentered : Unentered slots choice set
  pub least : (part : ℕ) → Member part → Part part set → (part ≡ set → ⊥) → EnteredBy slots choice part

-- a member that no link of the choice enters, though they enter each member that it is a proper part of
pub record GreatestUnentered (slots : Slots) (choice : ℕ → Bool) (Member : ℕ → Type 0) (set : ℕ) : Type 0 where
  pub member : Member set
  pub unentered : Unentered slots choice set
  pub greatest : (whole : ℕ) → Member whole → Part set whole → (set ≡ whole → ⊥) → EnteredBy slots choice whole
