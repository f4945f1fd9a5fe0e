-- A link enters a set of stations if its head is in the set and its tail is not.
use Rattle.std.specs.Prelude.{◌≡◌, ℕ, Bool, true, false, not, ◌&&◌, List, Some, None, Option, ◌==◌, slice_index}
use Rattle.stations.specs.Sets.{has}
use Rattle.digraph.specs.Links.{Slots, link_at}
use Rattle.digraph.specs.declared.link.Link.{Link}

-- what may be a link enters the set
abbrev pub enters : Option Link → ℕ → Bool
enters None set = false
enters (Some l) set = has set l.head && not (has set l.tail)

-- the link of number k enters the set
abbrev pub enters_at : Slots → ℕ → ℕ → Bool
enters_at slots k set = enters (link_at slots k) set

-- some link of a choice of numbers enters the set
abbrev pub EnteredBy : Slots → (ℕ → Bool) → ℕ → Type 0
EnteredBy slots choice set = (k : ℕ) × (choice k ≡ true) × (enters_at slots k set ≡ true)

-- number k is marked: its byte is other than 0
abbrev pub marked : List ℕ → ℕ → Bool
marked marks k = not (slice_index marks k == 0)

-- some marked link enters the set; a mark at a number without a link marks nothing
abbrev pub Entered : Slots → List ℕ → ℕ → Type 0
Entered slots marks = EnteredBy slots (marked marks)
