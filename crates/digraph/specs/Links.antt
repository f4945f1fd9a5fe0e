-- Links by their numbers: a table has a place for each number, and a link at some of them.
use Rattle.std.specs.Prelude.{◌≡◌, ℕ, ◌<◌, List, Some, None, Option, ◌≢◌, slice_index_or}
use Rattle.digraph.specs.declared.link.Link.{Link}

-- the places of a table, by number
abbrev pub Slots : Type 0
Slots = List (Option Link)

-- the link of a number, if there is one
abbrev pub link_at : Slots → ℕ → Option Link
link_at slots k = slice_index_or slots k None

-- link k leads from station u to station v
abbrev pub Leads : Slots → ℕ → ℕ → ℕ → Type 0
Leads slots k u v = link_at slots k ≡ Some (record { tail = u; head = v })

-- every link leads from one of n stations to another
abbrev pub Proper : ℕ → Slots → Type 0
Proper n slots =
    (k : ℕ) (l : Link) → link_at slots k ≡ Some l → (l.tail < n) × (l.head < n) × (l.tail ≢ l.head)
