-- Spanning trees: the one definition, by paths.
use Rattle.std.specs.Prelude.{◌≡◌, ℕ, ◌+◌, ◌<◌, true, List, length, is_some, slice_index}
use Rattle.digraph.specs.Links.{Slots, link_at, Leads}
use Rattle.digraph.specs.Paths.{Path}

-- some link of the list leads from u to v
abbrev pub Along : Slots → List ℕ → ℕ → ℕ → Type 0
Along slots list u v = (i : ℕ) × (i < length list) × Leads slots (slice_index list i) u v

-- A spanning tree of n stations: a set of links, one fewer than the stations, along which every
-- station is reached from the base, which is station 0. It is given as the list of their numbers.
pub record SpanningTree (n : ℕ) (slots : Slots) (list : List ℕ) : Type 0 where
  pub one_fewer : length list + 1 ≡ n
  pub of_links : (i : ℕ) → i < length list → is_some (link_at slots (slice_index list i)) ≡ true
  pub reaches : (v : ℕ) → v < n → Path (Along slots list) 0 v
