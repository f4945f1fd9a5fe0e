-- A spanning tree has no link to spare: just one of its links leads into each station but the base, and none into the base.
use Rattle.std.specs.Prelude.{◌≡◌, ℕ, ◌<◌, List, length, slice_index}
use Rattle.digraph.specs.Links.{Slots, Leads}
use Rattle.digraph.specs.Trees.{Along, SpanningTree}

-- the listed links lead into each of the n stations once, but for the base, which is station 0
pub record OneIntoEach (n : ℕ) (slots : Slots) (list : List ℕ) : Type 0 where
  pub numbers_differ : (i j : ℕ) → i < length list → j < length list → slice_index list i ≡ slice_index list j → i ≡ j
  pub heads_differ : (i j s t v : ℕ) → i < length list → j < length list → Leads slots (slice_index list i) s v → Leads slots (slice_index list j) t v → i ≡ j
  pub each_entered : (v : ℕ) → 0 < v → v < n → (u : ℕ) × Along slots list u v
  pub base_not_entered : (u : ℕ) → Along slots list u 0 → ⊥
  pub heads_are_stations : (u v : ℕ) → Along slots list u v → v < n
  pub tails_are_stations : (u v : ℕ) → Along slots list u v → u < n

abbrev pub TreeLinksEnterEachStationOnce : Type 0
TreeLinksEnterEachStationOnce =
    (n : ℕ) (slots : Slots) (list : List ℕ) → SpanningTree n slots list → OneIntoEach n slots list
