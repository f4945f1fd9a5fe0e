-- What is known of anything that a sheet holds.
use Rattle.std.specs.Prelude.{◌≡◌, ℕ, ◌≤◌, List, length, Some}
use Rattle.digraph.specs.Trees.{SpanningTree}
use Rattle.sheet.specs.Held.{Held}
use Rattle.digraph.specs.Links.{Proper}

pub record Sound (h : Held) : Type 0 where
  pub some : 2 ≤ h.stations
  pub few : h.stations ≤ 40
  pub sized : length h.links ≡ 200
  pub proper : Proper h.stations h.links
  pub spans : (list : List ℕ) → h.tree ≡ Some list → ∥ SpanningTree h.stations h.links list ∥₁
