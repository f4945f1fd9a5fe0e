-- Stations reached along marked links, forth from tail to head or back from head to tail.
use Rattle.std.specs.Prelude.{◌≡◌, ℕ, true, cond, List, map, replicate, None, Option}
use Rattle.std.specs.List.{range_with_len}
use Rattle.std.specs.Option.{option_map}
use Rattle.digraph.specs.Entering.{marked}
use Rattle.digraph.specs.Links.{Slots, link_at, Leads}
use Rattle.digraph.specs.Search.{reach_set}
use Rattle.digraph.specs.Steps.{steps_from}
use Rattle.digraph.specs.declared.link.Link.{Link}
use Rattle.family.specs.declared.reach.Direction.{Direction}
use Rattle.family.specs.declared.reach.Direction.TheVariants.{Forth, Back}

-- a marked link leads from u to v
abbrev pub MarkedStep : Slots → List ℕ → ℕ → ℕ → Type 0
MarkedStep slots marks u v = (k : ℕ) × (marked marks k ≡ true) × Leads slots k u v

-- a link as it is gone along
abbrev pub turned : Direction → Link → Link
turned Forth l = l
turned Back l = record { tail = l.head; head = l.tail }

-- the link of a number, if it is marked, as it is gone along
abbrev pub marked_link : Direction → Slots → List ℕ → ℕ → Option Link
marked_link way slots marks k = cond (marked marks k) (option_map (turned way) (link_at slots k)) None

-- for each station the stations one step along a marked link from it
unfoldable pub marked_steps : Direction → Slots → List ℕ → List ℕ
marked_steps way slots marks = steps_from (replicate 40 0) (map (marked_link way slots marks) (range_with_len 0 200))

-- the stations from which v is reached along marked links, v included
abbrev pub reaching : Slots → List ℕ → ℕ → ℕ
reaching slots marks v = reach_set (marked_steps Back slots marks) v

-- the stations reached from s along marked links, s included
abbrev pub reached_from : Slots → List ℕ → ℕ → ℕ
reached_from slots marks s = reach_set (marked_steps Forth slots marks) s
