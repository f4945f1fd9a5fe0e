-- What a sheet holds, as its users see it: the number of stations, the link of each number, and the
-- installed tree's list.
use Rattle.std.specs.Prelude.{ℕ, ◌-◌, List, take, replicate, Some, None, Option, slice_set}
use Rattle.std.specs.Option.{option_map}
use Rattle.digraph.specs.Links.{Slots}
use Rattle.digraph.specs.declared.link.Link.{Link}
use Rattle.sheet.specs.declared.Sheet.{Sheet}

pub record Held : Type 0 where
  pub stations : ℕ
  pub links : Slots
  pub tree : Option (List ℕ)

abbrev pub held : Sheet → Held
held s =
    record {
      stations = s.stations.count;
      links = s.links.slots;
      tree = option_map (λ t. take (s.stations.count - 1) t.numbers) s.tree;
    }

-- just opened for so many stations: no links and no tree
abbrev pub opened : ℕ → Held
opened n = record { stations = n; links = replicate 200 None; tree = None }

-- with another link, or none, at a number
abbrev pub with_link : Held → ℕ → Option Link → Held
with_link h k l = record { stations = h.stations; links = slice_set h.links k l; tree = h.tree }

-- with another tree
abbrev pub with_tree : Held → List ℕ → Held
with_tree h list = record { stations = h.stations; links = h.links; tree = Some list }
