-- The tree family of a sheet: its members, and what lies below a station.
use Rattle.std.specs.Prelude.{ℕ}
use Rattle.cuts.specs.Climbing.{subtree}
use Rattle.cuts.specs.Families.{TreeMember}
use Rattle.sheet.specs.Held.{Held}
use Rattle.tree_shape.specs.Trees.{tree_of}

-- a set without the base that the installed tree enters just once
abbrev pub Member : Held → ℕ → Type 0
Member t = TreeMember t.stations t.links (tree_of t)

-- the stations below or at v
abbrev pub below : Held → ℕ → ℕ
below t v = subtree t.stations t.links (tree_of t) v
