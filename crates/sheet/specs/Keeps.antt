-- What every sheet keeps of its tree; of its links it keeps that they are proper.
use Rattle.std.specs.Prelude.{◌≡◌, ℕ, ◌-◌, take, Some, Option}
use Rattle.digraph.specs.Links.{Slots}
use Rattle.digraph.specs.Trees.{SpanningTree}
use Rattle.sheet.specs.declared.tree.Tree.{Tree}

-- an installed tree is a spanning tree of links of the sheet
abbrev pub Spans : ℕ → Slots → Option Tree → Type 0
Spans stations slots tree =
    (t : Tree) → tree ≡ Some t → ∥ SpanningTree stations slots (take (stations - 1) t.numbers) ∥₁
