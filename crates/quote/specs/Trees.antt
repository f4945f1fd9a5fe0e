-- A tree among all spanning trees of the links, at any list of prices.
use Rattle.std.specs.Prelude.{◌≡◌, ℕ, false, List, [], ℤ, slice_index_or}
use Rattle.amount.specs.Parts.{below}
use Rattle.digraph.specs.Links.{Slots}
use Rattle.digraph.specs.Trees.{SpanningTree}
use Rattle.duality.specs.Trees.{PriceList, cost_of_list, list_deviation}
use Rattle.sheet.specs.Held.{Held}
use Rattle.tree_shape.specs.Trees.{tree_of}

-- the list of prices that a column shows: the parts of the amount at each number's place
abbrev pub shown : List (List ℤ) → ℕ → List ℤ
shown column k = slice_index_or column k []

-- at a list of prices no spanning tree of the links costs less than the listed links
abbrev pub NoneCheaper : ℕ → ℕ → Slots → (ℕ → List ℤ) → List ℕ → Type 0
NoneCheaper width n slots prices list =
    (other : List ℕ) → SpanningTree n slots other → below (cost_of_list width prices other) (cost_of_list width prices list) ≡ false

-- the installed tree is cheapest at a list of prices
abbrev pub TreeIsCheapest : ℕ → Held → (ℕ → List ℤ) → Type 0
TreeIsCheapest width h prices = NoneCheaper width h.stations h.links prices (tree_of h)

-- every list of prices, of whatever whole numbers, at which the installed tree is cheapest deviates by at
-- least so much from the prices of a column
abbrev pub NoSmallerConcession : ℕ → Held → List (List ℤ) → List ℤ → Type 0
NoSmallerConcession width h column concession =
    (prices : ℕ → List ℤ) → PriceList width h.links prices → TreeIsCheapest width h prices
    → below (list_deviation width h.links prices (shown column)) concession ≡ false

-- at revised prices the installed tree is cheapest, and they deviate from those of a column by just so much
pub record KeepsTheTree (width : ℕ) (h : Held) (column revised : List (List ℤ)) (concession : List ℤ) : Type 0 where
  pub cheapest : TreeIsCheapest width h (shown revised)
  pub deviates : list_deviation width h.links (shown revised) (shown column) ≡ concession
