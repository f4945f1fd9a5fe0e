-- The tree of a sheet, station by station.
use Rattle.std.specs.Prelude.{ℕ, cond, List, [], map, Some, None, Option, nat_eq, slice_set}
use Rattle.std.specs.List.{range_with_len}
use Rattle.std.specs.Option.{unwrap_or}
use Rattle.cuts.specs.Climbing.{parent, depth, passing}
use Rattle.digraph.specs.Links.{link_at}
use Rattle.digraph.specs.declared.link.Link.{Link}
use Rattle.sheet.specs.Calls.{in_tree}
use Rattle.sheet.specs.Held.{Held}

-- the installed tree, as the list of its links' numbers
abbrev pub tree_of : Held → List ℕ
tree_of t = unwrap_or t.tree []

-- the link of a number, if it is one of the tree
abbrev pub tree_link : Held → ℕ → Option Link
tree_link t k = cond (in_tree t k) (link_at t.links k) None

-- the tail of the tree link into a station; the base, if there is none
abbrev pub parent_of : Held → ℕ → ℕ
parent_of t = parent t.links (tree_of t)

-- the number of tree links from the base to a station
abbrev pub depth_of : Held → ℕ → ℕ
depth_of t = depth t.links (tree_of t)

-- the stations of a depth
abbrev pub level : Held → ℕ → ℕ
level t d = passing t.stations (λ w. nat_eq (depth_of t w) d)

-- a table of parents with one more, that of a link's head, if there is a link
abbrev pub with_parent : List ℕ → Option Link → List ℕ
with_parent parents None = parents
with_parent parents (Some l) = slice_set parents l.head l.tail

-- the parent of each station, and the stations of each depth, place by place
unfoldable pub parents_of : Held → List ℕ
parents_of t = map (parent_of t) (range_with_len 0 40)

unfoldable pub levels_of : Held → List ℕ
levels_of t = map (level t) (range_with_len 0 40)
