-- What the tree family answers. A tree link is named by the station that it leads into; for the one into v all other tree links count
-- as marked, and it counts itself only if it is marked.
use Rattle.std.specs.Prelude.{ℕ, zero, suc, ◌-◌, ◌^◌, ◌<◌, cond, ◌||◌, List, [], ◌∷◌, ◌++◌, map, Some, None, Option, ◌==◌, bit_and, count_ones, nat_lt, slice_index}
use Rattle.std.specs.List.{range_with_len}
use Rattle.stations.specs.Sets.{has, rising}
use Rattle.digraph.specs.Search.{reach_set, widened}
use Rattle.digraph.specs.Steps.{steps_from}
use Rattle.digraph.specs.declared.link.Link.{Link}
use Rattle.sheet.specs.Held.{Held}
use Rattle.family.specs.Choices.{for_size, others}
use Rattle.family.specs.Reach.{turned, marked_steps}
use Rattle.family.specs.declared.reach.Direction.{Direction}
use Rattle.family.specs.declared.reach.Direction.TheVariants.{Forth, Back}
use Rattle.tree_family.specs.Members.{below}
use Rattle.tree_shape.specs.Trees.{parent_of, level}

-- the tree link into w as it is gone along; none into the base, and none into v
abbrev pub step_of_tree : Direction → Held → ℕ → ℕ → Option Link
step_of_tree way t v w = cond (w == 0 || w == v) None (Some (turned way (record { tail = parent_of t w; head = w })))

-- with the steps along marked links those along the tree links but the one into v
unfoldable pub beside : Direction → Held → List ℕ → ℕ → List ℕ
beside way t marked v = steps_from marked (map (step_of_tree way t v) (range_with_len 0 t.stations))

-- the stations from which v is reached so, v included
abbrev pub around : Held → List ℕ → ℕ → ℕ
around t marked v = reach_set (beside Back t marked v) v

-- of the sets around stations the first without the base
abbrev pub first_around : Held → List ℕ → List ℕ → Option ℕ
first_around t marked [] = None
first_around t marked (v ∷ vs) = let set = around t marked v in cond (has set 0) (first_around t marked vs) (Some set)

-- of the sets around the stations of depth d the first without the base, lowest station first
unfoldable pub first_at_depth : Held → List ℕ → ℕ → Option ℕ
first_at_depth t marked d = first_around t marked (rising (level t d))

-- the stations of depth d and less, but the base: deepest first, lowest first among equals
abbrev pub deepest_first : Held → ℕ → List ℕ
deepest_first t zero = []
deepest_first t (suc d) = rising (level t (suc d)) ++ deepest_first t d

-- the first set without the base around a station, deepest station first, lowest first among equals
abbrev pub tree_smallest : Held → Held → List ℕ → Option ℕ
tree_smallest t h marks = for_size t.stations h (first_around t (marked_steps Back h.links marks) (deepest_first t (t.stations - 1)))

-- the stations reached from any of a set
abbrev pub reached_from_any : List ℕ → ℕ → ℕ
reached_from_any steps set = widened steps set 40

-- the stations below or at v, less those that are reached from any station that is not
unfoldable pub remaining : Held → List ℕ → ℕ → ℕ
remaining t marked v =
    let reached = reached_from_any (beside Forth t marked v) (others t.stations (below t v)) in
    bit_and (below t v) (others t.stations reached)

-- of two sets the one with more stations, the earlier among equals
abbrev pub more : Option ℕ → ℕ → Option ℕ
more None set = Some set
more (Some best) set = cond (nat_lt (count_ones best) (count_ones set)) (Some set) (Some best)

-- a set in which its station remains is a candidate
abbrev pub candidate : Option ℕ → ℕ → ℕ → Option ℕ
candidate best set v = cond (has set v) (more best set) best

-- of the sets that remain below stations the one with most stations, the earlier among equals
abbrev pub most_from : Held → List ℕ → Option ℕ → List ℕ → Option ℕ
most_from t marked best [] = best
most_from t marked best (v ∷ vs) = most_from t marked (candidate best (remaining t marked v) v) vs

-- the one with most stations of what remains below a station other than the base, that of the lowest among equals
abbrev pub tree_largest : Held → Held → List ℕ → Option ℕ
tree_largest t h marks = for_size t.stations h (most_from t (marked_steps Forth h.links marks) None (range_with_len 1 (t.stations - 1)))

-- what the questions' searches take for granted: steps lead to the n stations alone
abbrev pub Inside : ℕ → List ℕ → Type 0
Inside n steps = (u : ℕ) → u < 40 → slice_index steps u < 2 ^ n
