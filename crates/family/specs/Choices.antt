-- The families that a caller can make, their members and what their questions answer. A family that is
-- made for another number of stations than the sheet has answers none.
use Rattle.std.specs.Prelude.{◌≡◌, ℕ, zero, suc, ◌+◌, ◌-◌, ◌^◌, ◌<◌, true, false, cond, List, Some, None, Option, ◌==◌, count_ones, nat_lt}
use Rattle.stations.specs.Sets.{has}
use Rattle.digraph.specs.Search.{reach_set}
use Rattle.sheet.specs.Held.{Held}
use Rattle.family.specs.Reach.{marked_steps, reaching, reached_from}
use Rattle.family.specs.declared.reach.Direction.TheVariants.{Back}

-- an answer on a sheet of the right number of stations
abbrev pub for_size : ℕ → Held → Option ℕ → Option ℕ
for_size n h answer = cond (h.stations == n) answer None

-- the stations that are not in a set
abbrev pub others : ℕ → ℕ → ℕ
others n set = 2 ^ n - 1 - set

-- Feed: every non-empty set without the base
pub record FeedMember (n set : ℕ) : Type 0 where
  pub inside : set < 2 ^ n
  pub some : set ≡ 0 → ⊥
  pub without_base : has set 0 ≡ false

-- of two sets the one with fewer stations, the earlier among equals
abbrev pub fewer : Option ℕ → ℕ → Option ℕ
fewer None set = Some set
fewer (Some best) set = cond (nat_lt (count_ones set) (count_ones best)) (Some set) (Some best)

-- a set with the base is no candidate
abbrev pub better : Option ℕ → ℕ → Option ℕ
better best set = cond (has set 0) best (fewer best set)

-- the best of the sets from which stations v and on are reached, as far as so many go
abbrev pub fewest_from : List ℕ → Option ℕ → ℕ → ℕ → Option ℕ
fewest_from steps best v zero = best
fewest_from steps best v (suc k) = fewest_from steps (better best (reach_set steps v)) (v + 1) k

-- of the sets of stations from which some station is reached, the one without the base that has the
-- fewest stations, that of the lowest station among equals
abbrev pub feed_smallest : ℕ → Held → List ℕ → Option ℕ
feed_smallest n h marks = for_size n h (fewest_from (marked_steps Back h.links marks) None 0 n)

-- all stations not reached from the base
abbrev pub feed_largest : ℕ → Held → List ℕ → Option ℕ
feed_largest n h marks =
    let rest = others n (reached_from h.links marks 0) in
    for_size n h (cond (rest == 0) None (Some rest))

-- Route from s to t: the sets with t and without s
pub record RouteMember (n s t set : ℕ) : Type 0 where
  pub inside : set < 2 ^ n
  pub with_end : has set t ≡ true
  pub without_start : has set s ≡ false

-- the stations from which t is reached, if s is not among them
abbrev pub route_smallest : ℕ → ℕ → ℕ → Held → List ℕ → Option ℕ
route_smallest n s t h marks =
    let set = reaching h.links marks t in
    for_size n h (cond (has set s) None (Some set))

-- all stations not reached from s, if t is among them
abbrev pub route_largest : ℕ → ℕ → ℕ → Held → List ℕ → Option ℕ
route_largest n s t h marks =
    let rest = others n (reached_from h.links marks s) in
    for_size n h (cond (has rest t) (Some rest) None)
