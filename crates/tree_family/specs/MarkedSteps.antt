-- Steps along marked links of a sheet lead to its stations, and are kept for 40 stations.
use Rattle.std.proofs.Common.{◌≡◌, ℕ, ◌-◌, ◌^◌, ◌<◌, List, map, length, get_or, replicate, refl, arith, pow_pos}
use Rattle.std.specs.List.{range_with_len}
use Rattle.stations.proofs.Digits.{digit_ones_below, Part→≤}
use Rattle.digraph.proofs.Stepping.{steps_sized}
use Rattle.sheet.specs.Held.{Held}
use Rattle.sheet.specs.Sound.{Sound}
use Rattle.family.specs.Reach.{marked_link, marked_steps}
use Rattle.family.specs.declared.reach.Direction.{Direction}
use Rattle.family.specs.declared.reach.Direction.TheVariants.{Forth, Back}
use Rattle.family.specs.Marking.{Way, next_is_way}
use Rattle.tree_family.specs.Choices.{Inside}

pub marked_steps_sized : (way : Direction) (h : Held) (marks : List ℕ) → length (marked_steps way h.links marks) ≡ 40
unfolding marked_steps
marked_steps_sized way h marks = steps_sized (map (marked_link way h.links marks) (range_with_len 0 200)) (replicate 40 0) refl

pub marked_steps_inside : (way : Direction) (h : Held) (marks : List ℕ) → Sound h → Inside h.stations (marked_steps way h.links marks)
marked_steps_inside way h marks sound u low =
    let part = Part→≤ (get_or (marked_steps way h.links marks) u 0) (2 ^ h.stations - 1)
    (λ v at. digit_ones_below h.stations v (to_station way v (next_is_way h.stations h.links sound.proper sound.few sound.sized marks way u v at))) in
    omega (arith, pow_pos h.stations)
  where
    to_station : (way : Direction) (v : ℕ) → Way way h.links marks u v → v < h.stations
    to_station Forth v (k, m, e) = (sound.proper k (record { tail = u; head = v }) e).1
    to_station Back v (k, m, e) = (sound.proper k (record { tail = v; head = u }) e).0
