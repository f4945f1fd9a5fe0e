-- What a search from station to station finds, where its steps are the chosen links, backwards or forwards: what reaches a station, and what it reaches.
-- A set that no step leads out of is one that no chosen link enters, or whose complement none enters.
use Rattle.std.proofs.Common.{◌≡◌, ℕ, ◌-◌, ◌^◌, ◌<◌, Bool, ◌⊎◌, List, inl, inr, arith, pow_pos}
use Rattle.stations.specs.Sets.{digit, In, Part}
use Rattle.stations.proofs.Digits.{digit_le_1, digit_not, digit_ones_below, In-below, Part→≤, in_or_out}
use Rattle.digraph.specs.Links.{Slots, Proper}
use Rattle.digraph.specs.Search.{Closed, Next}
use Rattle.cuts.specs.Families.{Unentered}
use Rattle.cuts.specs.Reaching.{ChosenStep, ReachesTo, ReachedFrom}
use Rattle.cuts.proofs.EntryCounts.{enters→ends, ends→enters}

-- no step out of the set, backwards: no link into it
pub closed_back→unentered : (slots : Slots) (choice : ℕ → Bool) (masks : List ℕ) (z : ℕ) → ((u v : ℕ) → ChosenStep slots choice u v → Next masks v u)
    → Closed masks z → Unentered slots choice z
closed_back→unentered slots choice masks z steps closed (k, chosen, e) =
    let ends = enters→ends slots k z e in
    omega (arith, closed ends.head ends.tail ends.head_in (steps ends.tail ends.head (k, chosen, ends.leads)), ends.tail_out)

pub unentered→closed_back : (slots : Slots) (choice : ℕ → Bool) (masks : List ℕ) (z : ℕ) → ((u v : ℕ) → Next masks v u → ChosenStep slots choice u v)
    → Unentered slots choice z → Closed masks z
unentered→closed_back slots choice masks z steps none v u at next = go (in_or_out z u)
  where
    go : In z u ⊎ (digit z u ≡ 0) → In z u
    go (inl h) = h
    go (inr o) = let (k, chosen, leads) = steps u v next in absurd (none (k, chosen, ends→enters slots k u v z leads at o))

module _ (n : ℕ) (slots : Slots) (choice : ℕ → Bool) (proper : Proper n slots) (masks : List ℕ) (start r : ℕ) (station : start < n)
    (has_start : In r start) (closed : Closed masks r) (least : (z : ℕ) → In z start → Closed masks z → Part r z) where
  chosen_ends : (u v : ℕ) → ChosenStep slots choice u v → (u < n) × (v < n)
  chosen_ends u v (k, chosen, leads) = let is = proper k (record { tail = u; head = v }) leads in (is.0, is.1)

  all_small : 2 ^ n - 1 < 2 ^ n
  all_small = omega (arith, pow_pos n)

  pub search_back→reaches_to : ((u v : ℕ) → ChosenStep slots choice u v → Next masks v u) → ((u v : ℕ) → Next masks v u → ChosenStep slots choice u v)
      → ReachesTo n slots choice start r
  search_back→reaches_to there back = record {
    small = omega (arith, Part→≤ r (2 ^ n - 1) (least (2 ^ n - 1) (digit_ones_below n start station) all_closed), all_small);
    has_it = has_start;
    unentered = closed_back→unentered slots choice masks r there closed;
    least = λ other at none. least other at (unentered→closed_back slots choice masks other back none);
  }
    where
      all_closed : Closed masks (2 ^ n - 1)
      all_closed v u at next = digit_ones_below n u (chosen_ends u v (back u v next)).0

  pub search_on→reached_from : ((u v : ℕ) → ChosenStep slots choice u v → Next masks u v) → ((u v : ℕ) → Next masks u v → ChosenStep slots choice u v)
      → ReachedFrom n slots choice start r
  search_on→reached_from there back = record { small = small; has_it = has_start; unentered = none_leaves; greatest = rest }
    where
      all_closed : Closed masks (2 ^ n - 1)
      all_closed u v at next = digit_ones_below n v (chosen_ends u v (back u v next)).1

      small : r < 2 ^ n
      small = omega (arith, Part→≤ r (2 ^ n - 1) (least (2 ^ n - 1) (digit_ones_below n start station) all_closed), all_small)

      none_leaves : Unentered slots choice (2 ^ n - 1 - r)
      none_leaves (k, chosen, e) =
          let ends = enters→ends slots k (2 ^ n - 1 - r) e in
          let below = proper k (record { tail = ends.tail; head = ends.head }) ends.leads in
          let tail_in : In r ends.tail = omega (arith, ends.tail_out, digit_not n r ends.tail small below.0, digit_le_1 r ends.tail) in
          let head_in = closed ends.tail ends.head tail_in (there ends.tail ends.head (k, chosen, ends.leads)) in
          omega (arith, ends.head_in, digit_not n r ends.head small below.1)

      -- the complement of a set that no chosen link enters is one that no step leads out of
      complement_closed : (other : ℕ) → other < 2 ^ n → Unentered slots choice other → Closed masks (2 ^ n - 1 - other)
      complement_closed other other_small none u v at next = go (in_or_out other v)
        where
          below : (u < n) × (v < n)
          below = chosen_ends u v (back u v next)

          go : In other v ⊎ (digit other v ≡ 0) → In (2 ^ n - 1 - other) v
          go (inr o) = omega (arith, digit_not n other v other_small below.1)
          go (inl h) =
              let (k, chosen, leads) = back u v next in
              let u_out : digit other u ≡ 0 = omega (arith, digit_not n other u other_small below.0) in
              absurd (none (k, chosen, ends→enters slots k u v other leads h u_out))

      rest : (other : ℕ) → other < 2 ^ n → digit other start ≡ 0 → Unentered slots choice other → Part other (2 ^ n - 1 - r)
      rest other other_small out none w at = go (in_or_out r w)
        where
          below : w < n
          below = In-below n other w other_small at

          go : In r w ⊎ (digit r w ≡ 0) → In (2 ^ n - 1 - r) w
          go (inr o) = omega (arith, digit_not n r w small below)
          go (inl h) =
              let start_in : In (2 ^ n - 1 - other) start = omega (arith, digit_not n other start other_small station) in
              let away = least (2 ^ n - 1 - other) start_in (complement_closed other other_small none) w h in
              absurd (omega (arith, digit_not n other w other_small below))
