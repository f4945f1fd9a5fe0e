-- What the sets `reaching` and `reached_from` are: the least set around a station that no marked link
-- enters, or leaves, and just the stations at the other ends of paths. From what a search over the masks finds.
use Rattle.std.specs.Prelude.{◌≡◌, ℕ, ◌-◌, ◌^◌, ◌<◌, ◌≤◌, List, length, Decides, slice_index}
use Rattle.std.proofs.Common.{arith}
use Rattle.std.proofs.lemmas.Nat.{pow_pos}
use Rattle.stations.specs.Sets.{In, Part, has}
use Rattle.stations.proofs.Digits.{digit_ones_below, Part→≤}
use Rattle.digraph.specs.Links.{Slots}
use Rattle.digraph.specs.Paths.{Path, stay, step}
use Rattle.digraph.specs.Search.{Next, Closed}
use Rattle.digraph.proofs.Walks.{path_by_other_steps}
use Rattle.digraph.proofs.Widening.{reach_set_has_start, reach_set_closed, reach_set_least}
use Rattle.digraph.specs.Links.{Proper}
use Rattle.family.specs.Laws.{Unentered}
use Rattle.family.specs.Reach.{MarkedStep, marked_steps, reaching, reached_from}
use Rattle.family.specs.declared.reach.Direction.TheVariants.{Forth, Back}
use Rattle.family.specs.Marking.{next_is_way, way_is_next, closed_is_unentered, unentered_is_closed, marked_steps_low}

-- a path with a step put in front
path_from_step : {E : ℕ → ℕ → Type 0} {s u v : ℕ} → E s u → Path E u v → Path E s v
path_from_step e stay = step stay e
path_from_step e (step p d) = step (path_from_step e p) d

-- a path gone back
path_back : {E F : ℕ → ℕ → Type 0} {s v : ℕ} → ((a b : ℕ) → E a b → F b a) → Path E s v → Path F v s
path_back turn stay = stay
path_back turn (step {u = u} {v = v} p e) = path_from_step (turn u v e) (path_back turn p)

part_below : (n m : ℕ) → Part m (2 ^ n - 1) → m < 2 ^ n
part_below n m part = omega (arith, Part→≤ m (2 ^ n - 1) part, pow_pos n)

module _ (n : ℕ) (slots : Slots) (proper : Proper n slots) (few : n ≤ 40) (sized : length slots ≡ 200) (marks : List ℕ) (v : ℕ) (station : v < n) where
  low : (u : ℕ) → slice_index (marked_steps Back slots marks) u < 2 ^ 40
  low = marked_steps_low n slots proper few sized marks Back

  pub reaching_has_it : In (reaching slots marks v) v
  reaching_has_it = reach_set_has_start (marked_steps Back slots marks) v

  reaching_closed : Closed (marked_steps Back slots marks) (reaching slots marks v)
  reaching_closed = reach_set_closed (marked_steps Back slots marks) low v (omega arith)

  pub reaching_unentered : Unentered slots marks (reaching slots marks v)
  reaching_unentered = closed_is_unentered n slots proper few sized marks (reaching slots marks v) reaching_closed

  pub reaching_least : (z : ℕ) → In z v → Unentered slots marks z → Part (reaching slots marks v) z
  reaching_least z held out = reach_set_least (marked_steps Back slots marks) v z held (unentered_is_closed n slots proper few sized marks z out)

  -- stations alone are reached: no step leads away from all of them
  steps_stay : Closed (marked_steps Back slots marks) (2 ^ n - 1)
  steps_stay a b h next = let (k, m, q) = next_is_way n slots proper few sized marks Back a b next in digit_ones_below n b (proper k _ q).0

  pub reaching_inside : reaching slots marks v < 2 ^ n
  reaching_inside = part_below n (reaching slots marks v) (reach_set_least (marked_steps Back slots marks) v (2 ^ n - 1) (digit_ones_below n v station) steps_stay)

  pub paths_to : (r u : ℕ) → Decides (has r u) (Path (Next (marked_steps Back slots marks)) v u) → Decides (has r u) (Path (MarkedStep slots marks) u v)
  paths_to r u d = (
    λ e. path_back (next_is_way n slots proper few sized marks Back) (d.0 e),
    λ p. d.1 (path_back (λ a b s. way_is_next n slots proper few sized marks Back b a s) p),
  )

module _ (n : ℕ) (slots : Slots) (proper : Proper n slots) (few : n ≤ 40) (sized : length slots ≡ 200) (marks : List ℕ) (s : ℕ) (station : s < n) where
  low_forth : (u : ℕ) → slice_index (marked_steps Forth slots marks) u < 2 ^ 40
  low_forth = marked_steps_low n slots proper few sized marks Forth

  pub reached_has_it : In (reached_from slots marks s) s
  reached_has_it = reach_set_has_start (marked_steps Forth slots marks) s

  pub reached_closed : Closed (marked_steps Forth slots marks) (reached_from slots marks s)
  reached_closed = reach_set_closed (marked_steps Forth slots marks) low_forth s (omega arith)

  pub reached_least : (z : ℕ) → In z s → Closed (marked_steps Forth slots marks) z → Part (reached_from slots marks s) z
  reached_least z held closed = reach_set_least (marked_steps Forth slots marks) s z held closed

  steps_stay_forth : Closed (marked_steps Forth slots marks) (2 ^ n - 1)
  steps_stay_forth a b h next = let (k, m, q) = next_is_way n slots proper few sized marks Forth a b next in digit_ones_below n b (proper k _ q).1

  pub reached_inside : reached_from slots marks s < 2 ^ n
  reached_inside = part_below n (reached_from slots marks s) (reach_set_least (marked_steps Forth slots marks) s (2 ^ n - 1) (digit_ones_below n s station) steps_stay_forth)

  pub paths_from : (r v : ℕ) → Decides (has r v) (Path (Next (marked_steps Forth slots marks)) s v) → Decides (has r v) (Path (MarkedStep slots marks) s v)
  paths_from r v d = (
    λ e. path_by_other_steps (next_is_way n slots proper few sized marks Forth) (d.0 e),
    λ p. d.1 (path_by_other_steps (way_is_next n slots proper few sized marks Forth) p),
  )
