-- What the candidates of both questions are, in words of paths.
use Rattle.std.specs.Prelude.{◌≡◌, ℕ, ◌<◌, true, ◌⊎◌, List, is_some, Decides, ◌≢◌}
use Rattle.stations.specs.Sets.{has}
use Rattle.digraph.specs.Paths.{Path}
use Rattle.digraph.specs.Trees.{Along}
use Rattle.sheet.specs.Held.{Held}
use Rattle.sheet.specs.Sound.{Sound}
use Rattle.family.specs.Reach.{MarkedStep, marked_steps}
use Rattle.family.specs.declared.reach.Direction.TheVariants.{Forth, Back}
use Rattle.cuts.specs.Climbing.{BelowOrAt}
use Rattle.tree_shape.specs.Trees.{tree_of}
use Rattle.tree_family.specs.Choices.{around, remaining}

-- a marked link, or a tree link other than the one into v, leads from a to b
abbrev pub StepBeside : Held → Held → List ℕ → ℕ → ℕ → ℕ → Type 0
StepBeside t h marks v a b = MarkedStep h.links marks a b ⊎ ((b ≢ v) × Along t.links (tree_of t) a b)

-- station w is below v or at v
abbrev pub Below : Held → ℕ → ℕ → Type 0
Below t w v = BelowOrAt t.links (tree_of t) w v

-- the family of a sheet with a tree, asked about a sheet of as many stations, at a station other than the base
pub record Asked (t h : Held) (v : ℕ) : Type 0 where
  pub own : Sound t
  pub planted : is_some t.tree ≡ true
  pub other : Sound h
  pub right : h.stations ≡ t.stations
  pub not_base : 0 < v
  pub station : v < t.stations

-- a station is in the set around v exactly if a path of such steps leads from it to v
abbrev pub AroundReach : Type 0
AroundReach =
    (t h : Held) (marks : List ℕ) (v u : ℕ) → Asked t h v
    → Decides (has (around t (marked_steps Back h.links marks) v) u) (Path (StepBeside t h marks v) u v)

-- a station remains below v exactly if it is below or at v and no path of such steps leads to it from a station that is not
abbrev pub RemainingBelow : Type 0
RemainingBelow =
    (t h : Held) (marks : List ℕ) (v w : ℕ) → Asked t h v → w < t.stations
    → Decides (has (remaining t (marked_steps Forth h.links marks) v) w)
    (Below t w v × ((u : ℕ) → u < t.stations → (Below t u v → ⊥) → Path (StepBeside t h marks v) u w → ⊥))
