-- The candidates of both questions by paths: a search finds a station exactly if a path leads there, and what any station that is not below
-- or at v reaches is what the base reaches.
use Rattle.std.proofs.Common.{◌≡◌, ℕ, ◌-◌, ◌^◌, ◌<◌, List, Decides, sym, subst, ⊎_elim, arith}
use Rattle.stations.specs.Sets.{In, has}
use Rattle.stations.proofs.Digits.{has→In, In→has, digit_not, in_or_out}
use Rattle.digraph.specs.Entering.{marked}
use Rattle.digraph.specs.Paths.{Path}
use Rattle.digraph.specs.Search.{reach_set}
use Rattle.digraph.specs.Trees.{SpanningTree}
use Rattle.digraph.proofs.Searching.{path_stays}
use Rattle.digraph.proofs.Walks.{path_by_other_steps}
use Rattle.sheet.specs.Held.{Held}
use Rattle.family.specs.Reach.{marked_steps}
use Rattle.family.specs.declared.reach.Direction.TheVariants.{Forth, Back}
use Rattle.cuts.proofs.Parents.{climb_from_base, parent_leads, In-subtree→below}
use Rattle.cuts.proofs.TwoTables.{reaches→path, path→reaches, reached→path}
use Rattle.tree_shape.specs.Trees.{tree_of, parent_of}
use Rattle.tree_shape.proofs.Planted.{planted_tree}
use Rattle.tree_family.specs.Choices.{beside, around, remaining}
use Rattle.tree_family.specs.Meanings.{StepBeside, Below, Asked}
use Rattle.tree_family.specs.MarkedSteps.{marked_steps_sized}
use Rattle.tree_family.specs.Remaining.{closed, reach_small, in_outside, outside_in_reach, left_below, remaining_is}
use Rattle.tree_family.specs.Searched.{asked_proper, steps_inside, step→forth, base, around_reaches, base_reaches}

module _ (t h : Held) (marks : List ℕ) (v : ℕ) (asked : Asked t h v) where
  tree : SpanningTree t.stations t.links (tree_of t)
  tree = planted_tree t asked.own asked.planted

  pub around_by_paths : (u : ℕ) → Decides (has (around t (marked_steps Back h.links marks) v) u) (Path (StepBeside t h marks v) u v)
  around_by_paths u =
      let (i, within, leads) = parent_leads t.stations t.links (tree_of t) tree v asked.not_base asked.station in
      let set = around t (marked_steps Back h.links marks) v in
      let to = around_reaches t h asked.own tree asked.other asked.right marks i (parent_of t v) v within leads in
      let proper = asked_proper t h asked.own tree asked.other asked.right marks in (
        λ held. reaches→path t.stations h.links t.links (tree_of t) (marked marks) proper asked.own.proper tree i (parent_of t v) v within leads set u asked.station to (has→In set u held),
        λ path. In→has set u (path→reaches t.stations h.links t.links (tree_of t) (marked marks) proper asked.own.proper tree i (parent_of t v) v within leads set u to path),
      )

  abbrev steps : List ℕ
  steps = marked_steps Forth h.links marks

  abbrev R : ℕ
  R = reach_set (beside Forth t steps v) 0

  -- the base reaches by paths alone
  path_from_base : (w : ℕ) → In R w → Path (StepBeside t h marks v) 0 w
  path_from_base w at =
      let (i, within, leads) = parent_leads t.stations t.links (tree_of t) tree v asked.not_base asked.station in
      reached→path t.stations h.links t.links (tree_of t) (marked marks) (asked_proper t h asked.own tree asked.other asked.right marks) asked.own.proper tree
      i (parent_of t v) v within leads 0 R w (base t h asked.own tree asked.other asked.right marks)
      (base_reaches t h asked.own tree asked.other asked.right marks i (parent_of t v) v within leads) at

  module _ (w : ℕ) (low : w < t.stations) where
    -- in what the base does not reach, or not
    left : R < 2 ^ t.stations
    left = reach_small t asked.own tree steps (marked_steps_sized Forth h marks) (steps_inside t h asked.own tree asked.other asked.right marks Forth) v asked.not_base asked.station

    is : 2 ^ t.stations - 1 - R ≡ remaining t steps v
    is = remaining_is t asked.own tree steps (marked_steps_sized Forth h marks) (steps_inside t h asked.own tree asked.other asked.right marks Forth) v asked.not_base asked.station

    below : In (2 ^ t.stations - 1 - R) w → Below t w v
    below at =
        In-subtree→below t.stations t.links (tree_of t) tree v w
        (left_below t asked.own tree steps (marked_steps_sized Forth h marks) (steps_inside t h asked.own tree asked.other asked.right marks Forth) v asked.not_base asked.station w at)

    no_path : In (2 ^ t.stations - 1 - R) w → (u : ℕ) → u < t.stations → (Below t u v → ⊥) → Path (StepBeside t h marks v) u w → ⊥
    no_path at u station out path =
        let sized = marked_steps_sized Forth h marks in
        let inside = steps_inside t h asked.own tree asked.other asked.right marks Forth in
        let start : In R u = outside_in_reach t asked.own tree steps sized inside v asked.not_base asked.station u
        (in_outside t asked.own tree steps sized inside v asked.not_base asked.station u station out) in
        let end : In R w = path_stays (beside Forth t steps v) u R start (closed t asked.own tree steps sized inside v asked.not_base asked.station)
        (path_by_other_steps (step→forth t h asked.own tree asked.other asked.right marks v) path) in
        omega (arith, digit_not t.stations R w left low)

    remains : ((u : ℕ) → u < t.stations → (Below t u v → ⊥) → Path (StepBeside t h marks v) u w → ⊥) → In (2 ^ t.stations - 1 - R) w
    remains none =
        ⊎_elim
        (λ at. absurd (none 0 (base t h asked.own tree asked.other asked.right marks) (λ (j, e). omega (arith, climb_from_base t.stations t.links (tree_of t) tree j, asked.not_base)) (path_from_base w at)))
        (λ out. omega (arith, digit_not t.stations R w left low)) (in_or_out R w)

    pub remaining_by_paths : Decides (has (remaining t (marked_steps Forth h.links marks) v) w)
        (Below t w v × ((u : ℕ) → u < t.stations → (Below t u v → ⊥) → Path (StepBeside t h marks v) u w → ⊥))
    remaining_by_paths = (
      λ held. let at = subst (λ (x : ℕ). In x w) (sym is) (has→In (remaining t steps v) w held) in (below at, no_path at),
      λ (under, none). In→has (remaining t steps v) w (subst (λ (x : ℕ). In x w) is (remains none)),
    )
