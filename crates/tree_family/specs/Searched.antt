-- The steps beside the tree link into v, as masks, are the chosen links of one table and the other tree links of another; so what the two
-- searches find are the sets that the theory of two tables speaks of.
use Rattle.std.proofs.Common.{◌≡◌, ℕ, ◌-◌, ◌^◌, ◌<◌, ◌⊎◌, List, length, get_or, sym, subst, inl, inr, ⊎_elim, arith}
use Rattle.stations.specs.Sets.{In}
use Rattle.digraph.specs.Counting.{OneIntoEach}
use Rattle.digraph.specs.Entering.{marked}
use Rattle.digraph.specs.Links.{Leads, Proper}
use Rattle.digraph.specs.Search.{Next, reach_set}
use Rattle.digraph.specs.Trees.{Along, SpanningTree}
use Rattle.digraph.proofs.OneEach.{one_into_each}
use Rattle.digraph.proofs.Widening.{reach_set_has_start, reach_set_closed, reach_set_least}
use Rattle.sheet.specs.Held.{Held}
use Rattle.sheet.specs.Sound.{Sound}
use Rattle.family.specs.Reach.{marked_steps}
use Rattle.family.specs.declared.reach.Direction.{Direction}
use Rattle.family.specs.declared.reach.Direction.TheVariants.{Forth, Back}
use Rattle.family.specs.Marking.{next_is_way, way_is_next}
use Rattle.cuts.specs.Families.{besides}
use Rattle.cuts.specs.Reaching.{ReachesTo, ReachedFrom}
use Rattle.cuts.proofs.Parents.{parent_leads, parent_unique}
use Rattle.cuts.proofs.TwoTables.{joined, behind, within_first, searched_back, searched_on, rest_has_head}
use Rattle.tree_family.specs.Choices.{Inside, beside, around}
use Rattle.tree_shape.specs.Trees.{tree_of, parent_of}
use Rattle.tree_family.specs.Besides.{OtherLink, beside→either, either→beside, beside_low}
use Rattle.tree_family.specs.Meanings.{StepBeside}
use Rattle.tree_family.specs.MarkedSteps.{marked_steps_sized, marked_steps_inside}

module _ (t h : Held) (sound : Sound t) (tree : SpanningTree t.stations t.links (tree_of t)) (asked : Sound h) (right : h.stations ≡ t.stations) (marks : List ℕ) where
  once : OneIntoEach t.stations t.links (tree_of t)
  once = one_into_each t.stations t.links (tree_of t) tree

  pub asked_proper : Proper t.stations h.links
  asked_proper = subst (λ (n : ℕ). Proper n h.links) right asked.proper

  -- the steps along marked links, as masks
  abbrev steps : Direction → List ℕ
  steps way = marked_steps way h.links marks

  pub steps_inside : (way : Direction) → Inside t.stations (steps way)
  steps_inside way = subst (λ (n : ℕ). Inside n (steps way)) right (marked_steps_inside way h marks asked)

  -- a tree link other than the one into v, by its ends
  along→other : (v a b : ℕ) → (b ≡ v → ⊥) → Along t.links (tree_of t) a b → OtherLink t v a b
  along→other v a b ne along = record {
    not_base = λ z. once.base_not_entered a (subst (λ (x : ℕ). Along t.links (tree_of t) a x) z along);
    not_it = ne;
    station = once.heads_are_stations a b along;
    parent_is = parent_unique t.stations t.links (tree_of t) tree a b along;
  }

  other→along : (v a b : ℕ) → OtherLink t v a b → Along t.links (tree_of t) a b
  other→along v a b o =
      subst (λ (x : ℕ). Along t.links (tree_of t) x b) (sym o.parent_is)
      (parent_leads t.stations t.links (tree_of t) tree b (positive b o.not_base) o.station)
    where
      positive : (x : ℕ) → (x ≡ 0 → ⊥) → 0 < x
      positive x ne = omega arith

  step→back : (v a b : ℕ) → StepBeside t h marks v a b → Next (beside Back t (steps Back) v) b a
  step→back v a b s = either→beside t sound tree Back v (steps Back) (marked_steps_sized Back h marks) b a (go s)
    where
      go : StepBeside t h marks v a b → Next (steps Back) b a ⊎ OtherLink t v a b
      go (inl m) = inl (way_is_next h.stations h.links asked.proper asked.few asked.sized marks Back b a m)
      go (inr (ne, along)) = inr (along→other v a b ne along)

  back→step : (v a b : ℕ) → Next (beside Back t (steps Back) v) b a → StepBeside t h marks v a b
  back→step v a b next =
      ⊎_elim (λ m. inl (next_is_way h.stations h.links asked.proper asked.few asked.sized marks Back b a m)) (λ o. inr (o.not_it, other→along v a b o))
      (beside→either t sound tree Back v (steps Back) (marked_steps_sized Back h marks) b a next)

  pub step→forth : (v a b : ℕ) → StepBeside t h marks v a b → Next (beside Forth t (steps Forth) v) a b
  step→forth v a b s = either→beside t sound tree Forth v (steps Forth) (marked_steps_sized Forth h marks) a b (go s)
    where
      go : StepBeside t h marks v a b → Next (steps Forth) a b ⊎ OtherLink t v a b
      go (inl m) = inl (way_is_next h.stations h.links asked.proper asked.few asked.sized marks Forth a b m)
      go (inr (ne, along)) = inr (along→other v a b ne along)

  forth→step : (v a b : ℕ) → Next (beside Forth t (steps Forth) v) a b → StepBeside t h marks v a b
  forth→step v a b next =
      ⊎_elim (λ m. inl (next_is_way h.stations h.links asked.proper asked.few asked.sized marks Forth a b m)) (λ o. inr (o.not_it, other→along v a b o))
      (beside→either t sound tree Forth v (steps Forth) (marked_steps_sized Forth h marks) a b next)

  low : (way : Direction) (v u : ℕ) → get_or (beside way t (steps way) v) u 0 < 2 ^ 40
  low way v = beside_low t sound tree way v (steps way) (marked_steps_sized way h marks) (steps_inside way)

  pub base : 0 < t.stations
  base = omega (arith, tree.one_fewer)

  module _ (i u v : ℕ) (within : i < length (tree_of t)) (leads : Leads t.links (get_or (tree_of t) i 0) u v) where
    station : v < t.stations
    station = once.heads_are_stations u v (i, within, leads)

    pub around_reaches : ReachesTo t.stations (joined h.links t.links)
        (besides (behind h.links t.links (tree_of t)) (get_or (behind h.links t.links (tree_of t)) i 0) (within_first h.links t.links (marked marks))) v (around t (steps Back) v)
    around_reaches =
        let few = sound.few in
        searched_back t.stations h.links t.links (tree_of t) (marked marks) asked_proper sound.proper tree i u v within leads (beside Back t (steps Back) v) (around t (steps Back) v) station
        (reach_set_has_start (beside Back t (steps Back) v) v) (reach_set_closed (beside Back t (steps Back) v) (low Back v) v (omega (arith, station))) (reach_set_least (beside Back t (steps Back) v) v)
        (step→back v) (back→step v)

    pub base_reaches : ReachedFrom t.stations (joined h.links t.links)
        (besides (behind h.links t.links (tree_of t)) (get_or (behind h.links t.links (tree_of t)) i 0) (within_first h.links t.links (marked marks))) 0 (reach_set (beside Forth t (steps Forth) v) 0)
    base_reaches =
        searched_on t.stations h.links t.links (tree_of t) (marked marks) asked_proper sound.proper tree i u v within leads (beside Forth t (steps Forth) v) 0 (reach_set (beside Forth t (steps Forth) v) 0) base
        (reach_set_has_start (beside Forth t (steps Forth) v) 0) (reach_set_closed (beside Forth t (steps Forth) v) (low Forth v) 0 (omega arith)) (reach_set_least (beside Forth t (steps Forth) v) 0)
        (step→forth v) (forth→step v)

  -- if anything is left that the base does not reach, v is
  pub left_has_head : (v s : ℕ) → 0 < v → v < t.stations → In (2 ^ t.stations - 1 - reach_set (beside Forth t (steps Forth) v) 0) s → In (2 ^ t.stations - 1 - reach_set (beside Forth t (steps Forth) v) 0) v
  left_has_head v s pos h' left =
      let (i, within, leads) = parent_leads t.stations t.links (tree_of t) tree v pos h' in
      rest_has_head t.stations h.links t.links (tree_of t) (marked marks) asked_proper sound.proper tree i (parent_of t v) v within leads
      (reach_set (beside Forth t (steps Forth) v) 0) (base_reaches i (parent_of t v) v within leads) s left
