-- What remains below v is what the base does not reach along marked links and the tree links but the one into v: the base reaches every
-- station that is not below or at v, going down from its parent, and whatever any of these reaches the base reaches too.
use Rattle.std.proofs.Common.{◌≡◌, ℕ, zero, suc, ◌-◌, ◌^◌, ◌<◌, ◌≤◌, List, length, get_or, sym, refl, ap, ◌∙◌, subst, inr, ⊎_elim, arith, pow_pos, pow_mono}
use lib.Bits.{bit_and}
use Rattle.std.proofs.lemmas.List.{get_or_past}
use Rattle.std.proofs.lemmas.Bool.{cases_lt}
use Rattle.stations.specs.Sets.{In, Part}
use Rattle.stations.proofs.Digits.{digit_and, digit_not, digit_le_1, digit_ones_below, In-below, in_or_out, Part-antisym, Part→≤}
use Rattle.digraph.specs.Search.{Next, Closed, reach_set, widened}
use Rattle.digraph.specs.Trees.{SpanningTree}
use Rattle.digraph.proofs.Widening.{reach_set_has_start, reach_set_closed, reach_set_least, widened_inside, set_in_widened, widened_closed}
use Rattle.sheet.specs.Held.{Held}
use Rattle.sheet.specs.Sound.{Sound}
use Rattle.family.specs.Choices.{others}
use Rattle.family.specs.declared.reach.Direction.TheVariants.{Forth}
use Rattle.cuts.specs.Climbing.{BelowOrAt}
use Rattle.cuts.proofs.Parents.{climb_from_base, depth_0→base, depth_of_base, depth_of_parent, below_itself, below_by_parent, parent_is_station, In-subtree→below, below→In_subtree, subtree_small}
use Rattle.tree_family.specs.Choices.{beside, Inside, remaining}
use Rattle.tree_family.specs.Members.{below}
use Rattle.tree_shape.specs.Trees.{tree_of, parent_of, depth_of}
use Rattle.tree_family.specs.Besides.{beside→either, either→beside, beside_low}

module _ (t : Held) (sound : Sound t) (tree : SpanningTree t.stations t.links (tree_of t)) (marked : List ℕ) (sized : length marked ≡ 40) (inside : Inside t.stations marked)
    (v : ℕ) (pos : 0 < v) (station : v < t.stations) where
  abbrev pub masks : List ℕ
  masks = beside Forth t marked v

  -- what the base reaches
  abbrev pub reach : ℕ
  reach = reach_set masks 0

  low : (u : ℕ) → get_or masks u 0 < 2 ^ 40
  low = beside_low t sound tree Forth v marked sized inside

  pub closed : Closed masks reach
  closed = reach_set_closed masks low 0 (omega arith)

  marked_inside : (u : ℕ) → get_or marked u 0 < 2 ^ t.stations
  marked_inside u = ⊎_elim (inside u) (λ h. subst (λ (x : ℕ). x < 2 ^ t.stations) (sym (get_or_past marked u 0 (omega arith))) (pow_pos t.stations)) (cases_lt u 40)

  -- every step leads to a station
  step_to_station : (a b : ℕ) → Next masks a b → b < t.stations
  step_to_station a b next =
      ⊎_elim (λ h. In-below t.stations (get_or marked a 0) b (marked_inside a) h) (λ o. o.station) (beside→either t sound tree Forth v marked sized a b next)

  base : 0 < t.stations
  base = omega arith

  pub reach_small : reach_set (beside Forth t marked v) 0 < 2 ^ t.stations
  reach_small =
      let all = 2 ^ t.stations - 1 in
      let part = reach_set_least masks 0 all (digit_ones_below t.stations 0 base) (λ a b at next. digit_ones_below t.stations b (step_to_station a b next)) in
      omega (arith, Part→≤ reach all part, pow_pos t.stations)

  -- down from its parent, the base reaches every station that is not below or at v
  outside_reached : (d w : ℕ) → depth_of t w ≡ d → w < t.stations → (BelowOrAt t.links (tree_of t) w v → ⊥) → In reach w
  outside_reached zero w e h out = subst (In reach) (sym (depth_0→base t.stations t.links (tree_of t) tree w h e)) (reach_set_has_start masks 0)
  outside_reached (suc d) w e h out =
      let some : 0 < w = positive w (λ z. omega (arith, ap (depth_of t) z, depth_of_base t.stations t.links (tree_of t) tree)) in
      let up = depth_of_parent t.stations t.links (tree_of t) tree w some h in
      let above = outside_reached d (parent_of t w) (omega arith) (parent_is_station t.stations t.links (tree_of t) tree w h) (λ p. out (below_by_parent t.links (tree_of t) w v p)) in
      closed (parent_of t w) w above
      (either→beside t sound tree Forth v marked sized (parent_of t w) w
      (inr (record { not_base = λ z. omega arith; not_it = λ z. out (subst (BelowOrAt t.links (tree_of t) w) z (below_itself t.links (tree_of t) w)); station = h; parent_is = refl })))
    where
      positive : (x : ℕ) → (x ≡ 0 → ⊥) → 0 < x
      positive x ne = omega arith

  -- the stations that are not below or at v, and all that they reach
  abbrev pub outside : ℕ
  outside = 2 ^ t.stations - 1 - below t v

  below_set_small : below t v < 2 ^ t.stations
  below_set_small = subtree_small t.stations t.links (tree_of t) tree v

  outside_small : outside < 2 ^ t.stations
  outside_small = omega (arith, pow_pos t.stations)

  pub in_outside : (w : ℕ) → w < t.stations → (BelowOrAt t.links (tree_of t) w v → ⊥) → In outside w
  in_outside w h out =
      ⊎_elim (λ at. absurd (out (In-subtree→below t.stations t.links (tree_of t) tree v w at)))
      (λ o. omega (arith, digit_not t.stations (below t v) w below_set_small h)) (in_or_out (below t v) w)

  pub outside_in_reach : Part outside reach
  outside_in_reach w at =
      let h = In-below t.stations outside w outside_small at in
      outside_reached (depth_of t w) w refl h (λ p. omega (arith, digit_not t.stations (below t v) w below_set_small h, below→In_subtree t.stations t.links (tree_of t) tree v w h p))

  pub base_outside : In outside 0
  base_outside = in_outside 0 base (λ (j, e). omega (arith, climb_from_base t.stations t.links (tree_of t) tree j))

  any_is_reach : widened masks outside 40 ≡ reach
  any_is_reach =
      let wide : 2 ^ t.stations ≤ 2 ^ 40 = pow_mono sound.few in
      Part-antisym (widened masks outside 40) reach (widened_inside masks 40 outside reach outside_in_reach closed)
      (reach_set_least masks 0 (widened masks outside 40) (set_in_widened masks 40 outside 0 base_outside) (widened_closed masks low 40 outside (omega (arith, outside_small)) (omega arith)))

  -- what is not reached lies below or at v
  pub left_below : Part (2 ^ t.stations - 1 - reach) (below t v)
  left_below w at =
      let h : w < t.stations = In-below t.stations (2 ^ t.stations - 1 - reach) w (omega (arith, pow_pos t.stations)) at in
      ⊎_elim (λ i. i)
      (λ o. absurd (omega (arith, outside_in_reach w (omega (arith, digit_not t.stations (below t v) w below_set_small h)), digit_not t.stations reach w reach_small h)))
      (in_or_out (below t v) w)

  and_same : (a b : ℕ) → Part b a → bit_and a b ≡ b
  and_same a b part =
      Part-antisym (bit_and a b) b (λ w at. omega (arith, digit_and a b w, digit_le_1 a w)) (λ w at. omega (arith, digit_and a b w, part w at))

  pub remaining_is : others t.stations (reach_set (beside Forth t marked v) 0) ≡ remaining t marked v
  unfolding remaining
  remaining_is = sym (ap (λ (x : ℕ). bit_and (below t v) (2 ^ t.stations - 1 - x)) any_is_reach ∙ and_same (below t v) (2 ^ t.stations - 1 - reach) left_below)
