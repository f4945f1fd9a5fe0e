-- The largest question's laws. The best candidate has no fewer stations than what remains below any other station, where nothing remains
-- unless the station itself does; so it is no proper part of another unentered member. Without a candidate nothing remains anywhere.
use Rattle.std.proofs.Common.{◌≡◌, ℕ, zero, suc, ◌+◌, ◌-◌, ◌^◌, ◌<◌, ◌≤◌, Bool, true, false, cond, ltb, ◌⊎◌, List, Some, None, Option, sym, refl, ap, ◌∙◌, subst, inl, inr, ⊎_elim, arith}
use lib.Count.{ones}
use native.Mathlib.Decide.{ℕ_discrete}
use Rattle.std.proofs.lemmas.Bool.{both_ways, cases_Bool, cases_lt, ltb-true, ltb-false}
use Rattle.std.specs.List.{range_with_len}
use Rattle.stations.specs.Sets.{In, Part, has}
use Rattle.stations.proofs.Digits.{has→In, In→has, digit_of_0, none_or_some, ones_mono}
use Rattle.digraph.specs.Entering.{Entered, marked}
use Rattle.digraph.specs.Search.{reach_set}
use Rattle.digraph.specs.Trees.{SpanningTree}
use Rattle.sheet.specs.Held.{Held}
use Rattle.sheet.specs.Sound.{Sound}
use Rattle.family.specs.Laws.{Largest}
use Rattle.family.specs.Reach.{marked_steps}
use Rattle.family.specs.declared.reach.Direction.TheVariants.{Forth}
use Rattle.family.specs.Feeds.{for_right_size}
use Rattle.cuts.specs.Families.{GreatestUnentered}
use Rattle.cuts.proofs.FeedFamily.{In→not_empty}
use Rattle.cuts.proofs.TwoTables.{most→greatest, none_left→entered}
use Rattle.tree_family.specs.Choices.{Inside, beside, remaining, more, candidate, most_from, tree_largest}
use Rattle.tree_family.specs.Members.{Member}
use Rattle.tree_shape.specs.Trees.{tree_of}
use Rattle.tree_family.specs.MarkedSteps.{marked_steps_sized, marked_steps_inside}
use Rattle.tree_family.specs.Remaining.{remaining_is}
use Rattle.tree_family.specs.Searched.{asked_proper, base_reaches, left_has_head}

-- ---- the best candidate among the first stations

module _ (t : Held) (steps : List ℕ) where
  record Best (upto set : ℕ) : Type 0 where
    v : ℕ
    pos : 0 < v
    station : v < upto
    is : set ≡ remaining t steps v
    remains : has set v ≡ true
    most : (w : ℕ) → 0 < w → w < upto → has (remaining t steps w) w ≡ true → ones (remaining t steps w) ≤ ones set

  -- so far: the best candidate, or none is one
  SoFar : ℕ → Option ℕ → Type 0
  SoFar upto None = (w : ℕ) → 0 < w → w < upto → has (remaining t steps w) w ≡ false
  SoFar upto (Some set) = Best upto set

  up_to : {P : ℕ → Type 0} (v : ℕ) → ((u : ℕ) → 0 < u → u < v → P u) → P v → (u : ℕ) → 0 < u → u < v + 1 → P u
  up_to {P} v rest here u pos h = ⊎_elim (rest u pos) (λ g. subst P (let z : v ≡ u = omega arith in z) here) (cases_lt u v)

  passed_over : (v : ℕ) (best : Option ℕ) → has (remaining t steps v) v ≡ false → SoFar v best → SoFar (v + 1) best
  unfolding SoFar
  passed_over v None lacks so = up_to v so lacks
  passed_over v (Some set) lacks so = record {
    v = so.v;
    pos = so.pos;
    station = omega (arith, so.station);
    is = so.is;
    remains = so.remains;
    most = up_to v so.most (λ held. absurd (both_ways (has (remaining t steps v) v) lacks held));
  }

  by_count : (v set : ℕ) → 0 < v → has (remaining t steps v) v ≡ true → Best v set → (b : Bool) → ltb (ones set) (ones (remaining t steps v)) ≡ b
      → SoFar (v + 1) (cond b (Some (remaining t steps v)) (Some set))
  unfolding SoFar
  by_count v set pos held so true e =
      let fewer = ltb-true (ones set) (ones (remaining t steps v)) e in
      record { v = v; pos = pos; station = omega arith; is = refl; remains = held; most = up_to v (λ u p h other. omega (arith, so.most u p h other)) (λ _. omega arith) }
  by_count v set pos held so false e =
      let no_fewer = ltb-false (ones set) (ones (remaining t steps v)) e in
      record { v = so.v; pos = so.pos; station = omega (arith, so.station); is = so.is; remains = so.remains; most = up_to v so.most (λ _. no_fewer) }

  taken_up : (v : ℕ) (best : Option ℕ) → 0 < v → has (remaining t steps v) v ≡ true → SoFar v best → SoFar (v + 1) (more best (remaining t steps v))
  unfolding SoFar
  taken_up v None pos held so = record {
    v = v;
    pos = pos;
    station = omega arith;
    is = refl;
    remains = held;
    most = up_to v (λ u p h other. absurd (both_ways (has (remaining t steps u) u) (so u p h) other)) (λ _. omega arith);
  }
  taken_up v (Some set) pos held so = by_count v set pos held so (ltb (ones set) (ones (remaining t steps v))) refl

  most_so_far : (k v : ℕ) (best : Option ℕ) → 0 < v → SoFar v best → SoFar (v + k) (most_from t steps best (range_with_len v k))
  most_so_far zero v best pos so = subst (λ (m : ℕ). SoFar m best) (let z : v ≡ v + 0 = omega arith in z) so
  most_so_far (suc k) v best pos so =
      subst (λ (m : ℕ). SoFar m (most_from t steps (candidate best (remaining t steps v) v) (range_with_len (v + 1) k))) (let z : v + 1 + k ≡ v + suc k = omega arith in z)
      (most_so_far k (v + 1) (candidate best (remaining t steps v) v) (omega arith) (one_more (has (remaining t steps v) v) refl))
    where
      one_more : (b : Bool) → has (remaining t steps v) v ≡ b → SoFar (v + 1) (cond b (more best (remaining t steps v)) best)
      one_more true e = taken_up v best pos e so
      one_more false e = passed_over v best e so

  most_is : (n : ℕ) (answer : Option ℕ) → 0 < n → most_from t steps None (range_with_len 1 (n - 1)) ≡ answer → SoFar n answer
  unfolding SoFar
  most_is n answer some e =
      subst (SoFar n) e (subst (λ (m : ℕ). SoFar m (most_from t steps None (range_with_len 1 (n - 1)))) (let z : 1 + (n - 1) ≡ n = omega arith in z) (most_so_far (n - 1) 1 None (omega arith) (λ w pos h. absurd (omega arith))))

-- ---- the laws

module _ (t h : Held) (sound : Sound t) (tree : SpanningTree t.stations t.links (tree_of t)) (asked : Sound h) (right : h.stations ≡ t.stations) (marks : List ℕ) where
  abbrev steps : List ℕ
  steps = marked_steps Forth h.links marks

  -- what the base reaches beside the tree link into v, and what it does not
  abbrev R : ℕ → ℕ
  R v = reach_set (beside Forth t steps v) 0

  abbrev Left : ℕ → ℕ
  Left v = 2 ^ t.stations - 1 - R v

  left_remains : (v : ℕ) → 0 < v → v < t.stations → Left v ≡ remaining t steps v
  left_remains v pos low =
      remaining_is t sound tree steps (marked_steps_sized Forth h marks) (subst (λ (n : ℕ). Inside n steps) right (marked_steps_inside Forth h marks asked)) v pos low

  answer : tree_largest t h marks ≡ most_from t steps None (range_with_len 1 (t.stations - 1))
  answer = for_right_size t.stations h (most_from t steps None (range_with_len 1 (t.stations - 1))) right

  some : 0 < t.stations
  some = omega (arith, sound.some)

  -- where the station does not remain, nothing does
  none_left : (w : ℕ) → 0 < w → w < t.stations → has (remaining t steps w) w ≡ false → Left w ≡ 0
  none_left w pos low out = go (none_or_some (Left w))
    where
      go : (Left w ≡ 0) ⊎ ((s : ℕ) × In (Left w) s) → Left w ≡ 0
      go (inl e) = e
      go (inr (s, at)) =
          absurd (both_ways (has (remaining t steps w) w) out (In→has (remaining t steps w) w (subst (λ (x : ℕ). In x w) (left_remains w pos low) (left_has_head t h sound tree asked right marks w s pos low at))))

  pub tree_largest_found : (set : ℕ) → tree_largest t h marks ≡ Some set → Largest (Member t) h.links marks set
  unfolding SoFar
  tree_largest_found set e = from_best (most_is t steps t.stations (Some set) some (sym answer ∙ e))
    where
      from_best : Best t steps t.stations set → Largest (Member t) h.links marks set
      from_best best = record {
        member = subst (Member t) is greatest.member;
        unentered = subst (λ (x : ℕ). Entered h.links marks x → ⊥) is greatest.unentered;
        no_whole = λ other member out part. go other (ℕ_discrete (Left best.v) other) member out (subst (λ (x : ℕ). Part x other) (sym is) part) ∙ is;
      }
        where
          is : Left best.v ≡ set
          is = left_remains best.v best.pos best.station ∙ sym best.is

          most : (w : ℕ) → 0 < w → w < t.stations → ones (Left w) ≤ ones (Left best.v)
          most w pos low = ⊎_elim
              (λ held. omega (arith, best.most w pos low held, ap ones (left_remains w pos low), ap ones is))
              (λ out. subst (λ (x : ℕ). ones x ≤ ones (Left best.v)) (sym (none_left w pos low out)) (ones_mono 0 (Left best.v) (λ s at. absurd (omega (arith, digit_of_0 s)))))
              (cases_Bool (has (remaining t steps w) w))

          greatest : GreatestUnentered h.links (marked marks) (Member t) (Left best.v)
          greatest =
              most→greatest t.stations h.links t.links (tree_of t) (marked marks) (asked_proper t h sound tree asked right marks) sound.proper tree
              R (base_reaches t h sound tree asked right marks) best.v best.pos best.station
              (In→not_empty (Left best.v) best.v (subst (λ (x : ℕ). In x best.v) (sym is) (has→In set best.v best.remains))) most

          go : (other : ℕ) → Dec (Left best.v ≡ other) → Member t other → (Entered h.links marks other → ⊥) → Part (Left best.v) other → other ≡ Left best.v
          go other (yes same) member out part = sym same
          go other (no ne) member out part = absurd (out (greatest.greatest other member part ne))

  pub tree_largest_none : (set : ℕ) → tree_largest t h marks ≡ None → Member t set → Entered h.links marks set
  unfolding SoFar
  tree_largest_none set e member =
      none_left→entered t.stations h.links t.links (tree_of t) (marked marks) (asked_proper t h sound tree asked right marks) sound.proper tree
      R (base_reaches t h sound tree asked right marks) (λ w pos low. none_left w pos low (most_is t steps t.stations None some (sym answer ∙ e) w pos low)) set member
