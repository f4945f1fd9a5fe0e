-- The smallest question's laws. The set found is around a station v, and around every deeper station there is the base; so no proper part
-- is a member that no marked link enters. Where none is found the base is around every station.
use Rattle.std.proofs.Common.{◌≡◌, ℕ, zero, suc, ◌-◌, ◌<◌, ◌≤◌, Bool, true, false, cond, eqb, ◌⊎◌, List, [], ◌∷◌, Some, None, Option, sym, refl, ap, ◌∙◌, subst, inl, inr, ⊎_elim, arith}
use native.Mathlib.Decide.{ℕ_discrete}
use Rattle.std.proofs.lemmas.Bool.{cases_eq, eqb-true, eq-eqb, or_cases, or_left, or_right}
use Rattle.stations.specs.Sets.{digit, In, Part, has, rising}
use Rattle.stations.proofs.Digits.{has→In, lacks→out, In-below}
use Rattle.digraph.specs.Entering.{Entered, marked}
use Rattle.digraph.specs.Trees.{SpanningTree}
use Rattle.sheet.specs.Held.{Held}
use Rattle.sheet.specs.Sound.{Sound}
use Rattle.family.specs.Laws.{Smallest}
use Rattle.family.specs.Reach.{marked_steps}
use Rattle.family.specs.declared.reach.Direction.TheVariants.{Back}
use Rattle.family.specs.Feeds.{for_right_size}
use Rattle.family.specs.Marking.{some_is_not_none}
use Rattle.cuts.specs.Families.{listed, LeastUnentered}
use Rattle.cuts.proofs.Parents.{depth_below, depth_of_base, depth_0→base}
use Rattle.cuts.proofs.Passing.{passing_small, passes→In, In→passes}
use Rattle.cuts.proofs.Rising.{rising→In, In→rising}
use Rattle.cuts.proofs.TwoTables.{deepest→least, all_with_base→entered}
use Rattle.tree_family.specs.Choices.{around, first_around, deepest_first, tree_smallest}
use Rattle.tree_family.specs.Members.{Member}
use Rattle.tree_shape.specs.Trees.{tree_of, depth_of, level}
use Rattle.tree_family.specs.Firsts.{first_behind, first_in_front}
use Rattle.tree_family.specs.Searched.{asked_proper, around_reaches}

-- ---- the first of a list

module _ (t : Held) (steps : List ℕ) where
  first→listed : (vs : List ℕ) (set : ℕ) → first_around t steps vs ≡ Some set → (v : ℕ) × (listed vs v ≡ true) × (around t steps v ≡ set) × (has set 0 ≡ false)
  first→listed [] set e = absurd (some_is_not_none e)
  first→listed (x ∷ xs) set e = go (has (around t steps x) 0) refl e (first→listed xs set)
    where
      go : (b : Bool) → has (around t steps x) 0 ≡ b → cond b (first_around t steps xs) (Some (around t steps x)) ≡ Some set
          → (first_around t steps xs ≡ Some set → (v : ℕ) × (listed xs v ≡ true) × (around t steps v ≡ set) × (has set 0 ≡ false))
          → (v : ℕ) × (listed (x ∷ xs) v ≡ true) × (around t steps v ≡ set) × (has set 0 ≡ false)
      go true q p rest = let (v, l, is, out) = rest p in (v, or_right (eqb x v) (listed xs v) l, is, out)
      go false q p rest =
          let is : around t steps x ≡ set = cc in
          (x, or_left (eqb x x) (listed xs x) (eq-eqb x x refl), is, sym (ap (λ (m : ℕ). has m 0) is) ∙ q)

  none→listed : (vs : List ℕ) → first_around t steps vs ≡ None → (v : ℕ) → listed vs v ≡ true → has (around t steps v) 0 ≡ true
  none→listed [] e v l = cc
  none→listed (x ∷ xs) e v l = go (has (around t steps x) 0) refl e (none→listed xs) (or_cases (eqb x v) (listed xs v) l)
    where
      go : (b : Bool) → has (around t steps x) 0 ≡ b → cond b (first_around t steps xs) (Some (around t steps x)) ≡ None
          → (first_around t steps xs ≡ None → (w : ℕ) → listed xs w ≡ true → has (around t steps w) 0 ≡ true)
          → (eqb x v ≡ true) ⊎ (listed xs v ≡ true) → has (around t steps v) 0 ≡ true
      go true q p rest (inl here) = ap (λ (w : ℕ). has (around t steps w) 0) (sym (eqb-true x v here)) ∙ q
      go true q p rest (inr later) = rest p v later
      go false q p rest either = cc

-- ---- level by level

module _ (t : Held) (sound : Sound t) (tree : SpanningTree t.stations t.links (tree_of t)) (steps : List ℕ) where
  in_level : (d w : ℕ) → w < t.stations → depth_of t w ≡ d → listed (rising (level t d)) w ≡ true
  in_level d w h e =
      let few = sound.few in
      In→rising (level t d) 0 64 w (omega arith) (omega arith) (passes→In t.stations (λ x. eqb (depth_of t x) d) w h (eq-eqb (depth_of t w) d e))

  level_in : (d w : ℕ) → listed (rising (level t d)) w ≡ true → (w < t.stations) × (depth_of t w ≡ d)
  level_in d w l =
      let at = rising→In (level t d) 0 64 w l in
      (In-below t.stations (level t d) w (passing_small t.stations (λ x. eqb (depth_of t x) d)) at, eqb-true (depth_of t w) d (In→passes t.stations (λ x. eqb (depth_of t x) d) w at))

  -- around every station of depth d or less there is the base
  abbrev AllWithBase : ℕ → Type 0
  AllWithBase d = (w : ℕ) → 0 < w → w < t.stations → depth_of t w ≤ d → In (around t steps w) 0

  -- a set around a station without the base; around every deeper station of depth d or less there is the base
  record Found (d set : ℕ) : Type 0 where
    v : ℕ
    pos : 0 < v
    station : v < t.stations
    is : around t steps v ≡ set
    lacks : digit set 0 ≡ 0
    deeper : (w : ℕ) → w < t.stations → depth_of t v < depth_of t w → depth_of t w ≤ d → In (around t steps w) 0

  level_with_base : (d : ℕ) → first_around t steps (rising (level t d)) ≡ None → (w : ℕ) → w < t.stations → depth_of t w ≡ d → In (around t steps w) 0
  level_with_base d e w h q = has→In (around t steps w) 0 (none→listed t steps (rising (level t d)) e w (in_level d w h q))

  found_in : (d : ℕ) (set : ℕ) → first_around t steps (deepest_first t d) ≡ Some set → Found d set
  found_in zero set e = absurd (some_is_not_none e)
  found_in (suc d) set e = go (first_around t steps (rising (level t (suc d)))) refl (found_in d set)
    where
      go : (o : Option ℕ) → first_around t steps (rising (level t (suc d))) ≡ o → (first_around t steps (deepest_first t d) ≡ Some set → Found d set) → Found (suc d) set
      go (Some other) q rest =
          let same : other ≡ set = some_same other set (sym (first_in_front t steps (rising (level t (suc d))) (deepest_first t d) other q) ∙ e) in
          let (v, l, is, out) = first→listed t steps (rising (level t (suc d))) other q in
          let (h, depth) = level_in (suc d) v l in
          record {
            v = v;
            pos = positive v (λ z. omega (arith, ap (depth_of t) z, depth_of_base t.stations t.links (tree_of t) tree));
            station = h;
            is = is ∙ same;
            lacks = lacks→out set 0 (ap (λ (m : ℕ). has m 0) (sym same) ∙ out);
            deeper = λ w g less most. absurd (omega arith);
          }
        where
          some_same : (a b : ℕ) → Some a ≡ Some b → a ≡ b
          some_same a b p = cc

          positive : (x : ℕ) → (x ≡ 0 → ⊥) → 0 < x
          positive x ne = omega arith
      go None q rest =
          let f = rest (sym (first_behind t steps (rising (level t (suc d))) (deepest_first t d) q) ∙ e) in
          record {
            v = f.v;
            pos = f.pos;
            station = f.station;
            is = f.is;
            lacks = f.lacks;
            deeper = λ w g less most. ⊎_elim (level_with_base (suc d) q w g) (λ ne. f.deeper w g less (omega arith)) (cases_eq (depth_of t w) (suc d));
          }

  none_in : (d : ℕ) → first_around t steps (deepest_first t d) ≡ None → AllWithBase d
  none_in zero e w pos h most = absurd (omega (arith, depth_0→base t.stations t.links (tree_of t) tree w h (let z : depth_of t w ≡ 0 = omega arith in z)))
  none_in (suc d) e w pos h most = go (first_around t steps (rising (level t (suc d)))) refl (none_in d)
    where
      go : (o : Option ℕ) → first_around t steps (rising (level t (suc d))) ≡ o → (first_around t steps (deepest_first t d) ≡ None → AllWithBase d) → In (around t steps w) 0
      go (Some other) q rest =
          let e' = sym (first_in_front t steps (rising (level t (suc d))) (deepest_first t d) other q) ∙ e in
          cc
      go None q rest =
          ⊎_elim (level_with_base (suc d) q w h) (λ ne. rest (sym (first_behind t steps (rising (level t (suc d))) (deepest_first t d) q) ∙ e) w pos h (omega arith)) (cases_eq (depth_of t w) (suc d))

-- ---- the laws

module _ (t h : Held) (sound : Sound t) (tree : SpanningTree t.stations t.links (tree_of t)) (asked : Sound h) (right : h.stations ≡ t.stations) (marks : List ℕ) where
  abbrev steps : List ℕ
  steps = marked_steps Back h.links marks

  answer : tree_smallest t h marks ≡ first_around t steps (deepest_first t (t.stations - 1))
  answer = for_right_size t.stations h (first_around t steps (deepest_first t (t.stations - 1))) right

  -- no station is deeper
  deepest : (w : ℕ) → w < t.stations → depth_of t w ≤ t.stations - 1
  deepest w low = omega (arith, depth_below t.stations t.links (tree_of t) tree w low)

  pub tree_smallest_found : (set : ℕ) → tree_smallest t h marks ≡ Some set → Smallest (Member t) h.links marks set
  tree_smallest_found set e = record {
    member = subst (Member t) f.is least.member;
    unentered = subst (λ (x : ℕ). Entered h.links marks x → ⊥) f.is least.unentered;
    no_part = λ other member out part. go other (ℕ_discrete other (around t steps f.v)) member out (subst (Part other) (sym f.is) part) ∙ f.is;
  }
    where
      f : Found t sound tree steps (t.stations - 1) set
      f = found_in t sound tree steps (t.stations - 1) set (sym answer ∙ e)

      least : LeastUnentered h.links (marked marks) (Member t) (around t steps f.v)
      least =
          deepest→least t.stations h.links t.links (tree_of t) (marked marks) (asked_proper t h sound tree asked right marks) sound.proper tree
          (around t steps) (around_reaches t h sound tree asked right marks) f.v f.pos f.station (subst (λ (x : ℕ). digit x 0 ≡ 0) (sym f.is) f.lacks)
          (λ w pos low less. f.deeper w low less (deepest w low))

      go : (other : ℕ) → Dec (other ≡ around t steps f.v) → Member t other → (Entered h.links marks other → ⊥) → Part other (around t steps f.v) → other ≡ around t steps f.v
      go other (yes same) member out part = same
      go other (no ne) member out part = absurd (out (least.least other member part ne))

  pub tree_smallest_none : (set : ℕ) → tree_smallest t h marks ≡ None → Member t set → Entered h.links marks set
  tree_smallest_none set e member =
      all_with_base→entered t.stations h.links t.links (tree_of t) (marked marks) (asked_proper t h sound tree asked right marks) sound.proper tree
      (around t steps) (around_reaches t h sound tree asked right marks) (λ w pos low. none_in t sound tree steps (t.stations - 1) (sym answer ∙ e) w pos low (deepest w low)) set member
