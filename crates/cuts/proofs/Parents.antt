-- In a spanning tree each station but the base has one parent, and as many steps up from it as its path from the base is long lead to the base.
-- The parent is found in the list; a way up comes to no station twice, so it is no longer than the list.
use Rattle.std.proofs.Common.{◌≡◌, ℕ, zero, suc, ◌+◌, ◌-◌, ◌^◌, ◌<◌, ◌≤◌, Bool, true, false, cond, eqb, ◌⊎◌, List, [], ◌∷◌, length, get_or, Some, None, Decides, Option, sym, refl, ap, ◌∙◌, subst, inl, inr, zero-le, arith}
use native.Mathlib.Decide.{ℕ_discrete, dec_lt}
use Rattle.std.proofs.lemmas.Bool.{eqb-true, eqb-false, eq-eqb, ne_eqb, cases_order}
use Rattle.stations.specs.Sets.{In}
use Rattle.stations.proofs.Digits.{In-below}
use Rattle.digraph.specs.Counting.{OneIntoEach}
use Rattle.digraph.specs.Links.{Slots, link_at, Leads}
use Rattle.digraph.specs.Paths.{Path, stay, step}
use Rattle.digraph.specs.Trees.{Along, SpanningTree}
use Rattle.digraph.specs.declared.link.Link.{Link}
use Rattle.digraph.proofs.OneEach.{one_into_each, one_tail, one_head}
use Rattle.cuts.specs.Climbing.{tail_into, parent, climb, steps_up, depth, BelowOrAt, is_below_or_at, subtree}
use Rattle.cuts.proofs.Injections.{injective→≤}
use Rattle.cuts.proofs.Passing.{passing_small, passes→In, In→passes}

-- ---- the parent in the list

along_later : (slots : Slots) (k : ℕ) (ks : List ℕ) (u v : ℕ) → Along slots ks u v → Along slots (k ∷ ks) u v
along_later slots k ks u v a = (suc a.0, omega (arith, a.1), a.2)

-- a link whose head is not v does not lead into v
other_head : (slots : Slots) (k u v : ℕ) (l : Link) → link_at slots k ≡ Some l → eqb l.head v ≡ false → Leads slots k u v → ⊥
other_head slots k u v l q b e = eqb-false l.head v b (one_head slots k {u = l.tail} {v = l.head} {s = u} {t = v} q e)

pub along_parent : (slots : Slots) (list : List ℕ) (u v : ℕ) → Along slots list u v → Along slots list (parent slots list v) v
along_parent slots [] u v a = absurd (omega (arith, a.1))
along_parent slots (k ∷ ks) u v a = go (link_at slots k) refl (along_parent slots ks u v)
  where
    -- where the first link does not lead from u into v, a later one does
    later : (Along slots ks u v → Along slots ks (parent slots ks v) v) → (Leads slots k u v → ⊥) → (i : ℕ) → i < length (k ∷ ks)
        → Leads slots (get_or (k ∷ ks) i 0) u v → Along slots (k ∷ ks) (parent slots ks v) v
    later rest ne zero h e = absurd (ne e)
    later rest ne (suc i) h e = along_later slots k ks (parent slots ks v) v (rest (i, omega arith, e))

    by_head : (l : Link) → link_at slots k ≡ Some l → (Along slots ks u v → Along slots ks (parent slots ks v) v)
        → (b : Bool) → eqb l.head v ≡ b → Along slots (k ∷ ks) (cond b l.tail (parent slots ks v)) v
    by_head l q rest true e = (0, omega arith, q ∙ ap (λ (x : ℕ). Some (record { tail = l.tail; head = x })) (eqb-true l.head v e))
    by_head l q rest false e = later rest (other_head slots k u v l q e) a.0 a.1 a.2

    go : (o : Option Link) → link_at slots k ≡ o → (Along slots ks u v → Along slots ks (parent slots ks v) v)
        → Along slots (k ∷ ks) (tail_into o v (parent slots ks v)) v
    go None q rest = later rest (λ e. let z : ◌≡◌ {A = ℕ} 0 1 = cc in omega arith) a.0 a.1 a.2
    go (Some l) q rest = by_head l q rest (eqb l.head v) refl

pub no_parent→base : (slots : Slots) (list : List ℕ) (v : ℕ) → ((u : ℕ) → Along slots list u v → ⊥) → parent slots list v ≡ 0
no_parent→base slots [] v none = refl
no_parent→base slots (k ∷ ks) v none = go (link_at slots k) refl (no_parent→base slots ks v (λ u a. none u (along_later slots k ks u v a)))
  where
    by_head : (l : Link) → link_at slots k ≡ Some l → parent slots ks v ≡ 0 → (b : Bool) → eqb l.head v ≡ b → cond b l.tail (parent slots ks v) ≡ 0
    by_head l q rest true e =
        absurd (none l.tail (0, omega arith, q ∙ ap (λ (x : ℕ). Some (record { tail = l.tail; head = x })) (eqb-true l.head v e)))
    by_head l q rest false e = rest

    go : (o : Option Link) → link_at slots k ≡ o → parent slots ks v ≡ 0 → tail_into o v (parent slots ks v) ≡ 0
    go None q rest = rest
    go (Some l) q rest = by_head l q rest (eqb l.head v) refl

-- ---- steps up

pub climb_after : (slots : Slots) (list : List ℕ) (i j v : ℕ) → climb slots list (i + j) v ≡ climb slots list j (climb slots list i v)
climb_after slots list zero j v = let e : zero + j ≡ j = omega arith in ap (λ (x : ℕ). climb slots list x v) e
climb_after slots list (suc i) j v =
    let e : suc i + j ≡ suc (i + j) = omega arith in
    ap (λ (x : ℕ). climb slots list x v) e ∙ climb_after slots list i j (parent slots list v)

-- ---- below or at

pub below_itself : (slots : Slots) (list : List ℕ) (v : ℕ) → BelowOrAt slots list v v
below_itself slots list v = (0, refl)

pub below_trans : (slots : Slots) (list : List ℕ) (a b c : ℕ) → BelowOrAt slots list a b → BelowOrAt slots list b c → BelowOrAt slots list a c
below_trans slots list a b c p q = (p.0 + q.0, climb_after slots list p.0 q.0 a ∙ ap (climb slots list q.0) p.1 ∙ q.1)

pub below_by_parent : (slots : Slots) (list : List ℕ) (w v : ℕ) → BelowOrAt slots list (parent slots list w) v → BelowOrAt slots list w v
below_by_parent slots list w v p = (suc p.0, p.1)

pub parent_below : (slots : Slots) (list : List ℕ) (w v : ℕ) → BelowOrAt slots list w v → (w ≡ v → ⊥) → BelowOrAt slots list (parent slots list w) v
parent_below slots list w v p ne = go p.0 p.1
  where
    go : (j : ℕ) → climb slots list j w ≡ v → BelowOrAt slots list (parent slots list w) v
    go zero e = absurd (ne e)
    go (suc j) e = (j, e)

-- ---- paths from the base

-- how many steps a path has
length_of : {E : ℕ → ℕ → Type 0} {s v : ℕ} → Path E s v → ℕ
length_of stay = 0
length_of (step path e) = suc (length_of path)

module _ (n : ℕ) (slots : Slots) (list : List ℕ) (tree : SpanningTree n slots list) where
  once : OneIntoEach n slots list
  once = one_into_each n slots list tree

  pub parent_of_base : parent slots list 0 ≡ 0
  parent_of_base = no_parent→base slots list 0 once.base_not_entered

  pub parent_leads : (v : ℕ) → 0 < v → v < n → Along slots list (parent slots list v) v
  parent_leads v pos h = let a = once.each_entered v pos h in along_parent slots list a.0 v a.1

  -- a station has no other parent
  pub parent_unique : (u v : ℕ) → Along slots list u v → u ≡ parent slots list v
  parent_unique u v a =
      let up = along_parent slots list u v a in
      let same = once.heads_differ a.0 up.0 u (parent slots list v) v a.1 up.1 a.2 up.2 in
      one_tail slots (get_or list up.0 0) {u = u} {v = v} {s = parent slots list v} {t = v} (subst (λ (x : ℕ). Leads slots (get_or list x 0) u v) same a.2) up.2

  pub parent_is_station : (v : ℕ) → v < n → parent slots list v < n
  parent_is_station zero h = omega (arith, parent_of_base)
  parent_is_station (suc v) h = once.tails_are_stations (parent slots list (suc v)) (suc v) (parent_leads (suc v) (omega arith) h)

  pub climb_is_station : (j v : ℕ) → v < n → climb slots list j v < n
  climb_is_station zero v h = h
  climb_is_station (suc j) v h = climb_is_station j (parent slots list v) (parent_is_station v h)

  pub climb_from_base : (j : ℕ) → climb slots list j 0 ≡ 0
  climb_from_base zero = refl
  climb_from_base (suc j) = ap (climb slots list j) parent_of_base ∙ climb_from_base j

  -- ---- a path from the base, and the way up

  not_base : (u v : ℕ) → Along slots list u v → 0 < v
  not_base u zero a = absurd (once.base_not_entered u a)
  not_base u (suc v) a = omega arith

  path_climbs : {v : ℕ} (path : Path (Along slots list) 0 v) → climb slots list (length_of path) v ≡ 0
  unfolding length_of
  path_climbs stay = refl
  path_climbs (step {u = u} {v = v} path a) = ap (climb slots list (length_of path)) (sym (parent_unique u v a)) ∙ path_climbs path

  path_climbs_not_yet : {v : ℕ} (path : Path (Along slots list) 0 v) (j : ℕ) → j < length_of path → 0 < climb slots list j v
  unfolding length_of
  path_climbs_not_yet stay j h = absurd (omega arith)
  path_climbs_not_yet (step {u = u} {v = v} path a) zero h = not_base u v a
  path_climbs_not_yet (step {u = u} {v = v} path a) (suc j) h =
      subst (λ (x : ℕ). 0 < climb slots list j x) (parent_unique u v a) (path_climbs_not_yet path j (omega arith))

  -- the way up comes to no station twice
  path_climbs_apart : {v : ℕ} (path : Path (Along slots list) 0 v) (i j : ℕ) → i < j → j ≤ length_of path
      → climb slots list i v ≡ climb slots list j v → ⊥
  path_climbs_apart {v} path i j l h e =
      let rest = length_of path - j in
      let end : j + rest ≡ length_of path = omega arith in
      let early = path_climbs_not_yet path (i + rest) (omega arith) in
      let top = ap (λ (x : ℕ). climb slots list x v) end ∙ path_climbs path in
      omega (arith, climb_after slots list i rest v, climb_after slots list j rest v, ap (climb slots list rest) e)

  path_short : {v : ℕ} (path : Path (Along slots list) 0 v) → v < n → length_of path < n
  path_short {v} path h =
      injective→≤ (suc (length_of path)) n (λ j x. climb slots list j v ≡ x) (λ j l. (climb slots list j v, climb_is_station j v h, refl))
      (λ j k x l g p q. same j k (omega arith) (omega arith) (p ∙ sym q) (cases_order j k))
    where
      same : (j k : ℕ) → j ≤ length_of path → k ≤ length_of path → climb slots list j v ≡ climb slots list k v → (j ≡ k) ⊎ ((j < k) ⊎ (k < j)) → j ≡ k
      same j k l g e (inl is) = is
      same j k l g e (inr (inl b)) = absurd (path_climbs_apart path j k b g e)
      same j k l g e (inr (inr b)) = absurd (path_climbs_apart path k j b l (sym e))

  path_steps : (fuel : ℕ) {v : ℕ} (path : Path (Along slots list) 0 v) → length_of path ≤ fuel → steps_up slots list fuel v ≡ length_of path
  unfolding length_of
  path_steps zero path h = omega arith
  path_steps (suc fuel) stay h = refl
  path_steps (suc fuel) (step {u = u} {v = v} path a) h =
      rw (ne_eqb v 0 (λ e. omega (arith, not_base u v a))) (ap suc (ap (steps_up slots list fuel) (sym (parent_unique u v a)) ∙ path_steps fuel path (omega arith)))

  -- ---- depth

  depth_is_length : {v : ℕ} (path : Path (Along slots list) 0 v) → v < n → depth slots list v ≡ length_of path
  depth_is_length path h = path_steps (length list) path (omega (arith, path_short path h, tree.one_fewer))

  pub depth_below : (v : ℕ) → v < n → depth slots list v < n
  depth_below v h = omega (arith, depth_is_length (tree.reaches v h) h, path_short (tree.reaches v h) h)

  pub climb_depth : (v : ℕ) → v < n → climb slots list (depth slots list v) v ≡ 0
  climb_depth v h = ap (λ (x : ℕ). climb slots list x v) (depth_is_length (tree.reaches v h) h) ∙ path_climbs (tree.reaches v h)

  pub climb_not_yet : (j v : ℕ) → v < n → j < depth slots list v → 0 < climb slots list j v
  climb_not_yet j v h l = path_climbs_not_yet (tree.reaches v h) j (omega (arith, depth_is_length (tree.reaches v h) h))

  pub climb_beyond : (j v : ℕ) → v < n → depth slots list v ≤ j → climb slots list j v ≡ 0
  climb_beyond j v h l =
      let e : j ≡ depth slots list v + (j - depth slots list v) = omega arith in
      ap (λ (x : ℕ). climb slots list x v) e ∙ climb_after slots list (depth slots list v) (j - depth slots list v) v
      ∙ ap (climb slots list (j - depth slots list v)) (climb_depth v h) ∙ climb_from_base (j - depth slots list v)

  pub depth_of_base : depth slots list 0 ≡ 0
  unfolding length_of
  depth_of_base = path_steps (length list) stay zero-le

  pub depth_0→base : (v : ℕ) → v < n → depth slots list v ≡ 0 → v ≡ 0
  depth_0→base v h e = ap (λ (x : ℕ). climb slots list x v) (sym e) ∙ climb_depth v h

  pub depth_of_parent : (v : ℕ) → 0 < v → v < n → depth slots list v ≡ suc (depth slots list (parent slots list v))
  unfolding length_of
  depth_of_parent v pos h = go (tree.reaches v h) pos h
    where
      go : {w : ℕ} → Path (Along slots list) 0 w → 0 < w → w < n → depth slots list w ≡ suc (depth slots list (parent slots list w))
      go stay p l = absurd (omega arith)
      go (step {u = u} {v = w} path a) p l =
          let up = parent_unique u w a in
          depth_is_length (step path a) l ∙ ap suc (sym (depth_is_length path (omega (arith, parent_is_station w l)))) ∙ ap (λ (x : ℕ). suc (depth slots list x)) up

  pub depth_of_climb : (j v : ℕ) → v < n → j ≤ depth slots list v → depth slots list (climb slots list j v) + j ≡ depth slots list v
  depth_of_climb zero v h l = omega arith
  depth_of_climb (suc j) zero h l = absurd (omega (arith, depth_of_base))
  depth_of_climb (suc j) (suc v) h l =
      let up = depth_of_parent (suc v) (omega arith) h in
      omega (arith, depth_of_climb j (parent slots list (suc v)) (parent_is_station (suc v) h) (omega arith))

  -- ---- below or at

  pub below_base : (v : ℕ) → v < n → BelowOrAt slots list v 0
  below_base v h = (depth slots list v, climb_depth v h)

  -- the steps up to v are as many as w is deeper
  pub below_depths : (w v : ℕ) → w < n → BelowOrAt slots list w v
      → (depth slots list v ≤ depth slots list w) × (climb slots list (depth slots list w - depth slots list v) w ≡ v)
  below_depths w v h p = go (dec_lt (depth slots list w) p.0)
    where
      go : Dec (depth slots list w < p.0)
          → (depth slots list v ≤ depth slots list w) × (climb slots list (depth slots list w - depth slots list v) w ≡ v)
      go (yes l) =
          let base : v ≡ 0 = sym p.1 ∙ climb_beyond p.0 w h (omega arith) in
          let top : depth slots list v ≡ 0 = ap (depth slots list) base ∙ depth_of_base in
          let e : depth slots list w - depth slots list v ≡ depth slots list w = omega arith in
          (omega arith, ap (λ (x : ℕ). climb slots list x w) e ∙ climb_depth w h ∙ sym base)
      go (no l) =
          let at : depth slots list (climb slots list p.0 w) ≡ depth slots list v = ap (depth slots list) p.1 in
          let sum = depth_of_climb p.0 w h (omega arith) in
          let e : depth slots list w - depth slots list v ≡ p.0 = omega arith in
          (omega arith, ap (λ (x : ℕ). climb slots list x w) e ∙ p.1)

  pub below_deeper : (w v : ℕ) → w < n → BelowOrAt slots list w v → (w ≡ v → ⊥) → depth slots list v < depth slots list w
  below_deeper w v h p ne = go (dec_lt (depth slots list v) (depth slots list w)) (below_depths w v h p)
    where
      go : Dec (depth slots list v < depth slots list w)
          → (depth slots list v ≤ depth slots list w) × (climb slots list (depth slots list w - depth slots list v) w ≡ v)
          → depth slots list v < depth slots list w
      go (yes l) steps = l
      go (no l) steps =
          let none : 0 ≡ depth slots list w - depth slots list v = omega (arith, steps.0) in
          absurd (ne (ap (λ (x : ℕ). climb slots list x w) none ∙ steps.1))

  pub below_antisym : (w v : ℕ) → w < n → v < n → BelowOrAt slots list w v → BelowOrAt slots list v w → w ≡ v
  below_antisym w v h g p q = go (ℕ_discrete w v)
    where
      go : Dec (w ≡ v) → w ≡ v
      go (yes e) = e
      go (no ne) = absurd (omega (arith, below_deeper w v h p ne, below_deeper v w g q (λ e. ne (sym e))))

  pub is_below_or_at-decides : (w v : ℕ) → w < n → Decides (is_below_or_at slots list w v) (BelowOrAt slots list w v)
  is_below_or_at-decides w v h = (
    λ e. (depth slots list w - depth slots list v, eqb-true (climb slots list (depth slots list w - depth slots list v) w) v e),
    λ p. eq-eqb (climb slots list (depth slots list w - depth slots list v) w) v (below_depths w v h p).1,
  )

  -- ---- the set below a station

  pub In-subtree→below : (v w : ℕ) → In (subtree n slots list v) w → BelowOrAt slots list w v
  In-subtree→below v w at =
      let test = λ (w : ℕ). is_below_or_at slots list w v in
      (is_below_or_at-decides w v (In-below n (subtree n slots list v) w (passing_small n test) at)).0 (In→passes n test w at)

  pub below→In_subtree : (v w : ℕ) → w < n → BelowOrAt slots list w v → In (subtree n slots list v) w
  below→In_subtree v w h p = passes→In n (λ w. is_below_or_at slots list w v) w h ((is_below_or_at-decides w v h).1 p)

  pub subtree_small : (v : ℕ) → subtree n slots list v < 2 ^ n
  subtree_small v = passing_small n (λ w. is_below_or_at slots list w v)
