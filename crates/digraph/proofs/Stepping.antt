-- The masks that `steps_from` makes of a list of links have just the steps of those links, all below
-- station 40. By going along the list.
use Rattle.std.proofs.Common.{◌≡◌, ℕ, zero, suc, ◌+◌, ◌^◌, ◌<◌, ◌⊎◌, List, [], ◌∷◌, length, get_or, drop, set, replicate, Some, None, Option, sym, refl, ap, ◌∙◌, subst, ap₂, inl, inr, ⊎_elim, arith}
use lib.Bits.{bit_or, or_lt}
use Rattle.std.proofs.lemmas.Nat.{pow_below, pow_pos}
use Rattle.std.proofs.lemmas.List.{drop_more, length-set, get_or-set_same, get_or-set_other, set_past}
use Rattle.std.proofs.lemmas.Bool.{cases_eq, cases_lt}
use Rattle.stations.specs.Sets.{In}
use Rattle.stations.proofs.Digits.{digit_le_1, digit_or, digit_pow_same, In-pow, digit_of_0, in_or_out}
use Rattle.digraph.specs.Search.{Next}
use Rattle.digraph.specs.Steps.{Low, with_step, steps_from}
use Rattle.digraph.specs.declared.link.Link.{Link}

-- one step more: what was there, or this step
module _ (masks : List ℕ) (l : Link) (sized : length masks ≡ 40) (low : l.tail < 40) where
  in_with_step : (u v : ℕ) → In (get_or (with_step masks (Some l)) u 0) v → In (get_or masks u 0) v ⊎ ((l.tail ≡ u) × (l.head ≡ v))
  in_with_step u v h = ⊎_elim same other (cases_eq u l.tail)
    where
      other : (u ≡ l.tail → ⊥) → In (get_or masks u 0) v ⊎ ((l.tail ≡ u) × (l.head ≡ v))
      other ne = inl (subst (λ (m : ℕ). In m v) (get_or-set_other masks l.tail u (bit_or (get_or masks l.tail 0) (2 ^ l.head)) 0 ne) h)

      split : (m : ℕ) → In (bit_or m (2 ^ l.head)) v → In m v ⊎ (l.head ≡ v)
      split m i = ⊎_elim inl (λ out. inr (In-pow l.head v (omega (arith, digit_or m (2 ^ l.head) v)))) (in_or_out m v)

      same : u ≡ l.tail → In (get_or masks u 0) v ⊎ ((l.tail ≡ u) × (l.head ≡ v))
      same e =
          let at : get_or (with_step masks (Some l)) u 0 ≡ bit_or (get_or masks l.tail 0) (2 ^ l.head) = ap (λ (x : ℕ). get_or (with_step masks (Some l)) x 0) e ∙ get_or-set_same masks l.tail (bit_or (get_or masks l.tail 0) (2 ^ l.head)) 0 (omega arith) in
          let i : In (bit_or (get_or masks l.tail 0) (2 ^ l.head)) v = subst (λ (m : ℕ). In m v) at h in
          ⊎_elim (λ j. inl (subst (λ (x : ℕ). In (get_or masks x 0) v) (sym e) j)) (λ q. inr (sym e, q)) (split (get_or masks l.tail 0) i)

  with_step_has_old : (u v : ℕ) → In (get_or masks u 0) v → In (get_or (with_step masks (Some l)) u 0) v
  with_step_has_old u v h = ⊎_elim same other (cases_eq u l.tail)
    where
      other : (u ≡ l.tail → ⊥) → In (get_or (with_step masks (Some l)) u 0) v
      other ne = subst (λ (m : ℕ). In m v) (sym (get_or-set_other masks l.tail u (bit_or (get_or masks l.tail 0) (2 ^ l.head)) 0 ne)) h

      same : u ≡ l.tail → In (get_or (with_step masks (Some l)) u 0) v
      same e =
          let at : get_or (with_step masks (Some l)) u 0 ≡ bit_or (get_or masks l.tail 0) (2 ^ l.head) = ap (λ (x : ℕ). get_or (with_step masks (Some l)) x 0) e ∙ get_or-set_same masks l.tail (bit_or (get_or masks l.tail 0) (2 ^ l.head)) 0 (omega arith) in
          let j : In (get_or masks l.tail 0) v = subst (λ (x : ℕ). In (get_or masks x 0) v) e h in
          subst (λ (m : ℕ). In m v) (sym at) (omega (arith, digit_or (get_or masks l.tail 0) (2 ^ l.head) v, digit_le_1 (2 ^ l.head) v))

  with_step_has_new : In (get_or (with_step masks (Some l)) l.tail 0) l.head
  with_step_has_new =
      let at : get_or (with_step masks (Some l)) l.tail 0 ≡ bit_or (get_or masks l.tail 0) (2 ^ l.head) = get_or-set_same masks l.tail (bit_or (get_or masks l.tail 0) (2 ^ l.head)) 0 (omega arith) in
      subst (λ (m : ℕ). In m l.head) (sym at) (omega (arith, digit_or (get_or masks l.tail 0) (2 ^ l.head) l.head, digit_pow_same l.head, digit_le_1 (get_or masks l.tail 0) l.head))

-- what may be a link leads from u to v
abbrev pub From : Option Link → ℕ → ℕ → Type 0
From o u v = o ≡ Some (record { tail = u; head = v })

-- some link of a list leads from u to v
abbrev pub Somewhere : List (Option Link) → ℕ → ℕ → Type 0
Somewhere os u v = (i : ℕ) × (i < length os) × From (get_or os i None) u v

-- every link of a list has both ends below 40
abbrev pub AllLow : List (Option Link) → Type 0
AllLow os = (i : ℕ) → i < length os → Low (get_or os i None)

same_link : (l : Link) (u v : ℕ) → l.tail ≡ u → l.head ≡ v → l ≡ record { tail = u; head = v }
same_link l u v p q = let f : ℕ → ℕ → Link = λ a b. record { tail = a; head = b } in ap₂ f p q

-- what one link adds: its step, if there is one
in_next_step : (o : Option Link) (masks : List ℕ) (u v : ℕ) → Low o → length masks ≡ 40 → In (get_or (with_step masks o) u 0) v → In (get_or masks u 0) v ⊎ From o u v
in_next_step None masks u v low sized h = inl h
in_next_step (Some l) masks u v low sized h =
    ⊎_elim inl (λ (p, q). inr (ap Some (same_link l u v p q))) (in_with_step masks l sized (low l refl).0 u v h)

next_step_in : (o : Option Link) (masks : List ℕ) (u v : ℕ) → Low o → length masks ≡ 40 → In (get_or masks u 0) v ⊎ From o u v → In (get_or (with_step masks o) u 0) v
next_step_in None masks u v low sized h = ⊎_elim (λ i. i) (λ q. absurd (none_is_some q)) h
  where
    none_is_some : {l : Link} → None ≡ Some l → ⊥
    none_is_some p = let z : ◌≡◌ {A = ℕ} 0 1 = cc in omega arith
next_step_in (Some l) masks u v low sized h =
    ⊎_elim (with_step_has_old masks l sized (low l refl).0 u v) (λ q. at_ends q (with_step_has_new masks l sized (low l refl).0)) h
  where
    at_ends : Some l ≡ Some (record { tail = u; head = v }) → In (get_or (with_step masks (Some l)) l.tail 0) l.head → In (get_or (with_step masks (Some l)) u 0) v
    at_ends q i =
        let t : l.tail ≡ u = cc in
        let w : l.head ≡ v = cc in
        subst (λ (x : ℕ). In (get_or (with_step masks (Some l)) x 0) v) t (subst (λ (y : ℕ). In (get_or (with_step masks (Some l)) l.tail 0) y) w i)

pub next_step_sized : (o : Option Link) (masks : List ℕ) → length masks ≡ 40 → length (with_step masks o) ≡ 40
next_step_sized None masks sized = sized
next_step_sized (Some l) masks sized = length-set masks l.tail (bit_or (get_or masks l.tail 0) (2 ^ l.head)) ∙ sized

-- a mask with one station below 40 more, among masks of stations below 40
pub bit_more_low : (masks : List ℕ) (t h bit u : ℕ) → bit ≡ 2 ^ h → h < 40 → ((u : ℕ) → get_or masks u 0 < 2 ^ 40) → get_or (set masks t (bit_or (get_or masks t 0) bit)) u 0 < 2 ^ 40
bit_more_low masks t h bit u is below low = ⊎_elim same other (cases_eq u t)
  where
    other : (u ≡ t → ⊥) → get_or (set masks t (bit_or (get_or masks t 0) bit)) u 0 < 2 ^ 40
    other ne = rw (get_or-set_other masks t u (bit_or (get_or masks t 0) bit) 0 ne) (low u)

    new : bit_or (get_or masks t 0) bit < 2 ^ 40
    new = rw is (or_lt 40 (get_or masks t 0) (2 ^ h) (low t) (pow_below h 40 below))

    same : u ≡ t → get_or (set masks t (bit_or (get_or masks t 0) bit)) u 0 < 2 ^ 40
    same q =
        ⊎_elim (λ h. rw (q, get_or-set_same masks t (bit_or (get_or masks t 0) bit) 0 h) new)
        (λ h. rw (set_past masks t (bit_or (get_or masks t 0) bit) h) (low u)) (cases_lt t (length masks))

pub next_step_low : (o : Option Link) (masks : List ℕ) → Low o → ((u : ℕ) → get_or masks u 0 < 2 ^ 40) → (u : ℕ) → get_or (with_step masks o) u 0 < 2 ^ 40
next_step_low None masks ends low u = low u
next_step_low (Some l) masks ends low u = bit_more_low masks l.tail l.head (2 ^ l.head) u refl (ends l refl).1 low

-- of a longer list: its first link, or the rest
low_rest : (o : Option Link) (os : List (Option Link)) → AllLow (o ∷ os) → AllLow os
low_rest o os low i h = low (suc i) (omega arith)

somewhere_cons : (o : Option Link) (os : List (Option Link)) (u v : ℕ) → Somewhere (o ∷ os) u v → From o u v ⊎ Somewhere os u v
somewhere_cons o os u v (i, h, e) = go i h e
  where
    go : (i : ℕ) → i < suc (length os) → From (get_or (o ∷ os) i None) u v → From o u v ⊎ Somewhere os u v
    go zero h e = inl e
    go (suc i) h e = inr (i, omega arith, e)

-- the steps of the masks are those that were there and those of the list
pub in_steps : (os : List (Option Link)) (masks : List ℕ) (u v : ℕ) → AllLow os → length masks ≡ 40 → In (get_or (steps_from masks os) u 0) v → In (get_or masks u 0) v ⊎ Somewhere os u v
in_steps [] masks u v low sized h = inl h
in_steps (o ∷ os) masks u v low sized h =
    ⊎_elim
    (λ i. ⊎_elim inl (λ e. inr (0, omega arith, e)) (in_next_step o masks u v (low 0 (omega arith)) sized i))
    (λ (i, j, e). inr (suc i, omega arith, e))
    (in_steps os (with_step masks o) u v (low_rest o os low) (next_step_sized o masks sized) h)

pub steps_in : (os : List (Option Link)) (masks : List ℕ) (u v : ℕ) → AllLow os → length masks ≡ 40 → In (get_or masks u 0) v ⊎ Somewhere os u v → In (get_or (steps_from masks os) u 0) v
steps_in [] masks u v low sized h = ⊎_elim (λ i. i) (λ (i, j, e). absurd (below_none i j)) h
  where
    below_none : (i : ℕ) → i < 0 → ⊥
    below_none i j = omega arith
steps_in (o ∷ os) masks u v low sized h =
    steps_in os (with_step masks o) u v (low_rest o os low) (next_step_sized o masks sized)
    (⊎_elim (λ i. inl (next_step_in o masks u v (low 0 (omega arith)) sized (inl i)))
    (λ a. ⊎_elim (λ e. inl (next_step_in o masks u v (low 0 (omega arith)) sized (inr e))) inr (somewhere_cons o os u v a)) h)

pub steps_low : (os : List (Option Link)) (masks : List ℕ) → AllLow os → ((u : ℕ) → get_or masks u 0 < 2 ^ 40) → (u : ℕ) → get_or (steps_from masks os) u 0 < 2 ^ 40
steps_low [] masks ends low u = low u
steps_low (o ∷ os) masks ends low u = steps_low os (with_step masks o) (low_rest o os ends) (next_step_low o masks (ends 0 (omega arith)) low) u

pub steps_sized : (os : List (Option Link)) (masks : List ℕ) → length masks ≡ 40 → length (steps_from masks os) ≡ 40
steps_sized [] masks sized = sized
steps_sized (o ∷ os) masks sized = steps_sized os (with_step masks o) (next_step_sized o masks sized)

none_in_zeros : (m u v : ℕ) → In (get_or (replicate m 0) u 0) v → ⊥
none_in_zeros zero u v h = omega (arith, digit_of_0 v)
none_in_zeros (suc m) zero v h = omega (arith, digit_of_0 v)
none_in_zeros (suc m) (suc u) v h = none_in_zeros m u v h

pub same_low : (m x u : ℕ) → x < 2 ^ 40 → get_or (replicate m x) u 0 < 2 ^ 40
same_low zero x u low = pow_pos 40
same_low (suc m) x zero low = low
same_low (suc m) x (suc u) low = same_low m x u low

-- from no steps at all, the masks have just the steps of the list
module _ (os : List (Option Link)) (low : AllLow os) where
  pub next_somewhere : (u v : ℕ) → Next (steps_from (replicate 40 0) os) u v → Somewhere os u v
  next_somewhere u v h = ⊎_elim (λ i. absurd (none_in_zeros 40 u v i)) (λ a. a) (in_steps os (replicate 40 0) u v low refl h)

  pub somewhere_next : (u v : ℕ) → Somewhere os u v → Next (steps_from (replicate 40 0) os) u v
  somewhere_next u v a = steps_in os (replicate 40 0) u v low refl (inr a)

  pub steps_are_low : (u : ℕ) → get_or (steps_from (replicate 40 0) os) u 0 < 2 ^ 40
  steps_are_low u = steps_low os (replicate 40 0) low (λ w. same_low 40 0 w (pow_pos 40)) u

-- the first link taken off those to come
pub steps_one_on : (os : List (Option Link)) (masks : List ℕ) (i : ℕ) (o : Option Link) → i < length os → o ≡ get_or os i None → steps_from (with_step masks o) (drop (i + 1) os) ≡ steps_from masks (drop i os)
steps_one_on os masks i o h e = sym (ap (steps_from masks) (drop_more os i None h) ∙ ap (λ x. steps_from (with_step masks x) (drop (i + 1) os)) (sym e))
