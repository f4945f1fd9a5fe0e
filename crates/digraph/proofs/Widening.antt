-- Widening a set 40 times closes it: each time it has a station more or is closed already, and it has
-- at most 40. So the least closed set around a start is `reach_set`, whatever search found it.
use Rattle.std.proofs.Common.{◌≡◌, ℕ, zero, suc, ◌+◌, ◌-◌, ◌^◌, ◌<◌, ◌≤◌, Bool, true, false, cond, ◌⊎◌, List, [], ◌∷◌, length, get_or, sym, refl, ap, ◌∙◌, subst, inl, inr, ⊎_elim, arith}
use lib.Bits.{bit_or, or_lt}
use lib.Count.{ones, ones-ones}
use Rattle.std.proofs.lemmas.Nat.{pow_pos, pow_below}
use Rattle.std.proofs.lemmas.List.{get_or_past}
use Rattle.std.proofs.lemmas.Bool.{cases_eq, cases_lt}
use Rattle.stations.specs.Sets.{In, Part, has}
use Rattle.stations.proofs.Digits.{digit_le_1, digit_or, digit_of_0, digit_pow_same, digit_ones_below, In-below, In-pow, in_or_out, has→In, In→has, Part-antisym, Part→≤, ones_mono, ones_full}
use Rattle.digraph.specs.Search.{Next, Closed, spread, widened, reach_set}

-- a part of a union
in_or_left : (a b v : ℕ) → In a v → In (bit_or a b) v
in_or_left a b v h = omega (arith, digit_or a b v, digit_le_1 b v)

in_or_right : (a b v : ℕ) → In b v → In (bit_or a b) v
in_or_right a b v h = omega (arith, digit_or a b v, digit_le_1 a v)

in_or_cases : (a b v : ℕ) → In (bit_or a b) v → In a v ⊎ In b v
in_or_cases a b v h = ⊎_elim inl (λ out. inr (omega (arith, digit_or a b v, digit_le_1 b v))) (in_or_out a v)

-- what is spread from a set is what is one step from it
in_spread : (masks : List ℕ) (u set v : ℕ) → In (spread masks u set) v → (i : ℕ) × In set (u + i) × In (get_or masks i 0) v
in_spread [] u set v h = absurd (omega (arith, digit_of_0 v))
in_spread (m ∷ ms) u set v h = ⊎_elim (here (has set u) refl) (λ i. there (in_spread ms (suc u) set v i)) (in_or_cases (cond (has set u) m 0) (spread ms (suc u) set) v h)
  where
    here : (b : Bool) → has set u ≡ b → In (cond b m 0) v → (i : ℕ) × In set (u + i) × In (get_or (m ∷ ms) i 0) v
    here true e i = (0, subst (In set) (let z : u ≡ u + 0 = omega arith in z) (has→In set u e), i)
    here false e i = absurd (omega (arith, digit_of_0 v))

    there : (i : ℕ) × In set (suc u + i) × In (get_or ms i 0) v → (i : ℕ) × In set (u + i) × In (get_or (m ∷ ms) i 0) v
    there (j, p, q) = (suc j, subst (In set) (let z : suc u + j ≡ u + suc j = omega arith in z) p, q)

spread_in : (masks : List ℕ) (u set v i : ℕ) → In set (u + i) → In (get_or masks i 0) v → In (spread masks u set) v
spread_in [] u set v i p q = absurd (omega (arith, digit_of_0 v))
spread_in (m ∷ ms) u set v zero p q =
    let held : has set u ≡ true = In→has set u (subst (In set) (let z : u + 0 ≡ u = omega arith in z) p) in
    in_or_left (cond (has set u) m 0) (spread ms (suc u) set) v (subst (λ (b : Bool). In (cond b m 0) v) (sym held) q)
spread_in (m ∷ ms) u set v (suc i) p q =
    in_or_right (cond (has set u) m 0) (spread ms (suc u) set) v (spread_in ms (suc u) set v i (subst (In set) (let z : u + suc i ≡ suc u + i = omega arith in z) p) q)

module _ (masks : List ℕ) where
  one_step : (set v : ℕ) → In (spread masks 0 set) v → (u : ℕ) × In set u × Next masks u v
  one_step set v h = let (i, p, q) = in_spread masks 0 set v h in (i, subst (In set) (let z : 0 + i ≡ i = omega arith in z) p, q)

  step_one : (set u v : ℕ) → In set u → Next masks u v → In (spread masks 0 set) v
  step_one set u v p q = spread_in masks 0 set v u (subst (In set) (let z : u ≡ 0 + u = omega arith in z) p) q

  -- a closed set that holds a set holds it widened
  pub widened_inside : (times set z : ℕ) → Part set z → Closed masks z → Part (widened masks set times) z
  widened_inside zero set z part closed = part
  widened_inside (suc times) set z part closed =
      widened_inside times (bit_or set (spread masks 0 set)) z
      (λ v h. ⊎_elim (part v) (λ i. let (u, p, q) = one_step set v i in closed u v (part u p) q) (in_or_cases set (spread masks 0 set) v h)) closed

  pub set_in_widened : (times set : ℕ) → Part set (widened masks set times)
  set_in_widened zero set v h = h
  set_in_widened (suc times) set v h = set_in_widened times (bit_or set (spread masks 0 set)) v (in_or_left set (spread masks 0 set) v h)

  -- a set that one step does not widen is closed, and stays
  closed_if_same : (set : ℕ) → bit_or set (spread masks 0 set) ≡ set → Closed masks set
  closed_if_same set same u v p q = subst (λ m. In m v) same (in_or_right set (spread masks 0 set) v (step_one set u v p q))

  same_widened : (times set : ℕ) → bit_or set (spread masks 0 set) ≡ set → widened masks set times ≡ set
  same_widened zero set same = refl
  same_widened (suc times) set same = ap (λ m. widened masks m times) same ∙ same_widened times set same

  pub reach_set_has_start : (start : ℕ) → In (reach_set masks start) start
  unfolding reach_set
  reach_set_has_start start = set_in_widened 40 (2 ^ start) start (digit_pow_same start)

  pub reach_set_least : (start z : ℕ) → In z start → Closed masks z → Part (reach_set masks start) z
  unfolding reach_set
  reach_set_least start z held closed = widened_inside 40 (2 ^ start) z (λ v h. subst (In z) (In-pow start v h) held) closed

  module _ (low : (u : ℕ) → get_or masks u 0 < 2 ^ 40) where
    spread_low : (set v : ℕ) → In (spread masks 0 set) v → v < 40
    spread_low set v h = let (u, p, q) = one_step set v h in In-below 40 (get_or masks u 0) v (low u) q

    widen_low : (set : ℕ) → set < 2 ^ 40 → bit_or set (spread masks 0 set) < 2 ^ 40
    widen_low set small = or_lt 40 set (spread masks 0 set) small (all_below (spread masks 0 set) (spread_low set))
      where
        all_below : (m : ℕ) → ((v : ℕ) → In m v → v < 40) → m < 2 ^ 40
        all_below m inside = let le = Part→≤ m (2 ^ 40 - 1) (λ v h. digit_ones_below 40 v (inside v h)) in omega (arith, pow_pos 40)

    pub widened_closed : (times set : ℕ) → set < 2 ^ 40 → 40 ≤ ones set + times → Closed masks (widened masks set times)
    widened_closed zero set small many =
        let full : set ≡ 2 ^ 40 - 1 = ones_full set (2 ^ 40 - 1) (λ v h. digit_ones_below 40 v (In-below 40 set v small h)) (omega (arith, ones-ones 40)) in
        λ u v p q. subst (λ m. In m v) (sym full) (digit_ones_below 40 v (In-below 40 (get_or masks u 0) v (low u) q))
    widened_closed (suc times) set small many =
        ⊎_elim stays (λ differ. widened_closed times (bit_or set (spread masks 0 set)) (widen_low set small) (omega (arith, more differ)))
        (cases_eq (bit_or set (spread masks 0 set)) set)
      where
        stays : bit_or set (spread masks 0 set) ≡ set → Closed masks (widened masks (bit_or set (spread masks 0 set)) times)
        stays same = subst (Closed masks) (sym (ap (λ m. widened masks m times) same ∙ same_widened times set same)) (closed_if_same set same)

        more : (bit_or set (spread masks 0 set) ≡ set → ⊥) → suc (ones set) ≤ ones (bit_or set (spread masks 0 set))
        more differ =
            let mono = ones_mono set (bit_or set (spread masks 0 set)) (in_or_left set (spread masks 0 set)) in
            ⊎_elim (λ h. h) (λ h. absurd (differ (sym (ones_full set (bit_or set (spread masks 0 set)) (in_or_left set (spread masks 0 set)) h)))) (cases_lt (ones set) (ones (bit_or set (spread masks 0 set))))

    pub reach_set_closed : (start : ℕ) → start < 40 → Closed masks (reach_set masks start)
    unfolding reach_set
    reach_set_closed start small = widened_closed 40 (2 ^ start) (pow_below start 40 small) (omega arith)

    -- the least closed set around a start is `reach_set`
    pub least_closed_is_reach_set
        : (start z : ℕ) → start < 40 → In z start → Closed masks z → ((x : ℕ) → In x start → Closed masks x → Part z x) → z ≡ reach_set masks start
    least_closed_is_reach_set start z small held closed least =
        Part-antisym z (reach_set masks start)
        (least (reach_set masks start) (reach_set_has_start start) (reach_set_closed start small))
        (reach_set_least start z held closed)

-- behind the last place there is no step
pub low_everywhere : (masks : List ℕ) → length masks ≡ 40 → ((u : ℕ) → u < 40 → get_or masks u 0 < 2 ^ 40) → (u : ℕ) → get_or masks u 0 < 2 ^ 40
low_everywhere masks sized low u =
    ⊎_elim (low u) (λ h. subst (λ m. m < 2 ^ 40) (sym (get_or_past masks u 0 (omega arith))) (pow_pos 40)) (cases_lt u 40)
