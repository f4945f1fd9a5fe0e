-- The steps beside the tree link into v are those along marked links and those along the other tree links, forth or back.
-- By reading one link off the masks, or putting one on.
use Rattle.std.proofs.Common.{◌≡◌, ℕ, ◌^◌, ◌<◌, ◌≤◌, Bool, true, false, cond, ◌||◌, eqb, ◌⊎◌, List, map, length, get_or, Some, None, sym, refl, ap, ◌∙◌, subst, inl, inr, ⊎_elim, arith, pow_mono}
use Rattle.std.proofs.lemmas.List.FromFn.{get_or-map-range_with_len, length-map-range_with_len}
use Rattle.std.proofs.lemmas.Bool.{or_parts, or_from, eqb-false, ne_eqb, cond-false}
use Rattle.std.specs.List.{range_with_len}
use Rattle.digraph.specs.Search.{Next}
use Rattle.digraph.specs.Steps.{Low}
use Rattle.digraph.specs.Trees.{SpanningTree}
use Rattle.digraph.specs.declared.link.Link.{Link}
use Rattle.digraph.proofs.Stepping.{AllLow, in_steps, steps_in, steps_low, steps_sized}
use Rattle.digraph.proofs.Widening.{low_everywhere}
use Rattle.sheet.specs.Held.{Held}
use Rattle.sheet.specs.Sound.{Sound}
use Rattle.family.specs.Reach.{turned}
use Rattle.family.specs.declared.reach.Direction.{Direction}
use Rattle.family.specs.declared.reach.Direction.TheVariants.{Forth, Back}
use Rattle.family.specs.Marking.{some_is_not_none}
use Rattle.cuts.proofs.Parents.{parent_is_station}
use Rattle.tree_family.specs.Choices.{step_of_tree, beside, Inside}
use Rattle.tree_shape.specs.Trees.{tree_of, parent_of}

-- a tree link, not the one into v, leads from a to b
pub record OtherLink (t : Held) (v a b : ℕ) : Type 0 where
  pub not_base : b ≡ 0 → ⊥
  pub not_it : b ≡ v → ⊥
  pub station : b < t.stations
  pub parent_is : a ≡ parent_of t b

-- gone along forth or back
abbrev pub OtherWay : Direction → Held → ℕ → ℕ → ℕ → Type 0
OtherWay Forth t v a b = OtherLink t v a b
OtherWay Back t v a b = OtherLink t v b a

-- ---- one tree step

unless : (b : Bool) (x l : Link) → cond b None (Some x) ≡ Some l → (b ≡ false) × (x ≡ l)
unless true x l e = absurd (some_is_not_none e)
unless false x l e = (refl, cc)

pub tree_step_given : (way : Direction) (t : Held) (v w : ℕ) (l : Link) → (w ≡ 0 → ⊥) → (w ≡ v → ⊥) → l ≡ turned way (record { tail = parent_of t w; head = w }) → Some l ≡ step_of_tree way t v w
tree_step_given way t v w l p q e =
    ap Some e ∙ sym (cond-false (eqb w 0 || eqb w v) None (Some (turned way (record { tail = parent_of t w; head = w }))) (or_from (eqb w 0) (eqb w v) (ne_eqb w 0 p) (ne_eqb w v q)))

-- what a tree step is
record Given (way : Direction) (t : Held) (v w : ℕ) (l : Link) : Type 0 where
  not_base : w ≡ 0 → ⊥
  not_it : w ≡ v → ⊥
  is : turned way (record { tail = parent_of t w; head = w }) ≡ l

given : (way : Direction) (t : Held) (v w : ℕ) (l : Link) → step_of_tree way t v w ≡ Some l → Given way t v w l
given way t v w l e =
    let (out, is) = unless (eqb w 0 || eqb w v) (turned way (record { tail = parent_of t w; head = w })) l e in
    let (p, q) = or_parts (eqb w 0) (eqb w v) out in
    record { not_base = eqb-false w 0 p; not_it = eqb-false w v q; is = is }

given→other : (way : Direction) (t : Held) (v w a b : ℕ) → w < t.stations → Given way t v w (record { tail = a; head = b }) → OtherWay way t v a b
given→other Forth t v w a b h g =
    let head : w ≡ b = ap (λ (l : Link). l.head) g.is in
    let tail : parent_of t w ≡ a = ap (λ (l : Link). l.tail) g.is in
    subst (λ (x : ℕ). OtherLink t v a x) head (record { not_base = g.not_base; not_it = g.not_it; station = h; parent_is = sym tail })
given→other Back t v w a b h g =
    let head : w ≡ a = ap (λ (l : Link). l.tail) g.is in
    let tail : parent_of t w ≡ b = ap (λ (l : Link). l.head) g.is in
    subst (λ (x : ℕ). OtherLink t v b x) head (record { not_base = g.not_base; not_it = g.not_it; station = h; parent_is = sym tail })

-- ---- the masks

module _ (t : Held) (sound : Sound t) (tree : SpanningTree t.stations t.links (tree_of t)) where
  pub tree_step_low : (way : Direction) (v w : ℕ) → w < t.stations → Low (step_of_tree way t v w)
  tree_step_low way v w h l e = by_way way (given way t v w l e).is
    where
      few : t.stations ≤ 40
      few = sound.few

      up : parent_of t w < t.stations
      up = parent_is_station t.stations t.links (tree_of t) tree w h

      by_way : (way : Direction) → turned way (record { tail = parent_of t w; head = w }) ≡ l → (l.tail < 40) × (l.head < 40)
      by_way Forth is = subst (λ (x : Link). (x.tail < 40) × (x.head < 40)) is (omega (arith, up, few), omega (arith, few))
      by_way Back is = subst (λ (x : Link). (x.tail < 40) × (x.head < 40)) is (omega (arith, few), omega (arith, up, few))

  module _ (way : Direction) (v : ℕ) where
    step_at : (i : ℕ) → i < t.stations → get_or (map (step_of_tree way t v) (range_with_len 0 t.stations)) i None ≡ step_of_tree way t v i
    step_at i h = get_or-map-range_with_len (step_of_tree way t v) 0 t.stations i i None h (omega arith)

    place_below : (i : ℕ) → i < length (map (step_of_tree way t v) (range_with_len 0 t.stations)) → i < t.stations
    place_below i h = omega (arith, length-map-range_with_len (step_of_tree way t v) 0 t.stations)

    all_low : AllLow (map (step_of_tree way t v) (range_with_len 0 t.stations))
    all_low i h l e = tree_step_low way v i (place_below i h) l (sym (step_at i (place_below i h)) ∙ e)

    module _ (marked : List ℕ) (sized : length marked ≡ 40) where
      pub beside→either : (a b : ℕ) → Next (beside way t marked v) a b → Next marked a b ⊎ OtherWay way t v a b
      unfolding beside
      beside→either a b h =
          ⊎_elim inl
          (λ (i, j, e). inr (given→other way t v i a b (place_below i j) (given way t v i (record { tail = a; head = b }) (sym (step_at i (place_below i j)) ∙ e))))
          (in_steps (map (step_of_tree way t v) (range_with_len 0 t.stations)) marked a b all_low sized h)

      marked→beside : (a b : ℕ) → Next marked a b → Next (beside way t marked v) a b
      unfolding beside
      marked→beside a b h = steps_in (map (step_of_tree way t v) (range_with_len 0 t.stations)) marked a b all_low sized (inl h)

      place→beside : (a b w : ℕ) → w < t.stations → step_of_tree way t v w ≡ Some (record { tail = a; head = b }) → Next (beside way t marked v) a b
      unfolding beside
      place→beside a b w h e =
          steps_in (map (step_of_tree way t v) (range_with_len 0 t.stations)) marked a b all_low sized
          (inr (w, omega (arith, length-map-range_with_len (step_of_tree way t v) 0 t.stations), step_at w h ∙ e))

      pub beside_low : Inside t.stations marked → (u : ℕ) → get_or (beside way t marked v) u 0 < 2 ^ 40
      unfolding beside
      beside_low inside = steps_low (map (step_of_tree way t v) (range_with_len 0 t.stations)) marked all_low (low_everywhere marked sized low)
        where
          low : (u : ℕ) → u < 40 → get_or marked u 0 < 2 ^ 40
          low u h = let wide : 2 ^ t.stations ≤ 2 ^ 40 = pow_mono sound.few in omega (arith, inside u h)

  pub either→beside : (way : Direction) (v : ℕ) (marked : List ℕ) (sized : length marked ≡ 40) (a b : ℕ) → Next marked a b ⊎ OtherWay way t v a b → Next (beside way t marked v) a b
  either→beside way v marked sized a b (inl h) = marked→beside way v marked sized a b h
  either→beside Forth v marked sized a b (inr o) =
      place→beside Forth v marked sized a b b o.station
      (sym (tree_step_given Forth t v b (record { tail = a; head = b }) o.not_base o.not_it (ap (λ (x : ℕ). record { tail = x; head = b }) o.parent_is)))
  either→beside Back v marked sized a b (inr o) =
      place→beside Back v marked sized a b a o.station
      (sym (tree_step_given Back t v a (record { tail = a; head = b }) o.not_base o.not_it (ap (λ (x : ℕ). record { tail = a; head = x }) o.parent_is)))

pub beside_sized : (way : Direction) (t : Held) (marked : List ℕ) (v : ℕ) → length marked ≡ 40 → length (beside way t marked v) ≡ 40
unfolding beside
beside_sized way t marked v sized = steps_sized (map (step_of_tree way t v) (range_with_len 0 t.stations)) marked sized
