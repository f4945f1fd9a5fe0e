-- The depth of a station, climbed step by step: the steps so far and those still to go are as many at every step.
-- And the table of the stations of each depth, put down station by station.
use Rattle.std.proofs.Common.{◌≡◌, ℕ, zero, suc, ◌+◌, ◌-◌, ◌^◌, ◌<◌, eqb, List, length, get_or, set, sym, refl, ap, ◌∙◌, ⊎_elim, arith}
use lib.Bits.{bit_or, or_zero_r}
use Rattle.std.proofs.lemmas.List.FromFn.{fill_by_all, get_or-map-range_with_len}
use Rattle.std.proofs.lemmas.List.{get_or-set_same, get_or-set_other}
use Rattle.std.proofs.lemmas.Bool.{cases_eq, eq-eqb, ne_eqb, cond-true, cond-false}
use Rattle.digraph.specs.Links.{Slots}
use Rattle.digraph.specs.Trees.{SpanningTree}
use Rattle.sheet.specs.Held.{Held}
use Rattle.cuts.specs.Climbing.{parent, steps_up, passing}
use Rattle.cuts.proofs.Passing.{passing_small}
use Rattle.tree_shape.specs.Trees.{tree_of, parent_of, depth_of, level, levels_of}

-- ---- steps up

pub no_steps_from_base : (slots : Slots) (list : List ℕ) (fuel : ℕ) → steps_up slots list fuel 0 ≡ 0
no_steps_from_base slots list zero = refl
no_steps_from_base slots list (suc fuel) = refl

pub one_step_up : (slots : Slots) (list : List ℕ) (fuel v : ℕ) → 0 < fuel → (v ≡ 0 → ⊥) → steps_up slots list fuel v ≡ suc (steps_up slots list (fuel - 1) (parent slots list v))
one_step_up slots list zero v h ne = absurd (omega arith)
one_step_up slots list (suc fuel) v h ne =
    let less : fuel ≡ suc fuel - 1 = omega arith in
    cond-false (eqb v 0) 0 (suc (steps_up slots list fuel (parent slots list v))) (ne_eqb v 0 ne)
    ∙ ap (λ (x : ℕ). suc (steps_up slots list x (parent slots list v))) less

-- the steps so far, and those still to go from where they lead
module _ (t : Held) (tree : SpanningTree t.stations t.links (tree_of t)) (v : ℕ) where
  abbrev pub Climbed : ℕ → ℕ → Type 0
  Climbed at d = steps_up t.links (tree_of t) (t.stations - 1 - d) at + d ≡ depth_of t v

  pub climbed_none : Climbed v 0
  climbed_none =
      let all : t.stations - 1 - 0 ≡ length (tree_of t) = omega (arith, tree.one_fewer) in
      omega (arith, ap (λ (x : ℕ). steps_up t.links (tree_of t) x v) all)

  pub climbed_all : (at d : ℕ) → at ≡ 0 → Climbed at d → d ≡ depth_of t v
  climbed_all at d e was =
      let fuel = t.stations - 1 - d in
      omega (arith, ap (steps_up t.links (tree_of t) fuel) e, no_steps_from_base t.links (tree_of t) fuel)

  pub climbed_more : (at up d : ℕ) → d < t.stations - 1 → (at ≡ 0 → ⊥) → up ≡ parent_of t at → Climbed at d → Climbed up (d + 1)
  climbed_more at up d h ne e was =
      let less : t.stations - 1 - d - 1 ≡ t.stations - 1 - (d + 1) = omega arith in
      omega (
        arith,
        one_step_up t.links (tree_of t) (t.stations - 1 - d) at (omega arith) ne,
        ap (λ (x : ℕ). steps_up t.links (tree_of t) x (parent_of t at)) less,
        ap (steps_up t.links (tree_of t) (t.stations - 1 - (d + 1))) e,
      )

-- ---- levels

-- the stations of depth d among the k lowest
abbrev pub level_upto : Held → ℕ → ℕ → ℕ
level_upto t k d = passing k (λ w. eqb (depth_of t w) d)

pub level_more : (t : Held) (levels : List ℕ) (k next at bit : ℕ) → length levels ≡ 40 → at < 40 → at ≡ depth_of t k → next ≡ suc k → bit ≡ 2 ^ k → ((d : ℕ) → d < 40 → get_or levels d 0 ≡ level_upto t k d)
    → (d : ℕ) → d < 40 → get_or (set levels at (bit_or (get_or levels at 0) bit)) d 0 ≡ level_upto t next d
level_more t levels k next at bit sized low is on bit_is was d h =
    ap (λ (x : ℕ). get_or (set levels at (bit_or (get_or levels at 0) x)) d 0) bit_is ∙ ⊎_elim same other (cases_eq d at) ∙ ap (λ (x : ℕ). level_upto t x d) (sym on)
  where
    same : d ≡ at → get_or (set levels at (bit_or (get_or levels at 0) (2 ^ k))) d 0 ≡ level_upto t (suc k) d
    same e =
        ap (λ (x : ℕ). get_or (set levels at (bit_or (get_or levels at 0) (2 ^ k))) x 0) e ∙ get_or-set_same levels at (bit_or (get_or levels at 0) (2 ^ k)) 0 (omega arith)
        ∙ ap (λ (x : ℕ). bit_or (get_or levels x 0) (2 ^ k)) (sym e) ∙ ap (λ (x : ℕ). bit_or x (2 ^ k)) (was d h)
        ∙ ap (bit_or (level_upto t k d)) (sym (cond-true (eqb (depth_of t k) d) (2 ^ k) 0 (eq-eqb (depth_of t k) d (sym is ∙ sym e))))

    other : (d ≡ at → ⊥) → get_or (set levels at (bit_or (get_or levels at 0) (2 ^ k))) d 0 ≡ level_upto t (suc k) d
    other ne =
        get_or-set_other levels at d (bit_or (get_or levels at 0) (2 ^ k)) 0 ne ∙ was d h ∙ sym (or_zero_r (level_upto t k d))
        ∙ ap (bit_or (level_upto t k d)) (sym (cond-false (eqb (depth_of t k) d) (2 ^ k) 0 (ne_eqb (depth_of t k) d (λ e. ne (sym e ∙ sym is)))))

pub levels_all : (t : Held) (levels : List ℕ) → length levels ≡ 40 → ((d : ℕ) → d < 40 → get_or levels d 0 ≡ level t d) → levels ≡ levels_of t
unfolding levels_of
levels_all t levels sized at = fill_by_all (level t) levels 40 0 sized at

pub level_at : (t : Held) (d : ℕ) → d < 40 → get_or (levels_of t) d 0 ≡ level t d
unfolding levels_of
level_at t d h = get_or-map-range_with_len (level t) 0 40 d d 0 h (omega arith)

pub level_small : (t : Held) (d : ℕ) → level t d < 2 ^ t.stations
level_small t d = passing_small t.stations (λ w. eqb (depth_of t w) d)
