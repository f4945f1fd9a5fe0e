-- Stage 3, one turn: a mark that is put back is the one that was there, and the turns still to come are
-- one fewer.
use Rattle.std.proofs.Common.{◌≡◌, ℕ, suc, ◌-◌, ◌<◌, Bool, true, cond, eqb, List, get_or, set, is_some, Option, sym, ap, ◌∙◌, ap₂, arith}
use Rattle.std.proofs.lemmas.List.{set-set, set-get_or}
use Rattle.std.proofs.lemmas.Bool.{ne_eqb, not_from_false}
use Rattle.stages.specs.Keeping.{spared, kept_of}

module _ (largest : List ℕ → Option ℕ) (marks : List ℕ) (k : ℕ) where
  pub needed_stays : (get_or marks k 0 ≡ 0 → ⊥) → is_some (largest (set marks k 0)) ≡ true → set (set marks k 0) k (get_or marks k 0) ≡ spared largest marks k
  needed_stays is_marked needed =
      set-set marks k 0 (get_or marks k 0) ∙ set-get_or marks k 0
      ∙ sym (ap₂ (λ (b c : Bool). cond b (cond c marks (set marks k 0)) marks) (not_from_false (eqb (get_or marks k 0) 0) (ne_eqb (get_or marks k 0) 0 is_marked)) needed)

  pub one_turn : 0 < k → kept_of largest marks k ≡ kept_of largest (spared largest marks (k - 1)) (k - 1)
  unfolding kept_of
  one_turn h = ap (kept_of largest marks) (let z : k ≡ suc (k - 1) = omega arith in z)

  pub no_turn_left : k ≡ 0 → marks ≡ kept_of largest marks k
  unfolding kept_of
  no_turn_left h = ap (kept_of largest marks) (sym h)
