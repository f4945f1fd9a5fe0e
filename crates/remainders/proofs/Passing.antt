-- A column that is gone over place by place: the places passed are as they should be, and those ahead are
-- as they were. One place on, written or not, by reading a list that was written at one place.
use Rattle.std.proofs.Common.{◌≡◌, ℕ, ◌+◌, ◌<◌, ◌≤◌, List, length, get_or, set, refl, ap, ◌∙◌, ⊎_elim, arith, below_more}
use Rattle.std.proofs.lemmas.List.{get_or-set_same, get_or-set_other}
use Rattle.std.proofs.lemmas.Bool.{cases_lt}

-- k places are passed, read at a default
pub record Passed {X : Type 0} (d : X) (k : ℕ) (new old : ℕ → X) (xs : List X) : Type 0 where
  pub done : (j : ℕ) → j < k → get_or xs j d ≡ new j
  pub ahead : (j : ℕ) → k ≤ j → get_or xs j d ≡ old j

pub passed_none : {X : Type 0} (d : X) (new : ℕ → X) (xs : List X) → Passed d 0 new (λ j. get_or xs j d) xs
passed_none d new xs = record { done = λ j h. absurd (omega arith); ahead = λ j h. refl }

module _ {X : Type 0} (d : X) (k : ℕ) (new old : ℕ → X) (xs : List X) (so_far : Passed d k new old xs) (ys : List X) where
  pub passed_unwritten : ys ≡ xs → old k ≡ new k → Passed d (k + 1) new old ys
  passed_unwritten same e =
      record {
        done = below_more (λ j. get_or ys j d ≡ new j) k
            (λ j l. ap (λ zs. get_or zs j d) same ∙ so_far.done j l)
            (ap (λ zs. get_or zs k d) same ∙ so_far.ahead k (omega arith) ∙ e);
        ahead = λ j l. ap (λ zs. get_or zs j d) same ∙ so_far.ahead j (omega arith);
      }

  pub passed_written : (x : X) → k < length xs → ys ≡ set xs k x → x ≡ new k → Passed d (k + 1) new old ys
  passed_written x h wrote e =
      record {
        done = below_more (λ j. get_or ys j d ≡ new j) k
            (λ j l. ap (λ zs. get_or zs j d) wrote ∙ get_or-set_other xs k j x d (λ q. omega arith) ∙ so_far.done j l)
            (ap (λ zs. get_or zs k d) wrote ∙ get_or-set_same xs k x d h ∙ e);
        ahead = λ j l. ap (λ zs. get_or zs j d) wrote ∙ get_or-set_other xs k j x d (λ q. omega arith) ∙ so_far.ahead j (omega arith);
      }

-- and at the end, if the places ahead are to stay as they are
pub passed_all : {X : Type 0} (d : X) (k : ℕ) (new old : ℕ → X) (xs : List X) → Passed d k new old xs → (j : ℕ) → (k ≤ j → old j ≡ new j) → get_or xs j d ≡ new j
passed_all d k new old xs so_far j rest = ⊎_elim (so_far.done j) (λ h. so_far.ahead j h ∙ rest h) (cases_lt j k)
