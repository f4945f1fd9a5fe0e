-- The first and the last number below a bound of which something holds, or that of each of them something else does.
-- By induction on the bound, with a decision for each number; a test is such a decision.
use Rattle.std.proofs.Common.{◌≡◌, ℕ, zero, suc, ◌<◌, Bool, true, false, ◌⊎◌, subst, inl, inr, arith}
use native.Mathlib.Decide.{ℕ_discrete}
use Rattle.std.proofs.lemmas.Bool.{cases_Bool}

-- of each number below the bound
abbrev pub EachBelow : ℕ → (ℕ → Type 0) → Type 0
EachBelow bound Q = (k : ℕ) → k < bound → Q k

-- P of the number k, and Q of each one before it
pub record First (bound : ℕ) (P Q : ℕ → Type 0) (k : ℕ) : Type 0 where
  pub below : k < bound
  pub found : P k
  pub before : EachBelow k Q

-- P of the number k, and Q of each one after it
pub record Last (bound : ℕ) (P Q : ℕ → Type 0) (k : ℕ) : Type 0 where
  pub below : k < bound
  pub found : P k
  pub after : (j : ℕ) → k < j → j < bound → Q j

module _ (P Q : ℕ → Type 0) (either : (k : ℕ) → P k ⊎ Q k) where
  each_below_more : (bound : ℕ) → EachBelow bound Q → Q bound → EachBelow (suc bound) Q
  each_below_more bound each here k h = go (ℕ_discrete bound k)
    where
      go : Dec (bound ≡ k) → Q k
      go (yes e) = subst Q e here
      go (no ne) = each k (omega arith)

  pub first_of : (bound : ℕ) → ((k : ℕ) × First bound P Q k) ⊎ EachBelow bound Q
  first_of zero = inr (λ k h. absurd (omega arith))
  first_of (suc bound) = go (first_of bound) (either bound)
    where
      go : ((k : ℕ) × First bound P Q k) ⊎ EachBelow bound Q → P bound ⊎ Q bound → ((k : ℕ) × First (suc bound) P Q k) ⊎ EachBelow (suc bound) Q
      go (inl (k, h)) here = inl (k, record { below = omega (arith, h.below); found = h.found; before = h.before })
      go (inr each) (inl p) = inl (bound, record { below = omega arith; found = p; before = each })
      go (inr each) (inr q) = inr (each_below_more bound each q)

  pub last_of : (bound : ℕ) → ((k : ℕ) × Last bound P Q k) ⊎ EachBelow bound Q
  last_of zero = inr (λ k h. absurd (omega arith))
  last_of (suc bound) = go (last_of bound) (either bound)
    where
      later : (k : ℕ) → Last bound P Q k → Q bound → (j : ℕ) → k < j → j < suc bound → Dec (bound ≡ j) → Q j
      later k h q j l g (yes e) = subst Q e q
      later k h q j l g (no ne) = h.after j l (omega arith)

      go : ((k : ℕ) × Last bound P Q k) ⊎ EachBelow bound Q → P bound ⊎ Q bound → ((k : ℕ) × Last (suc bound) P Q k) ⊎ EachBelow (suc bound) Q
      go rest (inl p) = inl (bound, record { below = omega arith; found = p; after = λ j l g. absurd (omega arith) })
      go (inl (k, h)) (inr q) =
          inl (k, record { below = omega (arith, h.below); found = h.found; after = λ j l g. later k h q j l g (ℕ_discrete bound j) })
      go (inr each) (inr q) = inr (each_below_more bound each q)

-- ---- tests

-- the number passes, or fails
abbrev pub Passes : (ℕ → Bool) → ℕ → Type 0
Passes test k = test k ≡ true

abbrev pub Fails : (ℕ → Bool) → ℕ → Type 0
Fails test k = test k ≡ false

pub first_passing : (bound : ℕ) (test : ℕ → Bool) → ((k : ℕ) × First bound (Passes test) (Fails test) k) ⊎ EachBelow bound (Fails test)
first_passing bound test = first_of (Passes test) (Fails test) (λ k. cases_Bool (test k)) bound

pub last_passing : (bound : ℕ) (test : ℕ → Bool) → ((k : ℕ) × Last bound (Passes test) (Fails test) k) ⊎ EachBelow bound (Fails test)
last_passing bound test = last_of (Passes test) (Fails test) (λ k. cases_Bool (test k)) bound

-- where it cannot be that all fail, one passes
pub first_unless_all_fail : (bound : ℕ) (test : ℕ → Bool) → (EachBelow bound (Fails test) → ⊥) → (k : ℕ) × First bound (Passes test) (Fails test) k
first_unless_all_fail bound test some = go (first_passing bound test)
  where
    go : ((k : ℕ) × First bound (Passes test) (Fails test) k) ⊎ EachBelow bound (Fails test) → (k : ℕ) × First bound (Passes test) (Fails test) k
    go (inl t) = t
    go (inr fail) = absurd (some fail)
