-- The set of the stations that pass a test has just those of the n lowest that do.
-- By induction on n: the set so far lacks station n.
use Rattle.std.proofs.Common.{◌≡◌, ℕ, zero, suc, ◌^◌, ◌<◌, ◌≤◌, Bool, true, false, cond, ◌⊎◌, ◌∙◌, subst, inl, inr, arith, pow_pos, pow_mono}
use lib.Bits.{or_lt}
use lib.Pow.{pow-lt}
use native.Mathlib.Decide.{ℕ_discrete}
use Rattle.std.proofs.lemmas.Bool.{cases_Bool, cond-true, cond-false}
use Rattle.stations.specs.Sets.{digit, In}
use Rattle.stations.proofs.Digits.{digit_of_0, digit_or, digit_pow_same, digit_pow_other, digit_above, In-below}
use Rattle.cuts.specs.Climbing.{passing}

last_small : (n : ℕ) (b : Bool) → cond b (2 ^ n) 0 < 2 ^ suc n
last_small n true = pow-lt {i = n} {j = suc n} (omega arith)
last_small n false = pow_pos (suc n)

pub passing_small : (n : ℕ) (test : ℕ → Bool) → passing n test < 2 ^ n
passing_small zero test = pow_pos 0
passing_small (suc n) test =
    let wider : 2 ^ n ≤ 2 ^ suc n = pow_mono {i = n} {j = suc n} (omega arith) in
    or_lt (suc n) (passing n test) (cond (test n) (2 ^ n) 0) (omega (arith, passing_small n test)) (last_small n (test n))

digit_last_same : (n : ℕ) (b : Bool) → digit (cond b (2 ^ n) 0) n ≡ cond b 1 0
digit_last_same n true = digit_pow_same n
digit_last_same n false = digit_of_0 n

digit_last_other : (n s : ℕ) (b : Bool) → (n ≡ s → ⊥) → digit (cond b (2 ^ n) 0) s ≡ 0
digit_last_other n s true ne = digit_pow_other n s ne
digit_last_other n s false ne = digit_of_0 s

pub digit_passing : (n : ℕ) (test : ℕ → Bool) (s : ℕ) → s < n → digit (passing n test) s ≡ cond (test s) 1 0
digit_passing zero test s h = absurd (omega arith)
digit_passing (suc n) test s h = go (ℕ_discrete n s) (λ l. digit_passing n test s l)
  where
    go : Dec (n ≡ s) → (s < n → digit (passing n test) s ≡ cond (test s) 1 0) → digit (passing (suc n) test) s ≡ cond (test s) 1 0
    go (yes e) rest =
        subst (λ (x : ℕ). digit (passing (suc n) test) x ≡ cond (test x) 1 0) e
        (omega (arith, digit_or (passing n test) (cond (test n) (2 ^ n) 0) n, digit_last_same n (test n), digit_above n (passing n test) n (passing_small n test) (omega arith)))
    go (no ne) rest =
        omega (arith, digit_or (passing n test) (cond (test n) (2 ^ n) 0) s, digit_last_other n s (test n) ne, rest (omega arith))

pub passes→In : (n : ℕ) (test : ℕ → Bool) (s : ℕ) → s < n → test s ≡ true → In (passing n test) s
passes→In n test s h e = digit_passing n test s h ∙ cond-true (test s) 1 0 e

pub In→passes : (n : ℕ) (test : ℕ → Bool) (s : ℕ) → In (passing n test) s → test s ≡ true
In→passes n test s at = go (cases_Bool (test s))
  where
    go : (test s ≡ true) ⊎ (test s ≡ false) → test s ≡ true
    go (inl e) = e
    go (inr e) =
        absurd (omega (arith, digit_passing n test s (In-below n (passing n test) s (passing_small n test) at), cond-false {A = ℕ} (test s) 1 0 e))
