-- A function from the numbers below m into them that takes no value twice takes them all.
-- Were a value missed, the numbers above it could move down by one, and the same would hold with one number fewer.
use Rattle.std.proofs.Common.{◌≡◌, ℕ, zero, suc, ◌-◌, ◌<◌, min, ◌⊎◌, subst, inl, inr, arith}
use native.Mathlib.Decide.{ℕ_discrete}

-- the numbers other than i, with no gap at i
abbrev closed_up : ℕ → ℕ → ℕ
closed_up i x = x - min 1 (x - i)

none_missed : (m i : ℕ) (f : ℕ → ℕ) → i < m → ((k : ℕ) → k < m → f k < m)
    → ((j k : ℕ) → j < m → k < m → f j ≡ f k → j ≡ k) → ((k : ℕ) → k < m → f k ≡ i → ⊥) → ⊥
none_missed zero i f h within once missed = omega arith
none_missed (suc m) i f h within once missed =
    none_missed m (closed_up i (f m)) (λ k. closed_up i (f k)) (omega (arith, within m (omega arith), missed m (omega arith)))
    (λ k l. omega (arith, within k (omega arith), missed k (omega arith)))
    (λ j k l g e. once j k (omega arith) (omega arith) (omega (arith, missed j (omega arith), missed k (omega arith))))
    (λ k l e. let same : f k ≡ f m = omega (arith, missed k (omega arith), missed m (omega arith)) in
    omega (arith, once k m (omega arith) (omega arith) same))

taken_or_not : (m i : ℕ) (f : ℕ → ℕ) → ((k : ℕ) × (k < m) × (f k ≡ i)) ⊎ ((k : ℕ) → k < m → f k ≡ i → ⊥)
taken_or_not zero i f = inr (λ k l e. omega arith)
taken_or_not (suc m) i f = go (ℕ_discrete (f m) i) (taken_or_not m i f)
  where
    go : Dec (f m ≡ i) → ((k : ℕ) × (k < m) × (f k ≡ i)) ⊎ ((k : ℕ) → k < m → f k ≡ i → ⊥)
        → ((k : ℕ) × (k < suc m) × (f k ≡ i)) ⊎ ((k : ℕ) → k < suc m → f k ≡ i → ⊥)
    go (yes e) rest = inl (m, omega arith, e)
    go (no ne) (inl t) = inl (t.0, omega (arith, t.1), t.2)
    go (no ne) (inr none) = inr (λ k l e. last k l e (ℕ_discrete k m))
      where
        last : (k : ℕ) → k < suc m → f k ≡ i → Dec (k ≡ m) → ⊥
        last k l e (yes q) = ne (subst (λ (x : ℕ). f x ≡ i) q e)
        last k l e (no q) = none k (omega arith) e

pub all_taken : (m i : ℕ) (f : ℕ → ℕ) → i < m → ((k : ℕ) → k < m → f k < m)
    → ((j k : ℕ) → j < m → k < m → f j ≡ f k → j ≡ k) → (k : ℕ) × (k < m) × (f k ≡ i)
all_taken m i f h within once = go (taken_or_not m i f)
  where
    go : ((k : ℕ) × (k < m) × (f k ≡ i)) ⊎ ((k : ℕ) → k < m → f k ≡ i → ⊥) → (k : ℕ) × (k < m) × (f k ≡ i)
    go (inl t) = t
    go (inr missed) = absurd (none_missed m i f h within once missed)
