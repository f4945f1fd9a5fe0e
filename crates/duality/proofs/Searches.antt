-- Bounded searches: a number below a bound that passes a test, the last such number, or that there is none.
-- Each goes up to the bound one number at a time.
use Rattle.std.proofs.Common.{◌≡◌, ℕ, zero, suc, ◌<◌, Bool, true, false, ◌||◌, ◌⊎◌, sym, refl, ◌∙◌, subst, inl, inr, true≢false, arith}
use native.Mathlib.Decide.{ℕ_discrete}

-- the last number below m that passes
pub record Last (f : ℕ → Bool) (m : ℕ) : Type 0 where
  pub at : ℕ
  pub before : at < m
  pub passes : f at ≡ true
  pub later : (k : ℕ) → at < k → k < m → f k ≡ false

pub last_or_none : (f : ℕ → Bool) (m : ℕ) → Last f m ⊎ ((k : ℕ) → k < m → f k ≡ false)
last_or_none f zero = inr (λ k l. absurd (omega arith))
last_or_none f (suc m) = go (f m) refl (last_or_none f m)
  where
    at_end : f m ≡ false → (k : ℕ) → k < suc m → (k < m → f k ≡ false) → Dec (k ≡ m) → f k ≡ false
    at_end e k l rest (yes q) = subst (λ (x : ℕ). f x ≡ false) (sym q) e
    at_end e k l rest (no ne) = rest (omega arith)

    go : (b : Bool) → f m ≡ b → Last f m ⊎ ((k : ℕ) → k < m → f k ≡ false) → Last f (suc m) ⊎ ((k : ℕ) → k < suc m → f k ≡ false)
    go true e rest = inl (record { at = m; before = omega arith; passes = e; later = λ k h l. absurd (omega arith) })
    go false e (inl t) =
        inl (record {
          at = t.at;
          before = omega (arith, t.before);
          passes = t.passes;
          later = λ k h l. at_end e k l (t.later k h) (ℕ_discrete k m);
        })
    go false e (inr none) = inr (λ k l. at_end e k l (none k) (ℕ_discrete k m))

-- some number below m passes
abbrev pub some : (ℕ → Bool) → ℕ → Bool
some f zero = false
some f (suc m) = f m || some f m

pub some_passes : (f : ℕ → Bool) (m k : ℕ) → k < m → f k ≡ true → some f m ≡ true
some_passes f zero k l e = absurd (omega arith)
some_passes f (suc m) k l e = go (f m) refl (ℕ_discrete k m) (λ h. some_passes f m k h e)
  where
    go : (b : Bool) → f m ≡ b → Dec (k ≡ m) → (k < m → some f m ≡ true) → (b || some f m) ≡ true
    go true q d rest = refl
    go false q (yes s) rest = absurd (true≢false (sym e ∙ subst (λ (x : ℕ). f x ≡ false) (sym s) q))
    go false q (no s) rest = rest (omega arith)

pub none_passes : (f : ℕ → Bool) (m : ℕ) → ((k : ℕ) → k < m → f k ≡ false) → some f m ≡ false
none_passes f zero h = refl
none_passes f (suc m) h = go (f m) (h m (omega arith)) (none_passes f m (λ k l. h k (omega arith)))
  where
    go : (b : Bool) → b ≡ false → some f m ≡ false → (b || some f m) ≡ false
    go true q rest = q
    go false q rest = rest

pub some_later : (f : ℕ → Bool) (m : ℕ) → some f m ≡ true → some f (suc m) ≡ true
some_later f m e = go (f m)
  where
    go : (b : Bool) → (b || some f m) ≡ true
    go true = refl
    go false = e

pub some_is : (f : ℕ → Bool) (m : ℕ) → some f m ≡ true → (k : ℕ) × (k < m) × (f k ≡ true)
some_is f m e = go (last_or_none f m)
  where
    go : Last f m ⊎ ((k : ℕ) → k < m → f k ≡ false) → (k : ℕ) × (k < m) × (f k ≡ true)
    go (inl t) = (t.at, t.before, t.passes)
    go (inr none) = absurd (true≢false (sym e ∙ none_passes f m none))

-- ---- from what cannot fail for every number to a number

-- a fact that is decided at each number below m holds at one of them, or at none
pub find_or_none : (P : ℕ → Type 0) → ((k : ℕ) → Dec (P k)) → (m : ℕ) → ((k : ℕ) × (k < m) × P k) ⊎ ((k : ℕ) → k < m → P k → ⊥)
find_or_none P decide zero = inr (λ k l h. omega arith)
find_or_none P decide (suc m) = go (decide m) (find_or_none P decide m)
  where
    go : Dec (P m) → ((k : ℕ) × (k < m) × P k) ⊎ ((k : ℕ) → k < m → P k → ⊥)
        → ((k : ℕ) × (k < suc m) × P k) ⊎ ((k : ℕ) → k < suc m → P k → ⊥)
    go (yes h) rest = inl (m, omega arith, h)
    go (no ne) (inl t) = inl (t.0, omega (arith, t.1), t.2)
    go (no ne) (inr none) = inr (λ k l h. last k l h (ℕ_discrete k m))
      where
        last : (k : ℕ) → k < suc m → P k → Dec (k ≡ m) → ⊥
        last k l h (yes q) = ne (subst P q h)
        last k l h (no q) = none k (omega arith) h
