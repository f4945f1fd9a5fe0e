-- Numbers below a that each have a number below b, no two the same one: a is at most b, and for a equal to b none below b is left out.
-- The numbers are chosen by a function, which takes no value twice.
use Rattle.std.proofs.Common.{◌≡◌, ℕ, suc, ◌<◌, ◌≤◌, subst, arith}
use native.Mathlib.Decide.{dec_lt}
use Rattle.digraph.proofs.Pigeons.{all_taken}

module _ (a b : ℕ) (P : ℕ → ℕ → Type 0) (each : (k : ℕ) → k < a → (x : ℕ) × (x < b) × P k x)
    (once : (j k x : ℕ) → j < a → k < a → P j x → P k x → j ≡ k) where
  -- the number that k has; any, where there is no k
  chosen : (k : ℕ) → (x : ℕ) × (k < a → (x < b) × P k x)
  chosen k = go (dec_lt k a)
    where
      go : Dec (k < a) → (x : ℕ) × (k < a → (x < b) × P k x)
      go (yes h) = let t = each k h in (t.0, λ _. (t.1, t.2))
      go (no h) = (0, λ l. absurd (h l))

  value : ℕ → ℕ
  value k = (chosen k).0

  value_is : (k : ℕ) → k < a → (value k < b) × P k (value k)
  unfolding value
  value_is k = (chosen k).1

  value_once : (j k : ℕ) → j < a → k < a → value j ≡ value k → j ≡ k
  value_once j k l h e = once j k (value k) l h (subst (P j) e (value_is j l).1) (value_is k h).1

  pub injective→≤ : a ≤ b
  injective→≤ = go (dec_lt b a)
    where
      go : Dec (b < a) → a ≤ b
      go (no h) = omega arith
      go (yes h) =
          let t = all_taken (suc b) b value (omega arith) (λ k l. omega (arith, value_is k (omega arith)))
          (λ j k l g e. value_once j k (omega arith) (omega arith) e) in
          absurd (omega (arith, t.2, value_is t.0 (omega (arith, t.1))))

  pub injective→all_taken : (x : ℕ) → x < a → b ≤ a → (k : ℕ) × (k < a) × P k x
  injective→all_taken x h small =
      let t = all_taken a x value h (λ k l. omega (arith, value_is k l)) value_once in
      (t.0, t.1, subst (P t.0) t.2 (value_is t.0 t.1).1)
