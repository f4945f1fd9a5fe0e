-- Sums of amounts whose parts lie within a limit: the parts of a sum lie within as many times the limit,
-- and fit 64 bits as long as there are few. By induction on the parts and on the amounts.
use Rattle.std.proofs.Common.{◌≡◌, ℕ, zero, suc, ◌+◌, ◌*◌, ◌<◌, ◌≤◌, Bool, true, false, cond, List, [], ◌∷◌, length, get_or, ℤ, sym, refl, ap, ◌∙◌, subst, ap₂, add-one, arith}
use Rattle.std.proofs.lemmas.Int.{ints}
use Rattle.amount.specs.Parts.{plus, nothing, within, Fitting}
use Rattle.amount.proofs.Group.{plus_nothing}
use Rattle.digraph.specs.Entering.{marked}
use Rattle.duality.specs.Costs.{summed}
use Rattle.duality.proofs.Wide.{parts_within, fitting_of_parts}

pub nothing_within : (limit n : ℕ) → within limit (nothing n) ≡ true
nothing_within limit zero = refl
nothing_within limit (suc n) = let rest = nothing_within limit n in grind (arith, ints)

pub plus_within : (a b : ℕ) (xs ys : List ℤ) → within a xs ≡ true → within b ys ≡ true → within (a + b) (plus xs ys) ≡ true
plus_within a b [] ys p q = refl
plus_within a b (x ∷ xs) [] p q = refl
plus_within a b (x ∷ xs) (y ∷ ys) p q =
    let rest = plus_within a b xs ys (grind (arith, ints)) (grind (arith, ints)) in grind (arith, ints)

-- what a number counts for: its price if it is marked, nothing else
abbrev pub priced_if_marked : ℕ → List ℕ → List (List ℤ) → ℕ → List ℤ
priced_if_marked n marks prices k = cond (marked marks k) (get_or prices k []) (nothing n)

pub priced_small : (n : ℕ) (marks : List ℕ) (prices : List (List ℤ)) → ((k : ℕ) → marked marks k ≡ true → within 100000 (get_or prices k []) ≡ true)
    → (k : ℕ) → within 100000 (priced_if_marked n marks prices k) ≡ true
priced_small n marks prices small k = go (marked marks k) (small k)
  where
    go : (b : Bool) → (b ≡ true → within 100000 (get_or prices k []) ≡ true) → within 100000 (cond b (get_or prices k []) (nothing n)) ≡ true
    go true small = small refl
    go false small = nothing_within 100000 n

module _ (n : ℕ) (f : ℕ → List ℤ) (small : (k : ℕ) → within 100000 (f k) ≡ true) where
  pub summed_within : (m : ℕ) → within (100000 * m) (summed n f m) ≡ true
  summed_within zero = nothing_within (100000 * 0) n
  summed_within (suc m) =
      let one_more : 100000 * m + 100000 ≡ 100000 * suc m = omega arith in
      subst (λ limit. within limit (summed n f (suc m)) ≡ true) one_more (plus_within (100000 * m) 100000 (summed n f m) (f m) (summed_within m) (small m))

  summed_fits : (m : ℕ) → m ≤ 200 → Fitting (summed n f m)
  summed_fits m h = fitting_of_parts (100000 * m) (summed n f m) (omega arith) (λ i _. parts_within (100000 * m) (summed n f m) (summed_within m) i)

  -- the sum so far, with one amount more
  module _ (k : ℕ) (total : List ℤ) (so_far : total ≡ summed n f k) where
    pub summed_one_more : k < 200 → (p new : List ℤ) → p ≡ f k → (Fitting (plus total p) → new ≡ plus total p) → new ≡ summed n f (k + 1)
    summed_one_more h p new here added =
        let together : plus total p ≡ summed n f (k + 1) = ap₂ plus so_far here ∙ ap (summed n f) (sym (add-one k)) in
        added (subst Fitting (sym together) (summed_fits (k + 1) (omega arith))) ∙ together

    pub summed_none_more : length total ≡ n → nothing n ≡ f k → total ≡ summed n f (k + 1)
    summed_none_more wide here = sym (plus_nothing n total wide) ∙ ap₂ plus so_far here ∙ ap (summed n f) (sym (add-one k))
