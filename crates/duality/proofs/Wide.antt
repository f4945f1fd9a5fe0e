-- Lists of as many whole numbers, as amounts of the general kind: a list goes with its length, and sums and order are those of lists.
-- The laws are those proved of lists; two such amounts are equal where their lists are.
use Rattle.std.proofs.Common.{◌≡◌, ℕ, zero, suc, ◌^◌, ◌<◌, Bool, true, false, cond, List, [], ◌∷◌, length, get_or, ℤ, pos, ◌+ℤ◌, sym, refl, ap, ◌∙◌, ap₂, arith}
use mathlib.Core.HLevel.{Σ_prop_path}
use native.Mathlib.Decide.{ℕ_discrete}
use native.Mathlib.Nat.{ℕ_set}
use Rattle.std.proofs.lemmas.Int.{ints}
use Rattle.amount.specs.Parts.{plus, minus, below, nothing, within, Fitting}
use Rattle.amount.proofs.Order.{not_below_itself, below_trans, not_below_trans, equal_if_neither_below}
use Rattle.amount.proofs.Group.{plus_comm, plus_assoc, length_nothing, length_plus, length_minus, plus_nothing, minus_plus, below_plus}
use Rattle.duality.specs.Costs.{summed, repeated}
use Rattle.duality.proofs.Amounts.{Amounts, given}
use Rattle.duality.proofs.Sums.{sum, times}
use Rattle.duality.proofs.Levels.{Within}

-- lists of n parts
abbrev pub Wide : ℕ → Type 0
Wide n = (l : List ℤ) × (length l ≡ n)

pub same_list : {n : ℕ} {a b : Wide n} → a.0 ≡ b.0 → a ≡ b
same_list {n} e = Σ_prop_path (λ l. ℕ_set (length l) n) e

abbrev pub wide : ℕ → Amounts
wide n = record {
  Amount = Wide n;
  ◌⊕◌ = λ a b. (plus a.0 b.0, length_plus a.0 b.0 a.1 b.1);
  ◌⊖◌ = λ a b. (minus a.0 b.0, length_minus a.0 b.0 a.1 b.1);
  𝟘 = (nothing n, length_nothing n);
  below = λ a b. below a.0 b.0;
  commutative = λ a b. same_list (plus_comm a.0 b.0);
  associative = λ a b c. same_list (plus_assoc a.0 b.0 c.0);
  with_nothing = λ a. same_list (plus_nothing n a.0 a.1);
  taken_and_added = λ a b. same_list (minus_plus a.0 b.0 a.1 b.1);
  irreflexive = λ a. not_below_itself a.0;
  transitive = λ a b c. below_trans a.0 b.0 c.0;
  not_below_transitive = λ a b c. not_below_trans a.0 b.0 c.0;
  total = λ a b p q. same_list (equal_if_neither_below a.0 b.0 p q);
  translation = λ a b c. below_plus a.0 b.0 c.0 a.1 b.1 c.1;
}

widened : (n : ℕ) (l : List ℤ) → Dec (length l ≡ n) → Wide n
widened n l (yes e) = (l, e)
widened n l (no ne) = (nothing n, length_nothing n)

-- a list as an amount of n parts: nothing, if it has another length
pub widen : (n : ℕ) → List ℤ → Wide n
widen n l = widened n l (ℕ_discrete (length l) n)

pub widen_is : (n : ℕ) (l : List ℤ) → length l ≡ n → (widen n l).0 ≡ l
unfolding widen widened
widen_is n l e = go (ℕ_discrete (length l) n)
  where
    go : (d : Dec (length l ≡ n)) → (widened n l d).0 ≡ l
    go (yes q) = refl
    go (no ne) = absurd (ne e)

pub widen_same : (n : ℕ) (a : Wide n) → widen n a.0 ≡ a
widen_same n a = same_list (widen_is n a.0 a.1)

pub widen_nothing : (n : ℕ) → widen n (nothing n) ≡ (wide n).𝟘
widen_nothing n = same_list (widen_is n (nothing n) (length_nothing n))

-- ---- back to lists

pub given_list : (n : ℕ) (b : Bool) (a : Wide n) → (given (wide n) b a).0 ≡ cond b a.0 (nothing n)
given_list n true a = refl
given_list n false a = refl

pub sum_list : (n : ℕ) (f : ℕ → Wide n) (g : ℕ → List ℤ) (m : ℕ) → ((k : ℕ) → k < m → (f k).0 ≡ g k) → (sum (wide n) f m).0 ≡ summed n g m
sum_list n f g zero same = refl
sum_list n f g (suc m) same = ap₂ plus (sum_list n f g m (λ k l. same k (omega arith))) (same m (omega arith))

pub times_list : (n r : ℕ) (a : Wide n) → (times (wide n) r a).0 ≡ repeated n r a.0
times_list n zero a = refl
times_list n (suc r) a = ap (λ (x : List ℤ). plus x a.0) (times_list n r a)

-- ---- the parts of a list

abbrev pub part : ℕ → List ℤ → ℤ
part i l = get_or l i (pos 0)

part_plus : (i : ℕ) (a b : List ℤ) → length a ≡ length b → part i (plus a b) ≡ (part i a +ℤ part i b)
part_plus i [] [] h = refl
part_plus i [] (y ∷ ys) h = absurd (omega arith)
part_plus i (x ∷ xs) [] h = absurd (omega arith)
part_plus zero (x ∷ xs) (y ∷ ys) h = refl
part_plus (suc i) (x ∷ xs) (y ∷ ys) h = part_plus i xs ys (omega arith)

-- each part is an additive map to the whole numbers
pub part_additive : (n i : ℕ) (a b : Wide n) → part i ((wide n).◌⊕◌ a b).0 ≡ (part i a.0 +ℤ part i b.0)
part_additive n i a b = part_plus i a.0 b.0 (a.1 ∙ sym b.1)

pub parts_within : (limit : ℕ) (l : List ℤ) → within limit l ≡ true → (i : ℕ) → Within limit (part i l)
parts_within limit [] h i = record { above = omega (arith, ints); under = omega (arith, ints) }
parts_within limit (x ∷ xs) h zero = record { above = grind (arith, ints); under = grind (arith, ints) }
parts_within limit (x ∷ xs) h (suc i) = parts_within limit xs (grind (arith, ints)) i

pub fitting_of_parts : (b : ℕ) (l : List ℤ) → b < 2 ^ 63 → ((i : ℕ) → i < length l → Within b (part i l)) → Fitting l
fitting_of_parts b [] h all = tt
fitting_of_parts b (x ∷ xs) h all =
    let first = all 0 (omega arith) in
    (omega (arith, ints), fitting_of_parts b xs h (λ i l. all (suc i) (omega arith)))
