-- Differences of amounts that lie within limits fit 64 bits; and costs and deviations look at links alone.
-- By induction on the parts, the list and the numbers.
use Rattle.std.proofs.Common.{◌≡◌, ℕ, suc, ◌+◌, ◌<◌, ◌≤◌, true, cond, List, [], ◌∷◌, length, get_or, ℤ, sym, refl, ap, ◌∙◌, ap₂, ⊎_elim, arith}
use Rattle.std.proofs.lemmas.Int.{ints}
use Rattle.std.proofs.lemmas.Bool.{cases_Bool}
use Rattle.amount.specs.Parts.{plus, minus, nothing, within, deviation, Fitting}
use Rattle.digraph.specs.Links.{Slots}
use Rattle.duality.specs.Trees.{is_link, cost_of_list, list_deviation}
use Rattle.duality.proofs.Levels.{within_more}
use Rattle.duality.proofs.Wide.{part, parts_within, fitting_of_parts}
use Rattle.stages.proofs.Takes.{summed_same}

minus_within : (a b : ℕ) (xs ys : List ℤ) → within a xs ≡ true → within b ys ≡ true → within (a + b) (minus xs ys) ≡ true
minus_within a b [] ys p q = refl
minus_within a b (x ∷ xs) [] p q = refl
minus_within a b (x ∷ xs) (y ∷ ys) p q =
    let rest = minus_within a b xs ys (grind (arith, ints)) (grind (arith, ints)) in grind (arith, ints)

pub difference_fits : (a b : ℕ) (xs ys : List ℤ) → a + b ≤ 1000000000 → within a xs ≡ true → within b ys ≡ true → Fitting (minus xs ys)
difference_fits a b xs ys small p q =
    fitting_of_parts 1000000000 (minus xs ys) (omega arith)
    (λ i _. within_more (a + b) 1000000000 (part i (minus xs ys)) small (parts_within (a + b) (minus xs ys) (minus_within a b xs ys p q) i))

pub list_cost_same : (width : ℕ) (f g : ℕ → List ℤ) (list : List ℕ) → ((i : ℕ) → i < length list → f (get_or list i 0) ≡ g (get_or list i 0)) → cost_of_list width f list ≡ cost_of_list width g list
list_cost_same width f g [] same = refl
list_cost_same width f g (k ∷ list) same = ap₂ plus (same 0 (omega arith)) (list_cost_same width f g list (λ i h. same (suc i) (omega arith)))

pub deviation_same : (width : ℕ) (slots : Slots) (v w x y : ℕ → List ℤ) → ((k : ℕ) → is_link slots k ≡ true → v k ≡ x k) → ((k : ℕ) → is_link slots k ≡ true → w k ≡ y k)
    → list_deviation width slots v w ≡ list_deviation width slots x y
deviation_same width slots v w x y first second =
    summed_same width (λ k. cond (is_link slots k) (deviation (v k) (w k)) (nothing width)) (λ k. cond (is_link slots k) (deviation (x k) (y k)) (nothing width)) (length slots)
    (λ k h. ⊎_elim
    (λ e. ap (λ (z : List ℤ). cond (is_link slots k) z (nothing width)) (ap₂ deviation (first k e) (second k e)))
    (λ e. ap (λ b. cond b (deviation (v k) (w k)) (nothing width)) e ∙ sym (ap (λ b. cond b (deviation (x k) (y k)) (nothing width)) e)) (cases_Bool (is_link slots k)))
