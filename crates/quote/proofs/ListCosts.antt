-- What listed links cost, one link more at the end, and that the sum of a few small prices fits 64 bits.
-- By induction on the list.
use Rattle.std.proofs.Common.{◌≡◌, ℕ, suc, ◌+◌, ◌*◌, ◌<◌, ◌≤◌, true, List, [], ◌∷◌, ◌++◌, length, get_or, take, ℤ, sym, ap, ◌∙◌, subst, arith}
use Rattle.std.proofs.lemmas.List.{take_more, length-take-le, get_or-take}
use Rattle.amount.specs.Parts.{plus, nothing, within, Fitting}
use Rattle.amount.proofs.Group.{plus_comm, plus_assoc}
use Rattle.duality.specs.Trees.{cost_of_list}
use Rattle.duality.proofs.Levels.{Within, within_more}
use Rattle.duality.proofs.Wide.{part, parts_within, fitting_of_parts}
use Rattle.stages.proofs.Lefts.{within_of_parts}
use Rattle.remainders.proofs.Summing.{nothing_within, plus_within}

cost_push : (width : ℕ) (prices : ℕ → List ℤ) (list : List ℕ) (k : ℕ) → cost_of_list width prices (list ++ k ∷ []) ≡ plus (cost_of_list width prices list) (prices k)
cost_push width prices [] k = plus_comm (prices k) (nothing width)
cost_push width prices (x ∷ list) k =
    ap (plus (prices x)) (cost_push width prices list k) ∙ sym (plus_assoc (prices x) (cost_of_list width prices list) (prices k))

cost_within : (width : ℕ) (prices : ℕ → List ℤ) (list : List ℕ) → ((i : ℕ) → i < length list → within 100000 (prices (get_or list i 0)) ≡ true)
    → within (100000 * length list) (cost_of_list width prices list) ≡ true
cost_within width prices [] small = nothing_within (100000 * 0) width
cost_within width prices (k ∷ list) small =
    let one_more : 100000 + 100000 * length list ≡ 100000 * suc (length list) = omega arith in
    subst (λ limit. within limit (cost_of_list width prices (k ∷ list)) ≡ true) one_more
    (plus_within 100000 (100000 * length list) (prices k) (cost_of_list width prices list) (small 0 (omega arith)) (cost_within width prices list (λ i h. small (suc i) (omega arith))))

-- every part of the cost of at most 39 links lies within 3,900,000
pub cost_parts : (width : ℕ) (prices : ℕ → List ℤ) (list : List ℕ) → length list ≤ 39 → ((i : ℕ) → i < length list → within 100000 (prices (get_or list i 0)) ≡ true)
    → (i : ℕ) → Within 3900000 (part i (cost_of_list width prices list))
cost_parts width prices list few small i =
    within_more (100000 * length list) 3900000 (part i (cost_of_list width prices list)) (omega arith) (parts_within (100000 * length list) (cost_of_list width prices list) (cost_within width prices list small) i)

pub cost_within_few : (width : ℕ) (prices : ℕ → List ℤ) (list : List ℕ) → length list ≤ 39 → ((i : ℕ) → i < length list → within 100000 (prices (get_or list i 0)) ≡ true)
    → within 3900000 (cost_of_list width prices list) ≡ true
cost_within_few width prices list few small =
    within_of_parts 3900000 3900000 (cost_of_list width prices list) (omega arith) (λ i _. cost_parts width prices list few small i)

module _ (width : ℕ) (prices : ℕ → List ℤ) (list : List ℕ) (few : length list ≤ 39) (small : (i : ℕ) → i < length list → within 100000 (prices (get_or list i 0)) ≡ true)
    (i : ℕ) (here : i < length list) (total : List ℤ) (so_far : total ≡ cost_of_list width prices (take i list)) where
  one_more : cost_of_list width prices (take (i + 1) list) ≡ plus total (prices (get_or list i 0))
  one_more = ap (cost_of_list width prices) (take_more list i 0 here) ∙ cost_push width prices (take i list) (get_or list i 0) ∙ ap (λ t. plus t (prices (get_or list i 0))) (sym so_far)

  part_fits : Fitting (cost_of_list width prices (take (i + 1) list))
  part_fits =
      let long = length-take-le (i + 1) list (omega arith) in
      fitting_of_parts 3900000 (cost_of_list width prices (take (i + 1) list)) (omega arith)
      (λ j _. cost_parts width prices (take (i + 1) list) (omega (arith, long))
      (λ k h. ap (λ x. within 100000 (prices x)) (get_or-take (i + 1) list k 0 (omega (arith, long))) ∙ small k (omega (arith, long))) j)

  pub cost_one_more : (p new : List ℤ) → p ≡ prices (get_or list i 0) → (Fitting (plus total p) → new ≡ plus total p) → new ≡ cost_of_list width prices (take (i + 1) list)
  cost_one_more p new here added =
      let together : plus total p ≡ cost_of_list width prices (take (i + 1) list) = ap (plus total) here ∙ sym one_more in
      added (subst Fitting (sym together) part_fits) ∙ together
