-- With amounts on sets that exceed no link's price, links that enter each set r times or more cost r times the amounts or more; tight links that enter each once cost just them.
-- The cost is summed over links of the sets that each enters, and the two sums are swapped.
use Rattle.std.proofs.Common.{◌≡◌, ℕ, ◌<◌, ◌≤◌, Bool, false, cond, ◌⊎◌, length, sym, ap, ◌∙◌, subst, inl, inr}
use Rattle.digraph.specs.Links.{Slots}
use Rattle.digraph.specs.Entering.{enters_at}
use Rattle.duality.specs.Entries.{single, entries}
use Rattle.duality.proofs.Amounts.{Amounts, given}
use Rattle.duality.proofs.Sums.{sum, times, sum_cong, sum_mono, sum_swap, times_sum, times_mono, times_more, times_one, times_given, times_count_sum, sum_of_choice}

-- the amounts y of the sets Z that link k enters, of the first i sets
abbrev pub load : (G : Amounts) → Slots → (ℕ → ℕ) → (ℕ → G.Amount) → ℕ → ℕ → G.Amount
load G slots Z y i k = sum G (λ j. given G (enters_at slots k (Z j)) (y j)) i

-- the cost of links at the prices c, link k counted r k times
abbrev pub cost : (G : Amounts) → Slots → (ℕ → G.Amount) → (ℕ → ℕ) → G.Amount
cost G slots c r = sum G (λ k. times G (r k) (c k)) (length slots)

-- the cost of a choice of links
abbrev pub choice_cost : (G : Amounts) → Slots → (ℕ → G.Amount) → (ℕ → Bool) → G.Amount
choice_cost G slots c L = sum G (λ k. given G (L k) (c k)) (length slots)

pub cost_of_choice : (G : Amounts) (slots : Slots) (c : ℕ → G.Amount) (L : ℕ → Bool)
    → cost G slots c (single L) ≡ choice_cost G slots c L
cost_of_choice G slots c L = sum_of_choice G L c (length slots)

module _ (G : Amounts) (slots : Slots) (p : ℕ) (Z : ℕ → ℕ) (y : ℕ → G.Amount) where
  open G use {Amount, ◌⊕◌, 𝟘, below, not_below_transitive}

  infixl 65 ◌⊕◌
  -- the amounts, each as often as its set is entered
  pub loads_by_sets : (r : ℕ → ℕ) → cost G slots (load G slots Z y p) r ≡ sum G (λ i. times G (entries slots r (Z i)) (y i)) p
  loads_by_sets r =
      sum_cong G (λ k. times G (r k) (load G slots Z y p k)) (λ k. sum G (at k) p) (length slots)
      (λ k l. times_sum G (r k) (λ i. given G (enters_at slots k (Z i)) (y i)) p
      ∙ sum_cong G (λ i. times G (r k) (given G (enters_at slots k (Z i)) (y i))) (at k) p
      (λ i h. times_given G (enters_at slots k (Z i)) (r k) (y i)))
      ∙ sum_swap G at (length slots) p
      ∙ sum_cong G (λ i. sum G (λ k. at k i) (length slots)) (λ i. times G (entries slots r (Z i)) (y i)) p
      (λ i h. sym (times_count_sum G (λ k. cond (enters_at slots k (Z i)) (r k) 0) (length slots) (y i)))
    where
      at : ℕ → ℕ → Amount
      at k i = times G (cond (enters_at slots k (Z i)) (r k) 0) (y i)

  pub entered_often_costs_as_often : (c : ℕ → Amount) (r : ℕ → ℕ) (often : ℕ)
      → ((i : ℕ) → i < p → below (y i) 𝟘 ≡ false)
      → ((k : ℕ) → k < length slots → below (c k) (load G slots Z y p k) ≡ false)
      → ((i : ℕ) → i < p → often ≤ entries slots r (Z i))
      → below (cost G slots c r) (times G often (sum G y p)) ≡ false
  entered_often_costs_as_often c r often positive within entered =
      not_below_transitive (cost G slots c r) (cost G slots (load G slots Z y p) r) (times G often (sum G y p))
      (sum_mono G (λ k. times G (r k) (load G slots Z y p k)) (λ k. times G (r k) (c k)) (length slots) (λ k l. times_mono G (r k) (load G slots Z y p k) (c k) (within k l)))
      (subst (λ (x : Amount). below x (times G often (sum G y p)) ≡ false) (sym (loads_by_sets r))
      (subst (λ (x : Amount). below (sum G (λ i. times G (entries slots r (Z i)) (y i)) p) x ≡ false) (sym (times_sum G often y p))
      (sum_mono G (λ i. times G often (y i)) (λ i. times G (entries slots r (Z i)) (y i)) p
      (λ i h. times_more G often (entries slots r (Z i)) (y i) (entered i h) (positive i h)))))

  pub entered_costs_at_least : (c : ℕ → Amount) (r : ℕ → ℕ)
      → ((i : ℕ) → i < p → below (y i) 𝟘 ≡ false)
      → ((k : ℕ) → k < length slots → below (c k) (load G slots Z y p k) ≡ false)
      → ((i : ℕ) → i < p → 1 ≤ entries slots r (Z i))
      → below (cost G slots c r) (sum G y p) ≡ false
  entered_costs_at_least c r positive within entered =
      subst (λ (x : Amount). below (cost G slots c r) x ≡ false) (times_one G (sum G y p))
      (entered_often_costs_as_often c r 1 positive within entered)

  pub entered_twice_costs_twice : (c : ℕ → Amount) (r : ℕ → ℕ)
      → ((i : ℕ) → i < p → below (y i) 𝟘 ≡ false)
      → ((k : ℕ) → k < length slots → below (c k) (load G slots Z y p k) ≡ false)
      → ((i : ℕ) → i < p → 2 ≤ entries slots r (Z i))
      → below (cost G slots c r) (sum G y p ⊕ sum G y p) ≡ false
  entered_twice_costs_twice c r positive within entered =
      subst (λ (x : Amount). below (cost G slots c r) (x ⊕ sum G y p) ≡ false) (times_one G (sum G y p))
      (entered_often_costs_as_often c r 2 positive within entered)

  -- tight links that enter each set once
  pub entered_once_costs_just : (c : ℕ → Amount) (r : ℕ → ℕ)
      → ((k : ℕ) → k < length slots → (r k ≡ 0) ⊎ (load G slots Z y p k ≡ c k))
      → ((i : ℕ) → i < p → entries slots r (Z i) ≡ 1)
      → cost G slots c r ≡ sum G y p
  entered_once_costs_just c r tight once =
      sum_cong G (λ k. times G (r k) (c k)) (λ k. times G (r k) (load G slots Z y p k)) (length slots) (λ k l. same k (tight k l))
      ∙ loads_by_sets r
      ∙ sum_cong G (λ i. times G (entries slots r (Z i)) (y i)) y p
      (λ i h. ap (λ (x : ℕ). times G x (y i)) (once i h) ∙ times_one G (y i))
    where
      same : (k : ℕ) → (r k ≡ 0) ⊎ (load G slots Z y p k ≡ c k) → times G (r k) (c k) ≡ times G (r k) (load G slots Z y p k)
      same k (inl e) = ap (λ (x : ℕ). times G x (c k)) e ∙ sym (ap (λ (x : ℕ). times G x (load G slots Z y p k)) e)
      same k (inr e) = ap (times G (r k)) (sym e)
