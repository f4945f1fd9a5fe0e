-- The two stages built up step by step: a step with what it adds, and a stage from its steps.
-- What is asked of a stage is asked of each of its steps alone.
use Rattle.std.proofs.Common.{◌≡◌, ℕ, suc, ◌<◌, ◌≤◌, true, false, cond, length, sym, subst, arith}
use native.Mathlib.Decide.{ℕ_discrete}
use Rattle.digraph.specs.Links.{Slots}
use Rattle.digraph.specs.Entering.{enters_at}
use Rattle.stations.specs.Sets.{Part}
use Rattle.duality.proofs.Amounts.{Amounts}
use Rattle.duality.proofs.Packing.{Packing}
use Rattle.duality.proofs.Taking.{Taking}

-- one set of the first stage, with what is left before and after
pub record PackingStep (G : Amounts) (slots : Slots) (Member : ℕ → Type 0) (Z : ℕ) (y : G.Amount) (before after : ℕ → G.Amount) : Type 0 where
  pub member : Member Z
  pub unentered : (k : ℕ) → enters_at slots k Z ≡ true → before k ≡ G.𝟘 → ⊥
  pub least : (X : ℕ) → Member X → Part X Z → ((k : ℕ) → enters_at slots k X ≡ true → before k ≡ G.𝟘 → ⊥) → X ≡ Z
  pub tight : (k : ℕ) × (enters_at slots k Z ≡ true) × (before k ≡ y)
  pub at_most : (k : ℕ) → enters_at slots k Z ≡ true → G.below (before k) y ≡ false
  pub fall : (k : ℕ) → k < length slots → G.◌⊕◌ (after k) (cond (enters_at slots k Z) y G.𝟘) ≡ before k

-- one link of the second stage, with those taken before
pub record TakingStep (G : Amounts) (slots : Slots) (Member : ℕ → Type 0) (p : ℕ) (c : ℕ → ℕ → G.Amount)
    (t : ℕ) (earlier : ℕ → ℕ) (l M : ℕ) : Type 0 where
  pub member : Member M
  pub unentered : (u : ℕ) → u < t → enters_at slots (earlier u) M ≡ true → ⊥
  pub greatest : (X : ℕ) → Member X → Part M X → ((u : ℕ) → u < t → enters_at slots (earlier u) X ≡ true → ⊥) → X ≡ M
  pub enters : enters_at slots l M ≡ true
  pub nothing_left : c p l ≡ G.𝟘
  pub earliest : (i d : ℕ) → i ≤ p → enters_at slots d M ≡ true → c i d ≡ G.𝟘 → c i l ≡ G.𝟘

-- what holds of each number below p, and of p
pub one_more : (Q : ℕ → Type 0) (p : ℕ) → ((i : ℕ) → i < p → Q i) → Q p → (i : ℕ) → i < suc p → Q i
one_more Q p before here i h = go (ℕ_discrete i p)
  where
    go : Dec (i ≡ p) → Q i
    go (yes e) = subst Q (sym e) here
    go (no ne) = before i (omega arith)

module _ (G : Amounts) (slots : Slots) (Member : ℕ → Type 0) where
  open G use {Amount, 𝟘, below}

  pub packing_of_steps : (p : ℕ) (Z : ℕ → ℕ) (y : ℕ → Amount) (c : ℕ → ℕ → Amount)
      → ((k : ℕ) → k < length slots → below (c 0 k) 𝟘 ≡ false)
      → ((i : ℕ) → i < p → PackingStep G slots Member (Z i) (y i) (c i) (c (suc i)))
      → Packing G slots Member p Z y c
  packing_of_steps p Z y c prices steps = record {
    member = λ i h. (steps i h).member;
    unentered = λ i k h. (steps i h).unentered k;
    least = λ i h. (steps i h).least;
    tight = λ i h. (steps i h).tight;
    at_most = λ i k h. (steps i h).at_most k;
    fall = λ i k h. (steps i h).fall k;
    prices = prices;
  }

  pub step_of_packing : (p : ℕ) (Z : ℕ → ℕ) (y : ℕ → Amount) (c : ℕ → ℕ → Amount) → Packing G slots Member p Z y c
      → (i : ℕ) → i < p → PackingStep G slots Member (Z i) (y i) (c i) (c (suc i))
  step_of_packing p Z y c P i h = record {
    member = P.member i h;
    unentered = λ k. P.unentered i k h;
    least = P.least i h;
    tight = P.tight i h;
    at_most = λ k. P.at_most i k h;
    fall = λ k. P.fall i k h;
  }

  pub packing_and_step : (p : ℕ) (Z : ℕ → ℕ) (y : ℕ → Amount) (c : ℕ → ℕ → Amount) → Packing G slots Member p Z y c
      → PackingStep G slots Member (Z p) (y p) (c p) (c (suc p)) → Packing G slots Member (suc p) Z y c
  packing_and_step p Z y c P step =
      packing_of_steps (suc p) Z y c P.prices
      (one_more (λ i. PackingStep G slots Member (Z i) (y i) (c i) (c (suc i))) p (step_of_packing p Z y c P) step)

  pub taking_of_steps : (p : ℕ) (c : ℕ → ℕ → Amount) (q : ℕ) (l M : ℕ → ℕ)
      → ((t : ℕ) → t < q → TakingStep G slots Member p c t l (l t) (M t))
      → Taking G slots Member p c q l M
  taking_of_steps p c q l M steps = record {
    member = λ t h. (steps t h).member;
    unentered = λ t u h. (steps t h).unentered u;
    greatest = λ t h. (steps t h).greatest;
    enters = λ t h. (steps t h).enters;
    nothing_left = λ t h. (steps t h).nothing_left;
    earliest = λ t i d h. (steps t h).earliest i d;
  }
