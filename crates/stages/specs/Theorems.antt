-- What the three stages come to, in words that know nothing of stages.
use Rattle.std.specs.Prelude.{◌≡◌, ℕ, Bool, true, false, List, ℤ}
use Rattle.amount.specs.Parts.{below}
use Rattle.digraph.specs.Entering.{marked}
use Rattle.duality.specs.Costs.{cost_of}
use Rattle.duality.specs.Families.{Covering}
use Rattle.duality.specs.Trees.{is_link}
use Rattle.stages.specs.Asked.{Asked, price_of}

-- what a choice of links costs, at the prices in force
abbrev pub cost_in_force : Asked → (ℕ → Bool) → List ℤ
cost_in_force a = cost_of a.width a.slots (price_of a)

-- the marked links are links of the sheet and enter every member; they cost just so much, and every
-- choice of links that enters every member costs at least as much
pub record CheapestCover (a : Asked) (Member : ℕ → Type 0) (marks : List ℕ) (cost : List ℤ) : Type 0 where
  pub of_links : (k : ℕ) → marked marks k ≡ true → is_link a.slots k ≡ true
  pub enters_each : Covering a.slots Member (marked marks)
  pub costs : cost_in_force a (marked marks) ≡ cost
  pub none_costs_less : (choice : ℕ → Bool) → Covering a.slots Member choice → below (cost_in_force a choice) cost ≡ false
