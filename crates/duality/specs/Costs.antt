-- What links cost: the sum of their prices, part by part.
use Rattle.std.specs.Prelude.{ℕ, zero, suc, Bool, cond, List, length, ℤ}
use Rattle.amount.specs.Parts.{plus, nothing}
use Rattle.digraph.specs.Links.{Slots}

-- the first m amounts together, each of so many parts
abbrev pub summed : ℕ → (ℕ → List ℤ) → ℕ → List ℤ
summed width f zero = nothing width
summed width f (suc m) = plus (summed width f m) (f m)

-- an amount, added that often
abbrev pub repeated : ℕ → ℕ → List ℤ → List ℤ
repeated width zero a = nothing width
repeated width (suc n) a = plus (repeated width n a) a

-- the cost of a choice of links
abbrev pub cost_of : ℕ → Slots → (ℕ → List ℤ) → (ℕ → Bool) → List ℤ
cost_of width slots prices choice = summed width (λ k. cond (choice k) (prices k) (nothing width)) (length slots)

-- the cost of links, link k counted r k times
abbrev pub cost_of_counts : ℕ → Slots → (ℕ → List ℤ) → (ℕ → ℕ) → List ℤ
cost_of_counts width slots prices r = summed width (λ k. repeated width (r k) (prices k)) (length slots)
