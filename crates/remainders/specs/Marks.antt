-- Marks and numbers of links.
use Rattle.std.specs.Prelude.{◌≡◌, ℕ, zero, suc, ◌<◌, List, [], ◌∷◌, Some, Option}

-- how many places of some marks are 0
abbrev pub unmarked : List ℕ → ℕ
unmarked [] = 0
unmarked (zero ∷ ms) = suc (unmarked ms)
unmarked (suc m ∷ ms) = unmarked ms

-- what may be a link's number is one that a link can have
abbrev pub Numbered : Option ℕ → Type 0
Numbered o = (k : ℕ) → o ≡ Some k → k < 200
