-- How often links enter a set, where each link may count more than once.
use Rattle.std.specs.Prelude.{ℕ, zero, suc, ◌+◌, Bool, cond, length}
use Rattle.digraph.specs.Links.{Slots}
use Rattle.digraph.specs.Entering.{enters_at}

-- the counts below m together
abbrev pub count_sum : (ℕ → ℕ) → ℕ → ℕ
count_sum f zero = 0
count_sum f (suc m) = count_sum f m + f m

-- a test, counted
abbrev pub one_if : Bool → ℕ
one_if b = cond b 1 0

-- a choice of links, each counted once
abbrev pub single : (ℕ → Bool) → ℕ → ℕ
single choice k = one_if (choice k)

-- how often the set is entered, link k counted r k times
abbrev pub entries : Slots → (ℕ → ℕ) → ℕ → ℕ
entries slots r set = count_sum (λ k. cond (enters_at slots k set) (r k) 0) (length slots)
