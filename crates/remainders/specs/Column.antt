-- What is left of links, place by place of a column.
use Rattle.std.specs.Prelude.{ℕ, Bool, not, ◌&&◌, List, [], ℤ, slice_index_or}
use Rattle.amount.specs.Parts.{minus, below, nothing}
use Rattle.digraph.specs.Entering.{enters_at}
use Rattle.digraph.specs.Links.{Slots}
use Rattle.duality.specs.Trees.{is_link}

-- nothing is left of an amount of so many parts that is not below nothing
abbrev pub spent : ℕ → List ℤ → Bool
spent width left = not (below (nothing width) left)

-- number k is that of a link with nothing left
abbrev pub spent_link : ℕ → Slots → List (List ℤ) → ℕ → Bool
spent_link width slots left k = is_link slots k && spent width (slice_index_or left k [])

-- link k enters the set, and nothing is left of it once the amount is taken from it
abbrev pub gone : ℕ → Slots → List (List ℤ) → ℕ → List ℤ → ℕ → Bool
gone width slots left set amount k = enters_at slots k set && spent width (minus (slice_index_or left k []) amount)
