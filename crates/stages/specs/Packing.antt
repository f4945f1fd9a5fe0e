-- Stage 1. What is left of each link is its price. While the smallest question, put with the links
-- marked that have nothing left, gives a set: its amount is the least that is left of a link that enters
-- it, and is taken from what is left of every link that enters it.
use Rattle.std.specs.Prelude.{ℕ, zero, suc, ◌+◌, Bool, cond, not, ◌&&◌, List, [], ◌++◌, ℤ, Some, None, filter, Option, slice_index_or}
use Rattle.std.specs.List.{range_with_len}
use Rattle.std.specs.Option.{unwrap_or}
use Rattle.amount.specs.Parts.{minus, below, nothing}
use Rattle.digraph.specs.Entering.{enters_at}
use Rattle.digraph.specs.Links.{Slots}
use Rattle.duality.specs.Trees.{is_link}
use Rattle.stages.specs.Asked.{Asked, for_each, price_of}

-- what is left of each link, place by place; nothing, where there is no link
abbrev pub Left : Type 0
Left = List (List ℤ)

abbrev pub left_of : Left → ℕ → List ℤ
left_of left k = slice_index_or left k []

-- a link has nothing left: it is not above nothing, and never below
abbrev pub used_up : Asked → Left → ℕ → Bool
used_up a left k = is_link a.slots k && not (below (nothing a.width) (left_of left k))

-- the marks of the links with nothing left
abbrev pub used_marks : Asked → Left → List ℕ
used_marks a left = for_each (λ k. cond (used_up a left k) 1 0)

-- the next set, if there is one
abbrev pub next_set : Asked → Left → Option ℕ
next_set a left = a.smallest (used_marks a left)

-- of two links the one with less left, the earlier among equals
abbrev pub tighter : Left → Option ℕ → ℕ → Option ℕ
tighter left None k = Some k
tighter left (Some best) k = cond (below (left_of left k) (left_of left best)) (Some k) (Some best)

-- the link with least left of those that enter a set, the lowest number among equals: the best so far,
-- and so many numbers from k on
abbrev pub tightest_from : Slots → Left → ℕ → Option ℕ → ℕ → ℕ → Option ℕ
tightest_from slots left set best k zero = best
tightest_from slots left set best k (suc more) =
    tightest_from slots left set (cond (enters_at slots k set) (tighter left best k) best) (k + 1) more

abbrev pub tightest : Slots → Left → ℕ → Option ℕ
tightest slots left set = tightest_from slots left set None 0 200

-- the amount of a set: what is left of that link
abbrev pub amount_of : Slots → Left → ℕ → List ℤ
amount_of slots left set = left_of left (unwrap_or (tightest slots left set) 0)

-- what is left after an amount was taken from every link that enters a set
abbrev pub lowered : Slots → Left → ℕ → List ℤ → Left
lowered slots left set amount =
    for_each (λ k. let here = left_of left k in cond (enters_at slots k set) (minus here amount) here)

-- and after the next set, if there is one
abbrev pub stepped : Slots → Left → Option ℕ → Left
stepped slots left None = left
stepped slots left (Some set) = lowered slots left set (amount_of slots left set)

-- what is left after so many sets
unfoldable pub left_after : Asked → ℕ → Left
left_after a zero = for_each (price_of a)
left_after a (suc i) = let left = left_after a i in stepped a.slots left (next_set a left)

-- what the question answers after so many sets
abbrev pub answer_after : Asked → ℕ → Option ℕ
answer_after a i = next_set a (left_after a i)

-- the set that comes after i sets, and its amount
abbrev pub set_at : Asked → ℕ → ℕ
set_at a i = unwrap_or (answer_after a i) 0

abbrev pub amount_at : Asked → ℕ → List ℤ
amount_at a i = amount_of a.slots (left_after a i) (set_at a i)

-- the links that come to nothing at a set: those that enter it and have nothing left after it
abbrev pub coming_to_nothing : Asked → Left → ℕ → ℕ → Bool
coming_to_nothing a after set k = enters_at a.slots k set && used_up a after k

-- the links with nothing left after so many sets, in the order in which they came to nothing, the lower
-- number first of those that came at once; links priced at nothing come before all
unfoldable pub order_after : Asked → ℕ → List ℕ
order_after a zero = filter (used_up a (left_after a 0)) (range_with_len 0 200)
order_after a (suc i) =
    order_after a i ++ filter (coming_to_nothing a (left_after a (suc i)) (set_at a i)) (range_with_len 0 200)
