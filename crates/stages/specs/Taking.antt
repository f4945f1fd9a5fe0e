-- Stage 2. Start with no link. While the largest question gives a set for the links taken, take the link
-- that enters it and came to nothing first.
use Rattle.std.specs.Prelude.{ℕ, zero, suc, cond, List, [], ◌∷◌, set, replicate, Some, None, Option}
use Rattle.digraph.specs.Entering.{enters_at}
use Rattle.digraph.specs.Links.{Slots}

-- the first link of a list that enters a set
abbrev pub first_entering : Slots → ℕ → List ℕ → Option ℕ
first_entering slots set [] = None
first_entering slots set (k ∷ ks) = cond (enters_at slots k set) (Some k) (first_entering slots set ks)

-- marks with one more link, if there is one
abbrev pub with_mark : List ℕ → Option ℕ → List ℕ
with_mark marks None = marks
with_mark marks (Some k) = set marks k 1

-- the links taken, after what the question answered
abbrev pub taking : Slots → List ℕ → List ℕ → Option ℕ → List ℕ
taking slots order marks None = marks
taking slots order marks (Some set) = with_mark marks (first_entering slots set order)

-- the marks of the links taken after so many turns, out of links in the order in which they came to nothing
unfoldable pub taken_after : Slots → (List ℕ → Option ℕ) → List ℕ → ℕ → List ℕ
taken_after slots largest order zero = replicate 200 0
taken_after slots largest order (suc t) =
    let marks = taken_after slots largest order t in taking slots order marks (largest marks)
