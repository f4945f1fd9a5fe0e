-- Stage 3. Every taken link in turn, by falling number, is dropped if every member is still entered by
-- those still kept: if the largest question says none without it.
use Rattle.std.specs.Prelude.{ℕ, zero, suc, cond, List, is_some, Option, slice_set}
use Rattle.digraph.specs.Entering.{marked}

-- the marks after the turn of link k
abbrev pub spared : (List ℕ → Option ℕ) → List ℕ → ℕ → List ℕ
spared largest marks k =
    let fewer = slice_set marks k 0 in
    cond (marked marks k) (cond (is_some (largest fewer)) marks fewer) marks

-- the marks after the turns of the links below k, the highest first
unfoldable pub kept_of : (List ℕ → Option ℕ) → List ℕ → ℕ → List ℕ
kept_of largest marks zero = marks
kept_of largest marks (suc k) = kept_of largest (spared largest marks k) k
