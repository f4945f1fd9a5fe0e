-- The three stages together: so many sets, so many links taken, and the marks of the links kept.
use Rattle.std.specs.Prelude.{◌≡◌, ℕ, List}
use Rattle.stages.specs.Asked.{Asked, StopsAfter}
use Rattle.stages.specs.Packing.{answer_after, order_after}
use Rattle.stages.specs.Taking.{taken_after}
use Rattle.stages.specs.Keeping.{kept_of}

-- the marks of the links taken, after so many sets and so many turns
abbrev pub taken_marks : Asked → ℕ → ℕ → List ℕ
taken_marks a sets t = taken_after a.slots a.largest (order_after a sets) t

pub record Done (a : Asked) (sets : ℕ) (marks : List ℕ) : Type 0 where
  -- stage 1 ends, since the smallest question says none
  pub packed : StopsAfter (answer_after a) sets
  -- stage 2 ends, since the largest question says none
  pub turns : ℕ
  pub took : StopsAfter (λ t. a.largest (taken_marks a sets t)) turns
  -- what stage 3 keeps of the links taken
  pub kept : marks ≡ kept_of a.largest (taken_marks a sets turns) 200
