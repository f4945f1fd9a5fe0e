-- The checks of a call stand in a list, in their order: the first that fails refuses. What they refuse
-- with is of any type, so that a part of a call may have a type of refusals of its own.
use Rattle.std.specs.Prelude.{Bool, cond, List, [], ◌∷◌, Some, None, Option}

-- a test that is true where the call is to be refused, and the refusal
pub record Check (E : Type 0) : Type 0 where
  pub fails : Bool
  pub gives : E

infix 20 ◌refuses_with◌
abbrev pub ◌refuses_with◌ : {E : Type 0} → Bool → E → Check E
b refuses_with e = record { fails = b; gives = e }

-- the refusal of the first check that fails, or none
abbrev pub first : {E : Type 0} → List (Check E) → Option E
first [] = None
first (c ∷ cs) = let rest = first cs in cond c.fails (Some c.gives) rest

-- the same tests, each with its refusal told in other words
abbrev pub retold : {E F : Type 0} → (E → F) → List (Check E) → List (Check F)
retold told [] = []
retold told (c ∷ cs) = (c.fails refuses_with told c.gives) ∷ retold told cs
