-- Whatever is said of a family of either of two kinds is said of the one that it is.
use Rattle.family.specs.declared.either.Either.{Either}
use Rattle.family.specs.declared.either.Either.TheVariants.{First, Second}

abbrev pub of_either {ℓ} : {F G : Type 0} {A : Type ℓ} → (F → A) → (G → A) → Either F G → A
of_either f g (First x) = f x
of_either f g (Second y) = g y
