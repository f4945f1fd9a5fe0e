-- What a cover asks for, by what amounts and families mean.
use Rattle.std.specs.Prelude.{List, map}
use Rattle.amount.specs.declared.kind.Amount.{Ghosts as AmountGhosts}
use Rattle.family.specs.declared.interface.Family.{Ghosts as FamilyGhosts}
use Rattle.sheet.specs.Held.{held}
use Rattle.sheet.specs.declared.Sheet.{Sheet}
use Rattle.stages.specs.Asked.{Asked, asked_of}
use Rattle.cover.specs.declared.question.Question.{Question}

abbrev pub cover_asked : {T F : Type 0} → AmountGhosts T → FamilyGhosts F → Sheet → List T → F → Asked
cover_asked A G sheet prices family = asked_of A.width (held sheet) (map A.parts prices) (G.small family) (G.large family)

abbrev pub asked : {T F : Type 0} {A : AmountGhosts T} {G : FamilyGhosts F} → Question T F A G → Asked
asked {A = A} {G = G} q = cover_asked A G q.sheet.now q.prices.now q.family.now
