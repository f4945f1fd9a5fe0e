use Rattle.duality.specs.Theorems.{Passing}
use Rattle.duality.proofs.Dropping.{none_to_spare}
use Rattle.duality.proofs.theorems.no_kept_link_can_be_spared.Goals as goal

pub returns : goal.returns
returns c = λ slots test m d kept stage start. none_to_spare slots (Passing test) m d kept stage start
