-- The theorem is proved in proofs/Listed.antt, of any family;
-- here the family is given by a test.
use Rattle.duality.specs.Theorems.{Passing}
use Rattle.duality.proofs.Listed.{entering_often_costs}
use Rattle.duality.proofs.theorems.entering_often_costs_as_often.Goals as goal

pub returns : goal.returns
returns c = λ width slots test p Z y left K. entering_often_costs width slots (Passing test) p Z y left K
