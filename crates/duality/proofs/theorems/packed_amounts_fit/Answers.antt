-- The theorem is proved in proofs/Listed.antt, of any family;
-- here the family is given by a test.
use Rattle.duality.specs.Theorems.{Passing}
use Rattle.duality.proofs.Listed.{all_fit}
use Rattle.duality.proofs.theorems.packed_amounts_fit.Goals as goal

pub returns : goal.returns
returns c = λ width n slots test F p Z y left K B small. all_fit width slots (Passing test) p Z y left K n F B small
