-- The theorem is proved in proofs/Listed.antt, of any family;
-- here the family is given by a test.
use Rattle.duality.specs.Theorems.{Passing}
use Rattle.duality.proofs.Listed.{taken_apart}
use Rattle.duality.proofs.theorems.links_taken_lie_apart.Goals as goal

pub returns : goal.returns
returns c = λ width n slots test F p Z y left K q l M T. taken_apart width slots (Passing test) p Z y left K n F q l M T
