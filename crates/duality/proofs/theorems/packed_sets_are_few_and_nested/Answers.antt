-- The theorem is proved in proofs/Listed.antt, of any family;
-- here the family is given by a test.
use Rattle.duality.specs.Theorems.{Passing}
use Rattle.duality.proofs.Listed.{few_and_nested}
use Rattle.duality.proofs.theorems.packed_sets_are_few_and_nested.Goals as goal

pub returns : goal.returns
returns c = λ width n slots test F p Z y left K. few_and_nested width slots (Passing test) p Z y left K n F
