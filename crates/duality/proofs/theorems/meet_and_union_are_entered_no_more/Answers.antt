-- The theorem is proved in proofs/Entering.antt, as one link's truth table,
-- summed over the links.
use Rattle.duality.proofs.Entering.{entries_of_meet_and_union}
use Rattle.duality.proofs.theorems.meet_and_union_are_entered_no_more.Goals as goal

pub returns : goal.returns
returns c = entries_of_meet_and_union
