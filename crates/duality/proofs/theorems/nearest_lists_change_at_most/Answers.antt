-- The theorem is proved in proofs/ListedTrees.antt;
-- its premises stand there in the same order.
use Rattle.duality.proofs.ListedTrees.{nearest_changes_at_most}
use Rattle.duality.proofs.theorems.nearest_lists_change_at_most.Goals as goal

pub returns : goal.returns
returns c = nearest_changes_at_most
