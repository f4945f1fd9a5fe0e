-- The theorem is proved in proofs/ListedTrees.antt;
-- its premises stand there in the same order.
use Rattle.duality.proofs.ListedTrees.{deviates_by_the_concession}
use Rattle.duality.proofs.theorems.no_list_keeps_the_tree_for_less.Goals as goal

pub returns : goal.returns
returns c = deviates_by_the_concession
