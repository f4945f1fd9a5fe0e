-- The theorem is proved in proofs/ListedTrees.antt;
-- its premises stand there in the same order.
use Rattle.duality.proofs.ListedTrees.{tree_kept}
use Rattle.duality.proofs.theorems.revised_prices_keep_the_tree.Goals as goal

pub returns : goal.returns
returns c = tree_kept
