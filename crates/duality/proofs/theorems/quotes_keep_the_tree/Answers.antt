-- The theorem is proved in proofs/ListedTrees.antt;
-- its premises stand there in the same order.
use Rattle.duality.proofs.ListedTrees.{quote_keeps_the_tree}
use Rattle.duality.proofs.theorems.quotes_keep_the_tree.Goals as goal

pub returns : goal.returns
returns c = quote_keeps_the_tree
