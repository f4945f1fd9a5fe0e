use Rattle.cuts.proofs.TreeEntries.{all_entered→spanning_tree}
use Rattle.cuts.proofs.links_that_enter_every_set_are_trees.Goals as goal

pub returns : goal.returns
returns c n slots list proper one_fewer enters_all = all_entered→spanning_tree n slots list proper enters_all one_fewer
