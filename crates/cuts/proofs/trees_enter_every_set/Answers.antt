use Rattle.cuts.proofs.TreeEntries.{tree_enters_feed_member}
use Rattle.cuts.proofs.trees_enter_every_set.Goals as goal

pub returns : goal.returns
returns c n slots list tree set member = tree_enters_feed_member n slots list set tree member
