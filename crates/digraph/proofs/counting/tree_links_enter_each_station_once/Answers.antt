use Rattle.digraph.proofs.OneEach.{one_into_each}
use Rattle.digraph.proofs.counting.tree_links_enter_each_station_once.Goals as goal

pub returns : goal.returns
returns c = one_into_each
