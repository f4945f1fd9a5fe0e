use Rattle.tree_family.proofs.Pathways.{remaining_by_paths}
use Rattle.tree_family.proofs.meanings.remaining_is_below_less_reached.Goals as goal

pub returns : goal.returns
returns c t h marks v w asked low = remaining_by_paths t h marks v asked w low
