use Rattle.tree_family.proofs.Pathways.{around_by_paths}
use Rattle.tree_family.proofs.meanings.around_is_what_reaches.Goals as goal

pub returns : goal.returns
returns c t h marks v u asked = around_by_paths t h marks v asked u
