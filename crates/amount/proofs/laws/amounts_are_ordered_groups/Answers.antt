-- The theorem that the contract states, that amounts of any number of parts form an ordered group,
-- is proved in proofs/Group.antt.
use Rattle.amount.proofs.Group.{ordered_group}
use Rattle.amount.proofs.laws.amounts_are_ordered_groups.Goals as goal

pub returns : goal.returns
returns c = ordered_group
