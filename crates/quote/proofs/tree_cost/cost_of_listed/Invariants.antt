use Rattle.std.proofs.Common.{◌≡◌, map, take}
use Rattle.duality.specs.Trees.{cost_of_list}
use Rattle.quote.specs.Trees.{shown}
use Rattle.quote.proofs.tree_cost.cost_of_listed.Given as goal

abbrev pub invariant-loop-k : goal.invariant-loop-k
invariant-loop-k g l =
    let f = g.T.Amount.parts in
    f l.total ≡ cost_of_list g.T.Amount.width (shown (map f l.prices)) (take l.k-index l.list)
