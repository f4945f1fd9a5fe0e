use Rattle.std.proofs.Common.{cond, get_or}
use Rattle.duality.specs.Trees.{is_link}
use Rattle.remainders.proofs.Passing.{Passed}
use Rattle.remainders.proofs.column.copy_prices.Given as goal

-- the places passed have their links' prices
abbrev pub invariant-loop-k : goal.invariant-loop-k
invariant-loop-k g l =
    (d : g.row.T.Denot) → Passed d l.k (λ j. cond (is_link l.sheet.links.slots j) (get_or l.prices j d) (get_or l.initial.left j d)) (λ j. get_or l.initial.left j d) l.left
