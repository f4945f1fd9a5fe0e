use Rattle.std.proofs.Common.{map, take}
use Rattle.amount.specs.Parts.{minus}
use Rattle.quote.specs.Trees.{shown}
use Rattle.quote.proofs.Lowering.{Written}
use Rattle.quote.proofs.revising.lower_listed.Given as goal

abbrev pub invariant-loop-k : goal.invariant-loop-k
invariant-loop-k g l =
    let f = g.T.Amount.parts in
    Written f (λ k. minus (shown (map f l.prices) k) (shown (map f l.left) k)) (take l.k-index l.list) l.initial.revised l.revised
