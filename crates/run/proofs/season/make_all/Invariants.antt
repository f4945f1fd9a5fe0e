use Rattle.sheet.specs.Held.{held}
use Rattle.quote.specs.Lent.{SameQuoteMemory}
use Rattle.run.specs.Made.{kinds}
use Rattle.run.specs.States.{state, at_first}
use Rattle.run.proofs.Chains.{Underway}
use Rattle.run.proofs.season.make_all.Given as goal

-- the calls so far have come to what sheet, column and memory are now
abbrev pub invariant-loop-i : goal.invariant-loop-i
invariant-loop-i g l =
    let K = kinds g.T.Amount.width g.T.Amount.parts g.F.Family.size g.F.Family.small g.F.Family.large in
    record {
      so_far : Underway K g.F.Family.member l.calls (at_first (held l.initial.sheet).stations l.initial.prices l.initial.memory) l.outcomes l.i (state l.sheet l.prices l.memory);
      same_memory : SameQuoteMemory l.initial.memory l.memory;
    }
