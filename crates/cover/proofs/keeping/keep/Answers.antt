use Rattle.std.proofs.Common.{◌-◌, sym, ap, ◌∙◌, arith}
use Rattle.sheet.specs.Held.{held}
use Rattle.stages.specs.Keeping.{kept_of}
use Rattle.cover.proofs.Sparing.{one_turn, no_turn_left}
use Rattle.cover.proofs.keeping.keep.Goals as goal

pub loop-k-preserved : goal.loop-k-preserved
loop-k-preserved g c =
    let largest = g.F.Family.large c.args.family.now (held c.args.sheet.now) in
    ap (λ m. kept_of largest m (c.loop-k.k - 1)) c.spare.ensures
    ∙ sym (one_turn largest c.loop-k.marks c.loop-k.k c.loop-k-test.true) ∙ c.loop-k.invariant

pub returns : goal.returns
returns g c =
    let largest = g.F.Family.large c.args.family.now (held c.args.sheet.now) in
    no_turn_left largest c.loop-k.marks c.loop-k.k (omega arith) ∙ c.loop-k.invariant
