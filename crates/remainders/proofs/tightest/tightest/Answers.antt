use Rattle.std.proofs.Common.{◌≡◌, ℕ, true, false, map, sym, refl, ◌∙◌, arith}
use Rattle.stages.specs.Packing.{tightest}
use Rattle.remainders.proofs.Entering.{numbered_one_on, tightest_one_on, tightest_at_end}
use Rattle.remainders.proofs.tightest.tightest.Goals as goal
use Rattle.remainders.proofs.tightest.tightest.Goals.{then-link_enters, else-link_enters}

pub loop-k-init : goal.loop-k-init
loop-k-init g c = (refl, λ k e. absurd (let z : ◌≡◌ {A = ℕ} 0 1 = cc in omega arith))

pub tighter-best-requires : goal.tighter-best-requires
tighter-best-requires g c = record { sized = c.requires; numbered = c.loop-k.invariant.1; within = omega arith }

pub loop-k-preserved : goal.loop-k-preserved
loop-k-preserved g c =
    let slots = c.args.sheet.now.links.slots in
    let left = map g.T.Amount.parts c.args.left.now in
    let set = c.args.set in
    let k = c.loop-k.k in
    let tested = sym c.link_enters.ensures in
    elim c.if-link_enters.branch [
      | then-link_enters w ↦ (
        tightest_one_on slots left set c.loop-k.best k 200 (omega arith) (tightest slots left set) c.loop-k.invariant.0 true c.if-link_enters.best (tested ∙ w.if-link_enters.true) (w.best-is ∙ w.tighter-best.ensures),
        numbered_one_on left c.loop-k.best k c.loop-k.invariant.1 (omega arith) true c.if-link_enters.best (w.best-is ∙ w.tighter-best.ensures),
      )
      | else-link_enters w ↦ (
        tightest_one_on slots left set c.loop-k.best k 200 (omega arith) (tightest slots left set) c.loop-k.invariant.0 false c.if-link_enters.best (tested ∙ w.if-link_enters.false) w.best-is,
        numbered_one_on left c.loop-k.best k c.loop-k.invariant.1 (omega arith) false c.if-link_enters.best w.best-is,
      )
    ]

pub returns : goal.returns
returns g c =
    let slots = c.args.sheet.now.links.slots in
    let left = map g.T.Amount.parts c.args.left.now in
    tightest_at_end slots left c.args.set c.loop-k.best c.loop-k.k 200 (omega arith) (tightest slots left c.args.set) c.loop-k.invariant.0
