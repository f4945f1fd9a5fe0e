use Rattle.std.proofs.Common.{◌≡◌, map, get_or, take, sym, refl, ap, ◌∙◌, arith}
use Rattle.std.proofs.lemmas.Bool.{cond-true}
use Rattle.remainders.proofs.Lowering.{lowered_none, lowered_here, not_lowered_here, unmarked_ahead, fits_ahead}
use Rattle.remainders.proofs.Noting.{noted_marks, noted_order}
use Rattle.remainders.proofs.column.lower.Goals as goal
use Rattle.remainders.proofs.column.lower.Goals.{then-link_enters, else-link_enters}

pub loop-k-init : goal.loop-k-init
loop-k-init g c =
    let f = g.T.Amount.parts in
    let used = c.args.used.now in
    lowered_none f g.T.Amount.width c.args.sheet.now.links.slots c.args.set (f c.args.amount) c.args.left.now used.marks (take used.count used.order)

pub lower_link-requires : goal.lower_link-requires
lower_link-requires g c =
    let k = c.loop-k.k in
    let enters = sym c.link_enters.ensures ∙ c.if-link_enters.true in
    record {
      sized = omega (arith, c.loop-k.auto.left, c.requires.sized);
      within = omega arith;
      unused = unmarked_ahead _ _ _ _ _ _ _ _ k _ _ _ c.loop-k.invariant (c.requires.unused k enters);
      fits = fits_ahead _ _ _ _ _ _ _ _ k _ _ _ c.loop-k.invariant (c.requires.fits k enters);
    }

pub loop-k-preserved : goal.loop-k-preserved
loop-k-preserved g c =
    let k = c.loop-k.k in
    let used = c.if-link_enters.used in
    let tested = sym c.link_enters.ensures in
    elim c.if-link_enters.branch [
      | then-link_enters w ↦
          lowered_here _ _ _ _ _ _ _ _ k c.loop-k.left _ _ c.loop-k.invariant (omega (arith, c.loop-k.used.sized)) c.if-link_enters.left used.marks (take used.count used.order)
          (tested ∙ w.if-link_enters.true) (omega (arith, c.loop-k.auto.left, c.requires.sized))
          (ap (map g.T.Amount.parts) w.left-is ∙ w.lower_link.ensures.lowered)
          (λ j d other. ap (λ xs. get_or xs j d) w.left-is ∙ w.lower_link.ensures.others j d other)
          (ap (λ u. u.marks) w.used-is ∙ w.lower_link.ensures.marks)
          (ap (λ u. take u.count u.order) w.used-is ∙ w.lower_link.ensures.order)
      | else-link_enters w ↦
          not_lowered_here _ _ _ _ _ _ _ _ k c.loop-k.left _ _ c.loop-k.invariant (omega (arith, c.loop-k.used.sized)) c.if-link_enters.left used.marks (take used.count used.order)
          (tested ∙ w.if-link_enters.false) w.left-is (ap (λ u. u.marks) w.used-is) (ap (λ u. take u.count u.order) w.used-is)
    ]

pub returns : goal.returns
returns g c =
    let end : c.loop-k.k ≡ 200 = omega arith in
    let inv = c.loop-k.invariant in
    record {
      lowered = λ k h enters. inv.column.done k (omega arith) ∙ cond-true _ _ _ enters;
      others = inv.others;
      marks = noted_marks _ _ _ c.loop-k.k _ _ inv.noted end c.loop-k.used.sized _ (λ j h. refl);
      order = noted_order _ _ _ c.loop-k.k _ _ inv.noted end;
    }
