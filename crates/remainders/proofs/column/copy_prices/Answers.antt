use Rattle.std.proofs.Common.{is_some, None, sym, ap, ◌∙◌, arith}
use Rattle.std.proofs.lemmas.List.{get_or_read, get_or_past}
use Rattle.std.proofs.lemmas.Bool.{cond-true, cond-false}
use Rattle.remainders.proofs.Passing.{passed_none, passed_unwritten, passed_written, passed_all}
use Rattle.remainders.proofs.column.copy_prices.Goals as goal
use Rattle.remainders.proofs.column.copy_prices.Goals.{then-is_some, else-is_some}

pub loop-k-init : goal.loop-k-init
loop-k-init g c d = passed_none d _ c.args.left.now

pub loop-k-preserved : goal.loop-k-preserved
loop-k-preserved g c d =
    let prices = c.args.prices.now in
    let k = c.loop-k.k in
    let linked = ap is_some (sym c.link.ensures) ∙ sym c.is_some.ensures in
    elim c.if-is_some.branch [
      | then-is_some w ↦
          let x = w.index-prices-k.result in
          passed_written d k _ _ c.loop-k.left (c.loop-k.invariant d) c.if-is_some.left x (omega (arith, c.loop-k.auto.left, c.requires.left)) w.left-is
          (get_or_read prices k x (omega (arith, c.requires.prices)) w.index-prices-k.is d ∙ sym (cond-true _ _ _ (linked ∙ w.if-is_some.true)))
      | else-is_some w ↦
          passed_unwritten d k _ _ c.loop-k.left (c.loop-k.invariant d) c.if-is_some.left w.left-is
          (sym (cond-false _ _ _ (linked ∙ w.if-is_some.false)))
    ]

pub returns : goal.returns
returns g c k d =
    let links = c.args.sheet.now.links in
    passed_all d c.loop-k.k _ _ c.loop-k.left (c.loop-k.invariant d) k
    (λ past. sym (cond-false _ _ _ (ap is_some (get_or_past links.slots k None (omega (arith, links.sized))))))
