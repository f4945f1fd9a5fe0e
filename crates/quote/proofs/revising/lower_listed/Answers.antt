use Rattle.std.proofs.Common.{◌≡◌, ◌<◌, map, get_or, sym, ◌∙◌, subst, ap₂, arith}
use Rattle.std.proofs.lemmas.List.{take_all}
use Rattle.amount.specs.Parts.{minus, Fitting}
use Rattle.remainders.proofs.Reading.{get_or-map_read}
use Rattle.quote.specs.Trees.{shown}
use Rattle.quote.proofs.Lowering.{Written, written_one_more}
use Rattle.quote.proofs.revising.lower_listed.Goals as goal

pub loop-k-preserved : goal.loop-k-preserved
loop-k-preserved g c =
    let f = g.T.Amount.parts in
    let prices = c.args.prices.now in
    let left = c.args.left.now in
    let list = c.args.list.now in
    let i = c.loop-k.k-index in
    let k = get_or list i 0 in
    let small : k < 200 = c.requires.placed i c.loop-k-test.true in
    let wanted : minus (f c.index-prices-k.result) (f c.index-left-k.result) ≡ minus (shown (map f prices) k) (shown (map f left) k) =
    ap₂ minus (sym (get_or-map_read f prices k c.index-prices-k.result (omega (arith, small, c.requires.prices)) c.index-prices-k.is))
    (sym (get_or-map_read f left k c.index-left-k.result (omega (arith, small, c.requires.left)) c.index-left-k.is)) in
    written_one_more f (λ j. minus (shown (map f prices) j) (shown (map f left) j)) list c.args.revised.now c.loop-k.revised i c.loop-k-test.true c.loop-k.invariant
    c.minus.result (omega (arith, small, c.loop-k.auto.revised, c.requires.revised))
    (c.minus.ensures (subst Fitting (sym wanted) (c.requires.fits i c.loop-k-test.true)) ∙ wanted)

pub returns : goal.returns
returns g c =
    let f = g.T.Amount.parts in
    let all = take_all c.loop-k.k-index c.args.list.now c.loop-k-test.false in
    let done = subst (λ l. Written f (λ k. minus (shown (map f c.args.prices.now) k) (shown (map f c.args.left.now) k)) l c.args.revised.now c.loop-k.revised) all c.loop-k.invariant in
    record { lowered = done.lowered; others = done.others }
