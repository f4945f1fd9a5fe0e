use Rattle.std.proofs.Common.{map, get_or, sym, ap, ◌∙◌}
use Rattle.std.proofs.lemmas.List.{take_all}
use Rattle.duality.specs.Trees.{cost_of_list}
use Rattle.remainders.proofs.Reading.{get_or-map_read}
use Rattle.quote.specs.Trees.{shown}
use Rattle.quote.proofs.ListCosts.{cost_one_more}
use Rattle.quote.proofs.tree_cost.cost_of_listed.Goals as goal

pub loop-k-preserved : goal.loop-k-preserved
loop-k-preserved g c =
    let f = g.T.Amount.parts in
    let prices = c.args.prices.now in
    let list = c.args.list.now in
    let i = c.loop-k.k-index in
    let x = c.index-prices-k.result in
    cost_one_more g.T.Amount.width (shown (map f prices)) list c.requires.few c.requires.small i c.loop-k-test.true (f c.loop-k.total) c.loop-k.invariant
    (f x) (f c.plus-total.result) (sym (get_or-map_read f prices (get_or list i 0) x (c.requires.placed i c.loop-k-test.true) c.index-prices-k.is)) c.plus-total.ensures

pub returns : goal.returns
returns g c =
    let f = g.T.Amount.parts in
    c.loop-k.invariant ∙ ap (cost_of_list g.T.Amount.width (shown (map f c.args.prices.now))) (take_all c.loop-k.k-index c.args.list.now c.loop-k-test.false)
