use Rattle.std.proofs.Common.{not, ◌||◌, is_some, ◌∙◌, rules, tests}
use Rattle.std.proofs.lemmas.Iterator.{YieldsList-from_slice, YieldsList-from_zip}
use Rattle.std.proofs.lemmas.Iterator.Search.{all_from_yields_List}
use Rattle.amount.specs.Parts.{legal}
use Rattle.sheet.proofs.Columns.{all_priced}
use Rattle.sheet.proofs.column.are_priced.Goals as goal

pub returns : goal.returns
returns g c =
    let slots = c.args.links.now.slots in
    let prices = c.args.prices.now in
    all_from_yields_List (λ (o, p). not (is_some o) || legal (g.T.Amount.parts p)) c.all.new.self _ _ c.all.ensures.ran
    (YieldsList-from_zip (YieldsList-from_slice slots cc) (YieldsList-from_slice prices cc)) (λ x b q k. search (rules, tests))
    ∙ all_priced g.T.Amount.parts slots prices
