use Rattle.std.proofs.Common.{get_or, length, is_some, refl, sym, ◌∙◌, arith, rules, tests}
use Rattle.std.proofs.lemmas.Iterator.{YieldsList-from_range}
use Rattle.std.proofs.lemmas.Iterator.Search.{all_from_yields_List}
use Rattle.digraph.specs.Links.{link_at}
use Rattle.sheet.proofs.Columns.{tested_by_place}
use Rattle.sheet.proofs.spanning.names_links.Goals as goal

pub returns : goal.returns
returns g c =
    let slots = c.args.sheet.now.links.slots in
    let ks = g.L.Numbers.numbers c.args.list.now in
    all_from_yields_List (λ i. is_some (link_at slots (get_or ks i 0))) _ _ _ c.all.ensures.ran (YieldsList-from_range 0 c.count.result (length ks) refl (omega (arith, c.count.ensures))) (λ x b q k. search (rules, tests))
    ∙ tested_by_place (λ k. is_some (link_at slots k)) ks
