use Rattle.std.proofs.Common.{take, sym, ◌∙◌, rules, tests}
use Rattle.std.proofs.lemmas.Iterator.{YieldsList-from_slice}
use Rattle.std.proofs.lemmas.Iterator.Adapters.{option_map_id}
use Rattle.std.proofs.lemmas.Iterator.Consumers.{YieldsList-from_copied}
use Rattle.std.proofs.lemmas.Iterator.Search.{find_from_yields_List}
use Rattle.digraph.specs.Entering.{enters_at}
use Rattle.remainders.proofs.Entering.{found_first}
use Rattle.remainders.proofs.used_up.UsedUp.earliest.Goals as goal

pub returns : goal.returns
returns c =
    let slots = c.args.sheet.now.links.slots in
    let ks = take c.args.self.now.count c.args.self.now.order in
    sym (option_map_id c.find.result)
    ∙ find_from_yields_List (λ k. enters_at slots k c.args.set) _ _ c.find.result c.find.ensures.ran (YieldsList-from_copied (YieldsList-from_slice ks cc)) (λ x b q k. search (rules, tests))
    ∙ found_first slots c.args.set ks
