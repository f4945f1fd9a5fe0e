use Rattle.std.proofs.Common.{not, count_ones, refl, ◌∙◌, arith, rules}
use borrow.Author.Tests.{tests}
use Rattle.std.specs.Ordering.{nat_cmp}
use Rattle.std.proofs.lemmas.Iterator.{YieldsList-from_range, YieldsList-from_map}
use Rattle.std.proofs.lemmas.Iterator.Consumers.{YieldsList-from_filter, YieldsList-at}
use Rattle.stations.specs.Sets.{has}
use Rattle.digraph.specs.Search.{reach_set}
use Rattle.family.proofs.Picking.{least_by_key, fewest_is_least}
use Rattle.family.proofs.feed.fewest.Goals as goal

pub returns : goal.returns
returns c =
    least_by_key nat_cmp count_ones (λ x k q h. search (rules, tests)) _ c.min_by_key.result c.min_by_key.ensures.ran
    (YieldsList-from_filter _ (λ set. not (has set 0)) (YieldsList-at c.filter.ensures.source
    (YieldsList-from_map _ (reach_set c.args.steps.now.next) (YieldsList-at c.map.ensures.source (YieldsList-from_range 0 c.get.result c.args.stations.count refl (omega (arith, c.get.ensures))))
    c.map.ensures.closure (λ x r q k. search (rules, tests))))
    c.filter.ensures.closure (λ x r q k. search (rules, tests)))
    ∙ fewest_is_least c.args.steps.now.next c.args.stations.count 0
