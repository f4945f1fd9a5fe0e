use Rattle.std.proofs.Common.{◌-◌, refl, ◌∙◌, arith, rules}
use borrow.Author.Tests.{tests}
use Rattle.std.specs.List.{range_with_len}
use Rattle.std.proofs.lemmas.Iterator.{YieldsList-from_range}
use Rattle.std.proofs.lemmas.Iterator.Consumers.{YieldsList-from_filter_map, YieldsList-at}
use Rattle.family.proofs.Picking.{least_by_key}
use Rattle.tree_shape.specs.Shapes.{tree_in}
use Rattle.tree_family.proofs.Mosts.{most_first, stations_reversed, candidate_at, most_is_first}
use Rattle.tree_family.proofs.marked.MarkedTree.most.Goals as goal

pub returns : goal.returns
returns c =
    let m = c.args.self.now in
    let t = tree_in m.shape.now in
    least_by_key most_first stations_reversed (λ x k q h. search (rules, tests)) _ c.min_by_key.result c.min_by_key.ensures.ran
    (YieldsList-from_filter_map _ (candidate_at t m.marked.next) (YieldsList-at c.filter_map.ensures.source (YieldsList-from_range 1 c.stations.result (t.stations - 1) refl (omega (arith, c.stations.ensures))))
    c.filter_map.ensures.closure (λ x r q k. search (rules, tests)))
    ∙ most_is_first t m.marked.next (range_with_len 1 (t.stations - 1))
