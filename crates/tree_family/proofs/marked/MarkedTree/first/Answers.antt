use Rattle.std.proofs.Common.{ap, ◌∙◌, subst, rules}
use borrow.Author.Tests.{tests}
use Rattle.std.specs.Iterator.Runs.{ItemsCountDown}
use Rattle.std.proofs.iter.runs.Sources.{range_runs_back}
use Rattle.tree_shape.specs.Shapes.{tree_in}
use Rattle.tree_family.proofs.Depths.{at_depth, found_down, first_gone_down}
use Rattle.tree_family.proofs.marked.MarkedTree.first.Goals as goal

pub returns : goal.returns
returns c =
    let m = c.args.self.now in
    let t = tree_in m.shape.now in
    let (p, from, found) = c.find_map.ensures.runs in
    let (q, range, same) = c.rev.ensures.runs p p.seen from in
    let down = subst (λ r. ItemsCountDown q r.start r.end) (range ∙ ap (λ n. record { start = 1; end = n }) c.stations.ensures) (range_runs_back q q.seen) in
    first_gone_down t m.marked.next t.stations c.find_map.result (found_down (at_depth t m.marked.next) (λ x r s k. search (rules, tests)) p q same t.stations down c.find_map.result found)
