use Rattle.std.proofs.Common.{sym, subst}
use Rattle.digraph.specs.Links.{Proper}
use Rattle.sheet.proofs.Keeping.{proper_in_empty, no_tree_spans}
use Rattle.sheet.proofs.Sheet.for_stations.Goals as goal

pub invariant_of-result : goal.invariant_of-result
invariant_of-result c =
    let n = c.args.stations.count in
    record { proper = subst (Proper n) (sym c.empty.ensures) (proper_in_empty n 200); spans = no_tree_spans n _ }
