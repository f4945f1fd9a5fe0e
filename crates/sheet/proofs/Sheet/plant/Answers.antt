use Rattle.std.proofs.Common.{◌≡◌, ◌-◌, length, arith}
use Rattle.sheet.proofs.Keeping.{spans_with_tree}
use Rattle.sheet.proofs.Sheet.plant.Goals as goal

pub invariant_of-self : goal.invariant_of-self
invariant_of-self g c =
    let s = c.args.self.now in
    let ks = g.L.Numbers.numbers c.args.list.now in
    let count : length ks ≡ s.stations.count - 1 = omega arith in record {
      proper = s.proper;
      spans = spans_with_tree s.stations.count s.links.slots c.tree_of.result ks count c.tree_of.ensures (c.spans.ensures.0 c.if-not-spans.false);
    }
