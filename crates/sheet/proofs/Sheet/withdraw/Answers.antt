use Rattle.std.proofs.Common.{◌≡◌, true, None, is_some, slice_set, sym, ap, ◌∙◌, arith}
use Rattle.digraph.specs.Links.{link_at}
use Rattle.sheet.proofs.Columns.{link_is_numbered}
use Rattle.sheet.proofs.Keeping.{proper_without_link, spans_without_link}
use Rattle.sheet.proofs.Sheet.withdraw.Goals as goal

pub put-requires : goal.put-requires
put-requires g c =
    let s = c.args.self.now in
    let k = c.args.number in
    let some : is_some (link_at s.links.slots k) ≡ true = ap is_some (sym c.link.ensures) ∙ c.if-is_none.ensures in
    omega (arith, link_is_numbered s.links.slots k some, s.links.sized)

pub invariant_of-self : goal.invariant_of-self
invariant_of-self g c =
    let s = c.args.self.now in
    let k = c.args.number in
    let without = c.put.ensures ∙ ap (λ j. slice_set s.links.slots j None) c.from.ensures in
    record {
      proper = rw without (proper_without_link s.stations.count s.links.slots k s.proper);
      spans = rw without (spans_without_link s.stations.count s.links.slots s.tree k (sym c.if-in_tree.ensures) s.spans);
    }
