use Rattle.std.proofs.Common.{◌≡◌, None, sym, ◌∙◌, arith}
use Rattle.digraph.specs.Links.{link_at}
use Rattle.sheet.proofs.Keeping.{proper_with_link, spans_with_link, none_from_test}
use Rattle.sheet.proofs.Sheet.place.Goals as goal

pub invariant_of-self : goal.invariant_of-self
invariant_of-self g c =
    let s = c.args.self.now in
    let k = c.args.number in
    let free : link_at s.links.slots k ≡ None = sym c.link.ensures ∙ none_from_test _ (sym c.is_some.ensures ∙ c.if-is_some.false) in
    record {
      proper = rw c.put.ensures (proper_with_link s.stations.count s.links.slots _ c.args.link (omega (arith, c.stations.ensures)) (omega (arith, c.stations-else-tail-stations.ensures)) c.if-tail-head.false s.proper);
      spans = rw (c.put.ensures, c.from-2.ensures) (spans_with_link s.stations.count s.links.slots s.tree k c.args.link free s.spans);
    }
