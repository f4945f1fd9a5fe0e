use Rattle.std.proofs.Common.{◌≡◌, ◌<◌, true, map, length, is_some, sym, ap, ◌∙◌, arith, rules}
use Rattle.std.proofs.lemmas.List.{length-map}
use Rattle.digraph.specs.Links.{link_at}
use Rattle.sheet.specs.Held.{held}
use Rattle.sheet.proofs.Columns.{passed_column_is_sized, link_is_numbered}
use Rattle.sheet.proofs.Sheet.reprice.Given as given
use Rattle.sheet.proofs.Sheet.reprice.Goals as goal

-- the number names a link, so it is a place of the column
in_column : (g : given.Over) (c : goal.After-from g) → c.from.result < length c.args.prices.now
in_column g c =
    let a = c.args in
    let s = a.self.now in
    let f = g.T.Amount.parts in
    let size = passed_column_is_sized (held s) (map f a.prices.now) (sym c.in_ok-check_column.ensures) in
    let some : is_some (link_at s.links.slots a.number) ≡ true = ap is_some (sym c.link.ensures) ∙ c.if-is_none.ensures in
    omega (arith, size, length-map a.prices.now f, link_is_numbered s.links.slots a.number some, s.links.sized)

pub bounds-prices-from : goal.bounds-prices-from
bounds-prices-from g c = in_column g c

pub offset_bounds-prices-from : goal.offset_bounds-prices-from
offset_bounds-prices-from g c = let i : c.from.result < length c.args.prices.now = in_column g c in search rules
