use Rattle.std.proofs.Common.{◌<◌, map, length, sym, refl, arith, rules}
use Rattle.std.proofs.lemmas.List.{length-map}
use Rattle.std.proofs.lemmas.Result.{err_from_is_err_and}
use Rattle.refusal.proofs.Firsts.{first_of_front}
use Rattle.refusal.specs.Checks.{retold}
use Rattle.refusal.specs.Conversions.{refusal_of_link}
use Rattle.sheet.specs.Calls.{column_checks, link_checks}
use Rattle.sheet.specs.Held.{held}
use Rattle.sheet.proofs.Columns.{passed_column_is_sized, passed_link_is_numbered}
use Rattle.sheet.proofs.Sheet.add.Given as given
use Rattle.sheet.proofs.Sheet.add.Goals as goal

pub returns-in_err-check_column : goal.returns-in_err-check_column
returns-in_err-check_column g c =
    let a = c.args in
    let h = held a.self.now in
    let ps = map g.T.Amount.parts a.prices.now in
    let p = err_from_is_err_and c.from_residual.result c.from_residual.ensures.1 in
    rw (p.1, p.2)
    (record {
      refusal = sym (first_of_front (column_checks h ps) (retold refusal_of_link (link_checks h a.number a.link.tail a.link.head (g.T.Amount.parts a.price))) _ (sym c.in_err-check_column.ensures));
      kept = λ _. refl;
      holds = refl;
      column = refl;
    })

-- after both checks the number is a place of the column
in_column : (g : given.Over) (c : goal.After-from g) → c.from.result < length c.args.prices.now
in_column g c =
    let a = c.args in
    let h = held a.self.now in
    let f = g.T.Amount.parts in
    let size = passed_column_is_sized h (map f a.prices.now) (sym c.in_ok-check_column.ensures) in
    let small = passed_link_is_numbered h a.number a.link.tail a.link.head (f a.price) (sym c.in_ok-place.ensures.refusal) in
    omega (arith, small, size, length-map a.prices.now f)

pub bounds-prices-from : goal.bounds-prices-from
bounds-prices-from g c = in_column g c

pub offset_bounds-prices-from : goal.offset_bounds-prices-from
offset_bounds-prices-from g c = let i : c.from.result < length c.args.prices.now = in_column g c in search rules
