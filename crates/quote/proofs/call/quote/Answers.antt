use Rattle.std.proofs.Common.{map, sym, refl, ◌∙◌}
use Rattle.std.proofs.lemmas.List.{length-map}
use Rattle.std.proofs.lemmas.Result.{err_from_is_err_and}
use Rattle.refusal.proofs.Firsts.{first_of_front}
use Rattle.sheet.specs.Calls.{column_checks}
use Rattle.sheet.specs.Held.{held}
use Rattle.quote.specs.Quotes.{tree_quote_checks}
use Rattle.quote.proofs.Quoting.{column_passed}
use Rattle.quote.proofs.call.quote.Goals as goal

pub returns-in_err-check_column : goal.returns-in_err-check_column
returns-in_err-check_column g c =
    let h = held c.args.sheet.now in
    let ps = map g.T.Amount.parts c.args.prices.now in
    let p = err_from_is_err_and c.from_residual.result c.from_residual.ensures.1 in
    rw (p.1, p.2)
    (record {
      refusal = sym (first_of_front (column_checks h ps) (tree_quote_checks h _) _ (sym c.in_err-check_column.ensures));
      untouched = λ _. refl;
      same_memory = record { left = refl; sets = refl; amounts = refl; marks = refl; revised = refl; left_length = refl; sets_length = refl; amounts_length = refl; marks_length = refl; revised_length = refl };
      filled = tt;
      small = tt;
      keeps = tt;
      least = tt;
    })

pub find_quote-requires : goal.find_quote-requires
find_quote-requires g c =
    let prices = c.args.prices.now in
    let parts = g.T.Amount.parts in
    let passed = column_passed (held c.args.sheet.now) (map parts prices) (sym c.in_ok-check_column.ensures) in
    record {
      column = sym (length-map prices parts) ∙ passed.0;
      priced = passed.1;
      memory = sym c.fits.ensures ∙ c.if-not-fits.false;
      family = c.in-Some.ensures.sheet;
    }
