use Rattle.std.proofs.Common.{map, sym, refl}
use Rattle.std.proofs.lemmas.Result.{err_from_is_err_and}
use Rattle.refusal.proofs.Firsts.{first_of_front}
use Rattle.sheet.specs.Calls.{column_checks}
use Rattle.sheet.specs.Held.{held}
use Rattle.cover.specs.Ready.{family_checks}
use Rattle.cover.proofs.call.cover.Goals as goal

pub returns-in_err-check_column : goal.returns-in_err-check_column
returns-in_err-check_column g c =
    let h = held c.args.sheet.now in
    let f = c.args.family.now in
    let ps = map g.T.Amount.parts c.args.prices.now in
    let p = err_from_is_err_and c.from_residual.result c.from_residual.ensures.1 in
    rw (p.1, p.2)
    (record {
      refusal = sym (first_of_front (column_checks h ps) (family_checks h (g.F.Family.small f h) (g.F.Family.size f) _) _ (sym c.in_err-check_column.ensures));
      untouched = λ _. refl;
      same_memory = record { left = refl; sets = refl; amounts = refl; marks = refl; left_length = refl; sets_length = refl; amounts_length = refl; marks_length = refl };
      filled = tt;
      small = tt;
      cheapest = tt;
    })
