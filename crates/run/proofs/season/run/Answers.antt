use Rattle.std.proofs.Common.{◌≡◌, sym, ap, ◌∙◌, arith}
use Rattle.std.proofs.lemmas.Bool.Decides.{nat_tests}
use Rattle.sheet.specs.Held.{held, opened}
use Rattle.run.proofs.season.run.Goals as goal

pub make_all-requires-clause-as_many : goal.make_all-requires-clause-as_many
make_all-requires-clause-as_many g c = grind (arith, nat_tests, c.in_ok-check_run.ensures)

pub make_all-requires-clause-opened : goal.make_all-requires-clause-opened
make_all-requires-clause-opened g c =
    let is : held c.open.new.self ≡ opened c.args.stations = c.in_ok-open.ensures.holds in is ∙ ap (λ h. opened h.stations) (sym is)

pub returns-clause-season : goal.returns-clause-season
returns-clause-season g c =
    let is : held c.open.new.self ≡ opened c.args.stations = c.in_ok-open.ensures.holds in rw (ap (λ h. h.stations) is) at c.make_all.ensures.season
