use Rattle.std.proofs.lemmas.List.{length-map}
use Rattle.std.proofs.lemmas.Bool.Decides.{nat_tests}
use Rattle.std.proofs.Common.{arith}
use Rattle.sheet.proofs.Sheet.check_column.Goals as goal

pub returns-then-prices-ne-LINKS : goal.returns-then-prices-ne-LINKS
returns-then-prices-ne-LINKS g c = simp length-map (grind (arith, nat_tests))

pub returns-then-not-are_priced : goal.returns-then-not-are_priced
returns-then-not-are_priced g c = simp length-map (grind (arith, nat_tests))

pub returns : goal.returns
returns g c = simp length-map (grind (arith, nat_tests))
