-- Both laws of a number's text, from what the shelf knows of it.
-- A number above 0 does not begin with the digit 0, and 0 is that digit alone.
use Rattle.std.proofs.Common.{zero, suc, arith}
use Rattle.annex.proofs.laws.numbers_read_back.Goals as goal
use Rattle.annex.specs.Laws.{NoLeadingZero}
use Rattle.std.proofs.lemmas.Fmt.{decimal_is_IsNumeral, decimal_digit, first_decimal}

no_leading_zero : NoLeadingZero
no_leading_zero zero fits led = decimal_digit 0 (omega arith)
no_leading_zero (suc n) fits led = let first = first_decimal (suc n) (omega arith) fits in absurd (omega arith)

pub returns : goal.returns
returns c = record { reads = decimal_is_IsNumeral; leads = no_leading_zero }
