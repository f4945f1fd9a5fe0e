-- The lines of four refusals, byte by byte.
-- Each computes.
use Rattle.std.proofs.Common.{refl}
use Rattle.annex.proofs.laws.lines_read_so.Goals as goal
use Rattle.std.specs.Fmt.{digits}

pub returns : goal.returns
unfolding digits
returns c = (refl, refl, refl, refl)
