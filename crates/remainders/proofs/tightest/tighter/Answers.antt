use Rattle.std.proofs.Common.{true, false, arith}
use Rattle.remainders.proofs.Entering.{tighter_as_read}
use Rattle.remainders.proofs.tightest.tighter.Goals as goal

pub returns-in-Some : goal.returns-in-Some
returns-in-Some g c =
    tighter_as_read g.T.Amount.parts c.args.left.now c.args.best c.in-Some.j c.args.k c.index-left-k.result c.index-left-j.result c.in-Some.is
    (omega (arith, c.requires.sized, c.requires.within)) c.index-left-k.is (omega (arith, c.requires.sized, c.requires.numbered c.in-Some.j c.in-Some.is)) c.index-left-j.is
    false (cc)

pub returns-in_default : goal.returns-in_default
returns-in_default g c =
    tighter_as_read g.T.Amount.parts c.args.left.now c.args.best c.in-Some.j c.args.k c.index-left-k.result c.index-left-j.result c.in-Some.is
    (omega (arith, c.requires.sized, c.requires.within)) c.index-left-k.is (omega (arith, c.requires.sized, c.requires.numbered c.in-Some.j c.in-Some.is)) c.index-left-j.is
    true (cc)
