use Rattle.std.proofs.Common.{is_some, sym, ap, ◌∙◌}
use Rattle.sheet.specs.Held.{held}
use Rattle.cover.proofs.Sparing.{needed_stays}
use Rattle.cover.proofs.keeping.spare.Goals as goal

pub returns-then-is_some : goal.returns-then-is_some
returns-then-is_some g c =
    let largest = g.F.Family.large c.args.family.now (held c.args.sheet.now) in
    needed_stays largest c.args.marks.now c.args.k c.if-mark-eq0.false
    (ap is_some (sym c.largest.ensures) ∙ sym c.if-is_some.ensures)
