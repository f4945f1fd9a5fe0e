use Rattle.std.proofs.Common.{None, sym, arith}
use Rattle.std.proofs.lemmas.List.{get_or_past}
use Rattle.sheet.proofs.Sheet.link.Goals as goal

pub returns-else-k-lt-LINKS : goal.returns-else-k-lt-LINKS
returns-else-k-lt-LINKS c =
    sym (get_or_past c.args.self.now.links.slots c.args.number None (omega (arith, c.args.self.now.links.sized)))
