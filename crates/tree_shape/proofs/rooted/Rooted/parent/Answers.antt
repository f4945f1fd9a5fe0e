use Rattle.std.proofs.Common.{ℕ, List, get_or, ap, ◌∙◌}
use Rattle.sheet.specs.Held.{held}
use Rattle.tree_shape.proofs.Noting.{parent_at}
use Rattle.tree_shape.proofs.rooted.Rooted.parent.Goals as goal

pub returns : goal.returns
returns c =
    let r = c.args.self.now in
    ap (λ (ps : List ℕ). get_or ps c.args.station 0) r.parented ∙ parent_at (held r.sheet) c.args.station c.requires
