use Rattle.std.proofs.Common.{ℕ, ◌<◌, ◌^◌, List, get_or, sym, ap, ◌∙◌, subst}
use Rattle.sheet.specs.Held.{held}
use Rattle.tree_shape.proofs.Climbs.{level_at, level_small}
use Rattle.tree_shape.proofs.shape.TreeShape.level.Goals as goal

pub returns : goal.returns
returns c =
    let s = c.args.self.now in
    let t = held s.rooted.sheet in
    let d = c.args.depth in
    let is = ap (λ (ls : List ℕ). get_or ls d 0) s.levelled ∙ level_at t d c.requires in
    record { value = is; inside = subst (λ (x : ℕ). x < 2 ^ t.stations) (sym is) (level_small t d) }
