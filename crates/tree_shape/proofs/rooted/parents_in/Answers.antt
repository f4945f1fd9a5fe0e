use Rattle.std.proofs.Common.{◌≡◌, ℕ, ◌+◌, List, sym, ap, ◌∙◌, subst, arith}
use Rattle.digraph.specs.Steps.{Low}
use Rattle.sheet.specs.Held.{held}
use Rattle.sheet.proofs.Sounds.{sheet_is_sound}
use Rattle.tree_shape.specs.Trees.{with_parent}
use Rattle.tree_shape.proofs.Noting.{Noted, tree_link_low, noted_none, noted_more, noted_all}
use Rattle.tree_shape.proofs.Planted.{planted_tree}
use Rattle.tree_shape.proofs.rooted.parents_in.Goals as goal

pub put_parent-requires : goal.put_parent-requires
put_parent-requires c =
    let s = c.args.sheet.now in
    subst Low (sym c.link_of_tree.ensures) (tree_link_low (held s) c.loop-number.number (sheet_is_sound s))

pub loop-number-init : goal.loop-number-init
loop-number-init c = noted_none (held c.args.sheet.now)

pub loop-number-preserved : goal.loop-number-preserved
loop-number-preserved c =
    let s = c.args.sheet.now in
    let k = c.loop-number.number in
    subst (λ (ps : List ℕ). Noted (held s) ps (k + 1)) (sym (c.put_parent.ensures ∙ ap (with_parent c.loop-number.parents) c.link_of_tree.ensures))
    (noted_more (held s) (sheet_is_sound s) (planted_tree (held s) (sheet_is_sound s) c.requires) c.loop-number.parents k c.loop-number.invariant)

pub returns : goal.returns
returns c =
    let s = c.args.sheet.now in
    noted_all (held s) (sheet_is_sound s) (planted_tree (held s) (sheet_is_sound s) c.requires) c.loop-number.parents
    (subst (Noted (held s) c.loop-number.parents) (let z : c.loop-number.number ≡ 200 = omega arith in z) c.loop-number.invariant)
