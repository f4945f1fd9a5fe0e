use Rattle.std.proofs.Common.{◌≡◌, true, is_some, sym, subst}
use Rattle.sheet.specs.Held.{held}
use Rattle.sheet.proofs.Sounds.{sheet_is_sound}
use Rattle.sheet.specs.declared.Sheet.{Sheet}
use Rattle.cuts.proofs.TreeFamily.{tree_member_station, tree_member_subtree}
use Rattle.tree_shape.specs.Trees.{tree_of}
use Rattle.tree_shape.proofs.Planted.{planted_tree}
use Rattle.tree_family.proofs.tree.TreeFamily.of.Goals as goal

pub returns : goal.returns
returns c =
    let s = c.args.sheet.now in
    let t = held s in
    let same = c.in_ok-shape.ensures in
    let planted = subst (λ (x : Sheet). is_some (held x).tree ≡ true) same c.in_ok-shape.shape.rooted.planted in
    let tree = planted_tree t (sheet_is_sound s) planted in
    record {
      given = sym planted;
      sheet = same;
      alone = λ _ v pos low. tree_member_station t.stations t.links (tree_of t) tree v pos low;
      subtrees = λ _ v pos low. tree_member_subtree t.stations t.links (tree_of t) tree v pos low;
    }
