-- What is known of every tree that is rooted, and of every shape: its sheet is sound, and its tree spans.
use Rattle.std.proofs.Common.{◌≤◌}
use Rattle.digraph.specs.Trees.{SpanningTree}
use Rattle.sheet.specs.Held.{held}
use Rattle.sheet.specs.Sound.{Sound}
use Rattle.sheet.proofs.Sounds.{sheet_is_sound}
use Rattle.tree_shape.specs.Shapes.{tree_in}
use Rattle.tree_shape.specs.Trees.{tree_of}
use Rattle.tree_shape.specs.declared.rooted.Rooted.{Rooted}
use Rattle.tree_shape.specs.declared.shape.TreeShape.{TreeShape}
use Rattle.tree_shape.proofs.Planted.{planted_tree}

pub rooted_tree : (r : Rooted) → SpanningTree (held r.sheet).stations (held r.sheet).links (tree_of (held r.sheet))
rooted_tree r = planted_tree (held r.sheet) (sheet_is_sound r.sheet) r.planted

pub rooted_few : (r : Rooted) → (held r.sheet).stations ≤ 40
rooted_few r = (sheet_is_sound r.sheet).few

pub shape_is_sound : (s : TreeShape) → Sound (tree_in s)
shape_is_sound s = sheet_is_sound s.rooted.sheet

pub shape_spans : (s : TreeShape) → SpanningTree (tree_in s).stations (tree_in s).links (tree_of (tree_in s))
shape_spans s = rooted_tree s.rooted
