-- The sheet whose tree a shape is of.
use Rattle.sheet.specs.Held.{Held, held}
use Rattle.tree_shape.specs.declared.shape.TreeShape.{TreeShape}

-- what that sheet holds
abbrev pub tree_in : TreeShape → Held
tree_in s = held s.rooted.sheet
