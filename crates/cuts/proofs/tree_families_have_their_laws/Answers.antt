use Rattle.cuts.proofs.TreeFamily.{tree_member_not_empty, tree_member_and, tree_member_or, tree_member_station}
use Rattle.cuts.proofs.tree_families_have_their_laws.Goals as goal

pub returns : goal.returns
returns c n slots list tree = record {
  not_empty = λ x member. (tree_member_not_empty n slots list x member).2;
  meets = tree_member_and n slots list tree;
  unions = tree_member_or n slots list tree;
  stations = tree_member_station n slots list tree;
}
