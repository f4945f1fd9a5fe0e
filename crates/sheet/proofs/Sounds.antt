-- What every sheet holds is sound: its ghost fields, read off for `held`.
use Rattle.std.proofs.Common.{◌≡◌, ℕ, ◌-◌, List, take, Some, None, Option, refl, subst, arith}
use mathlib.Core.Logic.{∥∥₁_map}
use Rattle.std.specs.Option.{option_map}
use Rattle.digraph.specs.Links.{Slots}
use Rattle.digraph.specs.Trees.{SpanningTree}
use Rattle.sheet.specs.Held.{held}
use Rattle.sheet.specs.Keeps.{Spans}
use Rattle.sheet.specs.Sound.{Sound}
use Rattle.sheet.specs.declared.Sheet.{Sheet}
use Rattle.sheet.specs.declared.tree.Tree.{Tree}

held_tree_spans : (n : ℕ) (slots : Slots) (tree : Option Tree) → Spans n slots tree → (list : List ℕ) → option_map (λ t. take (n - 1) t.numbers) tree ≡ Some list → ∥ SpanningTree n slots list ∥₁
held_tree_spans n slots None spans list e = absurd (none_is_some e)
  where
    none_is_some : {A : Type 0} {x : A} → None ≡ Some x → ⊥
    none_is_some p = let z : ◌≡◌ {A = ℕ} 0 1 = cc in omega arith
held_tree_spans n slots (Some t) spans list e =
    let same : take (n - 1) t.numbers ≡ list = cc in
    ∥∥₁_map (spans t refl) (subst (SpanningTree n slots) same)

pub sheet_is_sound : (s : Sheet) → Sound (held s)
sheet_is_sound s =
    record {
      some = s.stations.some;
      few = s.stations.few;
      sized = s.links.sized;
      proper = s.proper;
      spans = held_tree_spans s.stations.count s.links.slots s.tree s.spans;
    }
