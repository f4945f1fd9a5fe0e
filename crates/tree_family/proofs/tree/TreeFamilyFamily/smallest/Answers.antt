use Rattle.std.proofs.Common.{ℕ, List, sym, ◌∙◌, subst}
use Rattle.sheet.specs.Held.{held}
use Rattle.sheet.proofs.Sounds.{sheet_is_sound}
use Rattle.family.specs.declared.reach.Direction.TheVariants.{Back}
use Rattle.tree_family.specs.Choices.{Inside}
use Rattle.tree_family.specs.MarkedSteps.{marked_steps_inside}
use Rattle.tree_family.proofs.tree.TreeFamilyFamily.smallest.Goals as goal

pub invariant_of-first : goal.invariant_of-first
invariant_of-first c =
    let s = c.args.sheet.now in
    let same = sym c.stations.ensures ∙ c.if-stations.false ∙ c.stations-2.ensures in
    record {
      inside = subst (λ (n : ℕ). Inside n c.steps-marked.result.next) same
          (subst (λ (m : List ℕ). Inside (held s).stations m) (sym c.steps-marked.ensures) (marked_steps_inside Back (held s) c.args.marks.now (sheet_is_sound s)));
    }
