-- Only three refusals carry something beside their number.
-- By cases: for each other the list computes, and those three are ruled out.
use Rattle.std.proofs.Common.{◌≡◌, ℕ, [], refl}
use Rattle.refusal.specs.Numbers.{carried_by}
use Rattle.refusal.specs.declared.LinkRefusal.{LinkRefusal}
use Rattle.refusal.specs.declared.Refusal.{Refusal}
use Rattle.refusal.specs.declared.Refusal.TheVariants.{ColumnSize, PriceInColumn, StationCount, LinkNumber, LinkInUse, NoSuchStation, EqualEnds, PriceOffered, NoSuchLink, LinkInTree, TreeLength, StationNotReached, NoTree, MemorySize, MemberNotEntered, EqualRouteEnds, FamilyStations, TextSize, FileSize, FileKind, FilePair, FileSection, FileRecord, FileTree}
use Rattle.refusal.specs.declared.TreeRefusal.{TreeRefusal}

pub carries_nothing : (e : Refusal) → ((set : ℕ) → e ≡ MemberNotEntered set → ⊥) → ((place : ℕ) (inner : LinkRefusal) → e ≡ FileRecord place inner → ⊥) → ((inner : TreeRefusal) → e ≡ FileTree inner → ⊥) → carried_by e ≡ []
carries_nothing ColumnSize _ _ _ = refl
carries_nothing PriceInColumn _ _ _ = refl
carries_nothing StationCount _ _ _ = refl
carries_nothing LinkNumber _ _ _ = refl
carries_nothing LinkInUse _ _ _ = refl
carries_nothing NoSuchStation _ _ _ = refl
carries_nothing EqualEnds _ _ _ = refl
carries_nothing PriceOffered _ _ _ = refl
carries_nothing NoSuchLink _ _ _ = refl
carries_nothing LinkInTree _ _ _ = refl
carries_nothing TreeLength _ _ _ = refl
carries_nothing StationNotReached _ _ _ = refl
carries_nothing NoTree _ _ _ = refl
carries_nothing MemorySize _ _ _ = refl
carries_nothing (MemberNotEntered set) not _ _ = absurd (not set refl)
carries_nothing EqualRouteEnds _ _ _ = refl
carries_nothing FamilyStations _ _ _ = refl
carries_nothing TextSize _ _ _ = refl
carries_nothing FileSize _ _ _ = refl
carries_nothing FileKind _ _ _ = refl
carries_nothing FilePair _ _ _ = refl
carries_nothing FileSection _ _ _ = refl
carries_nothing (FileRecord place inner) _ not _ = absurd (not place inner refl)
carries_nothing (FileTree inner) _ _ not = absurd (not inner refl)
