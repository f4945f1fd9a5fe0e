-- What the text of a number and the line of a refusal are, beside their definitions.
use Rattle.std.specs.Prelude.{◌≡◌, ℕ, ◌^◌, ◌<◌, [], ◌∷◌, ◌++◌, codes, decimal, slice_index}
use Rattle.annex.specs.Lines.{line_of_refusal}
use Rattle.refusal.specs.declared.Refusal.TheVariants.{StationCount, MemberNotEntered, FileRecord, FileTree}
use Rattle.refusal.specs.declared.LinkRefusal.TheVariants.{LinkInUse}
use Rattle.refusal.specs.declared.TreeRefusal.TheVariants.{StationNotReached}
use Rattle.std.specs.Str.Parse.{IsNumeral, digits_value}

-- the text of a number is digits, at least one, and they give the number
abbrev pub ReadsBack : Type 0
ReadsBack = (n : ℕ) → n < 2 ^ 64 → IsNumeral 10 (decimal n) × (digits_value 10 (decimal n) ≡ n)

-- it begins with the digit 0 only where it is that digit alone
abbrev pub NoLeadingZero : Type 0
NoLeadingZero = (n : ℕ) → n < 2 ^ 64 → slice_index (decimal n) 0 ≡ 48 → decimal n ≡ 48 ∷ []

-- a line of each form: a number alone, one number carried, two, and a set
abbrev pub LinesReadSo : Type 0
LinesReadSo =
    (line_of_refusal StationCount ≡ codes "refused 10" ++ (10 ∷ []))
    × (line_of_refusal (FileTree StationNotReached) ≡ codes "refused 35 19" ++ (10 ∷ []))
    × (line_of_refusal (FileRecord 3 LinkInUse) ≡ codes "refused 34 3 12" ++ (10 ∷ []))
    × (line_of_refusal (MemberNotEntered 0b110) ≡ codes "refused 22 1 2" ++ (10 ∷ []))
