-- Once nothing turned a cover back, the stages' premises hold: read off the sheet, the column and the family.
use Rattle.std.proofs.Common.{◌≡◌, ℕ, List, map, length, ℤ, Option, arith}
use Rattle.std.proofs.lemmas.List.{length-map}
use Rattle.sheet.specs.Held.{Held, held}
use Rattle.sheet.specs.declared.Sheet.{Sheet}
use Rattle.sheet.proofs.Sounds.{sheet_is_sound}
use Rattle.stages.specs.Asked.{asked_of}
use Rattle.stages.proofs.Asking.{LawfulFamily, column_wide, lawful_of}
use Rattle.stages.proofs.Lawful.{Lawful}
use Rattle.cover.specs.Ready.{Ready}

pub ready_is_lawful : {T : Type 0} (parts : T → List ℤ) (width : ℕ) → ((x : T) → length (parts x) ≡ width) → (s : Sheet) (prices : List T)
    (size : ℕ) (Member : ℕ → Type 0) (small large : Held → List ℕ → Option ℕ) → LawfulFamily size Member small large
    → Ready (held s) (asked_of width (held s) (map parts prices) small large) size → Lawful s.stations.count (asked_of width (held s) (map parts prices) small large) Member
ready_is_lawful parts width wide s prices size Member small large laws ready =
    lawful_of width (held s) (map parts prices) size Member small large (sheet_is_sound s) laws ready.same_stations ready.column_sized ready.links_priced
    (λ k h. column_wide parts width wide prices k (omega (arith, length-map prices parts, ready.column_sized))) ready.all_entered
