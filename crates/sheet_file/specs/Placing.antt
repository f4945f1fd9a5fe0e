-- Loading on the sheet alone, the column aside: what is computed on a sheet of its own before
-- anything of the caller's is written.
use Rattle.std.specs.Prelude.{ℕ, ◌+◌, Bool, List, [], ◌∷◌, ℤ, Some, Ok, Result, slice_set}
use Rattle.refusal.specs.Checks.{first}
use Rattle.refusal.specs.declared.Refusal.{Refusal}
use Rattle.refusal.specs.declared.Refusal.TheVariants.{FileRecord, FileTree}
use Rattle.sheet.specs.Calls.{link_checks, tree_checks}
use Rattle.sheet.specs.Held.{Held, opened, with_link, with_tree}
use Rattle.sheet_file.specs.Files.{Entry}
use Rattle.sheet_file.specs.Loading.{unless_refused, and_then, link_of}

-- one record after another, from a place on
abbrev pub placing : ℕ → Held → List Entry → Result Held Refusal
placing place h [] = Ok h
placing place h (e ∷ es) =
    let rest = placing (place + 1) (with_link h e.number (Some (link_of e))) es in
    unless_refused (first (link_checks h e.number e.tail e.head e.price)) (FileRecord place) rest

-- and then the tree, where there is one
abbrev pub planting : Held → List ℕ → Bool → Result Held Refusal
planting h [] spans = Ok h
planting h (k ∷ ks) spans =
    unless_refused (first (tree_checks h (k ∷ ks) spans)) FileTree (Ok (with_tree h (k ∷ ks)))

abbrev pub sheet_from : ℕ → List Entry → List ℕ → Bool → Result Held Refusal
sheet_from stations es tree spans = and_then (placing 0 (opened stations) es) (λ h. planting h tree spans)

-- the column with the price of each record at its number
abbrev pub writing : List (List ℤ) → List Entry → List (List ℤ)
writing ps [] = ps
writing ps (e ∷ es) = writing (slice_set ps e.number e.price) es
