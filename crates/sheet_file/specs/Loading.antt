-- What loading a file comes to: opening, adding and installing what it says, by those calls' own
-- definitions.
use Rattle.std.specs.Prelude.{ℕ, ◌+◌, Bool, false, not, ◌||◌, List, [], ◌∷◌, length, replicate, ℤ, Some, None, Ok, Err, Option, Result, ◌==◌, slice_set}
use Rattle.refusal.specs.Checks.{Check, first, ◌refuses_with◌}
use Rattle.refusal.specs.declared.Refusal.{Refusal}
use Rattle.refusal.specs.declared.Refusal.TheVariants.{ColumnSize, FileRecord, FileTree}
use Rattle.digraph.specs.Links.{Slots}
use Rattle.digraph.specs.declared.link.Link.{Link}
use Rattle.sheet.specs.Calls.{add_checks_told, install_checks_told}
use Rattle.sheet.specs.Held.{Held, opened, with_link, with_tree}
use Rattle.sheet_file.specs.Files.{Entry, entries, stations_of, tree_numbers, file_checks}

-- a sheet with its price column
pub record Priced : Type 0 where
  pub sheet : Held
  pub column : List (List ℤ)

abbrev pub with_column : Held → List (List ℤ) → Priced
with_column h ps = record { sheet = h; column = ps }

-- a refusal, told in some words, or where there is none what comes of going on
abbrev pub unless_refused : {A E : Type 0} → Option E → (E → Refusal) → Result A Refusal → Result A Refusal
unless_refused None told r = r
unless_refused (Some e) told r = Err (told e)

abbrev pub and_then : {A B : Type 0} → Result A Refusal → (A → Result B Refusal) → Result B Refusal
and_then (Ok a) f = f a
and_then (Err e) f = Err e

abbrev pub link_of : Entry → Link
link_of e = record { tail = e.tail; head = e.head }

-- what an accepted add leaves
abbrev pub with_entry : Priced → Entry → Priced
with_entry s e =
    with_column (with_link s.sheet e.number (Some (link_of e))) (slice_set s.column e.number e.price)

-- adding one record after another, from a place on; what is wrong with a link is told with its place
abbrev pub adding : ℕ → Priced → List Entry → Result Priced Refusal
adding place s [] = Ok s
adding place s (e ∷ es) =
    let rest = adding (place + 1) (with_entry s e) es in
    unless_refused (first (add_checks_told (FileRecord place) s.sheet s.column e.number e.tail e.head e.price)) (λ r. r) rest

-- installing a tree, where there is one; `spans` says whether it is a spanning tree
abbrev pub installing : Priced → List ℕ → Bool → Result Priced Refusal
installing s [] spans = Ok s
installing s (k ∷ ks) spans =
    unless_refused (first (install_checks_told FileTree s.sheet s.column (k ∷ ks) spans)) (λ r. r)
    (Ok (with_column (with_tree s.sheet (k ∷ ks)) s.column))

abbrev pub load_checks : ℕ → ℕ → List ℕ → List (List ℤ) → List (Check Refusal)
load_checks width kind file column = (not (length column == 200) refuses_with ColumnSize) ∷ file_checks width kind file

-- the sheet and the column after a load, or its refusal
abbrev pub loading : ℕ → ℕ → List ℕ → List (List ℤ) → Bool → Result Priced Refusal
loading width kind file column spans =
    unless_refused (first (load_checks width kind file column)) (λ r. r)
    (and_then (adding 0 (with_column (opened (stations_of file)) column) (entries width file))
    (λ s. installing s (tree_numbers file) spans))

-- the links that the records of a file put on a sheet
abbrev pub links_of : Slots → List Entry → Slots
links_of slots [] = slots
links_of slots (e ∷ es) = links_of (slice_set slots e.number (Some (link_of e))) es

-- a table without links
abbrev pub no_links : Slots
no_links = replicate 200 None

abbrev pub file_links : ℕ → List ℕ → Slots
file_links width file = links_of no_links (entries width file)

-- some record of a file has this number
abbrev pub mentions : ℕ → List Entry → Bool
mentions k [] = false
mentions k (e ∷ es) = e.number == k || mentions k es
