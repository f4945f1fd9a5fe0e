-- What the bytes of a sheet file say. Numbers have their lowest byte first. Byte 0 is the kind of
-- amount, byte 1 the number of stations, bytes 2 and 3 the number of pairs; two pairs follow, each
-- the offset and the length of a section. Bytes outside all of these say nothing.
use Rattle.std.specs.Prelude.{ℕ, zero, suc, ◌+◌, ◌-◌, ◌*◌, ◌/◌, ◌%◌, Bool, not, ◌&&◌, ◌||◌, List, [], ◌∷◌, length, take, drop, ℤ, ◌==◌, nat_lt, slice_index}
use Rattle.amount.specs.Records.{length_of_record, word, price_at}
use Rattle.refusal.specs.Checks.{Check, ◌refuses_with◌}
use Rattle.refusal.specs.declared.Refusal.{Refusal}
use Rattle.refusal.specs.declared.Refusal.TheVariants.{StationCount, FileSize, FileKind, FilePair, FileSection}

-- two bytes as a number
abbrev pub half : List ℕ → ℕ
half bs = slice_index bs 0 + 256 * slice_index bs 1

-- a section of a file: where it starts, and how many bytes it has
pub record Section : Type 0 where
  pub start : ℕ
  pub size : ℕ

-- the byte behind a section
abbrev pub end_of : Section → ℕ
end_of s = s.start + s.size

-- the pair at a place
abbrev pub section_at : List ℕ → ℕ → Section
section_at file at = record { start = word (drop at file); size = word (drop (at + 4) file) }

-- the sections of link records and of the tree
abbrev pub records_section : List ℕ → Section
records_section file = section_at file 4

abbrev pub tree_section : List ℕ → Section
tree_section file = section_at file 12

abbrev pub bytes_of : List ℕ → Section → List ℕ
bytes_of file s = take s.size (drop s.start file)

-- the number of stations
abbrev pub stations_of : List ℕ → ℕ
stations_of file = slice_index file 1

-- a pair is bad if its section starts too early or ends behind the file
abbrev pub bad_pair : List ℕ → ℕ → Section → Bool
bad_pair file earliest s = nat_lt s.start earliest || nat_lt (length file) (end_of s)

-- what turns a file back before its records are looked at, for a kind of amount with so many parts
-- and this byte
abbrev pub file_checks : ℕ → ℕ → List ℕ → List (Check Refusal)
file_checks width kind file =
    ((nat_lt (length file) 20 || nat_lt 4096 (length file)) refuses_with FileSize) ∷
    ((not (slice_index file 0 == kind) || not (half (drop 2 file) == 2)) refuses_with FileKind) ∷
    ((nat_lt (stations_of file) 2 || nat_lt 40 (stations_of file)) refuses_with StationCount) ∷
    ((bad_pair file 20 (records_section file) || bad_pair file (end_of (records_section file)) (tree_section file)) refuses_with FilePair) ∷
    ((not ((records_section file).size % length_of_record width == 0) || (not ((tree_section file).size == 0) && not ((tree_section file).size == stations_of file - 1))) refuses_with FileSection) ∷ []

-- a link record: number, tail and head, a byte each, and then the price
pub record Entry : Type 0 where
  pub number : ℕ
  pub tail : ℕ
  pub head : ℕ
  pub price : List ℤ

abbrev pub entry_of : ℕ → List ℕ → Entry
entry_of width bs = record { number = slice_index bs 0; tail = slice_index bs 1; head = slice_index bs 2; price = price_at width bs }

-- the record of a place, in the bytes of the records' section
abbrev pub entry_at : ℕ → List ℕ → ℕ → Entry
entry_at width bs place = entry_of width (take (length_of_record width) (drop (place * length_of_record width) bs))

-- so many records from a place on
abbrev pub entries_from : ℕ → List ℕ → ℕ → ℕ → List Entry
entries_from width bs place zero = []
entries_from width bs place (suc n) = entry_at width bs place ∷ entries_from width bs (place + 1) n

-- the records of a file, in their order
abbrev pub entries : ℕ → List ℕ → List Entry
entries width file = entries_from width (bytes_of file (records_section file)) 0 ((records_section file).size / length_of_record width)

-- the numbers of its tree, a byte each
abbrev pub tree_numbers : List ℕ → List ℕ
tree_numbers file = bytes_of file (tree_section file)
