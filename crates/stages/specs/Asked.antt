-- What a cover is asked of: links with their prices, and the two questions of a family.
use Rattle.std.specs.Prelude.{◌≡◌, ℕ, ◌<◌, true, cond, List, [], map, ℤ, is_some, None, Option, slice_index_or}
use Rattle.std.specs.List.{range_with_len}
use Rattle.amount.specs.Parts.{nothing}
use Rattle.digraph.specs.Links.{Slots}
use Rattle.duality.specs.Trees.{is_link}
use Rattle.sheet.specs.Held.{Held}

-- prices have so many parts; the price column is given by parts, place by place; a question is what
-- the family answers for given marks
pub record Asked : Type 0 where
  pub width : ℕ
  pub slots : Slots
  pub column : List (List ℤ)
  pub smallest : List ℕ → Option ℕ
  pub largest : List ℕ → Option ℕ

-- asked of what a sheet holds, with a column and a family's two questions
abbrev pub asked_of : ℕ → Held → List (List ℤ) → (Held → List ℕ → Option ℕ) → (Held → List ℕ → Option ℕ) → Asked
asked_of width h column small large =
    record { width = width; slots = h.links; column = column; smallest = small h; largest = large h }

-- a value for each link number
abbrev pub for_each : {A : Type 0} → (ℕ → A) → List A
for_each f = map f (range_with_len 0 200)

-- the price in force of a number: that of its link, and nothing where there is no link
abbrev pub price_of : Asked → ℕ → List ℤ
price_of a k = cond (is_link a.slots k) (slice_index_or a.column k []) (nothing a.width)

-- a question that is put again and again says none after so many sets, and not before
pub record StopsAfter (answers : ℕ → Option ℕ) (times : ℕ) : Type 0 where
  pub before : (i : ℕ) → i < times → is_some (answers i) ≡ true
  pub none : answers times ≡ None
