-- What a quote is: the cover of the family of the installed tree, and the prices revised by it.
use Rattle.std.specs.Prelude.{◌≡◌, ℕ, Bool, true, false, not, List, [], ◌∷◌, ◌++◌, map, length, ℤ, is_some, slice_index_or}
use Rattle.amount.specs.Parts.{minus}
use Rattle.cover.specs.Filled.{Filled}
use Rattle.duality.specs.Trees.{is_link, cost_of_list, revised}
use Rattle.refusal.specs.Checks.{Check, ◌refuses_with◌}
use Rattle.refusal.specs.declared.Refusal.{Refusal}
use Rattle.refusal.specs.declared.Refusal.TheVariants.{MemorySize, NoTree}
use Rattle.sheet.specs.Calls.{column_checks}
use Rattle.sheet.specs.Held.{Held}
use Rattle.stages.specs.Asked.{Asked, asked_of, price_of}
use Rattle.stages.specs.Packing.{left_of, left_after}
use Rattle.tree_family.specs.Choices.{tree_smallest, tree_largest}
use Rattle.tree_shape.specs.Trees.{tree_of}
use Rattle.quote.specs.Memory.{QuoteMemory}

-- what a quote asks for: the cover of the tree family of what the sheet holds
abbrev pub quote_asked : ℕ → Held → List (List ℤ) → Asked
quote_asked width h column = asked_of width h column (tree_smallest h) (tree_largest h)

-- the checks after the column's: the memory has the right size, and a tree is installed
abbrev pub tree_quote_checks : Held → Bool → List (Check Refusal)
tree_quote_checks h memory_fits = (not memory_fits refuses_with MemorySize) ∷ (not (is_some h.tree) refuses_with NoTree) ∷ []

abbrev pub quote_checks : Held → List (List ℤ) → Bool → List (Check Refusal)
quote_checks h column memory_fits = column_checks h column ++ tree_quote_checks h memory_fits

-- the revised price of a link: of a tree link its price less what is left of it, of any other its price
abbrev pub revised_price : ℕ → Held → List (List ℤ) → ℕ → ℕ → List ℤ
revised_price width h column sets k =
    let a = quote_asked width h column in revised (tree_of h) (price_of a) (left_of (left_after a sets)) k

-- what the installed tree costs at the prices in force
abbrev pub tree_cost : ℕ → Held → List (List ℤ) → List ℤ
tree_cost width h column = cost_of_list width (price_of (quote_asked width h column)) (tree_of h)

-- the memory after a quote that answered a number of sets, the cover's cost and a concession
pub record QuoteFilled {T : Type 0} (parts : T → List ℤ) (width : ℕ) (h : Held) (column : List (List ℤ)) (old new : QuoteMemory T)
    (sets : ℕ) (cost concession : List ℤ) : Type 0 where
  pub covered : Filled parts (quote_asked width h column) old.cover new.cover sets cost
  -- the concession is the cost of the tree less the cost of the cover
  pub concession_is : concession ≡ minus (tree_cost width h column) cost
  -- the revised price of each link, and no other place is touched
  pub revised_written : (k : ℕ) → is_link h.links k ≡ true → slice_index_or (map parts new.revised) k [] ≡ revised_price width h column sets k
  pub revised_untouched : (k : ℕ) (d : T) → is_link h.links k ≡ false → slice_index_or new.revised k d ≡ slice_index_or old.revised k d
  pub revised_sized : length new.revised ≡ length old.revised
