-- The lines that are written: words and numbers with one space between, and a line feed.
use Rattle.std.specs.Prelude.{ℕ, Bool, List, [], ◌∷◌, ◌++◌, length, drop, codes, decimal, nat_lt}
use Rattle.refusal.specs.Numbers.{number_of, carried_by}
use Rattle.refusal.specs.declared.Refusal.{Refusal}

-- a text buffer under 32,768 bytes
abbrev pub too_small : List ℕ → Bool
too_small text = nat_lt (length text) 32768

-- a line from the first byte of a text on, and the bytes of the text behind it
abbrev pub laid : List ℕ → List ℕ → List ℕ
laid line text = line ++ drop (length line) text

-- numbers in base ten (`decimal`), a space before each
abbrev pub spaced : List ℕ → List ℕ
spaced [] = []
spaced (n ∷ ns) = 32 ∷ (decimal n ++ spaced ns)

-- the line of a refusal: the bytes of the word (`codes`), its number and what it carries
abbrev pub line_of_refusal : Refusal → List ℕ
line_of_refusal e = codes "refused" ++ (spaced (number_of e ∷ carried_by e) ++ (10 ∷ []))
