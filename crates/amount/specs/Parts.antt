-- What an amount means: a list of whole numbers, its parts. Amounts are added and taken from one
-- another part by part, and compared like words in a dictionary, the first part first.
use Rattle.std.specs.Prelude.{ℕ, Bool, true, false, cond, not, ◌&&◌, List, [], ◌∷◌, length, replicate, ℤ, pos, ◌+ℤ◌, ◌-ℤ◌, neg_ℤ, FitsSigned, int_le, int_lt}
use Rattle.std.specs.Int.{w64}

-- part by part; on lists of two lengths, as far as both go
abbrev pub plus : List ℤ → List ℤ → List ℤ
plus [] ys = []
plus (x ∷ xs) [] = []
plus (x ∷ xs) (y ∷ ys) = (x +ℤ y) ∷ plus xs ys

abbrev pub minus : List ℤ → List ℤ → List ℤ
minus [] ys = []
minus (x ∷ xs) [] = []
minus (x ∷ xs) (y ∷ ys) = (x -ℤ y) ∷ minus xs ys

-- the first is less: it has the smaller part at the first difference
abbrev pub below : List ℤ → List ℤ → Bool
below [] [] = false
below [] (y ∷ ys) = true
below (x ∷ xs) [] = false
below (x ∷ xs) (y ∷ ys) = let rest = below xs ys in cond (int_lt x y) true (cond (int_lt y x) false rest)

-- the amount of so many parts that are all 0
abbrev pub nothing : ℕ → List ℤ
nothing width = replicate width (pos 0)

-- the difference, taken in the order that is not below nothing
abbrev pub deviation : List ℤ → List ℤ → List ℤ
deviation xs ys = cond (below xs ys) (minus ys xs) (minus xs ys)

-- every part lies from -limit to limit
abbrev pub within : ℕ → List ℤ → Bool
within limit [] = true
within limit (x ∷ xs) = int_le (neg_ℤ (pos limit)) x && int_le x (pos limit) && within limit xs

-- a price is legal if it is not below nothing and every part lies from -100,000 to 100,000
abbrev pub legal : List ℤ → Bool
legal xs = not (below xs (nothing (length xs))) && within 100000 xs

-- every part fits a signed 64-bit number
abbrev pub Fitting : List ℤ → Type 0
Fitting [] = Unit {0}
Fitting (x ∷ xs) = FitsSigned w64 x × Fitting xs
