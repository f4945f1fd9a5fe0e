-- `below` is a strict total order of lists of whole numbers, of any lengths: like words in a dictionary.
-- Each law is an induction on the lists, whose step is a fact of two or three whole numbers.
use Rattle.std.proofs.Common.{◌≡◌, true, false, List, [], ◌∷◌, ℤ, refl, arith}
use Rattle.std.proofs.lemmas.Int.{ints}
use Rattle.amount.specs.Parts.{below}

pub not_below_itself : (xs : List ℤ) → below xs xs ≡ false
not_below_itself [] = refl
not_below_itself (x ∷ xs) = let ih = not_below_itself xs in grind (arith, ints)

pub not_below_back : (xs ys : List ℤ) → below xs ys ≡ true → below ys xs ≡ false
not_below_back [] [] p = refl
not_below_back [] (y ∷ ys) p = refl
not_below_back (x ∷ xs) [] p = grind arith
not_below_back (x ∷ xs) (y ∷ ys) p = let ih = not_below_back xs ys in grind (arith, ints)

pub below_trans : (xs ys zs : List ℤ) → below xs ys ≡ true → below ys zs ≡ true → below xs zs ≡ true
below_trans [] [] zs p q = q
below_trans [] (y ∷ ys) [] p q = q
below_trans [] (y ∷ ys) (z ∷ zs) p q = refl
below_trans (x ∷ xs) [] [] p q = q
below_trans (x ∷ xs) [] (z ∷ zs) p q = grind arith
below_trans (x ∷ xs) (y ∷ ys) [] p q = q
below_trans (x ∷ xs) (y ∷ ys) (z ∷ zs) p q = let ih = below_trans xs ys zs in grind (arith, ints)

pub not_below_trans : (xs ys zs : List ℤ) → below xs ys ≡ false → below ys zs ≡ false → below xs zs ≡ false
not_below_trans [] [] zs p q = q
not_below_trans [] (y ∷ ys) zs p q = grind arith
not_below_trans (x ∷ xs) ys [] p q = refl
not_below_trans (x ∷ xs) [] (z ∷ zs) p q = grind arith
not_below_trans (x ∷ xs) (y ∷ ys) (z ∷ zs) p q = let ih = not_below_trans xs ys zs in grind (arith, ints)

pub equal_if_neither_below : (xs ys : List ℤ) → below xs ys ≡ false → below ys xs ≡ false → xs ≡ ys
equal_if_neither_below [] [] p q = refl
equal_if_neither_below [] (y ∷ ys) p q = grind arith
equal_if_neither_below (x ∷ xs) [] p q = grind arith
equal_if_neither_below (x ∷ xs) (y ∷ ys) p q =
    let ih = equal_if_neither_below xs ys in
    let same : x ≡ y = grind (arith, ints) in
    let rest : xs ≡ ys = grind (arith, ints) in
    rw (same, rest)
