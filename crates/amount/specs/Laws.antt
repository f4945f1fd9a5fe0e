-- What the method asks of amounts: those of as many parts form an ordered abelian group, in which the
-- deviation of two amounts is their distance.
use Rattle.std.specs.Prelude.{◌≡◌, ℕ, true, false, List, length, ℤ}
use Rattle.amount.specs.Parts.{plus, minus, below, nothing, deviation}

-- the sums and differences of amounts of n parts are such amounts, and undo one another
pub record Group (n : ℕ) : Type 0 where
  pub plus_wide : (xs ys : List ℤ) → length xs ≡ n → length ys ≡ n → length (plus xs ys) ≡ n
  pub minus_wide : (xs ys : List ℤ) → length xs ≡ n → length ys ≡ n → length (minus xs ys) ≡ n
  pub nothing_wide : length (nothing n) ≡ n
  pub commutative : (xs ys : List ℤ) → plus xs ys ≡ plus ys xs
  pub associative : (xs ys zs : List ℤ) → plus (plus xs ys) zs ≡ plus xs (plus ys zs)
  pub with_nothing : (xs : List ℤ) → length xs ≡ n → plus xs (nothing n) ≡ xs
  pub taken_and_added : (xs ys : List ℤ) → length xs ≡ n → length ys ≡ n → plus (minus xs ys) ys ≡ xs
  pub added_and_taken : (xs ys : List ℤ) → length xs ≡ n → length ys ≡ n → minus (plus xs ys) ys ≡ xs

-- of two amounts one is below the other, or they are equal, and never two of these; this asks for no
-- number of parts
pub record Order : Type 0 where
  pub irreflexive : (xs : List ℤ) → below xs xs ≡ false
  pub asymmetric : (xs ys : List ℤ) → below xs ys ≡ true → below ys xs ≡ false
  pub transitive : (xs ys zs : List ℤ) → below xs ys ≡ true → below ys zs ≡ true → below xs zs ≡ true
  pub not_below_transitive : (xs ys zs : List ℤ) → below xs ys ≡ false → below ys zs ≡ false → below xs zs ≡ false
  pub total : (xs ys : List ℤ) → below xs ys ≡ false → below ys xs ≡ false → xs ≡ ys

-- a deviation is a distance: not below nothing, nothing from an amount to itself, the same both ways,
-- at least either difference, and no longer than a way round
pub record Distance (n : ℕ) : Type 0 where
  pub wide : (xs ys : List ℤ) → length xs ≡ n → length ys ≡ n → length (deviation xs ys) ≡ n
  pub not_below_nothing : (xs ys : List ℤ) → length xs ≡ n → length ys ≡ n → below (deviation xs ys) (nothing n) ≡ false
  pub to_itself : (xs : List ℤ) → length xs ≡ n → deviation xs xs ≡ nothing n
  pub symmetric : (xs ys : List ℤ) → deviation xs ys ≡ deviation ys xs
  pub at_least_forth : (xs ys : List ℤ) → length xs ≡ n → length ys ≡ n → below (deviation xs ys) (minus xs ys) ≡ false
  pub at_least_back : (xs ys : List ℤ) → length xs ≡ n → length ys ≡ n → below (deviation xs ys) (minus ys xs) ≡ false
  pub triangle : (xs ys zs : List ℤ) → length xs ≡ n → length ys ≡ n → length zs ≡ n →
      below (plus (deviation xs ys) (deviation ys zs)) (deviation xs zs) ≡ false

-- the group, its order, and that adding or taking the same keeps the order
pub record OrderedGroup (n : ℕ) : Type 0 where
  pub group : Group n
  pub order : Order
  pub plus_keeps_order : (xs ys zs : List ℤ) → length xs ≡ n → length ys ≡ n → length zs ≡ n →
      below (plus xs zs) (plus ys zs) ≡ below xs ys
  pub minus_keeps_order : (xs ys zs : List ℤ) → length xs ≡ n → length ys ≡ n → length zs ≡ n →
      below (minus xs zs) (minus ys zs) ≡ below xs ys
  pub distance : Distance n

abbrev pub AmountsAreOrderedGroups : Type 0
AmountsAreOrderedGroups = (n : ℕ) → OrderedGroup n
