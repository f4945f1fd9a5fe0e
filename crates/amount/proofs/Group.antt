-- Lists of as many parts form an ordered abelian group under `plus`, with `deviation` as its absolute
-- difference. The laws of the parts are inductions on the lists; those of `deviation` follow from them.
use Rattle.std.proofs.Common.{◌≡◌, ℕ, zero, suc, false, List, [], ◌∷◌, length, ℤ, pos, ◌+ℤ◌, ◌-ℤ◌, refl, ap, ◌∙◌, arith}
use lib.ListN.{length-replicate}
use Rattle.std.proofs.lemmas.Int.{ints}
use Rattle.amount.specs.Parts.{plus, minus, below, nothing, deviation}
use Rattle.amount.specs.Laws.{Group, Order, Distance, OrderedGroup}
use Rattle.amount.proofs.Order.{not_below_itself, not_below_back, below_trans, not_below_trans, equal_if_neither_below}

-- the group

pub plus_comm : (xs ys : List ℤ) → plus xs ys ≡ plus ys xs
plus_comm [] [] = refl
plus_comm [] (y ∷ ys) = refl
plus_comm (x ∷ xs) [] = refl
plus_comm (x ∷ xs) (y ∷ ys) =
    let first : (x +ℤ y) ≡ (y +ℤ x) = omega (arith, ints) in
    let rest = plus_comm xs ys in
    cc

pub plus_assoc : (xs ys zs : List ℤ) → plus (plus xs ys) zs ≡ plus xs (plus ys zs)
plus_assoc [] ys zs = refl
plus_assoc (x ∷ xs) [] zs = refl
plus_assoc (x ∷ xs) (y ∷ ys) [] = refl
plus_assoc (x ∷ xs) (y ∷ ys) (z ∷ zs) =
    let first : ((x +ℤ y) +ℤ z) ≡ (x +ℤ (y +ℤ z)) = omega (arith, ints) in
    let rest = plus_assoc xs ys zs in
    cc

pub length_nothing : (n : ℕ) → length (nothing n) ≡ n
length_nothing n = length-replicate n (pos 0)

pub length_plus : {n : ℕ} (xs ys : List ℤ) → length xs ≡ n → length ys ≡ n → length (plus xs ys) ≡ n
length_plus [] ys p q = p
length_plus (x ∷ xs) [] p q = q
length_plus (x ∷ xs) (y ∷ ys) p q = ap suc (length_plus xs ys refl (omega arith)) ∙ p

pub length_minus : {n : ℕ} (xs ys : List ℤ) → length xs ≡ n → length ys ≡ n → length (minus xs ys) ≡ n
length_minus [] ys p q = p
length_minus (x ∷ xs) [] p q = q
length_minus (x ∷ xs) (y ∷ ys) p q = ap suc (length_minus xs ys refl (omega arith)) ∙ p

pub plus_nothing : (n : ℕ) (xs : List ℤ) → length xs ≡ n → plus xs (nothing n) ≡ xs
plus_nothing n [] p = refl
plus_nothing zero (x ∷ xs) p = grind arith
plus_nothing (suc n) (x ∷ xs) p =
    let first : (x +ℤ pos 0) ≡ x = omega (arith, ints) in
    let rest = plus_nothing n xs (omega arith) in
    cc

pub minus_plus : {n : ℕ} (xs ys : List ℤ) → length xs ≡ n → length ys ≡ n → plus (minus xs ys) ys ≡ xs
minus_plus [] ys p q = refl
minus_plus (x ∷ xs) [] p q = grind arith
minus_plus (x ∷ xs) (y ∷ ys) p q =
    let first : ((x -ℤ y) +ℤ y) ≡ x = omega (arith, ints) in
    let rest = minus_plus xs ys refl (omega arith) in
    cc

pub plus_minus : {n : ℕ} (xs ys : List ℤ) → length xs ≡ n → length ys ≡ n → minus (plus xs ys) ys ≡ xs
plus_minus [] ys p q = refl
plus_minus (x ∷ xs) [] p q = grind arith
plus_minus (x ∷ xs) (y ∷ ys) p q =
    let first : ((x +ℤ y) -ℤ y) ≡ x = omega (arith, ints) in
    let rest = plus_minus xs ys refl (omega arith) in
    cc

pub minus_itself : (n : ℕ) (xs : List ℤ) → length xs ≡ n → minus xs xs ≡ nothing n
minus_itself zero [] p = refl
minus_itself (suc n) [] p = grind arith
minus_itself zero (x ∷ xs) p = grind arith
minus_itself (suc n) (x ∷ xs) p =
    let first : (x -ℤ x) ≡ pos 0 = omega (arith, ints) in
    let rest = minus_itself n xs (omega arith) in
    cc

-- a difference is the sum of those to and from a third
pub minus_by_way : {n : ℕ} (xs ys zs : List ℤ) → length xs ≡ n → length ys ≡ n → length zs ≡ n →
    plus (minus xs ys) (minus ys zs) ≡ minus xs zs
minus_by_way [] ys zs p q r = refl
minus_by_way (x ∷ xs) [] zs p q r = grind arith
minus_by_way (x ∷ xs) (y ∷ ys) [] p q r = refl
minus_by_way (x ∷ xs) (y ∷ ys) (z ∷ zs) p q r =
    let first : ((x -ℤ y) +ℤ (y -ℤ z)) ≡ (x -ℤ z) = omega (arith, ints) in
    let rest = minus_by_way xs ys zs refl (omega arith) (omega arith) in
    cc

-- the group and the order

pub below_plus : {n : ℕ} (xs ys zs : List ℤ) → length xs ≡ n → length ys ≡ n → length zs ≡ n →
    below (plus xs zs) (plus ys zs) ≡ below xs ys
below_plus [] [] zs p q r = refl
below_plus [] (y ∷ ys) zs p q r = grind arith
below_plus (x ∷ xs) [] zs p q r = grind arith
below_plus (x ∷ xs) (y ∷ ys) [] p q r = grind arith
below_plus (x ∷ xs) (y ∷ ys) (z ∷ zs) p q r =
    let ih = below_plus xs ys zs refl (omega arith) (omega arith) in grind (arith, ints)

pub below_minus : {n : ℕ} (xs ys zs : List ℤ) → length xs ≡ n → length ys ≡ n → length zs ≡ n →
    below (minus xs zs) (minus ys zs) ≡ below xs ys
below_minus [] [] zs p q r = refl
below_minus [] (y ∷ ys) zs p q r = grind arith
below_minus (x ∷ xs) [] zs p q r = grind arith
below_minus (x ∷ xs) (y ∷ ys) [] p q r = grind arith
below_minus (x ∷ xs) (y ∷ ys) (z ∷ zs) p q r =
    let ih = below_minus xs ys zs refl (omega arith) (omega arith) in grind (arith, ints)

pub minus_below_nothing : (n : ℕ) (xs ys : List ℤ) → length xs ≡ n → length ys ≡ n →
    below (minus xs ys) (nothing n) ≡ below xs ys
minus_below_nothing n xs ys p q = rw (← minus_itself n ys q) (below_minus xs ys ys p q q)

pub nothing_below_minus : (n : ℕ) (xs ys : List ℤ) → length xs ≡ n → length ys ≡ n →
    below (nothing n) (minus xs ys) ≡ below ys xs
nothing_below_minus n xs ys p q = rw (← minus_itself n ys q) (below_minus ys xs ys q p q)

-- sums of amounts that are not below others are not below the sum of these
pub not_below_plus : {n : ℕ} (xs ys us vs : List ℤ) →
    length xs ≡ n → length ys ≡ n → length us ≡ n → length vs ≡ n →
    below xs ys ≡ false → below us vs ≡ false → below (plus xs us) (plus ys vs) ≡ false
not_below_plus xs ys us vs p q r s first second =
    not_below_trans (plus xs us) (plus ys us) (plus ys vs)
    (below_plus xs ys us p q r ∙ first)
    (rw (plus_comm ys us, plus_comm ys vs) (below_plus us vs ys r s q ∙ second))

-- deviations

pub length_deviation : {n : ℕ} (xs ys : List ℤ) → length xs ≡ n → length ys ≡ n → length (deviation xs ys) ≡ n
length_deviation xs ys p q =
    let one = length_minus xs ys p q in
    let other = length_minus ys xs q p in
    grind arith

pub deviation_symmetric : (xs ys : List ℤ) → deviation xs ys ≡ deviation ys xs
deviation_symmetric xs ys =
    let back = not_below_back xs ys in
    let same = equal_if_neither_below xs ys in
    grind arith

pub deviation_itself : (n : ℕ) (xs : List ℤ) → length xs ≡ n → deviation xs xs ≡ nothing n
deviation_itself n xs p = rw (not_below_itself xs) (minus_itself n xs p)

pub deviation_not_below_nothing : (n : ℕ) (xs ys : List ℤ) → length xs ≡ n → length ys ≡ n →
    below (deviation xs ys) (nothing n) ≡ false
deviation_not_below_nothing n xs ys p q =
    let one = minus_below_nothing n xs ys p q in
    let other = minus_below_nothing n ys xs q p in
    let back = not_below_back xs ys in
    grind arith

pub deviation_not_below_minus : {n : ℕ} (xs ys : List ℤ) → length xs ≡ n → length ys ≡ n →
    below (deviation xs ys) (minus xs ys) ≡ false
deviation_not_below_minus {n} xs ys p q =
    let back = not_below_back xs ys in
    let same = not_below_itself (minus xs ys) in
    let through = not_below_trans (minus ys xs) (nothing n) (minus xs ys) in
    let one = minus_below_nothing n ys xs q p in
    let other = nothing_below_minus n xs ys p q in
    grind arith

pub deviation_not_below_minus_back : {n : ℕ} (xs ys : List ℤ) → length xs ≡ n → length ys ≡ n →
    below (deviation xs ys) (minus ys xs) ≡ false
deviation_not_below_minus_back xs ys p q =
    rw (deviation_symmetric xs ys) (deviation_not_below_minus ys xs q p)

-- the sum of the deviations to and from a third is not below the difference
deviations_not_below_minus : {n : ℕ} (xs ys zs : List ℤ) → length xs ≡ n → length ys ≡ n → length zs ≡ n →
    below (plus (deviation xs ys) (deviation ys zs)) (minus xs zs) ≡ false
deviations_not_below_minus xs ys zs p q r =
    rw (← minus_by_way xs ys zs p q r)
    (not_below_plus (deviation xs ys) (minus xs ys) (deviation ys zs) (minus ys zs)
    (length_deviation xs ys p q) (length_minus xs ys p q) (length_deviation ys zs q r) (length_minus ys zs q r)
    (deviation_not_below_minus xs ys p q) (deviation_not_below_minus ys zs q r))

pub deviation_triangle : {n : ℕ} (xs ys zs : List ℤ) → length xs ≡ n → length ys ≡ n → length zs ≡ n →
    below (plus (deviation xs ys) (deviation ys zs)) (deviation xs zs) ≡ false
deviation_triangle xs ys zs p q r =
    let forth = deviations_not_below_minus xs ys zs p q r in
    let back : below (plus (deviation xs ys) (deviation ys zs)) (minus zs xs) ≡ false =
    rw (plus_comm (deviation xs ys) (deviation ys zs), deviation_symmetric xs ys, deviation_symmetric ys zs)
    (deviations_not_below_minus zs ys xs r q p) in
    grind arith

-- together

pub group : (n : ℕ) → Group n
group n =
    record {
      plus_wide = length_plus;
      minus_wide = length_minus;
      nothing_wide = length_nothing n;
      commutative = plus_comm;
      associative = plus_assoc;
      with_nothing = plus_nothing n;
      taken_and_added = minus_plus;
      added_and_taken = plus_minus;
    }

pub order : Order
order =
    record {
      irreflexive = not_below_itself;
      asymmetric = not_below_back;
      transitive = below_trans;
      not_below_transitive = not_below_trans;
      total = equal_if_neither_below;
    }

pub distance : (n : ℕ) → Distance n
distance n =
    record {
      wide = length_deviation;
      not_below_nothing = deviation_not_below_nothing n;
      to_itself = deviation_itself n;
      symmetric = deviation_symmetric;
      at_least_forth = deviation_not_below_minus;
      at_least_back = deviation_not_below_minus_back;
      triangle = deviation_triangle;
    }

pub ordered_group : (n : ℕ) → OrderedGroup n
ordered_group n =
    record {
      group = group n;
      order = order;
      plus_keeps_order = below_plus;
      minus_keeps_order = below_minus;
      distance = distance n;
    }
