-- What the checks of a call and the tests over a sheet's links say, place by place.
use Rattle.std.proofs.Common.{◌≡◌, ℕ, ◌<◌, Bool, true, not, ◌&&◌, ◌||◌, eqb, List, [], ◌∷◌, map, length, get_or, ℤ, is_some, None, refl, sym, ◌∙◌, ap, ⊎_elim, arith}
use Rattle.std.specs.List.{list_all, range_with_len, zip}
use Rattle.std.proofs.lemmas.List.Folds.{list_all-map}
use Rattle.std.proofs.lemmas.List.FromFn.{fill_by_all}
use Rattle.std.proofs.lemmas.List.{get_or_past}
use Rattle.std.proofs.lemmas.List.Recursion.{and_at, or_at}
use Rattle.std.proofs.lemmas.Bool.{both_ways, cases_lt, eq-eqb}
use Rattle.std.proofs.lemmas.Bool.Decides.{nat_tests}
use Rattle.refusal.specs.Checks.{first}
use Rattle.amount.specs.Parts.{legal}
use Rattle.digraph.specs.Links.{Slots, link_at}
use Rattle.sheet.specs.Held.{Held}
use Rattle.sheet.specs.Calls.{priced, listed, all_links, column_checks, link_checks}

-- the test of every link beside its price is the test of the column
pub all_priced : {X : Type 0} (parts : X → List ℤ) (slots : Slots) (prices : List X) → list_all (λ (o, p). not (is_some o) || legal (parts p)) (zip slots prices) ≡ priced slots (map parts prices)
all_priced parts [] prices = refl
all_priced parts (o ∷ slots) [] = refl
all_priced parts (o ∷ slots) (p ∷ prices) = ap (λ b. (not (is_some o) || legal (parts p)) && b) (all_priced parts slots prices)

-- what checks that passed say of their numbers
pub passed_column_is_sized : (h : Held) (ps : List (List ℤ)) → first (column_checks h ps) ≡ None → length ps ≡ 200
passed_column_is_sized h ps e = grind (arith, nat_tests)

pub passed_link_is_numbered : (h : Held) (k t v : ℕ) (p : List ℤ) → first (link_checks h k t v p) ≡ None → k < 200
passed_link_is_numbered h k t v p e = grind (arith, nat_tests)

-- a number that names a link is a place of the table
pub link_is_numbered : (slots : Slots) (k : ℕ) → (is_some (link_at slots k) ≡ true) → k < length slots
link_is_numbered slots k e = ⊎_elim (λ h. h) (λ h. absurd (both_ways _ (ap is_some (get_or_past slots k None h)) e)) (cases_lt k (length slots))

-- each number of a list whose numbers all name links names one
pub named_at_place : (slots : Slots) (ks : List ℕ) → all_links slots ks ≡ true → (i : ℕ) → i < length ks → is_some (link_at slots (get_or ks i 0)) ≡ true
named_at_place slots ks e i h = and_at (all_links slots) (λ k. is_some (link_at slots k)) refl (λ _ _. refl) ks i 0 h e

-- a number at a place of a list is listed
pub listed_at_place : (k : ℕ) (xs : List ℕ) (i : ℕ) → i < length xs → get_or xs i 0 ≡ k → listed k xs ≡ true
listed_at_place k xs i h e = or_at (listed k) (λ x. eqb x k) refl (λ _ _. refl) xs i 0 h (eq-eqb (get_or xs i 0) k e)

-- a test of the numbers of a list is one of its places
pub tested_by_place : (test : ℕ → Bool) (ks : List ℕ) → list_all (λ i. test (get_or ks i 0)) (range_with_len 0 (length ks)) ≡ list_all test ks
tested_by_place test ks =
    sym (list_all-map test (λ i. get_or ks i 0) (range_with_len 0 (length ks)))
    ∙ sym (ap (list_all test) (fill_by_all (λ i. get_or ks i 0) ks (length ks) 0 refl (λ k h. refl)))
