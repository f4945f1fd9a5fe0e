-- The loops over a file's records, one record on: what is still to come brings the sheet, or the
-- column, to the answer. By taking the first record off those to come.
use Rattle.std.proofs.Common.{◌≡◌, ℕ, zero, suc, ◌+◌, ◌-◌, ◌*◌, ◌/◌, ◌<◌, ◌≤◌, true, false, eqb, List, ◌∷◌, set, ℤ, is_ok, Result, MatchResult, Some, None, Ok, Err, refl, sym, ap, ◌∙◌, suc-mul, div-mul-le_self, arith}
use Rattle.std.proofs.lemmas.Nat.{mul-le}
use Rattle.std.specs.Result.{IsErrAnd, result_err}
use Rattle.std.proofs.lemmas.Bool.{or_parts, eqb-false, false≢true}
use Rattle.refusal.specs.Checks.{first}
use Rattle.refusal.specs.declared.LinkRefusal.{LinkRefusal}
use Rattle.refusal.specs.declared.Refusal.{Refusal}
use Rattle.refusal.specs.declared.Refusal.TheVariants.{FileRecord}
use Rattle.sheet.specs.Calls.{link_checks}
use Rattle.sheet.specs.Held.{Held, with_link}
use Rattle.sheet_file.specs.Files.{Entry, entry_at, entries_from}
use Rattle.sheet_file.specs.Loading.{unless_refused, link_of, mentions}
use Rattle.sheet_file.specs.Placing.{placing, writing}

-- a record of a whole section lies inside it
pub record_is_inside : (n size place : ℕ) → place < n / size → place * size + size ≤ n
record_is_inside n size place h =
    omega (arith, suc-mul place size, mul-le (suc place) size (n / size) size h (omega arith), div-mul-le_self n size)

-- a record taken off the front of those to come
entries_unrolled : (w : ℕ) (bs : List ℕ) (place n : ℕ) → place < n → entries_from w bs place (n - place) ≡ (entry_at w bs place ∷ entries_from w bs (place + 1) (n - (place + 1)))
entries_unrolled w bs place n h = let one_less : n - place ≡ suc (n - (place + 1)) = omega arith in ap (entries_from w bs place) one_less

-- what one record does to a sheet
module _ (place : ℕ) (h : Held) (e : Entry) (es : List Entry) where
  pub placing_refused : (why : LinkRefusal) → first (link_checks h e.number e.tail e.head e.price) ≡ Some why → placing place h (e ∷ es) ≡ Err (FileRecord place why)
  placing_refused why q = ap (λ o. unless_refused o (FileRecord place) (placing (place + 1) (with_link h e.number (Some (link_of e))) es)) q

  pub placing_accepted : first (link_checks h e.number e.tail e.head e.price) ≡ None → placing place h (e ∷ es) ≡ placing (place + 1) (with_link h e.number (Some (link_of e))) es
  placing_accepted q = ap (λ o. unless_refused o (FileRecord place) (placing (place + 1) (with_link h e.number (Some (link_of e))) es)) q

-- a link that was placed, and one that was refused, told with its place
pub placed_ok : (r : Result (Unit {0}) LinkRefusal) → is_ok r ≡ true → result_err r ≡ None
placed_ok (Ok _) e = refl
placed_ok (Err why) e = absurd (false≢true e)

pub placed_err
    : {Gives : LinkRefusal → Refusal → Type 0} (place : ℕ)
    → ((why : LinkRefusal) (d : Refusal) → Gives why d → d ≡ FileRecord place why)
    → (r : Result (Unit {0}) LinkRefusal) (told : Result (Unit {0}) Refusal) (e : Refusal)
    → MatchResult r (λ x. told ≡ Ok x) (λ why. IsErrAnd told (Gives why))
    → told ≡ Err e
    → (why : LinkRefusal) × (result_err r ≡ Some why) × (e ≡ FileRecord place why)
placed_err place gives (Ok x) told e m q = absurd (let z : ◌≡◌ {A = ℕ} 0 1 = cc in omega arith)
placed_err place gives (Err why) told e m q = (why, refl, gives why e (rw q at m))

-- the same inside the loop, where e is the record that was read
module _ (w : ℕ) (bs : List ℕ) (place n : ℕ) (here : place < n) (e : Entry) (read : e ≡ entry_at w bs place) where
  to_come : entries_from w bs place (n - place) ≡ (e ∷ entries_from w bs (place + 1) (n - (place + 1)))
  to_come = entries_unrolled w bs place n here ∙ ap (λ x. x ∷ entries_from w bs (place + 1) (n - (place + 1))) (sym read)

  pub refused_here : (h : Held) (why : LinkRefusal) → first (link_checks h e.number e.tail e.head e.price) ≡ Some why → placing place h (entries_from w bs place (n - place)) ≡ Err (FileRecord place why)
  refused_here h why q = ap (placing place h) to_come ∙ placing_refused place h e (entries_from w bs (place + 1) (n - (place + 1))) why q

  pub accepted_here : (h after : Held) → first (link_checks h e.number e.tail e.head e.price) ≡ None → after ≡ with_link h e.number (Some (link_of e)) → placing (place + 1) after (entries_from w bs (place + 1) (n - (place + 1))) ≡ placing place h (entries_from w bs place (n - place))
  accepted_here h after q made =
      ap (λ x. placing (place + 1) x (entries_from w bs (place + 1) (n - (place + 1)))) made ∙ sym (ap (placing place h) to_come ∙ placing_accepted place h e (entries_from w bs (place + 1) (n - (place + 1))) q)

  pub written_here : (ps after : List (List ℤ)) → after ≡ set ps e.number e.price → writing after (entries_from w bs (place + 1) (n - (place + 1))) ≡ writing ps (entries_from w bs place (n - place))
  written_here ps after made = ap (λ x. writing x (entries_from w bs (place + 1) (n - (place + 1)))) made ∙ sym (ap (writing ps) to_come)

-- a number that no record has is not that of any place
pub not_mentioned_at : (w : ℕ) (bs : List ℕ) (k start n : ℕ) → mentions k (entries_from w bs start n) ≡ false → (i : ℕ) → i < n → k ≡ (entry_at w bs (start + i)).number → ⊥
not_mentioned_at w bs k start zero none i h e = omega arith
not_mentioned_at w bs k start (suc n) none zero h e =
    let apart = (or_parts (eqb (entry_at w bs start).number k) (mentions k (entries_from w bs (start + 1) n)) none).0 in
    eqb-false (entry_at w bs start).number k apart (sym (e ∙ ap (λ x. (entry_at w bs x).number) (let z : start + 0 ≡ start = omega arith in z)))
not_mentioned_at w bs k start (suc n) none (suc i) h e =
    not_mentioned_at w bs k (start + 1) n (or_parts (eqb (entry_at w bs start).number k) (mentions k (entries_from w bs (start + 1) n)) none).1 i (omega arith)
    (e ∙ ap (λ x. (entry_at w bs x).number) (let z : start + suc i ≡ start + 1 + i = omega arith in z))
