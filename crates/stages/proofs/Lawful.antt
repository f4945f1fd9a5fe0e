-- What the stages rest on: a family that answers lawfully for n stations, legal prices, and that the links
-- enter every member. What follows at once for marks and prices.
use Rattle.std.proofs.Common.{◌≡◌, ℕ, ◌<◌, ◌≤◌, Bool, true, false, cond, not, eqb, ◌⊎◌, List, [], length, get_or, set, replicate, is_some, Some, None, Option, unwrap_or, sym, refl, ap, ◌∙◌, inl, inr, ⊎_elim, arith}
use Rattle.std.proofs.lemmas.List.FromFn.{get_or-map-range_with_len, length-map-range_with_len}
use Rattle.std.proofs.lemmas.List.{get_or_past, get_or-set_same, get_or-set_other}
use Rattle.std.proofs.lemmas.Bool.{both_ways, cases_lt}
use Rattle.amount.specs.Parts.{legal}
use Rattle.digraph.specs.Entering.{enters, enters_at, marked, Entered}
use Rattle.digraph.specs.Links.{Slots, link_at}
use Rattle.digraph.specs.declared.link.Link.{Link}
use Rattle.duality.specs.Families.{Family}
use Rattle.duality.specs.Trees.{is_link}
use Rattle.family.specs.Laws.{Smallest, Largest}
use Rattle.stages.specs.Asked.{Asked, for_each}

pub record Lawful (n : ℕ) (a : Asked) (Member : ℕ → Type 0) : Type 0 where
  pub family : Family n Member
  pub some : 1 ≤ n
  pub few : n ≤ 40
  pub sized : length a.slots ≡ 200
  pub smallest_found : (marks : List ℕ) (set : ℕ) → a.smallest marks ≡ Some set → Smallest Member a.slots marks set
  pub smallest_none : (marks : List ℕ) (set : ℕ) → a.smallest marks ≡ None → Member set → Entered a.slots marks set
  pub largest_found : (marks : List ℕ) (set : ℕ) → a.largest marks ≡ Some set → Largest Member a.slots marks set
  pub largest_none : (marks : List ℕ) (set : ℕ) → a.largest marks ≡ None → Member set → Entered a.slots marks set
  pub price_wide : (k : ℕ) → is_link a.slots k ≡ true → length (get_or a.column k []) ≡ a.width
  pub price_legal : (k : ℕ) → is_link a.slots k ≡ true → legal (get_or a.column k []) ≡ true
  -- with all links marked the question says none
  pub none_left_out : a.smallest (replicate 200 1) ≡ None

-- ---- answers

pub some_value : {A : Type 0} (o : Option A) (d : A) → is_some o ≡ true → o ≡ Some (unwrap_or o d)
some_value None d e = absurd (both_ways false refl e)
some_value (Some x) d e = refl

pub some_is_some : {A : Type 0} (o : Option A) (x : A) → o ≡ Some x → is_some o ≡ true
some_is_some o x e = ap is_some e

pub some_or_none : {A : Type 0} (o : Option A) → ((x : A) × (o ≡ Some x)) ⊎ (o ≡ None)
some_or_none None = inr refl
some_or_none (Some x) = inl (x, refl)

pub not_none : {A : Type 0} (o : Option A) → is_some o ≡ true → o ≡ None → ⊥
not_none o e q = both_ways (is_some o) (ap is_some q) e

-- ---- links

pub entering_is_link : (slots : Slots) (k set : ℕ) → enters_at slots k set ≡ true → is_link slots k ≡ true
entering_is_link slots k set = go (link_at slots k)
  where
    go : (o : Option Link) → enters o set ≡ true → is_some o ≡ true
    go None e = absurd (both_ways false refl e)
    go (Some l) e = refl

pub link_is_placed : (slots : Slots) (k : ℕ) → is_link slots k ≡ true → k < length slots
link_is_placed slots k e = ⊎_elim (λ h. h) (λ h. absurd (both_ways (is_link slots k) (ap is_some (get_or_past slots k None h)) e)) (cases_lt k (length slots))

-- ---- marks

mark_of : (b : Bool) → not (eqb (cond b 1 0) 0) ≡ b
mark_of true = refl
mark_of false = refl

-- a mark for each number that passes a test of links marks just those
pub marked_each : (test : ℕ → Bool) → ((k : ℕ) → 200 ≤ k → test k ≡ false) → (k : ℕ) → marked (for_each (λ j. cond (test j) 1 0)) k ≡ test k
marked_each test beyond k = ⊎_elim here past (cases_lt k 200)
  where
    here : k < 200 → marked (for_each (λ j. cond (test j) 1 0)) k ≡ test k
    here h = ap (λ m. not (eqb m 0)) (get_or-map-range_with_len (λ j. cond (test j) 1 0) 0 200 k k 0 h (omega arith)) ∙ mark_of (test k)

    past : 200 ≤ k → marked (for_each (λ j. cond (test j) 1 0)) k ≡ test k
    past h =
        let f = λ (j : ℕ). cond (test j) 1 0 in
        ap (λ m. not (eqb m 0)) (get_or_past (for_each f) k 0 (omega (arith, length-map-range_with_len f 0 200))) ∙ sym (beyond k h)

pub marked_set_same : (marks : List ℕ) (k : ℕ) → k < length marks → marked (set marks k 1) k ≡ true
marked_set_same marks k h = ap (λ m. not (eqb m 0)) (get_or-set_same marks k 1 0 h)

pub marked_clear_same : (marks : List ℕ) (k : ℕ) → k < length marks → marked (set marks k 0) k ≡ false
marked_clear_same marks k h = ap (λ m. not (eqb m 0)) (get_or-set_same marks k 0 0 h)

pub marked_set_other : (marks : List ℕ) (k j m : ℕ) → (j ≡ k → ⊥) → marked (set marks k m) j ≡ marked marks j
marked_set_other marks k j m ne = ap (λ x. not (eqb x 0)) (get_or-set_other marks k j m 0 ne)

pub marked_is_placed : (marks : List ℕ) (k : ℕ) → marked marks k ≡ true → k < length marks
marked_is_placed marks k e = ⊎_elim (λ h. h) (λ h. absurd (both_ways (marked marks k) (ap (λ m. not (eqb m 0)) (get_or_past marks k 0 h)) e)) (cases_lt k (length marks))
