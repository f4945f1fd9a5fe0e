-- From a family's laws, a sheet and a column that passed their checks to what the stages rest on.
-- Each part is read off what is known; only the prices take an induction, over the links' places.
use Rattle.std.proofs.Common.{◌≡◌, ℕ, zero, suc, ◌^◌, ◌<◌, true, false, not, List, [], ◌∷◌, map, length, get_or, replicate, ℤ, Some, None, Option, sym, refl, subst, ⊎_elim, arith}
use lib.Bits.{bit_and, bit_or}
use Rattle.std.proofs.lemmas.Bool.{both_ways, and_parts, or_cases, not-true}
use Rattle.amount.specs.Parts.{legal}
use Rattle.digraph.specs.Entering.{Entered}
use Rattle.digraph.specs.Links.{Slots}
use Rattle.stations.specs.Sets.{In}
use Rattle.stations.proofs.Digits.{none_or_some}
use Rattle.duality.specs.Families.{Family}
use Rattle.duality.specs.Trees.{is_link}
use Rattle.family.specs.Laws.{Smallest, Largest}
use Rattle.sheet.specs.Calls.{priced, priced_at}
use Rattle.sheet.specs.Held.{Held}
use Rattle.sheet.specs.Sound.{Sound}
use Rattle.stages.specs.Asked.{asked_of}
use Rattle.stages.proofs.Lawful.{Lawful, link_is_placed}

-- the laws of one family
pub record LawfulFamily (size : ℕ) (Member : ℕ → Type 0) (small large : Held → List ℕ → Option ℕ) : Type 0 where
  pub inside : (X : ℕ) → Member X → X < 2 ^ size
  pub some : (X : ℕ) → Member X → X ≡ 0 → ⊥
  pub common_part : (x y s : ℕ) → Member x → Member y → In x s → In y s → Member (bit_and x y)
  pub union : (x y s : ℕ) → Member x → Member y → In x s → In y s → Member (bit_or x y)
  pub smallest_found : (h : Held) (marks : List ℕ) (set : ℕ) → Sound h → h.stations ≡ size → small h marks ≡ Some set → Smallest Member h.links marks set
  pub smallest_none : (h : Held) (marks : List ℕ) (set : ℕ) → Sound h → h.stations ≡ size → small h marks ≡ None → Member set → Entered h.links marks set
  pub largest_found : (h : Held) (marks : List ℕ) (set : ℕ) → Sound h → h.stations ≡ size → large h marks ≡ Some set → Largest Member h.links marks set
  pub largest_none : (h : Held) (marks : List ℕ) (set : ℕ) → Sound h → h.stations ≡ size → large h marks ≡ None → Member set → Entered h.links marks set

-- where every link is priced, each price is legal
legal_here : (slots : Slots) (ps : List (List ℤ)) (k : ℕ) → priced_at slots ps k ≡ true → is_link slots k ≡ true → legal (get_or ps k []) ≡ true
legal_here slots ps k e link =
    ⊎_elim (λ none. absurd (both_ways (is_link slots k) (not-true (is_link slots k) none) link)) (λ l. l) (or_cases (not (is_link slots k)) (legal (get_or ps k [])) e)

pub priced→legal : (slots : Slots) (ps : List (List ℤ)) (k : ℕ) → priced slots ps ≡ true → k < length ps → is_link slots k ≡ true → legal (get_or ps k []) ≡ true
priced→legal [] ps k e h link = absurd (both_ways false refl link)
priced→legal (o ∷ slots) [] k e h link = absurd (omega arith)
priced→legal (o ∷ slots) (p ∷ ps) zero e h link = legal_here (o ∷ slots) (p ∷ ps) 0 (and_parts (priced_at (o ∷ slots) (p ∷ ps) 0) (priced slots ps) e).0 link
priced→legal (o ∷ slots) (p ∷ ps) (suc k) e h link = priced→legal slots ps k (and_parts (priced_at (o ∷ slots) (p ∷ ps) 0) (priced slots ps) e).1 (omega arith) link

-- the parts of a column are as many at each place
pub column_wide : {T : Type 0} (parts : T → List ℤ) (width : ℕ) → ((x : T) → length (parts x) ≡ width) → (xs : List T) (k : ℕ) → k < length xs → length (get_or (map parts xs) k []) ≡ width
column_wide parts width wide [] k h = absurd (omega arith)
column_wide parts width wide (x ∷ xs) zero h = wide x
column_wide parts width wide (x ∷ xs) (suc k) h = column_wide parts width wide xs k (omega arith)

module _ (width : ℕ) (h : Held) (column : List (List ℤ)) (size : ℕ) (Member : ℕ → Type 0) (small large : Held → List ℕ → Option ℕ)
    (sound : Sound h) (laws : LawfulFamily size Member small large) (same : h.stations ≡ size) where
  family_here : Family h.stations Member
  family_here =
      record {
        not_empty = λ X m. ⊎_elim (λ e. absurd (laws.some X m e)) (λ t. t) (none_or_some X);
        inside = λ X m. subst (λ n. X < 2 ^ n) (sym same) (laws.inside X m);
        meet = laws.common_part;
        union = laws.union;
      }

  pub lawful_of : length column ≡ 200 → priced h.links column ≡ true → ((k : ℕ) → k < 200 → length (get_or column k []) ≡ width)
      → small h (replicate 200 1) ≡ None → Lawful h.stations (asked_of width h column small large) Member
  lawful_of sized legal_all wide none =
      record {
        family = family_here;
        some = omega (arith, sound.some);
        few = sound.few;
        sized = sound.sized;
        smallest_found = λ marks X e. laws.smallest_found h marks X sound same e;
        smallest_none = λ marks X e m. laws.smallest_none h marks X sound same e m;
        largest_found = λ marks X e. laws.largest_found h marks X sound same e;
        largest_none = λ marks X e m. laws.largest_none h marks X sound same e m;
        price_wide = λ k link. wide k (omega (arith, link_is_placed h.links k link, sound.sized));
        price_legal = λ k link. priced→legal h.links column k legal_all (omega (arith, link_is_placed h.links k link, sound.sized, sized)) link;
        none_left_out = none;
      }
