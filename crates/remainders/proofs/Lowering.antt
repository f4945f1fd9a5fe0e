-- A column that is lowered number by number: the links that enter a set have an amount less, and those that
-- come to nothing are noted. One number on, by the places passed and by the numbers noted.
use Rattle.std.proofs.Common.{◌≡◌, ℕ, ◌+◌, ◌<◌, true, false, cond, ◌&&◌, List, [], ◌∷◌, ◌++◌, map, length, get_or, set, ℤ, sym, refl, ap, ◌∙◌, subst, ap₂, arith}
use Rattle.std.proofs.lemmas.List.{append-nil, length-map}
use Rattle.std.proofs.lemmas.Bool.{both_ways, cond-true, cond-false}
use Rattle.amount.specs.Parts.{minus, Fitting}
use Rattle.digraph.specs.Entering.{enters_at}
use Rattle.digraph.specs.Links.{Slots}
use Rattle.remainders.proofs.Reading.{get_or-map_read}
use Rattle.remainders.specs.Column.{spent, gone}
use Rattle.remainders.proofs.Noting.{Noted, noted_none, noted_one_on}
use Rattle.remainders.proofs.Passing.{Passed, passed_none, passed_unwritten, passed_written}

-- what is left of an element that was read, by the column's parts
pub difference_at_read : {X : Type 0} (f : X → List ℤ) (xs : List X) (k : ℕ) (x rest : X) (a : List ℤ) → k < length xs → x ≡ get_or xs k x
    → (Fitting (minus (f x) a) → f rest ≡ minus (f x) a) → Fitting (minus (get_or (map f xs) k []) a) → f rest ≡ minus (get_or (map f xs) k []) a
difference_at_read f xs k x rest a h is taken fits =
    let read = get_or-map_read f xs k x h is in
    taken (subst (λ p. Fitting (minus p a)) read fits) ∙ ap (λ p. minus p a) (sym read)

-- the numbers below k are gone over
pub record Lowered {X : Type 0} (f : X → List ℤ) (width : ℕ) (slots : Slots) (target : ℕ) (a : List ℤ) (old : List X) (old_marks old_order : List ℕ)
    (k : ℕ) (xs : List X) (marks order : List ℕ) : Type 0 where
  pub column : Passed [] k (λ j. cond (enters_at slots j target) (minus (get_or (map f old) j []) a) (get_or (map f old) j [])) (λ j. get_or (map f old) j []) (map f xs)
  pub others : (j : ℕ) (d : X) → enters_at slots j target ≡ false → get_or xs j d ≡ get_or old j d
  pub noted : Noted (gone width slots (map f old) target a) old_marks old_order k marks order

module _ {X : Type 0} (f : X → List ℤ) (width : ℕ) (slots : Slots) (target : ℕ) (a : List ℤ) (old : List X) (old_marks old_order : List ℕ) where
  pub lowered_none : Lowered f width slots target a old old_marks old_order 0 old old_marks old_order
  lowered_none =
      record {
        column = passed_none [] _ (map f old);
        others = λ j d e. refl;
        noted = noted_none _ old_marks old_order old_marks old_order refl refl;
      }

  module _ (k : ℕ) (xs : List X) (marks order : List ℕ) (so_far : Lowered f width slots target a old old_marks old_order k xs marks order) where
    -- nothing is taken yet from what is ahead
    left_ahead : get_or (map f xs) k [] ≡ get_or (map f old) k []
    left_ahead = so_far.column.ahead k (omega arith)

    pub unmarked_ahead : get_or old_marks k 0 ≡ 0 → get_or marks k 0 ≡ 0
    unmarked_ahead e = so_far.noted.marking.ahead k (omega arith) ∙ e

    pub fits_ahead : Fitting (minus (get_or (map f old) k []) a) → Fitting (minus (get_or (map f xs) k []) a)
    fits_ahead fits = subst (λ p. Fitting (minus p a)) (sym left_ahead) fits

    module _ (marked : k < length marks) (ys : List X) (new_marks new_order : List ℕ) where
      pub lowered_here : enters_at slots k target ≡ true → k < length xs
          → map f ys ≡ set (map f xs) k (minus (get_or (map f xs) k []) a)
          → ((j : ℕ) (d : X) → (j ≡ k → ⊥) → get_or ys j d ≡ get_or xs j d)
          → new_marks ≡ cond (spent width (minus (get_or (map f xs) k []) a)) (set marks k 1) marks
          → new_order ≡ order ++ cond (spent width (minus (get_or (map f xs) k []) a)) (k ∷ []) []
          → Lowered f width slots target a old old_marks old_order (k + 1) ys new_marks new_order
      lowered_here enters h fell same m o =
          record {
            column = passed_written [] k _ _ (map f xs) so_far.column (map f ys) (minus (get_or (map f xs) k []) a) (omega (arith, length-map xs f)) fell
                (ap (λ p. minus p a) left_ahead ∙ sym (cond-true _ _ _ enters));
            others = λ j d e. same j d (λ q. both_ways _ e (ap (λ i. enters_at slots i target) q ∙ enters)) ∙ so_far.others j d e;
            noted = noted_one_on _ old_marks old_order k marks order so_far.noted marked new_marks new_order (spent width (minus (get_or (map f xs) k []) a))
                (ap₂ (λ e p. e && spent width (minus p a)) enters (sym left_ahead)) m o;
          }

      pub not_lowered_here : enters_at slots k target ≡ false → ys ≡ xs → new_marks ≡ marks → new_order ≡ order
          → Lowered f width slots target a old old_marks old_order (k + 1) ys new_marks new_order
      not_lowered_here passes same m o =
          record {
            column = passed_unwritten [] k _ _ (map f xs) so_far.column (map f ys) (ap (map f) same) (sym (cond-false _ _ _ passes));
            others = λ j d e. ap (λ zs. get_or zs j d) same ∙ so_far.others j d e;
            noted = noted_one_on _ old_marks old_order k marks order so_far.noted marked new_marks new_order false
                (ap (λ e. e && spent width (minus (get_or (map f old) k []) a)) passes) m (o ∙ sym (append-nil order));
          }
