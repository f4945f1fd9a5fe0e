-- What a closure may be asked that is called at each station of a set: only stations that are in the set.
use Rattle.std.proofs.Common.{◌≡◌, ℕ, ◌^◌, ◌<◌, true, eqb, List, [], ◌∷◌, ◌++◌, sym, refl, ap, ◌∙◌, subst}
use Rattle.std.proofs.iter.Serving.{same}
use Rattle.std.proofs.lemmas.Bool.{eq-eqb, or_left, or_right}
use Rattle.std.specs.Iterator.{CallableAtEachTurn, Yields, YieldsFirst}
use Rattle.stations.specs.Sets.{rising}
use Rattle.stations.specs.declared.rising.Stations.{Stations}
use Rattle.stations.proofs.Digits.{In-below}
use Rattle.cuts.specs.Families.{listed}
use Rattle.cuts.proofs.Rising.{rising→In}

behind_listed : (xs ys : List ℕ) (x : ℕ) → listed (xs ++ x ∷ ys) x ≡ true
behind_listed [] ys x = or_left (eqb x x) (listed ys x) (eq-eqb x x refl)
behind_listed (y ∷ xs) ys x = or_right (eqb y x) (listed (xs ++ x ∷ ys) x) (behind_listed xs ys x)

module _ {S : Type 0} (rest : S → List ℕ) where
  came : (xs : List ℕ) (s t : S) → Yields (YieldsFirst rest) s xs t → rest s ≡ xs ++ rest t
  came [] s t y = ap rest y
  came (x ∷ xs) s t (j, first, y) = first ∙ ap (λ (l : List ℕ). x ∷ l) (came xs j t y)

  -- an iterator that takes its items off the front of a list
  serves_listed : {P : Type 0} {R : P → ℕ → P → Type 0} {Q : P → ℕ → Type 0} {s : S} {p : P}
      → ((a : P) (x : ℕ) (b : P) → R a x b → b ≡ a) → ((x : ℕ) → listed (rest s) x ≡ true → Q p x) → CallableAtEachTurn (YieldsFirst rest) R Q s p
  serves_listed {P} {R} {Q} {s} {p} stays serves = record {
    at = λ xs t q x u y calls e.
        subst (λ (k : P). Q k x) (sym (same R stays xs p q calls))
        (serves x (ap (λ (l : List ℕ). listed l x) (came xs s t y ∙ ap (λ (l : List ℕ). xs ++ l) e) ∙ behind_listed xs (rest u) x));
  }

pub serves_stations : {P : Type 0} {R : P → ℕ → P → Type 0} {Q : P → ℕ → Type 0} {s : Stations} {p : P} (n : ℕ) → s.left < 2 ^ n
    → ((a : P) (x : ℕ) (b : P) → R a x b → b ≡ a) → ((x : ℕ) → x < n → Q p x) → CallableAtEachTurn (YieldsFirst (λ (k : Stations). rising k.left)) R Q s p
serves_stations {s = s} n small stays serves = serves_listed (λ (k : Stations). rising k.left) stays (λ x l. serves x (In-below n s.left x small (rising→In s.left 0 64 x l)))
