-- A column that is written at listed places, one place more: the places listed so far hold what they
-- should, and all others what they did.
use Rattle.std.proofs.Common.{◌≡◌, ℕ, ◌+◌, ◌<◌, Bool, true, false, ◌||◌, eqb, ◌⊎◌, List, [], ◌∷◌, ◌++◌, map, length, get_or, take, set, ℤ, sym, refl, ap, ◌∙◌, subst, inl, inr, ⊎_elim, arith}
use Rattle.std.proofs.lemmas.List.{take_more, length-map, map-set, get_or-set_same, get_or-set_other}
use Rattle.std.proofs.lemmas.Bool.{both_ways, cases_Bool, or_cases, or_parts, eqb-true, eqb-false}
use Rattle.cuts.specs.Families.{listed}

listed_push : (list : List ℕ) (x k : ℕ) → listed (list ++ x ∷ []) k ≡ (listed list k || eqb x k)
listed_push [] x k = go (eqb x k)
  where
    go : (b : Bool) → (b || false) ≡ b
    go true = refl
    go false = refl
listed_push (y ∷ list) x k = go (eqb y k) (listed list k) (eqb x k) (listed_push list x k)
  where
    go : (a b c : Bool) {d : Bool} → d ≡ (b || c) → (a || d) ≡ ((a || b) || c)
    go true b c e = refl
    go false b c e = e

-- the places listed so far hold what they should, the others are as they were
pub record Written {T : Type 0} (parts : T → List ℤ) (wanted : ℕ → List ℤ) (list : List ℕ) (old new : List T) : Type 0 where
  pub lowered : (k : ℕ) → listed list k ≡ true → get_or (map parts new) k [] ≡ wanted k
  pub others : (k : ℕ) (d : T) → listed list k ≡ false → get_or new k d ≡ get_or old k d

pub written_none : {T : Type 0} (parts : T → List ℤ) (wanted : ℕ → List ℤ) (old : List T) → Written parts wanted [] old old
written_none parts wanted old = record { lowered = λ k e. absurd (both_ways false refl e); others = λ k d e. refl }

module _ {T : Type 0} (parts : T → List ℤ) (wanted : ℕ → List ℤ) (list : List ℕ) (old now : List T) (i : ℕ) (here : i < length list)
    (so_far : Written parts wanted (take i list) old now) (x : T) (placed : get_or list i 0 < length now) (right : parts x ≡ wanted (get_or list i 0)) where
  listed_now : (k : ℕ) → listed (take (i + 1) list) k ≡ (listed (take i list) k || eqb (get_or list i 0) k)
  listed_now k = ap (λ l. listed l k) (take_more list i 0 here) ∙ listed_push (take i list) (get_or list i 0) k

  written_here : get_or (map parts (set now (get_or list i 0) x)) (get_or list i 0) [] ≡ wanted (get_or list i 0)
  written_here =
      ap (λ l. get_or l (get_or list i 0) []) (map-set parts now (get_or list i 0) x)
      ∙ get_or-set_same (map parts now) (get_or list i 0) (parts x) [] (omega (arith, length-map now parts)) ∙ right

  pub written_one_more : Written parts wanted (take (i + 1) list) old (set now (get_or list i 0) x)
  written_one_more =
      record {
        lowered = λ k e. go k (cases_Bool (eqb (get_or list i 0) k)) (sym (listed_now k) ∙ e);
        others = λ k d e.
            let both = or_parts (listed (take i list) k) (eqb (get_or list i 0) k) (sym (listed_now k) ∙ e) in
            get_or-set_other now (get_or list i 0) k x d (λ q. eqb-false (get_or list i 0) k both.1 (sym q)) ∙ so_far.others k d both.0;
      }
    where
      go : (k : ℕ) → (eqb (get_or list i 0) k ≡ true) ⊎ (eqb (get_or list i 0) k ≡ false) → (listed (take i list) k || eqb (get_or list i 0) k) ≡ true
          → get_or (map parts (set now (get_or list i 0) x)) k [] ≡ wanted k
      go k (inl same) e = subst (λ j. get_or (map parts (set now (get_or list i 0) x)) j [] ≡ wanted j) (eqb-true (get_or list i 0) k same) written_here
      go k (inr differs) e =
          ap (λ l. get_or l k []) (map-set parts now (get_or list i 0) x)
          ∙ get_or-set_other (map parts now) (get_or list i 0) k (parts x) [] (λ q. eqb-false (get_or list i 0) k differs (sym q))
          ∙ so_far.lowered k (⊎_elim (λ l. l) (λ l. absurd (both_ways (eqb (get_or list i 0) k) differs l)) (or_cases (listed (take i list) k) (eqb (get_or list i 0) k) e))
