-- The first set without the base, deepest station first, found depth by depth.
use Rattle.std.proofs.Common.{◌≡◌, ℕ, zero, suc, ◌+◌, ◌-◌, ◌<◌, ◌≤◌, Bool, true, false, cond, not, List, [], ◌∷◌, map, Some, None, Option, sym, refl, ap, ◌∙◌, subst, ⊎_elim, arith}
use Rattle.std.specs.Fn.{Called}
use Rattle.std.specs.Iterator.Runs.{Run, AllItemsGive, CallKeepsClosure, IsFirstToGive, IsIdenticalRun, ItemsCountDown}
use Rattle.std.specs.Option.{IfSome, IsSomeAnd, MatchOption, option_map}
use Rattle.std.specs.Bool.{IsTrue}
use denote.Param.Members.{Mut}
use Rattle.family.specs.Marking.{some_is_not_none}
use Rattle.std.specs.List.{find}
use Rattle.std.proofs.lemmas.Bool.{cases_lt}
use Rattle.stations.specs.Sets.{has, rising}
use Rattle.sheet.specs.Held.{Held}
use Rattle.tree_family.specs.Choices.{around, first_around, first_at_depth, deepest_first}
use Rattle.tree_shape.specs.Trees.{level}
use Rattle.tree_family.specs.Firsts.{first_behind, first_in_front}

-- of the numbers below n, going down to 1, the first at which h has an answer has this one; or h has none at any
abbrev pub FoundDown : (ℕ → Option ℕ) → ℕ → Option ℕ → Type 0
FoundDown h n r = MatchOption r ((d : ℕ) → 0 < d → d < n → h d ≡ None)
    (λ y. (d : ℕ) × (0 < d) × (d < n) × (h d ≡ Some y) × ((e : ℕ) → d < e → e < n → h e ≡ None))

-- what holds of the item that came, whichever number it is known to be
if_some_at : (o : Option ℕ) (m : ℕ) (P : ℕ → Type 0) → option_map (λ y. y) o ≡ Some m → IfSome o P → P m
if_some_at None m P e h = absurd (some_is_not_none e)
if_some_at (Some x) m P e h = let same : x ≡ m = cc in subst P same h

some_at : (o : Option ℕ) (m : ℕ) (P : ℕ → Type 0) → option_map (λ y. y) o ≡ Some m → IsSomeAnd o P → P m
some_at None m P e h = absurd h
some_at (Some x) m P e h = let same : x ≡ m = cc in subst P same h

-- what `find_map` finds along a run that counts down to 1, at a closure that computes h
module _ {F : Type 0} {g : Mut F (ℕ × Unit {0}) (Option ℕ)} {f : F} (h : ℕ → Option ℕ) (gives : (x : ℕ) (r : Option ℕ) (q : F) → Called g f (x, tt) r q → (q ≡ f) × (r ≡ h x))
    {S T : Type 0} {steps : S → Option ℕ → S → Type 0} {others : T → Option ℕ → T → Type 0} (p : Run steps) (q : Run others) (same : IsIdenticalRun p q) (n : ℕ) (down : ItemsCountDown q 1 n) where
  keeps : CallKeepsClosure g f
  keeps (x, _) r s k = (gives x r s k).0

  number_at : (k : ℕ) → k < p.len → option_map (λ y. y) (p.at k) ≡ Some (n - 1 - k)
  number_at k l = ap (option_map (λ y. y)) (sym (same.0.2 k)) ∙ down.3 k (omega (arith, same.0.0))

  pub found_down : (r : Option ℕ) → MatchOption r (IsTrue p.whole × AllItemsGive p g f None) (λ y. (i : ℕ) × (i < p.len) × (p.len ≡ i + 1) × IsFirstToGive p g f (Some y) None i) → FoundDown h n r
  found_down None (whole, all) = λ d pos low.
      let long : p.len ≡ n - 1 = omega (arith, same.0.0, down.1 (same.1 ∙ whole)) in
      let at : option_map (λ y. y) (p.at (n - 1 - d)) ≡ Some d = number_at (n - 1 - d) (omega arith) ∙ ap Some (let z : n - 1 - (n - 1 - d) ≡ d = omega arith in z) in
      sym (gives d None f (if_some_at (p.at (n - 1 - d)) d (λ x. Called g f (x, tt) None f) at (all keeps (n - 1 - d)))).1
  found_down (Some y) (i, within, long, first) =
      let some : i < n - 1 = omega (arith, same.0.0, down.0) in (
        n - 1 - i,
        omega arith,
        omega arith,
        sym (gives (n - 1 - i) (Some y) f (some_at (p.at i) (n - 1 - i) (λ x. Called g f (x, tt) (Some y) f) (number_at i within) (first keeps).0)).1,
        λ e more low.
            let at : option_map (λ y. y) (p.at (n - 1 - e)) ≡ Some e = number_at (n - 1 - e) (omega arith) ∙ ap Some (let z : n - 1 - (n - 1 - e) ≡ e = omega arith in z) in
            sym (gives e None f (some_at (p.at (n - 1 - e)) e (λ x. Called g f (x, tt) None f) at ((first keeps).1 (n - 1 - e) (omega arith)))).1,
      )

module _ (t : Held) (marked : List ℕ) where
  -- the first that is found among the sets around stations
  pub found_first : (vs : List ℕ) → find (λ set. not (has set 0)) (map (around t marked) vs) ≡ first_around t marked vs
  found_first [] = refl
  found_first (v ∷ vs) = go (has (around t marked v) 0) (found_first vs)
    where
      go : (b : Bool) → find (λ set. not (has set 0)) (map (around t marked) vs) ≡ first_around t marked vs
          → cond (not b) (Some (around t marked v)) (find (λ set. not (has set 0)) (map (around t marked) vs)) ≡ cond b (first_around t marked vs) (Some (around t marked v))
      go true rest = rest
      go false rest = refl

  abbrev pub at_depth : ℕ → Option ℕ
  at_depth = first_at_depth t marked

  none_down : (d : ℕ) → ((e : ℕ) → 0 < e → e ≤ d → at_depth e ≡ None) → first_around t marked (deepest_first t d) ≡ None
  unfolding first_at_depth
  none_down zero none = refl
  none_down (suc d) none =
      first_behind t marked (rising (level t (suc d))) (deepest_first t d) (none (suc d) (omega arith) (omega arith)) ∙ none_down d (λ e pos low. none e pos (omega arith))

  some_down : (d k set : ℕ) → 0 < k → k ≤ d → at_depth k ≡ Some set → ((e : ℕ) → k < e → e ≤ d → at_depth e ≡ None) → first_around t marked (deepest_first t d) ≡ Some set
  unfolding first_at_depth
  some_down zero k set pos low is none = absurd (omega arith)
  some_down (suc d) k set pos low is none =
      ⊎_elim
      (λ less. first_behind t marked (rising (level t (suc d))) (deepest_first t d) (none (suc d) less (omega arith)) ∙ some_down d k set pos (omega arith) is (λ e more low'. none e more (omega arith)))
      (λ most. first_in_front t marked (rising (level t (suc d))) (deepest_first t d) set (subst (λ (x : ℕ). at_depth x ≡ Some set) (let z : k ≡ suc d = omega arith in z) is))
      (cases_lt k (suc d))

  pub first_gone_down : (n : ℕ) (r : Option ℕ) → FoundDown at_depth n r → r ≡ first_around t marked (deepest_first t (n - 1))
  first_gone_down n None none = sym (none_down (n - 1) (λ e pos low. none e pos (omega arith)))
  first_gone_down n (Some set) (d, pos, low, is, none) = sym (some_down (n - 1) d set pos (omega arith) is (λ e more low'. none e more (omega arith)))
