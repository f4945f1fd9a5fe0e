-- What `min_by_key` picks: of the items the first with the least key.
use Rattle.std.proofs.Common.{◌≡◌, ℕ, zero, suc, ◌+◌, Bool, true, false, cond, not, nat_lt, List, [], ◌∷◌, map, Option, Some, None, count_ones, sym, ap, ◌∙◌, subst, refl, ⊎_elim, arith}
use Rattle.std.specs.Cmp.{nat_cmp_is}
use Rattle.std.specs.List.{filter, fold, range_with_len}
use Rattle.std.specs.Ordering.{nat_cmp}
use Rattle.std.proofs.lemmas.Bool.{cases_lt, ltb-true, ltb-false}
use Rattle.stations.specs.Sets.{has}
use Rattle.digraph.specs.Search.{reach_set}
use Rattle.family.specs.Choices.{fewest_from}
use Rattle.std.specs.Fn.{CalledAt}
use Rattle.std.specs.Iterator.{KeyTurn, PicksMinByKey}
use Rattle.std.specs.List.{FoldsTo, reduce}
use Rattle.std.specs.Ordering.{min_by_ordering}
use Rattle.std.specs.declared.cmp.Ordering.{Ordering}
use Rattle.std.specs.declared.cmp.Ordering.TheVariants.{Less, Equal, Greater}
use Rattle.std.proofs.lemmas.Iterator.{YieldsList}
use Rattle.std.proofs.lemmas.Iterator.Consumers.{reduce_from_yields_List}
use denote.Param.Members.{Mut}
use denote.Ref.{Bor}

module _ {A K : Type 0} (cmp : K → K → Ordering) (key : A → K) where
  -- of two items the one with the lesser key, the first among equals
  abbrev pub lesser : A → A → A
  lesser p z = min_by_ordering (cmp (key p) (key z)) p z

  key_of_picked : (o : Ordering) (p z : A) → min_by_ordering o (key p) (key z) ≡ key (min_by_ordering o p z)
  key_of_picked Less p z = refl
  key_of_picked Equal p z = refl
  key_of_picked Greater p z = refl

  module _ {F : Type 0} {g : Mut F (Bor A × Unit {0}) K} {f : F} (gives : (x : A) (k : K) (q : F) → CalledAt g f x k q → (q ≡ f) × (k ≡ key x)) where
    turns : (q : F) (k : K) (p : A) (xs : List A) (last : F × K) (y : A) → q ≡ f → k ≡ key p → FoldsTo {P = (F × K) × A} (KeyTurn min_by_ordering min_by_ordering g cmp) ((q, k), p) xs (last, y)
        → FoldsTo (λ a z c. c ≡ lesser a z) p xs y
    turns q k p [] last y same of_p h = ap (λ (s : (F × K) × A). s.1) h
    turns q k p (x ∷ xs) last y same of_p (j, (m, o, called, is, key_is, item_is), rest) =
        let (kept, of_x) = gives x m j.0.0 (subst (λ (e : F). CalledAt g e x m j.0.0) same called) in
        let o_is : cmp (key p) (key x) ≡ o = sym (ap (λ (a : K). cmp a m) of_p ∙ ap (cmp (key p)) of_x) ∙ is in
        let picked : j.1 ≡ lesser p x = item_is ∙ ap (λ (r : Ordering). min_by_ordering r p x) (sym o_is) in
        let of_picked : j.0.1 ≡ key j.1 = key_is ∙ ap (λ (a : K). min_by_ordering o a m) of_p ∙ ap (min_by_ordering o (key p)) of_x ∙ key_of_picked o p x ∙ ap key (sym item_is) in
        (j.1, picked, turns j.0.0 j.0.1 j.1 xs last y kept of_picked rest)

    pub least_by_key : {S : Type 0} {steps : S → Option A → S → Type 0} {all : List A} (s : S) (r : Option A) → PicksMinByKey steps g cmp s f r → YieldsList steps (λ x. x) s all → r ≡ reduce lesser all
    least_by_key {steps = steps} {all} s None h road = reduce_from_yields_List lesser s None h road
    least_by_key {steps = steps} {all} s (Some y) (x, xs, k, q, last, drains, called, folds) road =
        let (kept, of_x) = gives x k q called in
        reduce_from_yields_List lesser s (Some y) (x, xs, drains, turns q k x xs last y kept of_x folds) road

-- by a number: the later item just if its number is less
pub lesser_by_number : {A : Type 0} (a b : ℕ) (x y : A) → min_by_ordering (nat_cmp a b) x y ≡ cond (nat_lt b a) y x
lesser_by_number {A} a b x y = by_less (nat_lt b a) refl
  where
    pick : (o : Ordering) → o ≡ nat_cmp a b → min_by_ordering (nat_cmp a b) x y ≡ min_by_ordering o x y
    pick o e = ap (λ (r : Ordering). min_by_ordering r x y) (sym e)

    by_less : (c : Bool) → nat_lt b a ≡ c → min_by_ordering (nat_cmp a b) x y ≡ cond c y x
    by_less true e = pick Greater (nat_cmp_is a b Greater (ltb-true b a e))
    by_less false e = ⊎_elim (λ less. pick Less (nat_cmp_is a b Less less)) (λ no_less. pick Equal (nat_cmp_is a b Equal (omega (arith, ltb-false b a e)))) (cases_lt a b)

-- and so in an option, where a test picks
pub picked_is_some : {A : Type 0} (c : Bool) (x y picked : A) → picked ≡ cond c x y → cond c (Some x) (Some y) ≡ Some picked
picked_is_some true x y picked e = ap Some (sym e)
picked_is_some false x y picked e = ap Some (sym e)

-- ---- the feed family's smallest question

-- of two sets the one with fewer stations, the first among equals
abbrev pub with_fewer : ℕ → ℕ → ℕ
with_fewer = lesser nat_cmp count_ones

module _ (steps : List ℕ) where
  -- the sets around k stations, from station v on, that are without the base
  abbrev candidates : ℕ → ℕ → List ℕ
  candidates v k = filter (λ set. not (has set 0)) (map (reach_set steps) (range_with_len v k))

  fewest_of_more : (k v best : ℕ) → fewest_from steps (Some best) v k ≡ Some (fold with_fewer best (candidates v k))
  fewest_of_more zero v best = refl
  fewest_of_more (suc k) v best = go (has (reach_set steps v) 0) (fewest_of_more k (v + 1))
    where
      set : ℕ
      set = reach_set steps v

      go : (b : Bool) → ((after : ℕ) → fewest_from steps (Some after) (v + 1) k ≡ Some (fold with_fewer after (candidates (v + 1) k)))
          → fewest_from steps (cond b (Some best) (cond (nat_lt (count_ones set) (count_ones best)) (Some set) (Some best))) (v + 1) k
          ≡ Some (fold with_fewer best (cond (not b) (set ∷ candidates (v + 1) k) (candidates (v + 1) k)))
      go true rest = rest best
      go false rest =
          ap (λ (o : Option ℕ). fewest_from steps o (v + 1) k) (picked_is_some (nat_lt (count_ones set) (count_ones best)) set best (with_fewer best set) (lesser_by_number (count_ones best) (count_ones set) best set))
          ∙ rest (with_fewer best set)

  pub fewest_is_least : (k v : ℕ) → reduce with_fewer (candidates v k) ≡ fewest_from steps None v k
  fewest_is_least zero v = refl
  fewest_is_least (suc k) v = go (has (reach_set steps v) 0) (fewest_is_least k (v + 1))
    where
      go : (b : Bool) → reduce with_fewer (candidates (v + 1) k) ≡ fewest_from steps None (v + 1) k
          → reduce with_fewer (cond (not b) (reach_set steps v ∷ candidates (v + 1) k) (candidates (v + 1) k)) ≡ fewest_from steps (cond b None (Some (reach_set steps v))) (v + 1) k
      go true rest = rest
      go false rest = sym (fewest_of_more k (v + 1) (reach_set steps v))
