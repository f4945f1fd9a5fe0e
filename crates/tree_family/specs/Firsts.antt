-- The first set without the base, in two lists of stations one behind the other.
use Rattle.std.proofs.Common.{◌≡◌, ℕ, Bool, true, false, cond, List, [], ◌∷◌, ◌++◌, Some, None, refl}
use Rattle.stations.specs.Sets.{has}
use Rattle.sheet.specs.Held.{Held}
use Rattle.tree_family.specs.Choices.{around, first_around}

module _ (t : Held) (marked : List ℕ) where
  pub first_behind : (xs ys : List ℕ) → first_around t marked xs ≡ None → first_around t marked (xs ++ ys) ≡ first_around t marked ys
  first_behind [] ys e = refl
  first_behind (x ∷ xs) ys e = go (has (around t marked x) 0) e (first_behind xs ys)
    where
      go : (b : Bool) → cond b (first_around t marked xs) (Some (around t marked x)) ≡ None → (first_around t marked xs ≡ None → first_around t marked (xs ++ ys) ≡ first_around t marked ys)
          → cond b (first_around t marked (xs ++ ys)) (Some (around t marked x)) ≡ first_around t marked ys
      go true q rest = rest q
      go false q rest = cc

  pub first_in_front : (xs ys : List ℕ) (set : ℕ) → first_around t marked xs ≡ Some set → first_around t marked (xs ++ ys) ≡ Some set
  first_in_front [] ys set e = cc
  first_in_front (x ∷ xs) ys set e = go (has (around t marked x) 0) e (first_in_front xs ys set)
    where
      go : (b : Bool) → cond b (first_around t marked xs) (Some (around t marked x)) ≡ Some set → (first_around t marked xs ≡ Some set → first_around t marked (xs ++ ys) ≡ Some set)
          → cond b (first_around t marked (xs ++ ys)) (Some (around t marked x)) ≡ Some set
      go true q rest = rest q
      go false q rest = q
