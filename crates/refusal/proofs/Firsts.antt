-- The first refusal of checks that stand one list behind the other: that of the first list, or where
-- it has none that of the second; and of checks told in other words. By going along the first list.
use Rattle.std.proofs.Common.{◌≡◌, Bool, true, false, cond, List, [], ◌∷◌, ◌++◌, Some, None, Option, sym, refl, ◌∙◌}
use Rattle.std.specs.Option.{option_map}
use Rattle.refusal.specs.Checks.{Check, first, retold}

module _ {E : Type 0} where
  pub first_of_front : (cs ds : List (Check E)) (e : E) → first cs ≡ Some e → first (cs ++ ds) ≡ Some e
  first_of_front [] ds e p = cc
  first_of_front (c ∷ cs) ds e p = go c.fails p (first_of_front cs ds e)
    where
      go : (b : Bool) → cond b (Some c.gives) (first cs) ≡ Some e → (first cs ≡ Some e → first (cs ++ ds) ≡ Some e) → cond b (Some c.gives) (first (cs ++ ds)) ≡ Some e
      go true p rest = p
      go false p rest = rest p

  pub first_of_back : (cs ds : List (Check E)) → first cs ≡ None → first (cs ++ ds) ≡ first ds
  first_of_back [] ds p = refl
  first_of_back (c ∷ cs) ds p = go c.fails p (first_of_back cs ds)
    where
      go : (b : Bool) → cond b (Some c.gives) (first cs) ≡ None → (first cs ≡ None → first (cs ++ ds) ≡ first ds) → cond b (Some c.gives) (first (cs ++ ds)) ≡ first ds
      go true p rest = cc
      go false p rest = rest p

  pub first_retold : {F : Type 0} (told : E → F) (cs : List (Check E)) → first (retold told cs) ≡ option_map told (first cs)
  first_retold told [] = refl
  first_retold told (c ∷ cs) = go c.fails (first_retold told cs)
    where
      go : (b : Bool) → first (retold told cs) ≡ option_map told (first cs) → cond b (Some (told c.gives)) (first (retold told cs)) ≡ option_map told (cond b (Some c.gives) (first cs))
      go true rest = refl
      go false rest = rest

  pub none_retold : {F : Type 0} (told : E → F) (cs : List (Check E)) → first (retold told cs) ≡ None → first cs ≡ None
  none_retold told cs p = go (first cs) (sym (first_retold told cs) ∙ p)
    where
      go : (o : Option E) → option_map told o ≡ None → o ≡ None
      go None q = refl
      go (Some e) q = cc
