-- The searches among the links that enter a set: by induction on the list, and one number on.
use Rattle.std.proofs.Common.{◌≡◌, ℕ, suc, ◌+◌, ◌-◌, ◌<◌, ◌≤◌, Bool, true, false, cond, List, [], ◌∷◌, map, length, get_or, ℤ, Some, None, Option, sym, refl, ap, ◌∙◌, ap₂, arith}
use Rattle.std.specs.List.{find}
use Rattle.amount.specs.Parts.{below}
use Rattle.digraph.specs.Entering.{enters_at}
use Rattle.digraph.specs.Links.{Slots}
use Rattle.remainders.proofs.Reading.{get_or-map_read}
use Rattle.stages.specs.Packing.{Left, left_of, tighter, tightest_from}
use Rattle.stages.specs.Taking.{first_entering}
use Rattle.remainders.specs.Marks.{Numbered}

-- the first link of a list that enters a set is the one that the library's search finds
pub found_first : (slots : Slots) (set : ℕ) (ks : List ℕ) → find (λ k. enters_at slots k set) ks ≡ first_entering slots set ks
found_first slots set [] = refl
found_first slots set (k ∷ ks) = ap (cond (enters_at slots k set) (Some k)) (found_first slots set ks)

-- ---- the link with least left

-- of two links that were read, the one that the test says
pub tighter_as_read : {X : Type 0} (f : X → List ℤ) (xs : List X) (best : Option ℕ) (j k : ℕ) (x y : X) → best ≡ Some j
    → k < length xs → x ≡ get_or xs k x → j < length xs → y ≡ get_or xs j y
    → (t : Bool) → t ≡ below (f x) (f y) → cond t (Some k) (Some j) ≡ tighter (map f xs) best k
tighter_as_read f xs best j k x y e at_k is_x at_j is_y t tested =
    ap (λ b. cond b (Some k) (Some j)) (tested ∙ sym (ap₂ below (get_or-map_read f xs k x at_k is_x) (get_or-map_read f xs j y at_j is_y)))
    ∙ ap (λ o. tighter (map f xs) o k) (sym e)

module _ (left : Left) (best : Option ℕ) (k : ℕ) (numbered : Numbered best) (within : k < 200) where
  one_of_two_numbered : (t : Bool) (b : ℕ) → b < 200 → Numbered (cond t (Some k) (Some b))
  one_of_two_numbered true b h j e = let same : k ≡ j = cc in omega arith
  one_of_two_numbered false b h j e = let same : b ≡ j = cc in omega arith

  tighter_numbered : (o : Option ℕ) → best ≡ o → Numbered (tighter left o k)
  tighter_numbered None e = one_of_two_numbered true 0 (omega arith)
  tighter_numbered (Some b) e = one_of_two_numbered (below (left_of left k) (left_of left b)) b (numbered b e)

  pub numbered_one_on : (enters : Bool) (new : Option ℕ) → new ≡ cond enters (tighter left best k) best → Numbered new
  numbered_one_on true new n j e = tighter_numbered best refl j (sym n ∙ e)
  numbered_one_on false new n j e = numbered j (sym n ∙ e)

pub tightest_one_on : (slots : Slots) (left : Left) (set : ℕ) (best : Option ℕ) (k last : ℕ) → k < last → (answer : Option ℕ) → tightest_from slots left set best k (last - k) ≡ answer
    → (enters : Bool) (new : Option ℕ) → enters_at slots k set ≡ enters → new ≡ cond enters (tighter left best k) best
    → tightest_from slots left set new (k + 1) (last - (k + 1)) ≡ answer
tightest_one_on slots left set best k last h answer inv enters new e n =
    let one_more : suc (last - (k + 1)) ≡ last - k = omega arith in
    ap (λ o. tightest_from slots left set o (k + 1) (last - (k + 1))) (n ∙ ap (λ b. cond b (tighter left best k) best) (sym e))
    ∙ ap (tightest_from slots left set best k) one_more
    ∙ inv

pub tightest_at_end : (slots : Slots) (left : Left) (set : ℕ) (best : Option ℕ) (k last : ℕ) → last ≤ k → (answer : Option ℕ) → tightest_from slots left set best k (last - k) ≡ answer → best ≡ answer
tightest_at_end slots left set best k last h answer inv =
    let none_left : 0 ≡ last - k = omega arith in
    ap (tightest_from slots left set best k) none_left ∙ inv
