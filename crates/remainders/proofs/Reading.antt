-- Lists that are read, place by place.
use Rattle.std.proofs.Common.{◌≡◌, ℕ, zero, suc, ◌+◌, ◌<◌, List, [], ◌∷◌, ◌++◌, length, sym, map, get_or, drop, ap, ◌∙◌, arith}
use Rattle.std.proofs.lemmas.List.{get_or-map, length-append}

pub one_place_on : {X : Type 0} (xs rest : List X) (n : ℕ) (x d : X) → drop n xs ≡ x ∷ rest → (rest ≡ drop (n + 1) xs) × (get_or xs n d ≡ x) × (n < length xs)
one_place_on [] rest zero x d e = absurd (cc)
one_place_on [] rest (suc n) x d e = absurd (cc)
one_place_on (y ∷ xs) rest zero x d e = (cc, cc, omega arith)
one_place_on (y ∷ xs) rest (suc n) x d e =
    let (a, b, h) = one_place_on xs rest n x d e in
    let one_more : suc (n + 1) ≡ suc n + 1 = omega arith in (a ∙ ap (λ m. drop m (y ∷ xs)) one_more, b, omega arith)

pub one_more_read : {X : Type 0} (ys : List X) (y : X) → length ys + 1 ≡ length (ys ++ y ∷ [])
one_more_read ys y = omega (arith, length-append ys (y ∷ []))

-- a column by its parts, at the place of an element that was read
pub get_or-map_read : {X Y : Type 0} (f : X → List Y) (xs : List X) (k : ℕ) (x : X) → k < length xs → x ≡ get_or xs k x → get_or (map f xs) k [] ≡ f x
get_or-map_read f xs k x h e = get_or-map f xs k x [] h ∙ ap f (sym e)
