-- The stations of a set, rising: the first is the lowest, and behind it come the others of the set.
-- By going along the stations that the list is made of.
use Rattle.std.proofs.Common.{◌≡◌, ℕ, zero, suc, ◌+◌, ◌*◌, ◌%◌, ◌^◌, ◌<◌, ◌≤◌, Bool, true, false, cond, eqb, List, ◌∷◌, sym, refl, ap, ◌∙◌, subst, ap₂, ⊎_elim, arith}
use lib.Bits.{bit_xor}
use lib.Count.{count_trailing_zeros}
use Rattle.std.proofs.lemmas.Bool.{cases_eq}
use Rattle.std.proofs.lemmas.Nat.{one_shl}
use Rattle.stations.specs.Sets.{digit, In, has, rising_from, rising}
use Rattle.stations.proofs.Digits.{digit_without_same, digit_without_other, In→has, out→lacks, trailing_lowest}

-- one station more, if it is in the set
abbrev pub with_next : Bool → ℕ → List ℕ → List ℕ
with_next b s rest = cond b (s ∷ rest) rest

rising_same : (a b s k : ℕ) → ((t : ℕ) → s ≤ t → digit a t ≡ digit b t) → rising_from a s k ≡ rising_from b s k
rising_same a b s zero same = refl
rising_same a b s (suc k) same =
    ap₂ (λ (d : ℕ) (rest : List ℕ). with_next (eqb d 1) s rest) (same s (omega arith)) (rising_same a b (suc s) k (λ t h. same t (omega arith)))

-- the first station that the set has, and the rest without it
rising_first : (set s k v : ℕ) → s ≤ v → v < s + k → In set v → ((t : ℕ) → t < v → digit set t ≡ 0)
    → rising_from set s k ≡ v ∷ rising_from (bit_xor set (2 ^ v)) s k
rising_first set s zero v l h at low = absurd (omega arith)
rising_first set s (suc k) v l h at low = ⊎_elim here (λ ne. later ne (rising_first set (suc s) k v (omega arith) (omega arith) at low)) (cases_eq s v)
  where
    here : s ≡ v → rising_from set s (suc k) ≡ v ∷ rising_from (bit_xor set (2 ^ v)) s (suc k)
    here e =
        let held : has set s ≡ true = In→has set s (subst (In set) (sym e) at) in
        let gone : has (bit_xor set (2 ^ v)) s ≡ false = out→lacks (bit_xor set (2 ^ v)) s (subst (λ (x : ℕ). digit (bit_xor set (2 ^ v)) x ≡ 0) (sym e) (digit_without_same set v at)) in
        ap (λ (b : Bool). with_next b s (rising_from set (suc s) k)) held
        ∙ ap₂ (λ (x : ℕ) (xs : List ℕ). x ∷ xs) e (rising_same set (bit_xor set (2 ^ v)) (suc s) k (λ t g. sym (digit_without_other set v t (λ q. omega arith))))
        ∙ sym (ap (λ (b : Bool). v ∷ with_next b s (rising_from (bit_xor set (2 ^ v)) (suc s) k)) gone)

    later : (s ≡ v → ⊥) → rising_from set (suc s) k ≡ v ∷ rising_from (bit_xor set (2 ^ v)) (suc s) k
        → rising_from set s (suc k) ≡ v ∷ rising_from (bit_xor set (2 ^ v)) s (suc k)
    later ne rest =
        let out = low s (omega arith) in
        let out_too : digit (bit_xor set (2 ^ v)) s ≡ 0 = digit_without_other set v s (λ e. ne (sym e)) ∙ out in
        ap (λ (b : Bool). with_next b s (rising_from set (suc s) k)) (out→lacks set s out)
        ∙ rest
        ∙ sym (ap (λ (b : Bool). v ∷ with_next b s (rising_from (bit_xor set (2 ^ v)) (suc s) k)) (out→lacks (bit_xor set (2 ^ v)) s out_too))

pub rising_lowest : (set : ℕ) → 0 < set → set < 2 ^ 64 → rising set ≡ count_trailing_zeros 64 set ∷ rising (bit_xor set (2 ^ count_trailing_zeros 64 set))
rising_lowest set some small =
    let low = trailing_lowest 64 set some small in
    rising_first set 0 64 (count_trailing_zeros 64 set) (omega arith) (omega (arith, low.below)) low.inside low.least

-- the same, where the bit of that station is a shifted 1
pub rising_next : (set : ℕ) → 0 < set → set < 2 ^ 64 → rising set ≡ count_trailing_zeros 64 set ∷ rising (bit_xor set (1 * 2 ^ count_trailing_zeros 64 set % 2 ^ 64))
rising_next set some small =
    rising_lowest set some small
    ∙ ap (λ (bit : ℕ). count_trailing_zeros 64 set ∷ rising (bit_xor set bit)) (sym (one_shl (count_trailing_zeros 64 set) 64 (trailing_lowest 64 set some small).below))
