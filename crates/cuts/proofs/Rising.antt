-- The stations of a set, rising: just they are listed.
-- By going along the stations that the list is made of.
use Rattle.std.proofs.Common.{◌≡◌, ℕ, zero, suc, ◌+◌, ◌<◌, ◌≤◌, Bool, true, false, eqb, ◌⊎◌, List, sym, refl, subst, inl, inr, ⊎_elim, arith}
use Rattle.std.proofs.lemmas.Bool.{cases_eq, eqb-true, eq-eqb, or_cases, or_left, or_right}
use Rattle.stations.specs.Sets.{In, has, rising_from}
use Rattle.stations.proofs.Digits.{has→In, In→has}
use Rattle.stations.proofs.Lowest.{with_next}
use Rattle.cuts.specs.Families.{listed}

listed→next_or_rest : (b : Bool) (s v : ℕ) (rest : List ℕ) → listed (with_next b s rest) v ≡ true → ((b ≡ true) × (s ≡ v)) ⊎ (listed rest v ≡ true)
listed→next_or_rest true s v rest e = ⊎_elim (λ q. inl (refl, eqb-true s v q)) inr (or_cases (eqb s v) (listed rest v) e)
listed→next_or_rest false s v rest e = inr e

next→listed : (b : Bool) (s v : ℕ) (rest : List ℕ) → b ≡ true → s ≡ v → listed (with_next b s rest) v ≡ true
next→listed true s v rest e q = or_left (eqb s v) (listed rest v) (eq-eqb s v q)
next→listed false s v rest e q = cc

rest→listed : (b : Bool) (s v : ℕ) (rest : List ℕ) → listed rest v ≡ true → listed (with_next b s rest) v ≡ true
rest→listed true s v rest e = or_right (eqb s v) (listed rest v) e
rest→listed false s v rest e = e

pub rising→In : (set s k v : ℕ) → listed (rising_from set s k) v ≡ true → In set v
rising→In set s zero v e = cc
rising→In set s (suc k) v e =
    ⊎_elim (λ (q, same). subst (In set) same (has→In set s q)) (rising→In set (suc s) k v) (listed→next_or_rest (has set s) s v (rising_from set (suc s) k) e)

pub In→rising : (set s k v : ℕ) → s ≤ v → v < s + k → In set v → listed (rising_from set s k) v ≡ true
In→rising set s zero v l h at = absurd (omega arith)
In→rising set s (suc k) v l h at =
    ⊎_elim (λ same. next→listed (has set s) s v (rising_from set (suc s) k) (In→has set s (subst (In set) (sym same) at)) same)
    (λ ne. rest→listed (has set s) s v (rising_from set (suc s) k) (In→rising set (suc s) k v (omega arith) (omega arith) at)) (cases_eq s v)
