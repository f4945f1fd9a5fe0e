-- Numbers after spaces, appended one behind the other: where the parts of a list go.
-- Each law goes down the list, or up the stations.
use Rattle.std.proofs.Common.{◌≡◌, ℕ, zero, suc, ◌+◌, ◌-◌, ◌^◌, ◌<◌, ◌≤◌, Bool, true, false, cond, List, [], ◌∷◌, ◌++◌, length, decimal, sym, refl, ap, ◌∙◌, append_assoc, append-nil, add-zero, add-suc, suc-add, zero-add, arith, length-append}
use Rattle.annex.proofs.Appending.{appends_then}
use Rattle.annex.proofs.Lengths.{length_number_le}
use Rattle.annex.specs.Lines.{spaced}
use Rattle.annex.specs.Places.{Appends}
use Rattle.annex.specs.declared.text.Text.{Text}
use Rattle.stations.specs.Sets.{rising_from, has}

pub spaced_append : (ms ns : List ℕ) → spaced (ms ++ ns) ≡ spaced ms ++ spaced ns
spaced_append [] ns = refl
spaced_append (m ∷ ms) ns =
    ap (λ l. 32 ∷ l) (ap (λ l. decimal m ++ l) (spaced_append ms ns) ∙ sym (append_assoc (decimal m) (spaced ms) (spaced ns)))

-- more numbers appended behind numbers
pub appends_spaced_then : {s t u : Text} (ms ns : List ℕ) → Appends s (spaced ms) t → Appends t (spaced ns) u → Appends s (spaced (ms ++ ns)) u
appends_spaced_then ms ns p q = rw (spaced_append ms ns) (appends_then (spaced ms) (spaced ns) p q)

-- a number of 64 bits takes at most 20 bytes after its space
pub length_spaced_le : (n : ℕ) → n < 2 ^ 64 → length (spaced (n ∷ [])) ≤ 21
length_spaced_le n fits = rw (append-nil (decimal n)) (length_number_le n fits)

more_append : (b : Bool) (s : ℕ) (ms ns : List ℕ) → cond b (s ∷ (ms ++ ns)) (ms ++ ns) ≡ cond b (s ∷ ms) ms ++ ns
more_append true s ms ns = refl
more_append false s ms ns = refl

-- the stations as far as j go, and then those from there on
pub rising_append : (set s j k : ℕ) → rising_from set s (j + k) ≡ rising_from set s j ++ rising_from set (s + j) k
rising_append set s zero k = rw (zero-add, add-zero) refl
rising_append set s (suc j) k =
    rw (suc-add j k, rising_append set (suc s) j k, suc-add s j, add-suc s j) (more_append (has set s) s _ _)

length_spaced_append : (ms ns : List ℕ) → length (spaced (ms ++ ns)) ≡ length (spaced ms) + length (spaced ns)
length_spaced_append ms ns = ap length (spaced_append ms ns) ∙ length-append (spaced ms) (spaced ns)

-- j stations, the next one and r more
length_three_parts : (set j r : ℕ) → length (spaced (rising_from set 0 (j + (1 + r)))) ≡ length (spaced (rising_from set 0 j)) + (length (spaced (rising_from set j 1)) + length (spaced (rising_from set (j + 1) r)))
length_three_parts set j r =
    rw (rising_append set 0 j (1 + r), zero-add j, length_spaced_append (rising_from set 0 j) (rising_from set j (1 + r)), rising_append set j 1 r)
    (ap (λ n. length (spaced (rising_from set 0 j)) + n) (length_spaced_append (rising_from set j 1) (rising_from set (j + 1) r)))

-- where there is room for k stations and j of them are written, there is room for the next
pub room_for_next : (set j k at m size : ℕ) → j < k → at + length (spaced (rising_from set 0 k)) ≤ size → m ≡ at + length (spaced (rising_from set 0 j)) → m + length (spaced (rising_from set j 1)) ≤ size
room_for_next set j k at m size h room e =
    let split : k ≡ j + (1 + (k - suc j)) = omega arith in
    let room' : at + length (spaced (rising_from set 0 (j + (1 + (k - suc j))))) ≤ size = rw (← split) room in
    omega (arith, length_three_parts set j (k - suc j))
