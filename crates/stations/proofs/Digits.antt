-- What masks have to do with sets: the digits of unions, meets, differences, single stations and complements, and the lowest station.
-- Each goes by the lowest digit, and then by the number that is left of it, or by the library's law of shifts.
use Prim.Native.Nat.{ℕ, zero, suc, ◌+◌, ◌-◌, ◌/◌, ◌%◌, ◌^◌, ◌≤◌, ◌<◌, min, max, zero-le}
use lib.Arith.{bin_ind}
use lib.Bits.{bit_and, bit_or, bit_xor, and_shr, or_shr, xor_shr, and_step, or_step, or_disjoint, xor_add_and}
use lib.Count.{ones, ones-le, ones_step, count_trailing_zeros, under}
use lib.Pow.{pow_pos, pow_mono, shr-shr}
use mathlib.Core.Bool.{true, false}
use mathlib.Core.Logic.{◌⊎◌, inl, inr}
use mathlib.Core.Path.{◌≡◌, refl, sym, ap, ◌∙◌, subst}
use native.Mathlib.Decide.{ℕ_discrete}
use native.Mathlib.Nat.{div-eq_of_lt, div_self, lt_of_not-le, pow-suc}
use native.Mathlib.Numerals.{one-add}
use native.Mathlib.Omega.{arith}
use borrow.Author.Tests.{eqb-true, eqb-false, eq-eqb, ne_eqb}
use Rattle.stations.specs.Sets.{digit, In, has, Part}

-- ---- one digit

pub digit_zero : (m : ℕ) → digit m 0 ≡ m % 2
digit_zero m = omega arith

pub digit_suc : (m s : ℕ) → digit m (suc s) ≡ digit (m / 2) s
digit_suc m s = ap (λ (x : ℕ). m / 2 ^ x % 2) (sym (one-add s)) ∙ ap (λ (x : ℕ). x % 2) (sym (shr-shr m 1 s))

pub digit_le_1 : (m s : ℕ) → digit m s ≤ 1
digit_le_1 m s = omega arith

pub in_or_out : (m s : ℕ) → In m s ⊎ (digit m s ≡ 0)
in_or_out m s = go (digit m s) refl (digit_le_1 m s)
  where
    go : (d : ℕ) → digit m s ≡ d → d ≤ 1 → In m s ⊎ (digit m s ≡ 0)
    go zero e h = inr e
    go (suc d) e h = inl (omega arith)

pub has→In : (m s : ℕ) → has m s ≡ true → In m s
has→In m s = eqb-true (digit m s) 1

pub In→has : (m s : ℕ) → In m s → has m s ≡ true
In→has m s = eq-eqb (digit m s) 1

pub lacks→out : (m s : ℕ) → has m s ≡ false → digit m s ≡ 0
lacks→out m s h = let away = eqb-false (digit m s) 1 h in omega arith

pub out→lacks : (m s : ℕ) → digit m s ≡ 0 → has m s ≡ false
out→lacks m s e = ne_eqb (digit m s) 1 (λ h. omega arith)

-- ---- the digits of masks

pub digit_of_0 : (s : ℕ) → digit 0 s ≡ 0
digit_of_0 s = ap (λ (x : ℕ). x % 2) (div-eq_of_lt (pow_pos s))

-- a set of k stations has none from k on
pub digit_above : (k m s : ℕ) → m < 2 ^ k → k ≤ s → digit m s ≡ 0
digit_above k m s h g = let wide : 2 ^ k ≤ 2 ^ s = pow_mono g in ap (λ (x : ℕ). x % 2) (div-eq_of_lt (omega arith))

pub In-below : (k m s : ℕ) → m < 2 ^ k → In m s → s < k
In-below k m s h i = lt_of_not-le (λ g. omega (arith, digit_above k m s h g))

pub digit_or : (a b s : ℕ) → digit (bit_or a b) s ≡ max (digit a s) (digit b s)
digit_or a b s =
    ap (λ (x : ℕ). x % 2) (or_shr a b s) ∙ (omega (arith, or_step (a / 2 ^ s) (b / 2 ^ s)))

pub digit_and : (a b s : ℕ) → digit (bit_and a b) s ≡ min (digit a s) (digit b s)
digit_and a b s =
    ap (λ (x : ℕ). x % 2) (and_shr a b s) ∙ (omega (arith, and_step (a / 2 ^ s) (b / 2 ^ s)))

-- 1 where just one of the two is 1
pub digit_xor : (a b s : ℕ) → digit (bit_xor a b) s ≡ (digit a s + digit b s) % 2
digit_xor a b s =
    ap (λ (x : ℕ). x % 2) (xor_shr a b s) ∙ (omega (arith, xor_add_and (a / 2 ^ s) (b / 2 ^ s)))

pub digit_pow_same : (s : ℕ) → digit (2 ^ s) s ≡ 1
digit_pow_same s = ap (λ (x : ℕ). x % 2) (div_self (pow_pos s))

pub digit_pow_other : (s t : ℕ) → (s ≡ t → ⊥) → digit (2 ^ s) t ≡ 0
digit_pow_other zero zero ne = absurd (ne refl)
digit_pow_other zero (suc t) ne = digit_suc 1 t ∙ digit_of_0 t
digit_pow_other (suc s) zero ne = omega (arith, pow-suc 2 s)
digit_pow_other (suc s) (suc t) ne =
    let half : 2 ^ suc s / 2 ≡ 2 ^ s = omega (arith, pow-suc 2 s) in
    digit_suc (2 ^ suc s) t ∙ ap (λ (x : ℕ). digit x t) half ∙ digit_pow_other s t (λ e. ne (ap suc e))

-- the k lowest stations without those of m
pub digit_not : (k m s : ℕ) → m < 2 ^ k → s < k → digit (2 ^ k - 1 - m) s ≡ 1 - digit m s
digit_not zero m s h l = omega arith
digit_not (suc k) m zero h l = omega (arith, pow-suc 2 k, pow_pos k)
digit_not (suc k) m (suc s) h l =
    let half : (2 ^ suc k - 1 - m) / 2 ≡ 2 ^ k - 1 - m / 2 = omega (arith, pow-suc 2 k, pow_pos k) in
    digit_suc (2 ^ suc k - 1 - m) s ∙ ap (λ (x : ℕ). digit x s) half
    ∙ digit_not k (m / 2) s (omega (arith, pow-suc 2 k)) (omega arith) ∙ ap (λ (x : ℕ). 1 - x) (sym (digit_suc m s))

-- the k lowest stations
pub digit_ones_below : (k s : ℕ) → s < k → digit (2 ^ k - 1) s ≡ 1
digit_ones_below k s h =
    let same : 2 ^ k - 1 ≡ 2 ^ k - 1 - 0 = omega arith in
    ap (λ (x : ℕ). digit x s) same ∙ digit_not k 0 s (pow_pos k) h ∙ ap (λ (x : ℕ). 1 - x) (digit_of_0 s)

pub digit_ones_above : (k s : ℕ) → k ≤ s → digit (2 ^ k - 1) s ≡ 0
digit_ones_above k s h = digit_above k (2 ^ k - 1) s (omega (arith, pow_pos k)) h

-- ---- sets and their numbers

pub same_digits : (k a b : ℕ) → a < 2 ^ k → b < 2 ^ k → ((s : ℕ) → s < k → digit a s ≡ digit b s) → a ≡ b
same_digits zero a b p q same = omega arith
same_digits (suc k) a b p q same =
    let lowest = same 0 (omega arith) in
    let rest = same_digits k (a / 2) (b / 2) (omega (arith, pow-suc 2 k)) (omega (arith, pow-suc 2 k))
    (λ s h. sym (digit_suc a s) ∙ same (suc s) (omega arith) ∙ digit_suc b s) in
    omega arith

pub Part-half : (a b : ℕ) → Part a b → Part (a / 2) (b / 2)
Part-half a b part s h = sym (digit_suc b s) ∙ part (suc s) (digit_suc a s ∙ h)

pub Part-lowest : (a b : ℕ) → Part a b → a % 2 ≤ b % 2
Part-lowest a b part = go (in_or_out a 0)
  where
    go : In a 0 ⊎ (digit a 0 ≡ 0) → a % 2 ≤ b % 2
    go (inl h) = omega (arith, part 0 h)
    go (inr z) = omega arith

pub Part→≤ : (a b : ℕ) → Part a b → a ≤ b
Part→≤ = bin_ind (λ (a : ℕ). (b : ℕ) → Part a b → a ≤ b) (λ b part. zero-le)
    (λ a ih b part. omega (arith, ih (b / 2) (Part-half a b part), Part-lowest a b part))

pub Part-antisym : (a b : ℕ) → Part a b → Part b a → a ≡ b
Part-antisym a b p q = omega (arith, Part→≤ a b p, Part→≤ b a q)

pub none_or_some : (m : ℕ) → (m ≡ 0) ⊎ ((s : ℕ) × In m s)
none_or_some = bin_ind (λ (m : ℕ). (m ≡ 0) ⊎ ((s : ℕ) × In m s)) (inl refl) (λ m ih. go m (in_or_out m 0) ih)
  where
    go : (m : ℕ) → In m 0 ⊎ (digit m 0 ≡ 0) → (m / 2 ≡ 0) ⊎ ((s : ℕ) × In (m / 2) s) → (m ≡ 0) ⊎ ((s : ℕ) × In m s)
    go m (inl h) rest = inr (0, h)
    go m (inr z) (inl e) = inl (omega arith)
    go m (inr z) (inr t) = inr (suc t.0, digit_suc m t.0 ∙ t.1)

-- two sets with no station in common
pub and_apart : (a b : ℕ) → ((s : ℕ) → In a s → digit b s ≡ 0) → bit_and a b ≡ 0
and_apart a b apart = go (none_or_some (bit_and a b))
  where
    go : (bit_and a b ≡ 0) ⊎ ((s : ℕ) × In (bit_and a b) s) → bit_and a b ≡ 0
    go (inl e) = e
    go (inr t) = let both = digit_and a b t.0 in let out = apart t.0 (omega (arith, t.1)) in omega (arith, t.1)

-- their union has the sum for its number
pub or_apart : (a b : ℕ) → ((s : ℕ) → In a s → digit b s ≡ 0) → bit_or a b ≡ a + b
or_apart a b apart = or_disjoint a b (and_apart a b apart)

-- ---- one station

pub In-pow : (s t : ℕ) → In (2 ^ s) t → s ≡ t
In-pow s t h = go (ℕ_discrete s t)
  where
    go : Dec (s ≡ t) → s ≡ t
    go (yes e) = e
    go (no ne) = omega (arith, digit_pow_other s t ne)

-- a set without one of its stations
pub digit_without_same : (m s : ℕ) → In m s → digit (bit_xor m (2 ^ s)) s ≡ 0
digit_without_same m s h = omega (arith, digit_xor m (2 ^ s) s, digit_pow_same s)

pub digit_without_other : (m s t : ℕ) → (s ≡ t → ⊥) → digit (bit_xor m (2 ^ s)) t ≡ digit m t
digit_without_other m s t ne = omega (arith, digit_xor m (2 ^ s) t, digit_pow_other s t ne)

pub without_part : (m s : ℕ) → In m s → Part (bit_xor m (2 ^ s)) m
without_part m s h t i = go (ℕ_discrete s t)
  where
    go : Dec (s ≡ t) → In m t
    go (yes e) = subst (λ (x : ℕ). In m x) e h
    go (no ne) = sym (digit_without_other m s t ne) ∙ i

pub and_pow : (m s : ℕ) → In m s → bit_and m (2 ^ s) ≡ 2 ^ s
and_pow m s h = Part-antisym (bit_and m (2 ^ s)) (2 ^ s) (λ t i. omega (arith, digit_and m (2 ^ s) t))
    (λ t i. let at : In m t = subst (λ (x : ℕ). In m x) (In-pow s t i) h in omega (arith, digit_and m (2 ^ s) t))

pub without_add : (m s : ℕ) → In m s → bit_xor m (2 ^ s) + 2 ^ s ≡ m
without_add m s h = omega (arith, xor_add_and m (2 ^ s), and_pow m s h)

-- ---- the lowest station

pub record Lowest (k m s : ℕ) : Type 0 where
  pub below : s < k
  pub inside : In m s
  pub least : (t : ℕ) → t < s → digit m t ≡ 0

pub trailing_lowest : (k m : ℕ) → 0 < m → m < 2 ^ k → Lowest k m (count_trailing_zeros k m)
unfolding count_trailing_zeros
trailing_lowest zero m p h = omega arith
trailing_lowest (suc k) m p h = go (m % 2) refl (λ q. trailing_lowest k (m / 2) q (omega (arith, pow-suc 2 k)))
  where
    go : (d : ℕ) → m % 2 ≡ d → (0 < m / 2 → Lowest k (m / 2) (count_trailing_zeros k (m / 2)))
        → Lowest (suc k) m (under d (count_trailing_zeros k (m / 2)))
    go zero e rest =
        let low = rest (omega arith) in
        record {
          below = omega (arith, low.below);
          inside = digit_suc m (count_trailing_zeros k (m / 2)) ∙ low.inside;
          least = λ t. elim t as (λ t. t < suc (count_trailing_zeros k (m / 2)) → digit m t ≡ 0)
              [ zero ↦ λ l. omega arith | suc t ↦ λ l. digit_suc m t ∙ low.least t (omega arith) ];
        }
    go (suc d) e rest = record { below = omega arith; inside = omega arith; least = λ t l. omega arith }

-- ---- how many stations

pub ones_mono : (a b : ℕ) → Part a b → ones a ≤ ones b
ones_mono = bin_ind (λ (a : ℕ). (b : ℕ) → Part a b → ones a ≤ ones b) (λ b part. omega (arith, ones-le 0 0 (pow_pos 0)))
    (λ a ih b part. omega (arith, ih (b / 2) (Part-half a b part), Part-lowest a b part, ones_step a, ones_step b))

-- no fewer stations than a set that it is part of: it is that set
pub ones_full : (a b : ℕ) → Part a b → ones b ≤ ones a → a ≡ b
ones_full a b = bin_ind (λ (b : ℕ). (a : ℕ) → Part a b → ones b ≤ ones a → a ≡ b) (λ a part h. omega (arith, Part→≤ a 0 part))
    (λ b ih a part h.
    let fewer = ones_mono (a / 2) (b / 2) (Part-half a b part) in
    let lowest = Part-lowest a b part in
    let rest = ih (a / 2) (Part-half a b part) (omega (arith, ones_step a, ones_step b)) in
    omega (arith, ones_step a, ones_step b, ap ones rest)) b a
