-- The sets with a station but not the base: with two that share a station their meet and their union, and every other station's singleton.
-- Read off the digits.
use Rattle.std.proofs.Common.{◌≡◌, ℕ, zero, suc, ◌^◌, ◌<◌, ◌⊎◌, inl, inr, arith, pow_pos}
use lib.Bits.{bit_and, bit_or, and_le_l, or_lt}
use lib.Pow.{pow-lt}
use Rattle.stations.specs.Sets.{In}
use Rattle.stations.proofs.Digits.{digit_of_0, digit_and, digit_or, digit_pow_other, none_or_some}
use Rattle.cuts.specs.Families.{FeedMember}

pub In→not_empty : (set s : ℕ) → In set s → 0 < set
In→not_empty zero s at = absurd (omega (arith, digit_of_0 s))
In→not_empty (suc set) s at = omega arith

pub not_empty→In : (set : ℕ) → 0 < set → (s : ℕ) × In set s
not_empty→In set h = go (none_or_some set)
  where
    go : (set ≡ 0) ⊎ ((s : ℕ) × In set s) → (s : ℕ) × In set s
    go (inl e) = absurd (omega arith)
    go (inr t) = t

pub feed_member_station : (n v : ℕ) → 0 < v → v < n → FeedMember n (2 ^ v)
feed_member_station n v pos h = (pow-lt h, digit_pow_other v 0 (λ e. omega arith), pow_pos v)

pub feed_member_and : (n x y s : ℕ) → FeedMember n x → FeedMember n y → In x s → In y s → FeedMember n (bit_and x y)
feed_member_and n x y s mx my p q =
    (omega (arith, and_le_l x y, mx.0), omega (arith, digit_and x y 0, mx.1), In→not_empty (bit_and x y) s (omega (arith, digit_and x y s)))

pub feed_member_or : (n x y s : ℕ) → FeedMember n x → FeedMember n y → In x s → In y s → FeedMember n (bit_or x y)
feed_member_or n x y s mx my p q =
    (or_lt n x y mx.0 my.0, omega (arith, digit_or x y 0, mx.1, my.1), In→not_empty (bit_or x y) s (omega (arith, digit_or x y s)))
