-- The least and the greatest of the sets with t but not s that no chosen link enters: what reaches t, and what s does not reach.
-- Both are least and greatest of all sets that no chosen link enters, so only their membership counts. With them, the family's meets and unions.
use Rattle.std.proofs.Common.{◌≡◌, ℕ, ◌-◌, ◌^◌, ◌<◌, Bool, arith, pow_pos}
use lib.Bits.{bit_and, bit_or, and_le_l, or_lt}
use Rattle.stations.specs.Sets.{digit, In}
use Rattle.stations.proofs.Digits.{digit_not, digit_and, digit_or, In-below, Part-antisym}
use Rattle.digraph.specs.Entering.{EnteredBy}
use Rattle.digraph.specs.Links.{Slots}
use Rattle.cuts.specs.Families.{RouteMember, LeastUnentered, GreatestUnentered}
use Rattle.cuts.specs.Reaching.{ReachesTo, ReachedFrom}
use Rattle.cuts.proofs.Extremes.{entered_unless_not}

pub route_member_and : (n s t x y : ℕ) → RouteMember n s t x → RouteMember n s t y → RouteMember n s t (bit_and x y)
route_member_and n s t x y mx my =
    (omega (arith, and_le_l x y, mx.0), omega (arith, digit_and x y s, mx.1), omega (arith, digit_and x y t, mx.2, my.2))

pub route_member_or : (n s t x y : ℕ) → RouteMember n s t x → RouteMember n s t y → RouteMember n s t (bit_or x y)
route_member_or n s t x y mx my =
    (or_lt n x y mx.0 my.0, omega (arith, digit_or x y s, mx.1, my.1), omega (arith, digit_or x y t, mx.2, my.2))

module _ (n : ℕ) (slots : Slots) (choice : ℕ → Bool) (s t : ℕ) where
  pub reaches_to→route_least : (set : ℕ) → ReachesTo n slots choice t set → digit set s ≡ 0 → LeastUnentered slots choice (RouteMember n s t) set
  reaches_to→route_least set to out = record {
    member = (to.small, out, to.has_it);
    unentered = to.unentered;
    least = λ part member p ne. entered_unless_not slots choice part (λ none. ne (Part-antisym part set p (to.least part member.2 none)));
  }

  pub start_reaches→route_entered : (set : ℕ) → ReachesTo n slots choice t set → In set s → (x : ℕ) → RouteMember n s t x → EnteredBy slots choice x
  start_reaches→route_entered set to at x member = entered_unless_not slots choice x (λ none. omega (arith, to.least x member.2 none s at, member.1))

  module _ (start : s < n) (set : ℕ) (from : ReachedFrom n slots choice s set) where
    pub left_over→route_greatest : In (2 ^ n - 1 - set) t → GreatestUnentered slots choice (RouteMember n s t) (2 ^ n - 1 - set)
    left_over→route_greatest at = record {
      member = (omega (arith, pow_pos n), omega (arith, digit_not n set s from.small start, from.has_it), at);
      unentered = from.unentered;
      greatest = λ whole member p ne. entered_unless_not slots choice whole (λ none.
          ne (Part-antisym (2 ^ n - 1 - set) whole p (from.greatest whole member.0 member.1 none)));
    }

    pub end_reached→route_entered : In set t → (x : ℕ) → RouteMember n s t x → EnteredBy slots choice x
    end_reached→route_entered at x member = entered_unless_not slots choice x (λ none.
        omega (
          arith,
          from.greatest x member.0 member.1 none t member.2,
          digit_not n set t from.small (In-below n set t from.small at),
        ))
