-- The least and the greatest of the sets without the base that no chosen link enters, from what reaches each station and what the base reaches.
-- A smaller one would hold a station, and so all that reach it; the greatest leaves out just what the base reaches.
use Rattle.std.proofs.Common.{◌≡◌, ℕ, zero, suc, ◌-◌, ◌^◌, ◌<◌, ◌≤◌, Bool, ◌⊎◌, inl, inr, arith, pow_pos}
use lib.Count.{ones}
use Rattle.stations.specs.Sets.{digit, In, Part}
use Rattle.stations.proofs.Digits.{digit_not, in_or_out, In-below, ones_mono, ones_full, Part→≤, Part-antisym}
use Rattle.digraph.specs.Entering.{EnteredBy}
use Rattle.digraph.specs.Links.{Slots}
use Rattle.cuts.specs.Families.{FeedMember, Unentered, LeastUnentered, GreatestUnentered}
use Rattle.cuts.specs.Reaching.{ReachesTo, ReachedFrom}
use Rattle.cuts.proofs.Extremes.{entered_unless_not}
use Rattle.cuts.proofs.FeedFamily.{In→not_empty, not_empty→In}

-- a part lacks what the whole lacks
pub part_lacks : (part whole s : ℕ) → Part part whole → digit whole s ≡ 0 → digit part s ≡ 0
part_lacks part whole s p out = go (in_or_out part s)
  where
    go : In part s ⊎ (digit part s ≡ 0) → digit part s ≡ 0
    go (inl h) = absurd (omega (arith, p s h))
    go (inr o) = o

-- a station of a set that lacks the base is not the base
station_positive : (set v : ℕ) → digit set 0 ≡ 0 → In set v → 0 < v
station_positive set zero out at = absurd (omega arith)
station_positive set (suc v) out at = omega arith

module _ (n : ℕ) (slots : Slots) (choice : ℕ → Bool) where
  module _ (S : ℕ → ℕ) (each : (v : ℕ) → v < n → ReachesTo n slots choice v (S v)) where
    -- a station all that reach which are in the set, and not the base
    record Inside (set : ℕ) : Type 0 where
      v : ℕ
      pos : 0 < v
      below : v < n
      part : Part (S v) set
      base_out : digit (S v) 0 ≡ 0

    unentered→inside : (set : ℕ) → FeedMember n set → Unentered slots choice set → Inside set
    unentered→inside set member none =
        let t = not_empty→In set member.2 in
        let h = In-below n set t.0 member.0 t.1 in
        let part = (each t.0 h).least set t.1 none in
        record { v = t.0; pos = station_positive set t.0 member.1 t.1; below = h; part = part; base_out = part_lacks (S t.0) set 0 part member.1 }

    -- with the fewest stations, among those without the base
    pub fewest→feed_least : (v : ℕ) → v < n → digit (S v) 0 ≡ 0 → ((w : ℕ) → w < n → digit (S w) 0 ≡ 0 → ones (S v) ≤ ones (S w))
        → LeastUnentered slots choice (FeedMember n) (S v)
    fewest→feed_least v below out fewest = record {
      member = ((each v below).small, out, In→not_empty (S v) v (each v below).has_it);
      unentered = (each v below).unentered;
      least = λ part member p ne. entered_unless_not slots choice part (λ none.
          let s = unentered→inside part member none in
          ne (ones_full part (S v) p (omega (arith, fewest s.v s.below s.base_out, ones_mono (S s.v) part s.part))));
    }

    -- if the base reaches every station
    pub base_reaches→feed_entered : ((v : ℕ) → 0 < v → v < n → In (S v) 0) → (set : ℕ) → FeedMember n set → EnteredBy slots choice set
    base_reaches→feed_entered reaches set member = entered_unless_not slots choice set (λ none.
        let s = unentered→inside set member none in omega (arith, reaches s.v s.pos s.below, s.base_out))

  -- the stations that the base does not reach
  module _ (some : 0 < n) (set : ℕ) (from : ReachedFrom n slots choice 0 set) where
    pub left_over→feed_greatest : 0 < 2 ^ n - 1 - set → GreatestUnentered slots choice (FeedMember n) (2 ^ n - 1 - set)
    left_over→feed_greatest left = record {
      member = (omega (arith, pow_pos n), omega (arith, digit_not n set 0 from.small some, from.has_it), left);
      unentered = from.unentered;
      greatest = λ whole member p ne. entered_unless_not slots choice whole (λ none.
          ne (Part-antisym (2 ^ n - 1 - set) whole p (from.greatest whole member.0 member.1 none)));
    }

    pub none_left→feed_entered : 2 ^ n - 1 - set ≡ 0 → (x : ℕ) → FeedMember n x → EnteredBy slots choice x
    none_left→feed_entered e x member = entered_unless_not slots choice x (λ none.
        omega (arith, Part→≤ x (2 ^ n - 1 - set) (from.greatest x member.0 member.1 none), member.2))
