-- Either every member of a family is entered by a chosen link, or there is a least member that none enters, and a greatest one.
-- The least in number is least as a set, since a part has a smaller number; so a search through the numbers finds it.
use Rattle.std.proofs.Common.{◌≡◌, ℕ, ◌^◌, ◌<◌, Bool, ◌&&◌, ◌⊎◌, List, length, inl, inr, arith}
use native.Mathlib.Decide.{ℕ_discrete, dec_lt}
use Rattle.std.proofs.lemmas.Bool.{both_ways, and_parts, and_from}
use Rattle.stations.specs.Sets.{digit}
use Rattle.stations.proofs.Digits.{Part→≤}
use Rattle.digraph.specs.Entering.{enters_at, EnteredBy}
use Rattle.digraph.specs.Links.{Slots}
use Rattle.cuts.specs.Entries.{entries}
use Rattle.cuts.specs.Families.{FeedMember, TreeMember, Unentered, LeastUnentered, GreatestUnentered}
use Rattle.cuts.proofs.EntryCounts.{enters_within}
use Rattle.cuts.proofs.Searches.{First, Last, EachBelow, Passes, Fails, first_of, last_of, first_passing}

-- whether a chosen link enters a set is decided by going through the table
pub entered_or_not : (slots : Slots) (choice : ℕ → Bool) (set : ℕ) → EnteredBy slots choice set ⊎ Unentered slots choice set
entered_or_not slots choice set = go (first_passing (length slots) test)
  where
    test : ℕ → Bool
    test k = choice k && enters_at slots k set

    go : ((k : ℕ) × First (length slots) (Passes test) (Fails test) k) ⊎ EachBelow (length slots) (Fails test)
        → EnteredBy slots choice set ⊎ Unentered slots choice set
    go (inl (k, h)) = let is = and_parts (choice k) (enters_at slots k set) h.found in inl (k, is.0, is.1)
    go (inr none) = inr (λ (k, chosen, e). both_ways (test k) (none k (enters_within slots k set e)) (and_from (choice k) (enters_at slots k set) chosen e))

-- a set of which it cannot be that no chosen link enters it
pub entered_unless_not : (slots : Slots) (choice : ℕ → Bool) (set : ℕ) → (Unentered slots choice set → ⊥) → EnteredBy slots choice set
entered_unless_not slots choice set some = go (entered_or_not slots choice set)
  where
    go : EnteredBy slots choice set ⊎ Unentered slots choice set → EnteredBy slots choice set
    go (inl e) = e
    go (inr none) = absurd (some none)

module _ (n : ℕ) (slots : Slots) (choice : ℕ → Bool) (Member : ℕ → Type 0) (member? : (set : ℕ) → Dec (Member set))
    (small : (set : ℕ) → Member set → set < 2 ^ n) where
  Missed : ℕ → Type 0
  Missed set = Member set × Unentered slots choice set

  Met : ℕ → Type 0
  Met set = Member set → EnteredBy slots choice set

  missed_or_met : (set : ℕ) → Missed set ⊎ Met set
  unfolding Missed Met
  missed_or_met set = go (member? set) (entered_or_not slots choice set)
    where
      go : Dec (Member set) → EnteredBy slots choice set ⊎ Unentered slots choice set → Missed set ⊎ Met set
      go (no out) rest = inr (λ m. absurd (out m))
      go (yes m) (inl e) = inr (λ _. e)
      go (yes m) (inr u) = inl (m, u)

  pub all_entered_or_least : ((set : ℕ) → Member set → EnteredBy slots choice set) ⊎ ((set : ℕ) × LeastUnentered slots choice Member set)
  unfolding Missed Met
  all_entered_or_least = go (first_of Missed Met missed_or_met (2 ^ n))
    where
      go : ((set : ℕ) × First (2 ^ n) Missed Met set) ⊎ EachBelow (2 ^ n) Met
          → ((set : ℕ) → Member set → EnteredBy slots choice set) ⊎ ((set : ℕ) × LeastUnentered slots choice Member set)
      go (inl (set, h)) = inr (
        set,
        record {
          member = h.found.0;
          unentered = h.found.1;
          least = λ part m p ne. h.before part (omega (arith, Part→≤ part set p)) m;
        },
      )
      go (inr met) = inl (λ set m. met set (small set m) m)

  pub all_entered_or_greatest : ((set : ℕ) → Member set → EnteredBy slots choice set) ⊎ ((set : ℕ) × GreatestUnentered slots choice Member set)
  unfolding Missed Met
  all_entered_or_greatest = go (last_of Missed Met missed_or_met (2 ^ n))
    where
      go : ((set : ℕ) × Last (2 ^ n) Missed Met set) ⊎ EachBelow (2 ^ n) Met
          → ((set : ℕ) → Member set → EnteredBy slots choice set) ⊎ ((set : ℕ) × GreatestUnentered slots choice Member set)
      go (inl (set, h)) = inr (
        set,
        record {
          member = h.found.0;
          unentered = h.found.1;
          greatest = λ whole m p ne. h.after whole (omega (arith, Part→≤ set whole p)) (small whole m) m;
        },
      )
      go (inr met) = inl (λ set m. met set (small set m) m)

-- ---- the families

pub feed_member? : (n set : ℕ) → Dec (FeedMember n set)
feed_member? n set = go (dec_lt set (2 ^ n)) (ℕ_discrete (digit set 0) 0) (dec_lt 0 set)
  where
    go : Dec (set < 2 ^ n) → Dec (digit set 0 ≡ 0) → Dec (0 < set) → Dec (FeedMember n set)
    go (yes a) (yes b) (yes c) = yes (a, b, c)
    go (yes a) (yes b) (no c) = no (λ m. c m.2)
    go (yes a) (no b) c = no (λ m. b m.1)
    go (no a) b c = no (λ m. a m.0)

pub tree_member? : (n : ℕ) (slots : Slots) (list : List ℕ) (set : ℕ) → Dec (TreeMember n slots list set)
tree_member? n slots list set = go (dec_lt set (2 ^ n)) (ℕ_discrete (digit set 0) 0) (ℕ_discrete (entries slots list set) 1)
  where
    go : Dec (set < 2 ^ n) → Dec (digit set 0 ≡ 0) → Dec (entries slots list set ≡ 1) → Dec (TreeMember n slots list set)
    go (yes a) (yes b) (yes c) = yes (a, b, c)
    go (yes a) (yes b) (no c) = no (λ m. c m.2)
    go (yes a) (no b) c = no (λ m. b m.1)
    go (no a) b c = no (λ m. a m.0)

module _ (n : ℕ) (slots : Slots) (choice : ℕ → Bool) where
  pub feed_entered_or_least : ((set : ℕ) → FeedMember n set → EnteredBy slots choice set) ⊎ ((set : ℕ) × LeastUnentered slots choice (FeedMember n) set)
  feed_entered_or_least = all_entered_or_least n slots choice (FeedMember n) (feed_member? n) (λ set m. m.0)

  pub feed_entered_or_greatest : ((set : ℕ) → FeedMember n set → EnteredBy slots choice set) ⊎ ((set : ℕ) × GreatestUnentered slots choice (FeedMember n) set)
  feed_entered_or_greatest = all_entered_or_greatest n slots choice (FeedMember n) (feed_member? n) (λ set m. m.0)
