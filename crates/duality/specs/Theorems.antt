-- What holds of the stages, whatever the links, the family and the prices.
use Rattle.std.specs.Prelude.{◌≡◌, ℕ, ◌+◌, ◌*◌, ◌^◌, ◌<◌, ◌≤◌, Bool, true, false, ◌⊎◌, List, length, ℤ, ◌≢◌, bit_and, bit_or}
use Rattle.amount.specs.Parts.{below, within, Fitting}
use Rattle.digraph.specs.Links.{Slots, Leads}
use Rattle.digraph.specs.Entering.{enters_at}
use Rattle.stations.specs.Sets.{In, Part}
use Rattle.duality.specs.Entries.{entries}
use Rattle.duality.specs.Families.{Family, Covering}
use Rattle.duality.specs.Costs.{summed, repeated, cost_of_counts}
use Rattle.duality.specs.Stages.{Packed, Taken, OneOf, Needed, Dropped, Cheapest}

-- the sets that pass a test
abbrev pub Passing : (ℕ → Bool) → ℕ → Type 0
Passing test X = test X ≡ true

-- the meet and the union of two sets are entered together no more often than the two sets
abbrev pub MeetAndUnionAreEnteredNoMore : Type 0
MeetAndUnionAreEnteredNoMore =
    (slots : Slots) (r : ℕ → ℕ) (a b : ℕ) → entries slots r (bit_and a b) + entries slots r (bit_or a b) ≤ entries slots r a + entries slots r b

-- the sets of the first stage lie apart or inside one another, and are fewer than two for each station
pub record FewNested (n p : ℕ) (Z : ℕ → ℕ) : Type 0 where
  pub nested : (i j : ℕ) → i < j → j < p → ((s : ℕ) → In (Z i) s → In (Z j) s → ⊥) ⊎ (Part (Z i) (Z j) × (Z i ≢ Z j))
  pub few : 1 ≤ n → p + 1 ≤ 2 * n

abbrev pub PackedSetsAreFewAndNested : Type 0
PackedSetsAreFewAndNested =
    (width n : ℕ) (slots : Slots) (test : ℕ → Bool) → Family n (Passing test)
    → (p : ℕ) (Z : ℕ → ℕ) (y : ℕ → List ℤ) (left : ℕ → ℕ → List ℤ) → Packed width slots (Passing test) p Z y left
    → FewNested n p Z

-- with every part of every price at most B either way, whatever is left, and each set's amount, fits a signed 64-bit number
pub record AllFit (slots : Slots) (p : ℕ) (y : ℕ → List ℤ) (left : ℕ → ℕ → List ℤ) : Type 0 where
  pub left_fits : (i k : ℕ) → i ≤ p → k < length slots → Fitting (left i k)
  pub amounts_fit : (i : ℕ) → i < p → Fitting (y i)

abbrev pub PackedAmountsFit : Type 0
PackedAmountsFit =
    (width n : ℕ) (slots : Slots) (test : ℕ → Bool) → Family n (Passing test)
    → (p : ℕ) (Z : ℕ → ℕ) (y : ℕ → List ℤ) (left : ℕ → ℕ → List ℤ) → Packed width slots (Passing test) p Z y left
    → (B : ℕ) → ((k : ℕ) → k < length slots → within B (left 0 k) ≡ true) → B * (p + 1) < 2 ^ 63
    → AllFit slots p y left

-- links that enter each set of the first stage so often cost at least the sets' amounts so often
abbrev pub EnteringOftenCostsAsOften : Type 0
EnteringOftenCostsAsOften =
    (width : ℕ) (slots : Slots) (test : ℕ → Bool)
    → (p : ℕ) (Z : ℕ → ℕ) (y : ℕ → List ℤ) (left : ℕ → ℕ → List ℤ) → Packed width slots (Passing test) p Z y left
    → (r : ℕ → ℕ) (often : ℕ) → ((i : ℕ) → i < p → often ≤ entries slots r (Z i))
    → below (cost_of_counts width slots (left 0) r) (repeated width often (summed width y p)) ≡ false

-- links kept of those taken, that enter every member, are a cheapest cover, at just the amounts of the first stage
abbrev pub KeptLinksAreCheapest : Type 0
KeptLinksAreCheapest =
    (width n : ℕ) (slots : Slots) (test : ℕ → Bool) → Family n (Passing test)
    → (p : ℕ) (Z : ℕ → ℕ) (y : ℕ → List ℤ) (left : ℕ → ℕ → List ℤ) → Packed width slots (Passing test) p Z y left
    → (q : ℕ) (l M : ℕ → ℕ) → Taken width slots (Passing test) p left q l M
    → (kept : ℕ → Bool) → ((k : ℕ) → kept k ≡ true → OneOf q l k) → Covering slots (Passing test) kept
    → Cheapest width slots (Passing test) (left 0) kept (summed width y p)

-- no two links taken lead into one station, and no two enter one set of the first stage
pub record TakenApart (slots : Slots) (p : ℕ) (Z : ℕ → ℕ) (q : ℕ) (l : ℕ → ℕ) : Type 0 where
  pub one_each : (i t u : ℕ) → i < p → t < q → u < q → enters_at slots (l t) (Z i) ≡ true → enters_at slots (l u) (Z i) ≡ true → t ≡ u
  pub heads_differ : (t u s v w : ℕ) → t < q → u < q → Leads slots (l t) s w → Leads slots (l u) v w → t ≡ u

abbrev pub LinksTakenLieApart : Type 0
LinksTakenLieApart =
    (width n : ℕ) (slots : Slots) (test : ℕ → Bool) → Family n (Passing test)
    → (p : ℕ) (Z : ℕ → ℕ) (y : ℕ → List ℤ) (left : ℕ → ℕ → List ℤ) → Packed width slots (Passing test) p Z y left
    → (q : ℕ) (l M : ℕ → ℕ) → Taken width slots (Passing test) p left q l M
    → TakenApart slots p Z q l

-- what the third stage keeps enters every member, if what it began with does, and no link kept can be spared
pub record NoneToSpare (slots : Slots) (Member : ℕ → Type 0) (kept : ℕ → Bool) : Type 0 where
  pub covers : Covering slots Member kept
  pub needed : (k : ℕ) → kept k ≡ true → Needed slots Member kept k

abbrev pub NoKeptLinkCanBeSpared : Type 0
NoKeptLinkCanBeSpared =
    (slots : Slots) (test : ℕ → Bool) (m : ℕ) (d : ℕ → ℕ) (kept : ℕ → ℕ → Bool)
    → Dropped slots (Passing test) m d kept → Covering slots (Passing test) (kept 0) → NoneToSpare slots (Passing test) (kept m)
