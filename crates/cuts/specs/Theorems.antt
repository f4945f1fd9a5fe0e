-- What is claimed of spanning trees and of the sets that their links, or chosen links, enter.
use Rattle.std.specs.Prelude.{◌≡◌, ℕ, ◌+◌, ◌^◌, ◌<◌, ◌≤◌, Bool, ◌⊎◌, List, length, bit_and, bit_or}
use Rattle.stations.specs.Sets.{In}
use Rattle.digraph.specs.Entering.{EnteredBy}
use Rattle.digraph.specs.Links.{Slots, Proper}
use Rattle.digraph.specs.Trees.{SpanningTree}
use Rattle.cuts.specs.Entries.{entries}
use Rattle.cuts.specs.Families.{FeedMember, TreeMember, LeastUnentered, GreatestUnentered}

-- the listed links enter every set that has a station but not the base
abbrev pub EntersEverySet : ℕ → Slots → List ℕ → Type 0
EntersEverySet n slots list = (set : ℕ) → FeedMember n set → 1 ≤ entries slots list set

abbrev pub TreesEnterEverySet : Type 0
TreesEnterEverySet = (n : ℕ) (slots : Slots) (list : List ℕ) → SpanningTree n slots list → EntersEverySet n slots list

-- one fewer links than stations that enter every such set are a spanning tree
abbrev pub LinksThatEnterEverySetAreTrees : Type 0
LinksThatEnterEverySetAreTrees =
    (n : ℕ) (slots : Slots) (list : List ℕ) → Proper n slots → length list + 1 ≡ n → EntersEverySet n slots list → SpanningTree n slots list

-- the sets that a spanning tree enters just once
pub record TreeFamilyLaws (n : ℕ) (slots : Slots) (list : List ℕ) : Type 0 where
  pub not_empty : (x : ℕ) → TreeMember n slots list x → 0 < x
  pub meets : (x y s : ℕ) → TreeMember n slots list x → TreeMember n slots list y → In x s → In y s → TreeMember n slots list (bit_and x y)
  pub unions : (x y s : ℕ) → TreeMember n slots list x → TreeMember n slots list y → In x s → In y s → TreeMember n slots list (bit_or x y)
  pub stations : (v : ℕ) → 0 < v → v < n → TreeMember n slots list (2 ^ v)

abbrev pub TreeFamiliesHaveTheirLaws : Type 0
TreeFamiliesHaveTheirLaws = (n : ℕ) (slots : Slots) (list : List ℕ) → SpanningTree n slots list → TreeFamilyLaws n slots list

-- chosen links enter every set that has a station but not the base, or there is a least such set that they leave out, and a greatest
pub record FeedAnswers (n : ℕ) (slots : Slots) (choice : ℕ → Bool) : Type 0 where
  pub smallest : ((set : ℕ) → FeedMember n set → EnteredBy slots choice set) ⊎ ((set : ℕ) × LeastUnentered slots choice (FeedMember n) set)
  pub largest : ((set : ℕ) → FeedMember n set → EnteredBy slots choice set) ⊎ ((set : ℕ) × GreatestUnentered slots choice (FeedMember n) set)

abbrev pub FeedQuestionsHaveAnswers : Type 0
FeedQuestionsHaveAnswers = (n : ℕ) (slots : Slots) (choice : ℕ → Bool) → FeedAnswers n slots choice
