-- The stages of a cheapest cover, as what they leave behind: sets with amounts, then links taken for members, then the links kept.
use Rattle.std.specs.Prelude.{◌≡◌, ℕ, suc, ◌<◌, ◌≤◌, Bool, true, false, cond, not, ◌&&◌, ◌⊎◌, List, length, ℤ, ◌==◌, ◌≢◌}
use Rattle.amount.specs.Parts.{minus, below, nothing}
use Rattle.digraph.specs.Links.{Slots}
use Rattle.digraph.specs.Entering.{enters_at, EnteredBy}
use Rattle.stations.specs.Sets.{Part}
use Rattle.duality.specs.Families.{Covering}
use Rattle.duality.specs.Entries.{entries}
use Rattle.duality.specs.Costs.{cost_of, cost_of_counts}

-- The first stage: p sets Z with their amounts y, of so many parts; left i k is what is left of the price of link k before set i.
pub record Packed (width : ℕ) (slots : Slots) (Member : ℕ → Type 0)
    (p : ℕ) (Z : ℕ → ℕ) (y : ℕ → List ℤ) (left : ℕ → ℕ → List ℤ) : Type 0 where
  pub prices_wide : (k : ℕ) → k < length slots → length (left 0 k) ≡ width
  pub prices : (k : ℕ) → k < length slots → below (left 0 k) (nothing width) ≡ false
  pub member : (i : ℕ) → i < p → Member (Z i)
  -- no link with nothing left enters it
  pub unentered : (i k : ℕ) → i < p → enters_at slots k (Z i) ≡ true → left i k ≢ nothing width
  -- and it has no proper part of which that is true
  pub least : (i : ℕ) → i < p → (X : ℕ) → Member X → Part X (Z i)
      → ((k : ℕ) → enters_at slots k X ≡ true → left i k ≢ nothing width) → X ≡ Z i
  -- its amount is the least that is left of a link that enters it
  pub tight : (i : ℕ) → i < p → (k : ℕ) × (enters_at slots k (Z i) ≡ true) × (left i k ≡ y i)
  pub at_most : (i k : ℕ) → i < p → enters_at slots k (Z i) ≡ true → below (left i k) (y i) ≡ false
  -- and is taken from what is left of each of these
  pub fall : (i k : ℕ) → i < p → k < length slots → left (suc i) k ≡ cond (enters_at slots k (Z i)) (minus (left i k) (y i)) (left i k)

-- The second stage: q links l, each taken for a member M.
pub record Taken (width : ℕ) (slots : Slots) (Member : ℕ → Type 0) (p : ℕ) (left : ℕ → ℕ → List ℤ)
    (q : ℕ) (l M : ℕ → ℕ) : Type 0 where
  pub member : (t : ℕ) → t < q → Member (M t)
  -- no link taken before enters it
  pub unentered : (t u : ℕ) → t < q → u < t → enters_at slots (l u) (M t) ≢ true
  -- and it is a proper part of no other such member
  pub greatest : (t : ℕ) → t < q → (X : ℕ) → Member X → Part (M t) X
      → ((u : ℕ) → u < t → enters_at slots (l u) X ≢ true) → X ≡ M t
  pub enters : (t : ℕ) → t < q → enters_at slots (l t) (M t) ≡ true
  pub nothing_left : (t : ℕ) → t < q → left p (l t) ≡ nothing width
  -- no link that enters it came to nothing before
  pub earliest : (t i d : ℕ) → t < q → i ≤ p → enters_at slots d (M t) ≡ true → left i d ≡ nothing width → left i (l t) ≡ nothing width

-- link k is one of the links l t with t < q
abbrev pub OneOf : ℕ → (ℕ → ℕ) → ℕ → Type 0
OneOf q l k = (t : ℕ) × (t < q) × (l t ≡ k)

-- a choice of links without one link
abbrev pub without : (ℕ → Bool) → ℕ → ℕ → Bool
without choice d k = choice k && not (k == d)

-- a member needs the link d of a choice: without it, no link of the choice enters it
pub record Needed (slots : Slots) (Member : ℕ → Type 0) (choice : ℕ → Bool) (d : ℕ) : Type 0 where
  pub set : ℕ
  pub member : Member set
  pub unentered : EnteredBy slots (without choice d) set → ⊥

-- The third stage: m turns; in turn t link d t is looked at, and kept t are the links kept before it. It is
-- dropped where the others still enter every member, and stays where a member needs it.
pub record Dropped (slots : Slots) (Member : ℕ → Type 0) (m : ℕ) (d : ℕ → ℕ) (kept : ℕ → ℕ → Bool) : Type 0 where
  pub turn : (t : ℕ) → t < m
      → (((k : ℕ) → kept (suc t) k ≡ without (kept t) (d t) k) × Covering slots Member (kept (suc t)))
      ⊎ (((k : ℕ) → kept (suc t) k ≡ kept t k) × Needed slots Member (kept t) (d t))
  -- every link has its turn
  pub each : (k : ℕ) → kept 0 k ≡ true → (t : ℕ) × (t < m) × (d t ≡ k)

-- The third stage leaves a cheapest cover: its links enter every member, at a cost that nothing that enters every member is below.
pub record Cheapest (width : ℕ) (slots : Slots) (Member : ℕ → Type 0) (prices : ℕ → List ℤ) (kept : ℕ → Bool) (worth : List ℤ) : Type 0 where
  pub covers : Covering slots Member kept
  pub costs : cost_of width slots prices kept ≡ worth
  pub choices_cost_more : (L : ℕ → Bool) → Covering slots Member L → below (cost_of width slots prices L) worth ≡ false
  pub counts_cost_more : (r : ℕ → ℕ) → ((X : ℕ) → Member X → 1 ≤ entries slots r X) → below (cost_of_counts width slots prices r) worth ≡ false
