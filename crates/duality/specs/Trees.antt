-- Spanning trees at lists of prices: what a tree costs, where it is cheapest, how far two lists of prices lie apart, and what it takes to keep a tree.
use Rattle.std.specs.Prelude.{◌≡◌, ℕ, Bool, true, false, cond, List, [], ◌∷◌, length, ℤ, is_some}
use Rattle.amount.specs.Parts.{plus, minus, below, nothing, deviation}
use Rattle.digraph.specs.Links.{Slots, link_at, Proper}
use Rattle.digraph.specs.Trees.{SpanningTree}
use Rattle.cuts.specs.Families.{TreeMember, listed}
use Rattle.duality.specs.Families.{Covering}
use Rattle.duality.specs.Costs.{summed, cost_of}
use Rattle.duality.specs.Stages.{Packed, Taken, OneOf}

-- number k is that of a link
abbrev pub is_link : Slots → ℕ → Bool
is_link slots k = is_some (link_at slots k)

-- a price of so many parts for each link
abbrev pub PriceList : ℕ → Slots → (ℕ → List ℤ) → Type 0
PriceList width slots prices = (k : ℕ) → is_link slots k ≡ true → length (prices k) ≡ width

-- what the listed links cost
abbrev pub cost_of_list : ℕ → (ℕ → List ℤ) → List ℕ → List ℤ
cost_of_list width prices [] = nothing width
cost_of_list width prices (k ∷ ks) = plus (prices k) (cost_of_list width prices ks)

-- a spanning tree, and no spanning tree costs less
pub record CheapestTree (width n : ℕ) (slots : Slots) (prices : ℕ → List ℤ) (list : List ℕ) : Type 0 where
  pub spans : SpanningTree n slots list
  pub no_less : (other : List ℕ) → SpanningTree n slots other → below (cost_of_list width prices other) (cost_of_list width prices list) ≡ false

-- how far two lists of prices lie apart: the deviations of all links together
abbrev pub list_deviation : ℕ → Slots → (ℕ → List ℤ) → (ℕ → List ℤ) → List ℤ
list_deviation width slots w v = summed width (λ k. cond (is_link slots k) (deviation (w k) (v k)) (nothing width)) (length slots)

-- of a listed link the price less what is left of it, of any other the price
abbrev pub revised : List ℕ → (prices left : ℕ → List ℤ) → ℕ → List ℤ
revised list prices left k = cond (listed list k) (minus (prices k) (left k)) (prices k)

-- how much more a tree costs than a choice of links
abbrev pub concession : ℕ → Slots → (ℕ → List ℤ) → List ℕ → (ℕ → Bool) → List ℤ
concession width slots prices list kept = minus (cost_of_list width prices list) (cost_of width slots prices kept)

-- ---- the revised prices keep the tree

-- at new prices the tree is cheapest, and they lie off by what the tree costs more than a worth
pub record TreeKept (width n : ℕ) (slots : Slots) (list : List ℕ) (prices new : ℕ → List ℤ) (worth : List ℤ) : Type 0 where
  pub price_list : PriceList width slots new
  pub cheapest : CheapestTree width n slots new list
  pub deviates : list_deviation width slots new prices ≡ minus (cost_of_list width prices list) worth

-- that is what the revised prices do, with the worth of the sets, whether or not the first stage has come to its end
abbrev pub RevisedPricesKeepTheTree : Type 0
RevisedPricesKeepTheTree =
    (width n : ℕ) (slots : Slots) (list : List ℕ) → SpanningTree n slots list
    → (p : ℕ) (Z : ℕ → ℕ) (y : ℕ → List ℤ) (left : ℕ → ℕ → List ℤ) → Packed width slots (TreeMember n slots list) p Z y left
    → TreeKept width n slots list (left 0) (revised list (left 0) (left p)) (summed width y p)

-- ---- and no prices do so for less

-- all stages of a quote: the first, the links taken, and the links kept of them, which enter every set that the tree enters once
pub record Quoted (width n : ℕ) (slots : Slots) (list : List ℕ) (p : ℕ) (Z : ℕ → ℕ) (y : ℕ → List ℤ) (left : ℕ → ℕ → List ℤ)
    (q : ℕ) (l M : ℕ → ℕ) (kept : ℕ → Bool) : Type 0 where
  pub proper : Proper n slots
  pub spans : SpanningTree n slots list
  pub packed : Packed width slots (TreeMember n slots list) p Z y left
  pub taken : Taken width slots (TreeMember n slots list) p left q l M
  pub of_taken : (k : ℕ) → kept k ≡ true → OneOf q l k
  pub covers : Covering slots (TreeMember n slots list) kept

-- a quote's revised prices lie off by just the concession
abbrev pub QuotesKeepTheTree : Type 0
QuotesKeepTheTree =
    (width n : ℕ) (slots : Slots) (list : List ℕ) (p : ℕ) (Z : ℕ → ℕ) (y : ℕ → List ℤ) (left : ℕ → ℕ → List ℤ)
    (q : ℕ) (l M : ℕ → ℕ) (kept : ℕ → Bool) → Quoted width n slots list p Z y left q l M kept
    → TreeKept width n slots list (left 0) (revised list (left 0) (left p)) (cost_of width slots (left 0) kept)

-- every list of prices, of any whole numbers, at which the tree is cheapest lies off by the concession or more
abbrev pub NoListKeepsTheTreeForLess : Type 0
NoListKeepsTheTreeForLess =
    (width n : ℕ) (slots : Slots) (list : List ℕ) (p : ℕ) (Z : ℕ → ℕ) (y : ℕ → List ℤ) (left : ℕ → ℕ → List ℤ)
    (q : ℕ) (l M : ℕ → ℕ) (kept : ℕ → Bool) → Quoted width n slots list p Z y left q l M kept
    → (w : ℕ → List ℤ) → PriceList width slots w → CheapestTree width n slots w list
    → below (list_deviation width slots w (left 0)) (concession width slots (left 0) list kept) ≡ false

-- what a list of prices does that keeps the tree for just the concession
pub record ChangesAtMost (width : ℕ) (slots : Slots) (list : List ℕ) (kept : ℕ → Bool) (prices w : ℕ → List ℤ) : Type 0 where
  -- no link that is in the tree and kept, or neither, changes its price
  pub unchanged : (k : ℕ) → is_link slots k ≡ true → listed list k ≡ kept k → w k ≡ prices k
  -- no link of the tree is raised, and none kept is lowered
  pub not_raised : (k : ℕ) → is_link slots k ≡ true → listed list k ≡ true → below (prices k) (w k) ≡ false
  pub not_lowered : (k : ℕ) → is_link slots k ≡ true → kept k ≡ true → below (w k) (prices k) ≡ false
  -- the links kept cost what the tree costs
  pub costs_equal : cost_of width slots w kept ≡ cost_of_list width w list

abbrev pub NearestListsChangeAtMost : Type 0
NearestListsChangeAtMost =
    (width n : ℕ) (slots : Slots) (list : List ℕ) (p : ℕ) (Z : ℕ → ℕ) (y : ℕ → List ℤ) (left : ℕ → ℕ → List ℤ)
    (q : ℕ) (l M : ℕ → ℕ) (kept : ℕ → Bool) → Quoted width n slots list p Z y left q l M kept
    → (w : ℕ → List ℤ) → PriceList width slots w → CheapestTree width n slots w list
    → list_deviation width slots w (left 0) ≡ concession width slots (left 0) list kept
    → ChangesAtMost width slots list kept (left 0) w
