-- Links given as a list of their numbers: how often each is listed, and what the list costs and how often it enters a set, as sums over all links.
-- By induction on the list: one number more adds one term to a sum.
use Rattle.std.proofs.Common.{◌≡◌, ℕ, zero, suc, ◌+◌, ◌-◌, ◌<◌, ◌≤◌, Bool, true, false, cond, ◌||◌, eqb, List, [], ◌∷◌, length, get_or, is_some, None, Option, sym, refl, ap, ◌∙◌, ap₂, arith, eq-eqb, ne_eqb, eqb-true}
use lib.ListN.{get_or-eq_default}
use mathlib.Core.Bool.{false≢true}
use native.Mathlib.Decide.{ℕ_discrete, dec_lt}
use Rattle.digraph.specs.declared.link.Link.{Link}
use Rattle.digraph.specs.Entering.{enters_at}
use Rattle.digraph.specs.Links.{Slots, link_at}
use Rattle.digraph.specs.Trees.{SpanningTree}
use Rattle.digraph.proofs.OneEach.{one_into_each}
use Rattle.cuts.specs.Entries.{entries as list_entries}
use Rattle.cuts.specs.Families.{listed}
use Rattle.cuts.proofs.TreeExtremes.{listed→place}
use Rattle.duality.specs.Entries.{count_sum, one_if, single, entries}
use Rattle.duality.proofs.Amounts.{Amounts, given, nothing_and}
use Rattle.duality.proofs.Sums.{sum, times, sum_cong, sum_plus, sum_of_nothing, times_add, times_choice, count_sum_cong, count_sum_plus, count_sum_of_one, count_sum_of_nothing}
use Rattle.duality.proofs.WeakDuality.{cost, choice_cost, cost_of_choice}
use Rattle.duality.proofs.Taking.{taken, taken_is}

-- how often number k stands in a list
abbrev pub often : List ℕ → ℕ → ℕ
often [] k = 0
often (x ∷ xs) k = one_if (eqb x k) + often xs k

-- every number of the list is below m
abbrev pub AllBelow : ℕ → List ℕ → Type 0
AllBelow m list = (i : ℕ) → i < length list → get_or list i 0 < m

-- what the listed links cost
abbrev pub list_cost : (G : Amounts) → (ℕ → G.Amount) → List ℕ → G.Amount
list_cost G prices [] = G.𝟘
list_cost G prices (k ∷ ks) = G.◌⊕◌ (prices k) (list_cost G prices ks)

first_below : (m x : ℕ) (xs : List ℕ) → AllBelow m (x ∷ xs) → x < m
first_below m x xs all = all 0 (omega arith)

rest_below : (m x : ℕ) (xs : List ℕ) → AllBelow m (x ∷ xs) → AllBelow m xs
rest_below m x xs all i h = all (suc i) (omega arith)

-- ---- counts

-- a number below m is one of the numbers below m
counted_once : (f : ℕ → ℕ) (m x : ℕ) → x < m → count_sum (λ k. cond (eqb x k) (f k) 0) m ≡ f x
counted_once f m x h =
    count_sum_of_one (λ k. cond (eqb x k) (f k) 0) m x h (λ j l ne. ap (λ (b : Bool). cond b (f j) 0) (ne_eqb x j (λ e. ne (sym e))))
    ∙ ap (λ (b : Bool). cond b (f x) 0) (eq-eqb x x refl)

pub often_in_all : (m : ℕ) (list : List ℕ) → AllBelow m list → count_sum (often list) m ≡ length list
often_in_all m [] all = count_sum_of_nothing (λ k. 0) m (λ k h. refl)
often_in_all m (x ∷ xs) all =
    omega (
      arith,
      count_sum_plus (λ k. one_if (eqb x k)) (often xs) m,
      counted_once (λ k. 1) m x (first_below m x xs all),
      often_in_all m xs (rest_below m x xs all),
    )

pub entries_of_list : (slots : Slots) (X : ℕ) (list : List ℕ) → AllBelow (length slots) list → entries slots (often list) X ≡ list_entries slots list X
entries_of_list slots X [] all =
    count_sum_of_nothing (λ k. cond (enters_at slots k X) 0 0) (length slots) (λ k h. neither (enters_at slots k X) 0 refl)
  where
    neither : (b : Bool) (r : ℕ) → r ≡ 0 → cond b r 0 ≡ 0
    neither true r e = e
    neither false r e = refl
entries_of_list slots X (x ∷ xs) all =
    omega (
      arith,
      count_sum_cong (λ k. cond (enters_at slots k X) (often (x ∷ xs) k) 0) (λ k. here k + cond (enters_at slots k X) (often xs k) 0) (length slots)
          (λ k h. apart (enters_at slots k X) (eqb x k) (often xs k)),
      count_sum_plus here (λ k. cond (enters_at slots k X) (often xs k) 0) (length slots),
      counted_once (λ k. cond (enters_at slots k X) 1 0) (length slots) x (first_below (length slots) x xs all),
      entries_of_list slots X xs (rest_below (length slots) x xs all),
    )
  where
    here : ℕ → ℕ
    here k = cond (eqb x k) (cond (enters_at slots k X) 1 0) 0

    apart : (b e : Bool) (r : ℕ) → cond b (one_if e + r) 0 ≡ cond e (cond b 1 0) 0 + cond b r 0
    apart true true r = omega arith
    apart true false r = omega arith
    apart false true r = omega arith
    apart false false r = omega arith

-- ---- lists without a number twice

pub listed_once : (list : List ℕ) → ((i j : ℕ) → i < length list → j < length list → get_or list i 0 ≡ get_or list j 0 → i ≡ j)
    → (k : ℕ) → often list k ≡ single (listed list) k
listed_once [] differ k = refl
listed_once (x ∷ xs) differ k =
    go (eqb x k) (listed xs k) refl refl (listed_once xs (λ i j h g e. omega (arith, differ (suc i) (suc j) (omega arith) (omega arith) e)) k)
  where
    go : (a b : Bool) → eqb x k ≡ a → listed xs k ≡ b → often xs k ≡ one_if b → one_if a + often xs k ≡ one_if (a || b)
    go true true p q rest =
        let t = listed→place xs k q in
        let same : x ≡ get_or xs t.0 0 = eqb-true x k p ∙ sym t.2 in
        absurd (omega (arith, differ 0 (suc t.0) (omega arith) (omega (arith, t.1)) same))
    go true false p q rest = omega arith
    go false b p q rest = omega (arith, rest)

-- ---- costs

module _ (G : Amounts) where
  open G use {Amount, ◌⊕◌, 𝟘, with_nothing}

  infixl 65 ◌⊕◌
  added_once : (f : ℕ → Amount) (m x : ℕ) → x < m → sum G (λ k. given G (eqb x k) (f k)) m ≡ f x
  added_once f zero x h = absurd (omega arith)
  added_once f (suc m) x h = go (ℕ_discrete x m) (added_once f m x)
    where
      go : Dec (x ≡ m) → (x < m → sum G (λ k. given G (eqb x k) (f k)) m ≡ f x) → sum G (λ k. given G (eqb x k) (f k)) m ⊕ given G (eqb x m) (f m) ≡ f x
      go (yes e) rest =
          ap₂ ◌⊕◌
          (sum_of_nothing G (λ k. given G (eqb x k) (f k)) m (λ k l. ap (λ (b : Bool). given G b (f k)) (ne_eqb x k (λ q. omega arith))))
          (ap (λ (b : Bool). given G b (f m)) (eq-eqb x m e) ∙ ap f (sym e))
          ∙ nothing_and G (f x)
      go (no ne) rest =
          ap₂ ◌⊕◌ (rest (omega arith)) (ap (λ (b : Bool). given G b (f m)) (ne_eqb x m ne)) ∙ with_nothing (f x)

  pub cost_of_list : (f : ℕ → Amount) (m : ℕ) (list : List ℕ) → AllBelow m list → sum G (λ k. times G (often list k) (f k)) m ≡ list_cost G f list
  cost_of_list f m [] all = sum_of_nothing G (λ k. 𝟘) m (λ k h. refl)
  cost_of_list f m (x ∷ xs) all =
      sum_cong G (λ k. times G (one_if (eqb x k) + often xs k) (f k)) (λ k. given G (eqb x k) (f k) ⊕ times G (often xs k) (f k)) m
      (λ k h. times_add G (one_if (eqb x k)) (often xs k) (f k) ∙ ap (λ (a : Amount). a ⊕ times G (often xs k) (f k)) (times_choice G (eqb x k) (f k)))
      ∙ sum_plus G (λ k. given G (eqb x k) (f k)) (λ k. times G (often xs k) (f k)) m
      ∙ ap₂ ◌⊕◌ (added_once f m x (first_below m x xs all)) (cost_of_list f m xs (rest_below m x xs all))

  pub cost_of_equal_counts : (slots : Slots) (w : ℕ → Amount) (r s : ℕ → ℕ) → ((k : ℕ) → k < length slots → r k ≡ s k) → cost G slots w r ≡ cost G slots w s
  cost_of_equal_counts slots w r s same =
      sum_cong G (λ k. times G (r k) (w k)) (λ k. times G (s k) (w k)) (length slots) (λ k h. ap (λ (x : ℕ). times G x (w k)) (same k h))

-- ---- the numbers that a function gives below a bound, as a list, the last first

abbrev pub listing : (ℕ → ℕ) → ℕ → List ℕ
listing l zero = []
listing l (suc q) = l q ∷ listing l q

pub length_listing : (l : ℕ → ℕ) (q : ℕ) → length (listing l q) ≡ q
length_listing l zero = refl
length_listing l (suc q) = omega (arith, length_listing l q)

pub place_in_listing : (l : ℕ → ℕ) (q i : ℕ) → i < q → get_or (listing l q) i 0 ≡ l (q - 1 - i)
place_in_listing l zero i h = absurd (omega arith)
place_in_listing l (suc q) zero h = let e : q ≡ suc q - 1 - 0 = omega arith in ap l e
place_in_listing l (suc q) (suc i) h = let e : q - 1 - i ≡ suc q - 1 - suc i = omega arith in place_in_listing l q i (omega arith) ∙ ap l e

pub often_in_listing : (l : ℕ → ℕ) (q : ℕ) → ((t u : ℕ) → t < q → u < q → l t ≡ l u → t ≡ u) → (k : ℕ) → often (listing l q) k ≡ single (taken q l) k
often_in_listing l zero differ k = refl
often_in_listing l (suc q) differ k =
    go (eqb (l q) k) (taken q l k) refl refl (often_in_listing l q (λ t u h g e. differ t u (omega arith) (omega arith) e) k)
  where
    go : (a b : Bool) → eqb (l q) k ≡ a → taken q l k ≡ b → often (listing l q) k ≡ one_if b → one_if a + often (listing l q) k ≡ one_if (a || b)
    go true true p e rest =
        let t = taken_is q l k e in
        let same : l q ≡ l t.0 = eqb-true (l q) k p ∙ sym t.2 in
        absurd (omega (arith, t.1, differ q t.0 (omega arith) (omega (arith, t.1)) same))
    go true false p e rest = omega arith
    go false b p e rest = omega (arith, rest)

-- ---- spanning trees

-- a number with a link is one of the table's
pub link_is_listed : (slots : Slots) (k : ℕ) → is_some (link_at slots k) ≡ true → k < length slots
link_is_listed slots k some = go (dec_lt k (length slots))
  where
    go : Dec (k < length slots) → k < length slots
    go (yes h) = h
    go (no far) =
        let past : length slots ≤ k = omega arith in
        absurd (false≢true (sym (ap (λ (o : Option Link). is_some o) (get_or-eq_default slots None past)) ∙ some))

module _ (n : ℕ) (slots : Slots) (list : List ℕ) (tree : SpanningTree n slots list) where
  pub tree_below : AllBelow (length slots) list
  tree_below i h = link_is_listed slots (get_or list i 0) (tree.of_links i h)

  pub tree_often : (k : ℕ) → often list k ≡ single (listed list) k
  tree_often = listed_once list (one_into_each n slots list tree).numbers_differ

  pub tree_count : count_sum (often list) (length slots) + 1 ≡ n
  tree_count = omega (arith, often_in_all (length slots) list tree_below, tree.one_fewer)

  pub tree_entries : (X : ℕ) → entries slots (often list) X ≡ list_entries slots list X
  tree_entries X = entries_of_list slots X list tree_below

  pub tree_cost : (G : Amounts) (w : ℕ → G.Amount) → cost G slots w (often list) ≡ list_cost G w list
  tree_cost G w = cost_of_list G w (length slots) list tree_below

  pub tree_choice_cost : (G : Amounts) (w : ℕ → G.Amount) → choice_cost G slots w (listed list) ≡ list_cost G w list
  tree_choice_cost G w =
      sym (cost_of_choice G slots w (listed list)) ∙ sym (cost_of_equal_counts G slots w (often list) (single (listed list)) (λ k h. tree_often k)) ∙ tree_cost G w
