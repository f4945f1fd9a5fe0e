-- The cheapest cover: links kept of those taken, that still enter every member, cost just the amounts of the first stage.
-- Each of its sets is entered once by them, and at least once by whatever enters every member.
use Rattle.std.proofs.Common.{◌≡◌, ℕ, ◌<◌, ◌≤◌, Bool, true, false, cond, ◌⊎◌, length, sym, refl, ap, ◌∙◌, subst, inl, inr, arith}
use Rattle.digraph.specs.Links.{Slots}
use Rattle.digraph.specs.Entering.{enters_at, EnteredBy}
use Rattle.duality.specs.Families.{Family, Covering}
use Rattle.duality.specs.Entries.{one_if, single, entries}
use Rattle.duality.proofs.Amounts.{Amounts}
use Rattle.duality.proofs.Sums.{sum, times, count_sum_of_one, term_≤_count_sum}
use Rattle.duality.proofs.Entering.{entering_is_listed}
use Rattle.duality.proofs.WeakDuality.{load, cost, choice_cost, cost_of_choice, entered_costs_at_least, entered_often_costs_as_often, entered_once_costs_just}
use Rattle.duality.proofs.Packing.{Packing, amount_not_below_nothing, load_within_price, nothing_left_is_tight}
use Rattle.duality.proofs.Taking.{Taking, taken, taken_is, entered_at_most_once}

pub entered_counts : (slots : Slots) (L : ℕ → Bool) (X : ℕ) → EnteredBy slots L X → 1 ≤ entries slots (single L) X
entered_counts slots L X t =
    let here : cond (enters_at slots t.0 X) (single L t.0) 0 ≡ 1 =
    ap (λ (b : Bool). cond b (single L t.0) 0) t.2 ∙ ap one_if t.1 in
    omega (arith, term_≤_count_sum (λ k. cond (enters_at slots k X) (single L k) 0) (length slots) t.0 (entering_is_listed slots t.0 X t.2))

-- the links kept enter every member for an amount that nothing that enters every member costs less than
pub record CheapestCover (G : Amounts) (slots : Slots) (Member : ℕ → Type 0) (prices : ℕ → G.Amount) (kept : ℕ → Bool) (worth : G.Amount) : Type 0 where
  pub covers : Covering slots Member kept
  pub costs : choice_cost G slots prices kept ≡ worth
  pub choices_cost_more : (L : ℕ → Bool) → Covering slots Member L → G.below (choice_cost G slots prices L) worth ≡ false
  pub counts_cost_more : (r : ℕ → ℕ) → ((X : ℕ) → Member X → 1 ≤ entries slots r X) → G.below (cost G slots prices r) worth ≡ false

module _ (G : Amounts) (slots : Slots) (Member : ℕ → Type 0) (p : ℕ) (Z : ℕ → ℕ) (y : ℕ → G.Amount) (c : ℕ → ℕ → G.Amount)
    (P : Packing G slots Member p Z y c) where
  open G use {Amount, ◌⊕◌, 𝟘, below}

  -- also if the first stage was stopped early
  pub often_covered_costs_more : (r : ℕ → ℕ) (often : ℕ) → ((i : ℕ) → i < p → often ≤ entries slots r (Z i))
      → below (cost G slots (c 0) r) (times G often (sum G y p)) ≡ false
  often_covered_costs_more r often h =
      entered_often_costs_as_often G slots p Z y (c 0) r often (amount_not_below_nothing G slots Member p Z y c P)
      (λ k g. load_within_price G slots Member p Z y c P p k (omega arith) g) h

  pub counts_cost_at_least : (r : ℕ → ℕ) → ((i : ℕ) → i < p → 1 ≤ entries slots r (Z i)) → below (cost G slots (c 0) r) (sum G y p) ≡ false
  counts_cost_at_least r h =
      entered_costs_at_least G slots p Z y (c 0) r (amount_not_below_nothing G slots Member p Z y c P)
      (λ k g. load_within_price G slots Member p Z y c P p k (omega arith) g) h

  pub choices_cost_at_least : (L : ℕ → Bool) → ((i : ℕ) → i < p → EnteredBy slots L (Z i)) → below (choice_cost G slots (c 0) L) (sum G y p) ≡ false
  choices_cost_at_least L h =
      subst (λ (x : Amount). below x (sum G y p) ≡ false) (cost_of_choice G slots (c 0) L)
      (counts_cost_at_least (single L) (λ i g. entered_counts slots L (Z i) (h i g)))

  -- ---- a choice whose links have nothing left, and of which no two enter one set

  module _ (L : ℕ → Bool) (used_up : (k : ℕ) → L k ≡ true → c p k ≡ 𝟘)
      (once : (i j k : ℕ) → i < p → L j ≡ true → L k ≡ true → enters_at slots j (Z i) ≡ true → enters_at slots k (Z i) ≡ true → j ≡ k)
      (all : (i : ℕ) → i < p → EnteredBy slots L (Z i)) where
    pub entered_exactly_once : (i : ℕ) → i < p → entries slots (single L) (Z i) ≡ 1
    entered_exactly_once i h =
        count_sum_of_one (λ k. cond (enters_at slots k (Z i)) (single L k) 0) (length slots) t.0 (entering_is_listed slots t.0 (Z i) t.2) others
        ∙ ap (λ (b : Bool). cond b (single L t.0) 0) t.2 ∙ ap one_if t.1
      where
        t : EnteredBy slots L (Z i)
        t = all i h

        others : (j : ℕ) → j < length slots → (j ≡ t.0 → ⊥) → cond (enters_at slots j (Z i)) (single L j) 0 ≡ 0
        others j g ne = go (enters_at slots j (Z i)) (L j) refl refl
          where
            go : (a b : Bool) → enters_at slots j (Z i) ≡ a → L j ≡ b → cond a (one_if b) 0 ≡ 0
            go true true e f = absurd (ne (once i j t.0 h f t.1 e t.2))
            go true false e f = refl
            go false b e f = refl

    pub cost_is_the_amounts : choice_cost G slots (c 0) L ≡ sum G y p
    cost_is_the_amounts =
        sym (cost_of_choice G slots (c 0) L)
        ∙ entered_once_costs_just G slots p Z y (c 0) (single L) (λ k g. go k g (L k) refl) entered_exactly_once
      where
        go : (k : ℕ) → k < length slots → (b : Bool) → L k ≡ b → (one_if b ≡ 0) ⊎ (load G slots Z y p k ≡ c 0 k)
        go k g true e = inr (nothing_left_is_tight G slots Member p Z y c P p k (omega arith) g (used_up k e))
        go k g false e = inl refl

  -- ---- the links kept of those taken

  module _ (n : ℕ) (F : Family n Member) (q : ℕ) (l M : ℕ → ℕ) (T : Taking G slots Member p c q l M)
      (kept : ℕ → Bool) (of_taken : (k : ℕ) → kept k ≡ true → taken q l k ≡ true) (covers : Covering slots Member kept) where
    kept_used_up : (k : ℕ) → kept k ≡ true → c p k ≡ 𝟘
    kept_used_up k e =
        let t = taken_is q l k (of_taken k e) in
        subst (λ (x : ℕ). c p x ≡ 𝟘) t.2 (T.nothing_left t.0 t.1)

    kept_at_most_once : (i j k : ℕ) → i < p → kept j ≡ true → kept k ≡ true → enters_at slots j (Z i) ≡ true → enters_at slots k (Z i) ≡ true → j ≡ k
    kept_at_most_once i j k h d e a b =
        let t = taken_is q l j (of_taken j d) in
        let u = taken_is q l k (of_taken k e) in
        sym t.2
        ∙ ap l (entered_at_most_once G slots Member n F p c q l M T Z y P i t.0 u.0 h t.1 u.1
        (subst (λ (x : ℕ). enters_at slots x (Z i) ≡ true) (sym t.2) a)
        (subst (λ (x : ℕ). enters_at slots x (Z i) ≡ true) (sym u.2) b))
        ∙ u.2

    pub kept_enter_exactly_once : (i : ℕ) → i < p → entries slots (single kept) (Z i) ≡ 1
    kept_enter_exactly_once = entered_exactly_once kept kept_used_up kept_at_most_once (λ i h. covers (Z i) (P.member i h))

    pub kept_cost_the_amounts : choice_cost G slots (c 0) kept ≡ sum G y p
    kept_cost_the_amounts = cost_is_the_amounts kept kept_used_up kept_at_most_once (λ i h. covers (Z i) (P.member i h))

    pub cheapest_cover : CheapestCover G slots Member (c 0) kept (sum G y p)
    cheapest_cover = record {
      covers = covers;
      costs = kept_cost_the_amounts;
      choices_cost_more = λ L h. choices_cost_at_least L (λ i g. h (Z i) (P.member i g));
      counts_cost_more = λ r h. counts_cost_at_least r (λ i g. h (Z i) (P.member i g));
    }

  -- where the links taken enter every member, all of them may be kept
  pub taken_cost_the_amounts : (n : ℕ) → Family n Member → (q : ℕ) (l M : ℕ → ℕ) → Taking G slots Member p c q l M
      → Covering slots Member (taken q l) → choice_cost G slots (c 0) (taken q l) ≡ sum G y p
  taken_cost_the_amounts n F q l M T covers = kept_cost_the_amounts n F q l M T (taken q l) (λ k e. e) covers
