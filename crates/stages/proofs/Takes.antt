-- Stages 2 and 3: the links taken are taken as the general theory asks, what is kept of them still enters
-- every member, and so it is a cheapest cover.
use Rattle.std.proofs.Common.{◌≡◌, ℕ, zero, suc, ◌<◌, ◌≤◌, Bool, true, false, cond, not, eqb, ◌⊎◌, List, length, set, replicate, ℤ, is_some, Some, None, Option, unwrap_or, sym, refl, ap, ◌∙◌, subst, ap₂, inl, inr, ⊎_elim, arith}
use Rattle.std.proofs.lemmas.List.{length-set, length-replicate, get_or-replicate}
use Rattle.std.proofs.lemmas.Bool.{both_ways, cases_eq}
use Rattle.amount.specs.Parts.{plus, below, nothing}
use Rattle.digraph.specs.Entering.{enters_at, marked}
use Rattle.digraph.specs.Links.{Slots}
use Rattle.duality.specs.Costs.{summed, cost_of}
use Rattle.duality.specs.Families.{Covering}
use Rattle.duality.specs.Stages.{Taken, OneOf, Cheapest}
use Rattle.duality.specs.Trees.{is_link}
use Rattle.duality.proofs.Entering.{entering_is_listed}
use Rattle.duality.proofs.Listed.{kept_cheapest}
use Rattle.family.specs.Laws.{Largest}
use Rattle.stages.specs.Asked.{Asked, StopsAfter, price_of}
use Rattle.stages.specs.Packing.{left_of, used_up, used_marks, left_after, answer_after, set_at, amount_at, order_after}
use Rattle.stages.specs.Taking.{first_entering, with_mark, taking, taken_after}
use Rattle.stages.specs.Keeping.{spared, kept_of}
use Rattle.stages.specs.Done.{Done, taken_marks}
use Rattle.stages.specs.Theorems.{CheapestCover, cost_in_force}
use Rattle.stages.proofs.Lawful.{Lawful, some_value, some_or_none, entering_is_link, marked_set_same, marked_set_other, marked_clear_same, marked_is_placed}
use Rattle.stages.proofs.Lefts.{left_of_first, marked_is_used_up, used_up→nothing, nothing→used_up, packed_stage}
use Rattle.stages.proofs.Orders.{earliest, earliest_is_some, earliest_enters, earliest_used_up, none_earlier}

-- ---- marks of a stage

none_marked : (k : ℕ) → marked (replicate 200 0) k ≡ true → ⊥
none_marked k e =
    let h : k < 200 = omega (arith, marked_is_placed (replicate 200 0) k e, length-replicate {A = ℕ} 200 0) in
    both_ways (marked (replicate 200 0) k) (ap (λ m. not (eqb m 0)) (get_or-replicate 200 k 0 0 h)) e

-- a mark is the one that was set, or was there before
marked_after_set : (marks : List ℕ) (k j : ℕ) → marked (set marks k 1) j ≡ true → (j ≡ k) ⊎ (marked marks j ≡ true)
marked_after_set marks k j e = ⊎_elim inl (λ ne. inr (sym (marked_set_other marks k j 1 ne) ∙ e)) (cases_eq j k)

still_marked : (marks : List ℕ) (k j : ℕ) → k < length marks → marked marks j ≡ true → marked (set marks k 1) j ≡ true
still_marked marks k j h e =
    ⊎_elim (λ q. subst (λ x. marked (set marks k 1) x ≡ true) (sym q) (marked_set_same marks k h)) (λ ne. marked_set_other marks k j 1 ne ∙ e) (cases_eq j k)

marked_after_clear : (marks : List ℕ) (k j : ℕ) → marked (set marks k 0) j ≡ true → marked marks j ≡ true
marked_after_clear marks k j e =
    ⊎_elim (λ q. absurd (cleared q))
    (λ ne. sym (marked_set_other marks k j 0 ne) ∙ e) (cases_eq j k)
  where
    cleared : j ≡ k → ⊥
    cleared q =
        let placed : k < length marks = omega (arith, length-set marks k 0, marked_is_placed (set marks k 0) j e) in
        both_ways (marked (set marks k 0) k) (marked_clear_same marks k placed) (subst (λ x. marked (set marks k 0) x ≡ true) q e)

length_taking : (slots : Slots) (order marks : List ℕ) (o : Option ℕ) → length marks ≡ 200 → length (taking slots order marks o) ≡ 200
length_taking slots order marks None h = h
length_taking slots order marks (Some X) h = go (first_entering slots X order)
  where
    go : (o : Option ℕ) → length (with_mark marks o) ≡ 200
    go None = h
    go (Some k) = length-set marks k 1 ∙ h

pub length_taken : (slots : Slots) (largest : List ℕ → Option ℕ) (order : List ℕ) (t : ℕ) → length (taken_after slots largest order t) ≡ 200
unfolding taken_after
length_taken slots largest order zero = length-replicate {A = ℕ} 200 0
length_taken slots largest order (suc t) =
    let before = taken_after slots largest order t in
    length_taking slots order before (largest before) (length_taken slots largest order t)

pub none_taken : (slots : Slots) (largest : List ℕ → Option ℕ) (order : List ℕ) → taken_after slots largest order 0 ≡ replicate 200 0
unfolding taken_after
none_taken slots largest order = refl

-- a turn marks the first link that enters the set in question
pub taken_one_more : (slots : Slots) (largest : List ℕ → Option ℕ) (order : List ℕ) (t X k : ℕ) → largest (taken_after slots largest order t) ≡ Some X → first_entering slots X order ≡ Some k
    → taken_after slots largest order (suc t) ≡ set (taken_after slots largest order t) k 1
unfolding taken_after
taken_one_more slots largest order t X k asked first =
    let before = taken_after slots largest order t in ap (taking slots order before) asked ∙ ap (with_mark before) first

pub summed_same : (width : ℕ) (f g : ℕ → List ℤ) (m : ℕ) → ((k : ℕ) → k < m → f k ≡ g k) → summed width f m ≡ summed width g m
summed_same width f g zero same = refl
summed_same width f g (suc m) same = ap₂ plus (summed_same width f g m (λ k h. same k (omega arith))) (same m (omega arith))

module _ (n : ℕ) (a : Asked) (Member : ℕ → Type 0) (L : Lawful n a Member) (p : ℕ) (stops : StopsAfter (answer_after a) p) where
  open a use {width, slots}

  abbrev taken : ℕ → List ℕ
  taken t = taken_after a.slots a.largest (order_after a p) t

  -- the set that turn t is about, and the link that it takes
  abbrev pub wanting : ℕ → ℕ
  wanting t = unwrap_or (a.largest (taken_marks a p t)) 0

  abbrev pub link_taken : ℕ → ℕ
  link_taken t = earliest n a Member L p stops.before (wanting t)

  -- after stage 1 a used-up link enters every member
  used_up_enters : (X : ℕ) → Member X → (d : ℕ) × (used_up a (left_after a p) d ≡ true) × (enters_at slots d X ≡ true)
  used_up_enters X m =
      let (d, chosen, e) = L.smallest_none (used_marks a (left_after a p)) X stops.none m in
      (d, sym (marked_is_used_up n a Member L (left_after a p) d) ∙ chosen, e)

  pub wanting_is_largest : (t : ℕ) → is_some (a.largest (taken t)) ≡ true → Largest Member slots (taken t) (wanting t)
  wanting_is_largest t some = L.largest_found (taken t) (wanting t) (some_value (a.largest (taken t)) 0 some)

  module _ (t : ℕ) (some : is_some (a.largest (taken_marks a p t)) ≡ true) where
    found : (d : ℕ) × (used_up a (left_after a p) d ≡ true) × (enters_at slots d (wanting t) ≡ true)
    found = used_up_enters (wanting t) (wanting_is_largest t some).member

    pub link_is_some : first_entering slots (wanting t) (order_after a p) ≡ Some (link_taken t)
    link_is_some = let (d, used, e) = found in earliest_is_some n a Member L p stops.before (wanting t) d e used

    pub link_enters : enters_at slots (link_taken t) (wanting t) ≡ true
    link_enters = let (d, used, e) = found in earliest_enters n a Member L p stops.before (wanting t) d e used

    link_used_up : used_up a (left_after a p) (link_taken t) ≡ true
    link_used_up = let (d, used, e) = found in earliest_used_up n a Member L p stops.before (wanting t) d e used

    pub link_placed : link_taken t < 200
    link_placed = omega (arith, entering_is_listed slots (link_taken t) (wanting t) link_enters, L.sized)

    -- the turn marks that link
    pub taken_next : taken_marks a p (suc t) ≡ set (taken_marks a p t) (link_taken t) 1
    taken_next = taken_one_more slots a.largest (order_after a p) t (wanting t) (link_taken t) (some_value (a.largest (taken t)) 0 some) link_is_some

  module _ (q : ℕ) (before : (t : ℕ) → t < q → is_some (a.largest (taken_marks a p t)) ≡ true) where
    -- the marked links are those taken before
    marked_is_taken : (t k : ℕ) → t ≤ q → marked (taken t) k ≡ true → OneOf t link_taken k
    marked_is_taken zero k h e = absurd (none_marked k (subst (λ m. marked m k ≡ true) (none_taken slots a.largest (order_after a p)) e))
    marked_is_taken (suc t) k h e =
        ⊎_elim (λ same. (t, omega arith, sym same)) (λ old. let (u, l, s) = marked_is_taken t k (omega arith) old in (u, omega arith, s))
        (marked_after_set (taken t) (link_taken t) k (subst (λ m. marked m k ≡ true) (taken_next t (before t (omega arith))) e))

    taken_is_marked : (t u : ℕ) → t ≤ q → u < t → marked (taken t) (link_taken u) ≡ true
    taken_is_marked zero u h l = absurd (omega arith)
    taken_is_marked (suc t) u h l =
        let placed : link_taken t < length (taken t) = omega (arith, link_placed t (before t (omega arith)), length_taken slots a.largest (order_after a p) t) in
        subst (λ m. marked m (link_taken u) ≡ true) (sym (taken_next t (before t (omega arith))))
        (⊎_elim (λ same. subst (λ x. marked (set (taken t) (link_taken t) 1) (link_taken x) ≡ true) (sym same) (marked_set_same (taken t) (link_taken t) placed))
        (λ ne. still_marked (taken t) (link_taken t) (link_taken u) placed (taken_is_marked t u (omega arith) (omega arith))) (cases_eq u t))

    pub taken_stage : Taken width slots Member p (λ i k. left_of (left_after a i) k) q link_taken wanting
    taken_stage =
        record {
          member = λ t h. (wanting_is_largest t (before t h)).member;
          unentered = λ t u h l e. (wanting_is_largest t (before t h)).unentered (link_taken u, taken_is_marked t u (omega arith) l, e);
          greatest = λ t h X m inside free. (wanting_is_largest t (before t h)).no_whole X m
              (λ (k, chosen, e). let (u, l, s) = marked_is_taken t k (omega arith) chosen in free u l (subst (λ x. enters_at slots x X ≡ true) (sym s) e)) inside;
          enters = λ t h. link_enters t (before t h);
          nothing_left = λ t h. used_up→nothing n a Member L p (link_taken t) (link_used_up t (before t h));
          earliest = λ t i d h g e z. used_up→nothing n a Member L i (link_taken t)
              (none_earlier n a Member L p stops.before (wanting t) d e i g (nothing→used_up n a Member L i d (wanting t) e z));
        }

    -- ---- stage 3

    module _ (none : a.largest (taken_marks a p q) ≡ None) where
      taken_covers : Covering slots Member (marked (taken q))
      taken_covers X m = L.largest_none (taken q) X none m

      spared_covers : (marks : List ℕ) (k : ℕ) → Covering slots Member (marked marks) → Covering slots Member (marked (spared a.largest marks k))
      spared_covers marks k covers = go (marked marks k) (some_or_none (a.largest (set marks k 0)))
        where
          go : (b : Bool) → ((X : ℕ) × (a.largest (set marks k 0) ≡ Some X)) ⊎ (a.largest (set marks k 0) ≡ None)
              → Covering slots Member (marked (cond b (cond (is_some (a.largest (set marks k 0))) marks (set marks k 0)) marks))
          go false d = covers
          go true (inl (X, e)) = subst (λ b. Covering slots Member (marked (cond b marks (set marks k 0)))) (sym (ap is_some e)) covers
          go true (inr e) =
              subst (λ b. Covering slots Member (marked (cond b marks (set marks k 0)))) (sym (ap is_some e)) (λ X m. L.largest_none (set marks k 0) X e m)

      kept_covers_from : (k : ℕ) (marks : List ℕ) → Covering slots Member (marked marks) → Covering slots Member (marked (kept_of a.largest marks k))
      unfolding kept_of
      kept_covers_from zero marks covers = covers
      kept_covers_from (suc k) marks covers = kept_covers_from k (spared a.largest marks k) (spared_covers marks k covers)

      pub kept_covers : Covering slots Member (marked (kept_of a.largest (taken_marks a p q) 200))
      kept_covers = kept_covers_from 200 (taken q) taken_covers

    spared_was_marked : (marks : List ℕ) (k j : ℕ) → marked (spared a.largest marks k) j ≡ true → marked marks j ≡ true
    spared_was_marked marks k j e = go (marked marks k) (is_some (a.largest (set marks k 0))) e
      where
        go : (b c : Bool) → marked (cond b (cond c marks (set marks k 0)) marks) j ≡ true → marked marks j ≡ true
        go false c e = e
        go true true e = e
        go true false e = marked_after_clear marks k j e

    kept_was_marked : (k : ℕ) (marks : List ℕ) (j : ℕ) → marked (kept_of a.largest marks k) j ≡ true → marked marks j ≡ true
    unfolding kept_of
    kept_was_marked zero marks j e = e
    kept_was_marked (suc k) marks j e = spared_was_marked marks k j (kept_was_marked k (spared a.largest marks k) j e)

    pub kept_of_taken : (k : ℕ) → marked (kept_of a.largest (taken_marks a p q) 200) k ≡ true → OneOf q link_taken k
    kept_of_taken k e = marked_is_taken q k (omega arith) (kept_was_marked 200 (taken q) k e)

    pub kept_is_link : (k : ℕ) → marked (kept_of a.largest (taken_marks a p q) 200) k ≡ true → is_link slots k ≡ true
    kept_is_link k e =
        let (t, h, s) = kept_of_taken k e in
        subst (λ x. is_link slots x ≡ true) s (entering_is_link slots (link_taken t) (wanting t) (link_enters t (before t h)))

  -- at the first prices and at those in force links cost the same
  pub cost_at_first : (choice : ℕ → Bool) → cost_of width slots (λ k. left_of (left_after a 0) k) choice ≡ cost_in_force a choice
  cost_at_first choice =
      summed_same width (λ k. cond (choice k) (left_of (left_after a 0) k) (nothing width)) (λ k. cond (choice k) (price_of a k) (nothing width)) (length slots)
      (λ k h. ap (λ (x : List ℤ). cond (choice k) x (nothing width)) (left_of_first a k (omega (arith, L.sized))))

-- what the stages leave is a cheapest cover, at the sum of the amounts
module _ (n : ℕ) (a : Asked) (Member : ℕ → Type 0) (L : Lawful n a Member) (sets : ℕ) (marks : List ℕ) (done : Done a sets marks) where
  open a use {width, slots}

  theory : Cheapest width slots Member (λ k. left_of (left_after a 0) k) (marked (kept_of a.largest (taken_marks a sets done.turns) 200)) (summed width (amount_at a) sets)
  theory =
      kept_cheapest width slots Member sets (set_at a) (amount_at a) (λ i k. left_of (left_after a i) k)
      (packed_stage n a Member L sets done.packed.before) n L.family done.turns
      (link_taken n a Member L sets done.packed) (wanting n a Member L sets done.packed)
      (taken_stage n a Member L sets done.packed done.turns done.took.before)
      (marked (kept_of a.largest (taken_marks a sets done.turns) 200))
      (kept_of_taken n a Member L sets done.packed done.turns done.took.before)
      (kept_covers n a Member L sets done.packed done.turns done.took.before done.took.none)

  pub done_costs_the_amounts : cost_in_force a (marked marks) ≡ summed width (amount_at a) sets
  done_costs_the_amounts =
      ap (λ m. cost_in_force a (marked m)) done.kept ∙ sym (cost_at_first n a Member L sets done.packed (marked (kept_of a.largest (taken_marks a sets done.turns) 200))) ∙ theory.costs

  pub done_is_cheapest : CheapestCover a Member marks (cost_in_force a (marked marks))
  done_is_cheapest =
      record {
        of_links = λ k e. kept_is_link n a Member L sets done.packed done.turns done.took.before k (subst (λ m. marked m k ≡ true) done.kept e);
        enters_each = subst (λ m. Covering slots Member (marked m)) (sym done.kept) theory.covers;
        costs = refl;
        none_costs_less = λ choice covers.
            sym (ap₂ below (cost_at_first n a Member L sets done.packed choice) (sym done_costs_the_amounts)) ∙ theory.choices_cost_more choice covers;
      }
