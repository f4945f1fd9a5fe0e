-- The links in the order in which they came to nothing: they are just the used-up ones, the order only
-- grows at its end, and so the first of them that enters a set came to nothing as early as any that does.
use Rattle.std.proofs.Common.{◌≡◌, ℕ, zero, suc, ◌+◌, ◌-◌, ◌<◌, ◌≤◌, Bool, true, false, cond, not, ◌&&◌, List, [], ◌∷◌, ◌++◌, ℤ, is_some, Some, None, filter, unwrap_or, sym, refl, ap, ◌∙◌, subst, ⊎_elim, arith}
use Rattle.std.specs.List.{range_with_len, AllByRecursion}
use Rattle.std.proofs.lemmas.List.FromFn.{length-range_with_len, get_or-range_with_len}
use Rattle.std.proofs.ByRecursion.{All-get_or, All-append, All-weaker, kept_by_passes}
use Rattle.std.proofs.lemmas.Bool.{both_ways, cases_Bool, and_parts, and_from}
use Rattle.amount.specs.Parts.{minus, below, nothing}
use Rattle.digraph.specs.Entering.{enters_at}
use Rattle.digraph.specs.Links.{Slots}
use Rattle.duality.specs.Trees.{is_link}
use Rattle.stages.specs.Asked.{Asked}
use Rattle.stages.specs.Packing.{left_of, used_up, left_after, answer_after, set_at, amount_at, coming_to_nothing, order_after}
use Rattle.stages.specs.Taking.{first_entering}
use Rattle.stages.proofs.Lawful.{Lawful, some_value, some_or_none, link_is_placed, not_none}
use Rattle.stages.proofs.Lefts.{left_falls, set_is_unused}

-- ---- what holds of all that is kept

all_of_kept : (test : ℕ → Bool) (P : ℕ → Type 0) (xs : List ℕ) → AllByRecursion P (filter test xs) → AllByRecursion (λ x. test x ≡ true → P x) xs
all_of_kept test P [] all = tt
all_of_kept test P (x ∷ xs) all = go (test x) refl all (all_of_kept test P xs)
  where
    go : (b : Bool) → test x ≡ b → AllByRecursion P (cond b (x ∷ filter test xs) (filter test xs)) → (AllByRecursion P (filter test xs) → AllByRecursion (λ y. test y ≡ true → P y) xs)
        → (test x ≡ true → P x) × AllByRecursion (λ y. test y ≡ true → P y) xs
    go true e (here, rest) on = (λ _. here, on rest)
    go false e rest on = (λ q. absurd (both_ways (test x) e q), on rest)

all_split : (P : ℕ → Type 0) (xs ys : List ℕ) → AllByRecursion P (xs ++ ys) → AllByRecursion P xs × AllByRecursion P ys
all_split P [] ys all = (tt, all)
all_split P (x ∷ xs) ys (here, rest) = let both = all_split P xs ys rest in ((here, both.0), both.1)

-- what holds of the numbers kept holds of each below 200 that passes
each_kept : (test : ℕ → Bool) (P : ℕ → Type 0) → AllByRecursion P (filter test (range_with_len 0 200)) → (k : ℕ) → k < 200 → test k ≡ true → P k
each_kept test P all k h =
    subst (λ x. test x ≡ true → P x) (get_or-range_with_len 0 200 k 0 h ∙ (let z : 0 + k ≡ k = omega arith in z))
    (All-get_or (λ x. test x ≡ true → P x) (range_with_len 0 200) k 0 (omega (arith, length-range_with_len 0 200)) (all_of_kept test P (range_with_len 0 200) all))

-- ---- the first that enters

module _ (slots : Slots) (set : ℕ) where
  pub first_enters : (xs : List ℕ) (k : ℕ) → first_entering slots set xs ≡ Some k → enters_at slots k set ≡ true
  first_enters [] k e = absurd (not_none (Some k) refl (sym e))
  first_enters (x ∷ xs) k e = go (enters_at slots x set) refl e (first_enters xs k)
    where
      go : (b : Bool) → enters_at slots x set ≡ b → cond b (Some x) (first_entering slots set xs) ≡ Some k → (first_entering slots set xs ≡ Some k → enters_at slots k set ≡ true) → enters_at slots k set ≡ true
      go true q e on = subst (λ (y : ℕ). enters_at slots y set ≡ true) (let s : x ≡ k = cc in s) q
      go false q e on = on e

  pub first_is_one : (P : ℕ → Type 0) (xs : List ℕ) (k : ℕ) → AllByRecursion P xs → first_entering slots set xs ≡ Some k → P k
  first_is_one P [] k all e = absurd (not_none (Some k) refl (sym e))
  first_is_one P (x ∷ xs) k (here, rest) e = go (enters_at slots x set) e (first_is_one P xs k rest)
    where
      go : (b : Bool) → cond b (Some x) (first_entering slots set xs) ≡ Some k → (first_entering slots set xs ≡ Some k → P k) → P k
      go true e on = subst P (let s : x ≡ k = cc in s) here
      go false e on = on e

  pub none_enters : (xs : List ℕ) → first_entering slots set xs ≡ None → AllByRecursion (λ k. enters_at slots k set ≡ false) xs
  none_enters [] e = tt
  none_enters (x ∷ xs) e = go (enters_at slots x set) refl e (none_enters xs)
    where
      go : (b : Bool) → enters_at slots x set ≡ b → cond b (Some x) (first_entering slots set xs) ≡ None → (first_entering slots set xs ≡ None → AllByRecursion (λ k. enters_at slots k set ≡ false) xs)
          → (enters_at slots x set ≡ false) × AllByRecursion (λ k. enters_at slots k set ≡ false) xs
      go true q e on = absurd (not_none (Some x) refl e)
      go false q e on = (q, on e)

  first_of_more : (xs ys : List ℕ) (k : ℕ) → first_entering slots set xs ≡ Some k → first_entering slots set (xs ++ ys) ≡ Some k
  first_of_more [] ys k e = absurd (not_none (Some k) refl (sym e))
  first_of_more (x ∷ xs) ys k e = go (enters_at slots x set) e (first_of_more xs ys k)
    where
      go : (b : Bool) → cond b (Some x) (first_entering slots set xs) ≡ Some k → (first_entering slots set xs ≡ Some k → first_entering slots set (xs ++ ys) ≡ Some k)
          → cond b (Some x) (first_entering slots set (xs ++ ys)) ≡ Some k
      go true e on = e
      go false e on = on e

-- ---- the order grows at its end

pub order_at_first : (a : Asked) → order_after a 0 ≡ filter (used_up a (left_after a 0)) (range_with_len 0 200)
unfolding order_after
order_at_first a = refl

pub order_grows : (a : Asked) (i : ℕ) → order_after a (suc i) ≡ order_after a i ++ filter (coming_to_nothing a (left_after a (suc i)) (set_at a i)) (range_with_len 0 200)
unfolding order_after
order_grows a i = refl

first_stays : (a : Asked) (set i more k : ℕ) → first_entering a.slots set (order_after a i) ≡ Some k → first_entering a.slots set (order_after a (i + more)) ≡ Some k
first_stays a set i zero k e = subst (λ x. first_entering a.slots set (order_after a x) ≡ Some k) (let z : i ≡ i + 0 = omega arith in z) e
first_stays a set i (suc more) k e =
    subst (λ x. first_entering a.slots set (order_after a x) ≡ Some k) (let z : suc (i + more) ≡ i + suc more = omega arith in z)
    (ap (first_entering a.slots set) (order_grows a (i + more))
    ∙ first_of_more a.slots set (order_after a (i + more)) (filter (coming_to_nothing a (left_after a (suc (i + more))) (set_at a (i + more))) (range_with_len 0 200)) k (first_stays a set i more k e))

module _ (n : ℕ) (a : Asked) (Member : ℕ → Type 0) (L : Lawful n a Member) (p : ℕ) (before : (i : ℕ) → i < p → is_some (answer_after a i) ≡ true) where
  open a use {width, slots}

  -- a link that does not enter the next set is used up after it where it was before
  used_up_as_before : (i k : ℕ) → i < p → k < 200 → enters_at slots k (set_at a i) ≡ false → used_up a (left_after a (suc i)) k ≡ used_up a (left_after a i) k
  used_up_as_before i k h small e =
      ap (λ (x : List ℤ). is_link slots k && not (below (nothing width) x))
      (left_falls a i k (before i h) small ∙ ap (λ b. cond b (minus (left_of (left_after a i) k) (amount_at a i)) (left_of (left_after a i) k)) e)

  used_up_is_placed : (i k : ℕ) → used_up a (left_after a i) k ≡ true → k < 200
  used_up_is_placed i k used =
      omega (arith, link_is_placed slots k (and_parts (is_link slots k) (not (below (nothing width) (left_of (left_after a i) k))) used).0, L.sized)

  stays_used_up : (i k : ℕ) → i < p → used_up a (left_after a i) k ≡ true → used_up a (left_after a (suc i)) k ≡ true
  stays_used_up i k h used =
      ⊎_elim (λ e. absurd (set_is_unused n a Member L i k (before i h) e used))
      (λ e. used_up_as_before i k h (used_up_is_placed i k used) e ∙ used) (cases_Bool (enters_at slots k (set_at a i)))

  -- what is in the order is used up
  pub order_used_up : (i : ℕ) → i ≤ p → AllByRecursion (λ k. used_up a (left_after a i) k ≡ true) (order_after a i)
  unfolding order_after
  order_used_up zero h = kept_by_passes (used_up a (left_after a 0)) (range_with_len 0 200)
  order_used_up (suc i) h =
      All-append (λ k. used_up a (left_after a (suc i)) k ≡ true) (order_after a i) (filter (coming_to_nothing a (left_after a (suc i)) (set_at a i)) (range_with_len 0 200))
      (All-weaker (λ k. used_up a (left_after a i) k ≡ true) (λ k. used_up a (left_after a (suc i)) k ≡ true) (λ k. stays_used_up i k (omega arith)) (order_after a i) (order_used_up i (omega arith)))
      (All-weaker (λ k. coming_to_nothing a (left_after a (suc i)) (set_at a i) k ≡ true) (λ k. used_up a (left_after a (suc i)) k ≡ true) (λ k e. (and_parts (enters_at slots k (set_at a i)) (used_up a (left_after a (suc i)) k) e).1) (filter (coming_to_nothing a (left_after a (suc i)) (set_at a i)) (range_with_len 0 200)) (kept_by_passes (coming_to_nothing a (left_after a (suc i)) (set_at a i)) (range_with_len 0 200)))

  -- and what is used up is in the order
  pub used_up_in_order : (Q : ℕ → Type 0) (i : ℕ) → i ≤ p → AllByRecursion Q (order_after a i) → (k : ℕ) → used_up a (left_after a i) k ≡ true → Q k
  unfolding order_after
  used_up_in_order Q zero h all k used = each_kept (used_up a (left_after a 0)) Q all k (used_up_is_placed 0 k used) used
  used_up_in_order Q (suc i) h all k used =
      let test = coming_to_nothing a (left_after a (suc i)) (set_at a i) in
      let both = all_split Q (order_after a i) (filter test (range_with_len 0 200)) all in
      let small = used_up_is_placed (suc i) k used in
      ⊎_elim
      (λ e. each_kept test Q both.1 k small (and_from (enters_at slots k (set_at a i)) (used_up a (left_after a (suc i)) k) e used))
      (λ e. used_up_in_order Q i (omega arith) both.0 k (sym (used_up_as_before i k (omega arith) small e) ∙ used))
      (cases_Bool (enters_at slots k (set_at a i)))

  -- a used-up link that enters a set has one in the order that does
  first_found : (set i d : ℕ) → i ≤ p → enters_at slots d set ≡ true → used_up a (left_after a i) d ≡ true → (k : ℕ) × (first_entering slots set (order_after a i) ≡ Some k)
  first_found set i d h e used = ⊎_elim (λ t. t) (λ none. absurd (missed none)) (some_or_none (first_entering slots set (order_after a i)))
    where
      missed : first_entering slots set (order_after a i) ≡ None → ⊥
      missed none =
          both_ways (enters_at slots d set)
          (used_up_in_order (λ k. enters_at slots k set ≡ false) i h (none_enters slots set (order_after a i) none) d used) e

  abbrev pub earliest : ℕ → ℕ
  earliest set = unwrap_or (first_entering slots set (order_after a p)) 0

  module _ (set d : ℕ) (e : enters_at slots d set ≡ true) where
    pub earliest_is_some : used_up a (left_after a p) d ≡ true → first_entering slots set (order_after a p) ≡ Some (earliest set)
    earliest_is_some used =
        let (k, q) = first_found set p d (omega arith) e used in some_value (first_entering slots set (order_after a p)) 0 (ap is_some q)

    pub earliest_enters : used_up a (left_after a p) d ≡ true → enters_at slots (earliest set) set ≡ true
    earliest_enters used = first_enters slots set (order_after a p) (earliest set) (earliest_is_some used)

    pub earliest_used_up : used_up a (left_after a p) d ≡ true → used_up a (left_after a p) (earliest set) ≡ true
    earliest_used_up used =
        first_is_one slots set (λ k. used_up a (left_after a p) k ≡ true) (order_after a p) (earliest set) (order_used_up p (omega arith)) (earliest_is_some used)

    -- whenever a link that enters the set was used up, so was the earliest
    pub none_earlier : (i : ℕ) → i ≤ p → used_up a (left_after a i) d ≡ true → used_up a (left_after a i) (earliest set) ≡ true
    none_earlier i h used =
        let (k, q) = first_found set i d h e used in
        let at_end : first_entering slots set (order_after a p) ≡ Some k = subst (λ x. first_entering slots set (order_after a x) ≡ Some k) (let z : i + (p - i) ≡ p = omega arith in z) (first_stays a set i (p - i) k q) in
        subst (λ x. used_up a (left_after a i) x ≡ true) (sym (ap (λ o. unwrap_or o 0) at_end))
        (first_is_one slots set (λ x. used_up a (left_after a i) x ≡ true) (order_after a i) k (order_used_up i h) q)
