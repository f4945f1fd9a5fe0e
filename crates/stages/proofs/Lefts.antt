-- Stage 1, set by set: what is left keeps its width and never falls below nothing, the links with nothing
-- left are the marked ones, and so the sets, amounts and remainders are a packing of the general theory.
use Rattle.std.proofs.Common.{◌≡◌, ℕ, zero, suc, ◌+◌, ◌*◌, ◌<◌, ◌≤◌, Bool, true, false, cond, not, ◌&&◌, List, [], ◌∷◌, length, get_or, replicate, ℤ, pos, neg_ℤ, is_some, Some, None, Option, unwrap_or, sym, refl, ap, ◌∙◌, subst, arith}
use lib.Signed.{le_z}
use Rattle.std.proofs.lemmas.List.FromFn.{get_or-map-range_with_len, length-map-range_with_len}
use Rattle.std.proofs.lemmas.List.{get_or_past}
use Rattle.std.proofs.lemmas.Int.{ints}
use Rattle.std.proofs.lemmas.Bool.{both_ways, and_parts, and_from, and_left, not-true, not_from_false}
use Rattle.amount.specs.Parts.{minus, below, nothing, within, Fitting}
use Rattle.amount.proofs.Group.{length_nothing, length_minus, minus_below_nothing}
use Rattle.amount.proofs.Order.{not_below_itself, equal_if_neither_below}
use Rattle.digraph.specs.Entering.{enters_at, marked, Entered}
use Rattle.digraph.specs.Links.{Slots}
use Rattle.stations.specs.Sets.{Part}
use Rattle.duality.specs.Stages.{Packed}
use Rattle.duality.specs.Trees.{is_link}
use Rattle.duality.proofs.Entering.{entering_is_listed}
use Rattle.duality.proofs.Levels.{Within}
use Rattle.duality.proofs.Listed.{few_and_nested, left_parts_within, amount_parts_within}
use Rattle.duality.proofs.Wide.{part, fitting_of_parts}
use Rattle.family.specs.Laws.{Smallest}
use Rattle.stages.specs.Asked.{Asked, price_of}
use Rattle.stages.specs.Packing.{Left, left_of, used_up, used_marks, tightest, amount_of, lowered, stepped, left_after, answer_after, set_at, amount_at}
use Rattle.stages.proofs.Lawful.{Lawful, some_value, entering_is_link, link_is_placed, marked_each}
use Rattle.stages.proofs.Tightest.{tightest_enters, no_less_left}

-- ---- places

pub left_of_lowered : (slots : Slots) (left : Left) (set : ℕ) (amount : List ℤ) (k : ℕ) → k < 200
    → left_of (lowered slots left set amount) k ≡ cond (enters_at slots k set) (minus (left_of left k) amount) (left_of left k)
left_of_lowered slots left set amount k h =
    get_or-map-range_with_len (λ j. cond (enters_at slots j set) (minus (left_of left j) amount) (left_of left j)) 0 200 k k [] h (omega arith)

left_of_stepped : (slots : Slots) (left : Left) (o : Option ℕ) (k : ℕ) → is_some o ≡ true → k < 200
    → left_of (stepped slots left o) k ≡ cond (enters_at slots k (unwrap_or o 0)) (minus (left_of left k) (amount_of slots left (unwrap_or o 0))) (left_of left k)
left_of_stepped slots left None k e h = absurd (both_ways false refl e)
left_of_stepped slots left (Some set) k e h = left_of_lowered slots left set (amount_of slots left set) k h

pub left_of_first : (a : Asked) (k : ℕ) → k < 200 → left_of (left_after a 0) k ≡ price_of a k
unfolding left_after
left_of_first a k h = get_or-map-range_with_len (price_of a) 0 200 k k [] h (omega arith)

-- a set's amount falls off what is left of the links that enter it
pub left_falls : (a : Asked) (i k : ℕ) → is_some (answer_after a i) ≡ true → k < 200
    → left_of (left_after a (suc i)) k ≡ cond (enters_at a.slots k (set_at a i)) (minus (left_of (left_after a i) k) (amount_at a i)) (left_of (left_after a i) k)
unfolding left_after
left_falls a i k e h = left_of_stepped a.slots (left_after a i) (answer_after a i) k e h

length_stepped : (slots : Slots) (left : Left) (o : Option ℕ) → length left ≡ 200 → length (stepped slots left o) ≡ 200
length_stepped slots left None h = h
length_stepped slots left (Some set) h =
    length-map-range_with_len (λ j. cond (enters_at slots j set) (minus (left_of left j) (amount_of slots left set)) (left_of left j)) 0 200

pub length_left : (a : Asked) (i : ℕ) → length (left_after a i) ≡ 200
unfolding left_after
length_left a zero = length-map-range_with_len (price_of a) 0 200
length_left a (suc i) = length_stepped a.slots (left_after a i) (answer_after a i) (length_left a i)

-- ---- parts

all_three : (p q r : Bool) → p ≡ true → q ≡ true → r ≡ true → (p && q && r) ≡ true
all_three true true true h i j = refl
all_three true true false h i j = j
all_three true false r h i j = absurd (both_ways false refl i)
all_three false q r h i j = absurd (both_ways false refl h)

within_nothing : (limit width : ℕ) → within limit (nothing width) ≡ true
within_nothing limit zero = refl
within_nothing limit (suc width) =
    all_three (le_z (neg_ℤ (pos limit)) (pos 0)) (le_z (pos 0) (pos limit)) (within limit (nothing width)) (grind (arith, ints)) (grind (arith, ints)) (within_nothing limit width)

pub within_of_parts : (b limit : ℕ) (l : List ℤ) → b ≤ limit → ((i : ℕ) → i < length l → Within b (part i l)) → within limit l ≡ true
within_of_parts b limit [] h all = refl
within_of_parts b limit (x ∷ xs) h all =
    let first = all 0 (omega arith) in
    all_three (le_z (neg_ℤ (pos limit)) x) (le_z x (pos limit)) (within limit xs) (grind (arith, ints, first)) (grind (arith, ints, first)) (within_of_parts b limit xs h (λ i l. all (suc i) (omega arith)))

module _ (n : ℕ) (a : Asked) (Member : ℕ → Type 0) (L : Lawful n a Member) where
  open a use {width, slots}

  placed : (k set : ℕ) → enters_at slots k set ≡ true → k < 200
  placed k set e = omega (arith, entering_is_listed slots k set e, L.sized)

  -- ---- what is left stays as wide as a price, and not below nothing

  abbrev pub Good : Left → Type 0
  Good left = (k : ℕ) → k < 200 → (length (left_of left k) ≡ width) × (below (left_of left k) (nothing width) ≡ false)

  price_good : (k : ℕ) → (length (price_of a k) ≡ width) × (below (price_of a k) (nothing width) ≡ false)
  price_good k = go (is_link slots k) refl
    where
      go : (b : Bool) → is_link slots k ≡ b → (length (cond b (get_or a.column k []) (nothing width)) ≡ width) × (below (cond b (get_or a.column k []) (nothing width)) (nothing width) ≡ false)
      go false e = (length_nothing width, not_below_itself (nothing width))
      go true e =
          let wide = L.price_wide k e in
          let p = get_or a.column k [] in
          (wide, subst (λ w. below p (nothing w) ≡ false) wide (not-true (below p (nothing (length p))) (and_parts (not (below p (nothing (length p)))) (within 100000 p) (L.price_legal k e)).0))

  lowered_good : (left : Left) (set : ℕ) → Good left → Good (lowered slots left set (amount_of slots left set))
  lowered_good left set good k h = subst (λ (x : List ℤ). (length x ≡ width) × (below x (nothing width) ≡ false)) (sym (left_of_lowered slots left set y k h)) (go (enters_at slots k set) refl)
    where
      y : List ℤ
      y = amount_of slots left set

      go : (b : Bool) → enters_at slots k set ≡ b → (length (cond b (minus (left_of left k) y) (left_of left k)) ≡ width) × (below (cond b (minus (left_of left k) y) (left_of left k)) (nothing width) ≡ false)
      go false e = good k h
      go true e =
          let j = unwrap_or (tightest slots left set) 0 in
          let wide_y = (good j (placed j set (tightest_enters slots left set L.sized k e h))).0 in
          (length_minus (left_of left k) y (good k h).0 wide_y, minus_below_nothing width (left_of left k) y (good k h).0 wide_y ∙ no_less_left slots left set L.sized k e h)

  stepped_good : (left : Left) (o : Option ℕ) → Good left → Good (stepped slots left o)
  stepped_good left None good = good
  stepped_good left (Some set) good = lowered_good left set good

  pub left_good : (i : ℕ) → Good (left_after a i)
  unfolding left_after
  left_good zero k h = subst (λ (x : List ℤ). (length x ≡ width) × (below x (nothing width) ≡ false)) (sym (left_of_first a k h)) (price_good k)
  left_good (suc i) k h = stepped_good (left_after a i) (answer_after a i) (left_good i) k h

  -- ---- the links with nothing left are the marked ones

  unused_beyond : (left : Left) (k : ℕ) → 200 ≤ k → used_up a left k ≡ false
  unused_beyond left k h = and_left (is_link slots k) _ (ap is_some (get_or_past slots k None (omega (arith, L.sized))))

  pub marked_is_used_up : (left : Left) (k : ℕ) → marked (used_marks a left) k ≡ used_up a left k
  marked_is_used_up left k = marked_each (used_up a left) (unused_beyond left) k

  pub used_up→nothing : (i k : ℕ) → used_up a (left_after a i) k ≡ true → left_of (left_after a i) k ≡ nothing width
  used_up→nothing i k e =
      let both = and_parts (is_link slots k) (not (below (nothing width) (left_of (left_after a i) k))) e in
      let h : k < 200 = omega (arith, link_is_placed slots k both.0, L.sized) in
      equal_if_neither_below (left_of (left_after a i) k) (nothing width) (left_good i k h).1 (not-true (below (nothing width) (left_of (left_after a i) k)) both.1)

  pub nothing→used_up : (i k set : ℕ) → enters_at slots k set ≡ true → left_of (left_after a i) k ≡ nothing width → used_up a (left_after a i) k ≡ true
  nothing→used_up i k set e z =
      and_from (is_link slots k) (not (below (nothing width) (left_of (left_after a i) k))) (entering_is_link slots k set e)
      (not_from_false (below (nothing width) (left_of (left_after a i) k)) (ap (below (nothing width)) z ∙ not_below_itself (nothing width)))

  -- ---- the sets are lawful answers

  pub answer_is_smallest : (i : ℕ) → is_some (answer_after a i) ≡ true → Smallest Member slots (used_marks a (left_after a i)) (set_at a i)
  answer_is_smallest i e = L.smallest_found (used_marks a (left_after a i)) (set_at a i) (some_value (answer_after a i) 0 e)

  -- no link that enters the next set is used up
  pub set_is_unused : (i k : ℕ) → is_some (answer_after a i) ≡ true → enters_at slots k (set_at a i) ≡ true → used_up a (left_after a i) k ≡ true → ⊥
  set_is_unused i k some e used = (answer_is_smallest i some).unentered (k, marked_is_used_up (left_after a i) k ∙ used, e)

  pub member_entered : (X : ℕ) → Member X → Entered slots (replicate 200 1) X
  member_entered X m = L.smallest_none (replicate 200 1) X L.none_left_out m

  -- some link enters a member, so its tightest link does
  pub tightest_enters_member : (left : Left) (X : ℕ) → Member X → enters_at slots (unwrap_or (tightest slots left X) 0) X ≡ true
  tightest_enters_member left X m =
      let (k, all, e) = member_entered X m in tightest_enters slots left X L.sized k e (placed k X e)

  no_smaller : (i : ℕ) → is_some (answer_after a i) ≡ true → (X : ℕ) → Member X → Part X (set_at a i)
      → ((k : ℕ) → enters_at slots k X ≡ true → left_of (left_after a i) k ≡ nothing width → ⊥) → X ≡ set_at a i
  no_smaller i some X m inside free =
      (answer_is_smallest i some).no_part X m
      (λ (k, chosen, e). free k e (used_up→nothing i k (sym (marked_is_used_up (left_after a i) k) ∙ chosen))) inside

  -- ---- so they are a packing

  module _ (p : ℕ) (before : (i : ℕ) → i < p → is_some (answer_after a i) ≡ true) where
    pub packed_stage : Packed width slots Member p (set_at a) (amount_at a) (λ i k. left_of (left_after a i) k)
    packed_stage =
        record {
          prices_wide = λ k h. (left_good 0 k (omega (arith, L.sized))).0;
          prices = λ k h. (left_good 0 k (omega (arith, L.sized))).1;
          member = λ i h. (answer_is_smallest i (before i h)).member;
          unentered = λ i k h e z. set_is_unused i k (before i h) e (nothing→used_up i k (set_at a i) e z);
          least = λ i h. no_smaller i (before i h);
          tight = λ i h.
              (unwrap_or (tightest slots (left_after a i) (set_at a i)) 0, tightest_enters_member (left_after a i) (set_at a i) (answer_is_smallest i (before i h)).member, refl);
          at_most = λ i k h e. no_less_left slots (left_after a i) (set_at a i) L.sized k e (placed k (set_at a i) e);
          fall = λ i k h g. left_falls a i k (before i h) (omega (arith, L.sized));
        }

    -- at most 79 sets
    pub few_sets : p ≤ 79
    few_sets = omega (arith, (few_and_nested width slots Member p (set_at a) (amount_at a) (λ i k. left_of (left_after a i) k) packed_stage n L.family).few L.some, L.few)

    price_within : (k : ℕ) → k < length slots → within 100000 (left_of (left_after a 0) k) ≡ true
    price_within k h = ap (within 100000) (left_of_first a k (omega (arith, L.sized))) ∙ go (is_link slots k) refl
      where
        go : (b : Bool) → is_link slots k ≡ b → within 100000 (cond b (get_or a.column k []) (nothing width)) ≡ true
        go false e = within_nothing 100000 width
        go true e = (and_parts (not (below (get_or a.column k []) (nothing (length (get_or a.column k []))))) (within 100000 (get_or a.column k [])) (L.price_legal k e)).1

    left_parts : (part_number i k : ℕ) → i ≤ p → k < 200 → Within (100000 * (p + 1)) (part part_number (left_of (left_after a i) k))
    left_parts j i k h g =
        left_parts_within width slots Member p (set_at a) (amount_at a) (λ i k. left_of (left_after a i) k) packed_stage n L.family 100000 price_within j i k h (omega (arith, L.sized))

    amount_parts : (part_number i : ℕ) → i < p → Within (100000 * (p + 1)) (part part_number (amount_at a i))
    amount_parts =
        amount_parts_within width slots Member p (set_at a) (amount_at a) (λ i k. left_of (left_after a i) k) packed_stage n L.family 100000 price_within

    -- no part of what is left or of an amount lies beyond 8,000,000, so each fits 64 bits
    pub left_within : (i k : ℕ) → i ≤ p → k < 200 → within 8000000 (left_of (left_after a i) k) ≡ true
    left_within i k h g = within_of_parts (100000 * (p + 1)) 8000000 (left_of (left_after a i) k) (omega (arith, few_sets)) (λ j d. left_parts j i k h g)

    pub amount_within : (i : ℕ) → i < p → within 8000000 (amount_at a i) ≡ true
    amount_within i h = within_of_parts (100000 * (p + 1)) 8000000 (amount_at a i) (omega (arith, few_sets)) (λ j d. amount_parts j i h)

    pub left_fits : (i k : ℕ) → i ≤ p → k < 200 → Fitting (left_of (left_after a i) k)
    left_fits i k h g = fitting_of_parts (100000 * (p + 1)) (left_of (left_after a i) k) (omega (arith, few_sets)) (λ j d. left_parts j i k h g)
