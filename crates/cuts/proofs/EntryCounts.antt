-- What enters a meet or a union of two sets enters one of the two, and both together no oftener than the two; and how counts of entries
-- go with the places of a list. For one link by a table of the places of its ends in the two sets, for a list by induction.
use Rattle.std.proofs.Common.{◌≡◌, ℕ, zero, suc, ◌+◌, ◌^◌, ◌<◌, ◌≤◌, Bool, true, false, cond, not, ◌&&◌, ◌||◌, ◌⊎◌, List, [], ◌∷◌, length, get_or, is_some, Some, None, Option, sym, refl, ap, subst, inl, inr, arith}
use lib.Bits.{bit_and, bit_or}
use lib.ListN.{get_or-eq_default}
use native.Mathlib.Decide.{dec_lt}
use Rattle.std.proofs.lemmas.Bool.{false≢true, both_ways, not-true, and_parts, cases_Bool, cases_order, cond-true, cond-false, cond_both}
use Rattle.stations.specs.Sets.{digit, In, has}
use Rattle.stations.proofs.Digits.{In-pow, digit_le_1, digit_and, digit_or, has→In, In→has, lacks→out, out→lacks, in_or_out}
use Rattle.digraph.specs.Entering.{enters, enters_at, EnteredBy}
use Rattle.digraph.specs.Links.{Slots, link_at, Leads}
use Rattle.digraph.specs.declared.link.Link.{Link}
use Rattle.cuts.specs.Entries.{entry, entries}
use Rattle.cuts.specs.Families.{Unentered}

-- ---- one link

-- a link enters a set that has its head and lacks its tail, and no other
pub record Enters (slots : Slots) (k set : ℕ) : Type 0 where
  pub tail : ℕ
  pub head : ℕ
  pub leads : Leads slots k tail head
  pub head_in : In set head
  pub tail_out : digit set tail ≡ 0

pub enters→ends : (slots : Slots) (k set : ℕ) → enters_at slots k set ≡ true → Enters slots k set
enters→ends slots k set = go (link_at slots k) refl
  where
    go : (o : Option Link) → link_at slots k ≡ o → enters o set ≡ true → Enters slots k set
    go None e h = absurd (false≢true h)
    go (Some l) e h =
        let ends = and_parts (has set l.head) (not (has set l.tail)) h in
        record { tail = l.tail; head = l.head; leads = e; head_in = has→In set l.head ends.0; tail_out = lacks→out set l.tail (not-true (has set l.tail) ends.1) }

pub ends→enters : (slots : Slots) (k u v set : ℕ) → Leads slots k u v → In set v → digit set u ≡ 0 → enters_at slots k set ≡ true
ends→enters slots k u v set leads h o = rw (leads, In→has set v h, out→lacks set u o) refl

pub enters→is_link : (slots : Slots) (k set : ℕ) → enters_at slots k set ≡ true → is_some (link_at slots k) ≡ true
enters→is_link slots k set e = ap is_some (enters→ends slots k set e).leads

-- what enters a single station leads into it
pub enters_station→leads : (slots : Slots) (k v : ℕ) → enters_at slots k (2 ^ v) ≡ true → (u : ℕ) × Leads slots k u v
enters_station→leads slots k v e =
    let ends = enters→ends slots k (2 ^ v) e in
    (ends.tail, subst (λ (x : ℕ). Leads slots k ends.tail x) (sym (In-pow v ends.head ends.head_in)) ends.leads)

-- a number past the table's end has no link to enter anything
pub enters_within : (slots : Slots) (k set : ℕ) → enters_at slots k set ≡ true → k < length slots
enters_within slots k set e = go (dec_lt k (length slots))
  where
    go : Dec (k < length slots) → k < length slots
    go (yes h) = h
    go (no far) =
        let past : length slots ≤ k = omega arith in
        absurd (both_ways (enters_at slots k set) (ap (λ (o : Option Link). enters o set) (get_or-eq_default slots None past)) e)

pub entry_le_1 : (slots : Slots) (k set : ℕ) → entry slots k set ≤ 1
entry_le_1 slots k set = cond_both (enters_at slots k set) 1 0 (λ x. x ≤ 1) (λ e. omega arith) (λ e. omega arith)

pub not_enters→entry_0 : (slots : Slots) (k set : ℕ) → enters_at slots k set ≡ false → entry slots k set ≡ 0
not_enters→entry_0 slots k set e = cond-false (enters_at slots k set) 1 0 e

pub entry_1→enters : (slots : Slots) (k set : ℕ) → 1 ≤ entry slots k set → enters_at slots k set ≡ true
entry_1→enters slots k set h = go (cases_Bool (enters_at slots k set))
  where
    go : (enters_at slots k set ≡ true) ⊎ (enters_at slots k set ≡ false) → enters_at slots k set ≡ true
    go (inl e) = e
    go (inr e) = absurd (omega (arith, not_enters→entry_0 slots k set e))

pub enters→entry_1 : (slots : Slots) (k set : ℕ) → enters_at slots k set ≡ true → entry slots k set ≡ 1
enters→entry_1 slots k set e = cond-true (enters_at slots k set) 1 0 e

-- the head's and the tail's places in two sets, and what a link with such ends enters
table : (ha hb ta tb : Bool)
    → cond ((ha && hb) && not (ta && tb)) 1 0 + cond ((ha || hb) && not (ta || tb)) 1 0 ≤ cond (ha && not ta) 1 0 + cond (hb && not tb) 1 0
table true true true true = omega arith
table true true true false = omega arith
table true true false true = omega arith
table true true false false = omega arith
table true false true true = omega arith
table true false true false = omega arith
table true false false true = omega arith
table true false false false = omega arith
table false true true true = omega arith
table false true true false = omega arith
table false true false true = omega arith
table false true false false = omega arith
table false false true true = omega arith
table false false true false = omega arith
table false false false true = omega arith
table false false false false = omega arith

has_and : (a b s : ℕ) → has (bit_and a b) s ≡ has a s && has b s
has_and a b s = go (in_or_out a s) (in_or_out b s)
  where
    go : In a s ⊎ (digit a s ≡ 0) → In b s ⊎ (digit b s ≡ 0) → has (bit_and a b) s ≡ has a s && has b s
    go (inl h) (inl g) = rw (In→has a s h, In→has b s g) (In→has (bit_and a b) s (omega (arith, digit_and a b s)))
    go (inl h) (inr g) = rw (In→has a s h, out→lacks b s g) (out→lacks (bit_and a b) s (omega (arith, digit_and a b s)))
    go (inr h) g = rw (out→lacks a s h) (out→lacks (bit_and a b) s (omega (arith, digit_and a b s)))

has_or : (a b s : ℕ) → has (bit_or a b) s ≡ has a s || has b s
has_or a b s = go (in_or_out a s) (in_or_out b s)
  where
    go : In a s ⊎ (digit a s ≡ 0) → In b s ⊎ (digit b s ≡ 0) → has (bit_or a b) s ≡ has a s || has b s
    go (inl h) g = rw (In→has a s h) (In→has (bit_or a b) s (omega (arith, digit_or a b s, digit_le_1 b s)))
    go (inr h) (inl g) = rw (out→lacks a s h, In→has b s g) (In→has (bit_or a b) s (omega (arith, digit_or a b s)))
    go (inr h) (inr g) = rw (out→lacks a s h, out→lacks b s g) (out→lacks (bit_or a b) s (omega (arith, digit_or a b s)))

pub entry_and_or : (slots : Slots) (k a b : ℕ)
    → entry slots k (bit_and a b) + entry slots k (bit_or a b) ≤ entry slots k a + entry slots k b
entry_and_or slots k a b = go (link_at slots k)
  where
    go : (o : Option Link) → cond (enters o (bit_and a b)) 1 0 + cond (enters o (bit_or a b)) 1 0 ≤ cond (enters o a) 1 0 + cond (enters o b) 1 0
    go None = omega arith
    go (Some l) =
        rw (has_and a b l.head, has_and a b l.tail, has_or a b l.head, has_or a b l.tail)
        (table (has a l.head) (has b l.head) (has a l.tail) (has b l.tail))

one_of_two : (slots : Slots) (k a b : ℕ) → 1 ≤ entry slots k a + entry slots k b → (enters_at slots k a ≡ true) ⊎ (enters_at slots k b ≡ true)
one_of_two slots k a b h = go (cases_Bool (enters_at slots k a))
  where
    go : (enters_at slots k a ≡ true) ⊎ (enters_at slots k a ≡ false) → (enters_at slots k a ≡ true) ⊎ (enters_at slots k b ≡ true)
    go (inl e) = inl e
    go (inr e) = inr (entry_1→enters slots k b (omega (arith, not_enters→entry_0 slots k a e)))

pub enters_and→enters_one : (slots : Slots) (k a b : ℕ) → enters_at slots k (bit_and a b) ≡ true
    → (enters_at slots k a ≡ true) ⊎ (enters_at slots k b ≡ true)
enters_and→enters_one slots k a b e = one_of_two slots k a b (omega (arith, entry_and_or slots k a b, enters→entry_1 slots k (bit_and a b) e))

pub enters_or→enters_one : (slots : Slots) (k a b : ℕ) → enters_at slots k (bit_or a b) ≡ true
    → (enters_at slots k a ≡ true) ⊎ (enters_at slots k b ≡ true)
enters_or→enters_one slots k a b e = one_of_two slots k a b (omega (arith, entry_and_or slots k a b, enters→entry_1 slots k (bit_or a b) e))

-- ---- the links of a list

pub entries_and_or : (slots : Slots) (list : List ℕ) (a b : ℕ)
    → entries slots list (bit_and a b) + entries slots list (bit_or a b) ≤ entries slots list a + entries slots list b
entries_and_or slots [] a b = omega arith
entries_and_or slots (k ∷ ks) a b = omega (arith, entry_and_or slots k a b, entries_and_or slots ks a b)

pub enters→entries : (slots : Slots) (list : List ℕ) (set i : ℕ) → i < length list → enters_at slots (get_or list i 0) set ≡ true
    → 1 ≤ entries slots list set
enters→entries slots [] set i h e = absurd (omega arith)
enters→entries slots (k ∷ ks) set zero h e = omega (arith, enters→entry_1 slots k set e)
enters→entries slots (k ∷ ks) set (suc i) h e = omega (arith, enters→entries slots ks set i (omega arith) e)

-- two places of the list count twice
pub enter_twice→entries : (slots : Slots) (list : List ℕ) (set i j : ℕ) → i < j → j < length list
    → enters_at slots (get_or list i 0) set ≡ true → enters_at slots (get_or list j 0) set ≡ true → 2 ≤ entries slots list set
enter_twice→entries slots [] set i j l h p q = absurd (omega arith)
enter_twice→entries slots (k ∷ ks) set i zero l h p q = absurd (omega arith)
enter_twice→entries slots (k ∷ ks) set zero (suc j) l h p q =
    omega (arith, enters→entry_1 slots k set p, enters→entries slots ks set j (omega arith) q)
enter_twice→entries slots (k ∷ ks) set (suc i) (suc j) l h p q =
    omega (arith, enter_twice→entries slots ks set i j (omega arith) (omega arith) p q)

-- a place of the list whose link enters the set
abbrev pub EntersAtPlace : Slots → List ℕ → ℕ → ℕ → Type 0
EntersAtPlace slots list set i = (i < length list) × (enters_at slots (get_or list i 0) set ≡ true)

pub entries→place : (slots : Slots) (list : List ℕ) (set : ℕ) → 1 ≤ entries slots list set → (i : ℕ) × EntersAtPlace slots list set i
entries→place slots [] set h = absurd (omega arith)
entries→place slots (k ∷ ks) set h = go (cases_Bool (enters_at slots k set)) (entries→place slots ks set)
  where
    go : (enters_at slots k set ≡ true) ⊎ (enters_at slots k set ≡ false) → (1 ≤ entries slots ks set → (i : ℕ) × EntersAtPlace slots ks set i)
        → (i : ℕ) × EntersAtPlace slots (k ∷ ks) set i
    go (inl e) rest = (0, (omega arith, e))
    go (inr e) rest =
        let t = rest (omega (arith, not_enters→entry_0 slots k set e)) in (suc t.0, (omega (arith, t.1), t.1.1))

pub entered_once→same_place : (slots : Slots) (list : List ℕ) (set i j : ℕ) → entries slots list set ≤ 1
    → EntersAtPlace slots list set i → EntersAtPlace slots list set j → i ≡ j
entered_once→same_place slots list set i j once p q = go (cases_order i j)
  where
    go : (i ≡ j) ⊎ ((i < j) ⊎ (j < i)) → i ≡ j
    go (inl e) = e
    go (inr (inl l)) = omega (arith, enter_twice→entries slots list set i j l q.0 p.1 q.1)
    go (inr (inr l)) = omega (arith, enter_twice→entries slots list set j i l p.0 q.1 p.1)

-- entered from one place at most: entered once at most
pub same_place→entered_once : (slots : Slots) (list : List ℕ) (set : ℕ)
    → ((i j : ℕ) → EntersAtPlace slots list set i → EntersAtPlace slots list set j → i ≡ j) → entries slots list set ≤ 1
same_place→entered_once slots [] set same = omega arith
same_place→entered_once slots (k ∷ ks) set same =
    go (cases_Bool (enters_at slots k set)) (dec_lt 0 (entries slots ks set))
    (same_place→entered_once slots ks set (λ i j p q. omega (arith, same (suc i) (suc j) (later i p) (later j q))))
  where
    later : (i : ℕ) → EntersAtPlace slots ks set i → EntersAtPlace slots (k ∷ ks) set (suc i)
    later i p = (omega (arith, p.0), p.1)

    go : (enters_at slots k set ≡ true) ⊎ (enters_at slots k set ≡ false) → Dec (0 < entries slots ks set) → entries slots ks set ≤ 1
        → entries slots (k ∷ ks) set ≤ 1
    go a (no none) rest = omega (arith, entry_le_1 slots k set)
    go (inl e) (yes some) rest =
        let t = entries→place slots ks set some in omega (arith, same 0 (suc t.0) (omega arith, e) (later t.0 t.1))
    go (inr e) (yes some) rest = omega (arith, not_enters→entry_0 slots k set e)

-- ---- a list and a choice of numbers

pub entries→entered_by : (slots : Slots) (list : List ℕ) (choice : ℕ → Bool) (set : ℕ)
    → ((i : ℕ) → i < length list → choice (get_or list i 0) ≡ true) → 1 ≤ entries slots list set → EnteredBy slots choice set
entries→entered_by slots list choice set chosen h =
    let t = entries→place slots list set h in (get_or list t.0 0, chosen t.0 t.1.0, t.1.1)

pub entered_by→entries : (slots : Slots) (list : List ℕ) (choice : ℕ → Bool) (set : ℕ)
    → ((k : ℕ) → choice k ≡ true → is_some (link_at slots k) ≡ true → (i : ℕ) × (i < length list) × (get_or list i 0 ≡ k))
    → EnteredBy slots choice set → 1 ≤ entries slots list set
entered_by→entries slots list choice set listed (k, chosen, e) =
    let t = listed k chosen (enters→is_link slots k set e) in
    enters→entries slots list set t.0 t.1 (subst (λ (x : ℕ). enters_at slots x set ≡ true) (sym t.2) e)

-- no link of fewer enters it either
pub unentered_by_fewer : (slots : Slots) (fewer choice : ℕ → Bool) (set : ℕ) → ((k : ℕ) → fewer k ≡ true → choice k ≡ true)
    → Unentered slots choice set → Unentered slots fewer set
unentered_by_fewer slots fewer choice set more none (k, chosen, e) = none (k, more k chosen, e)

neither_entered : (slots : Slots) (choice : ℕ → Bool) (a b k : ℕ) → Unentered slots choice a → Unentered slots choice b → choice k ≡ true
    → (enters_at slots k a ≡ true) ⊎ (enters_at slots k b ≡ true) → ⊥
neither_entered slots choice a b k p q chosen (inl e) = p (k, chosen, e)
neither_entered slots choice a b k p q chosen (inr e) = q (k, chosen, e)

pub unentered_and : (slots : Slots) (choice : ℕ → Bool) (a b : ℕ) → Unentered slots choice a → Unentered slots choice b
    → Unentered slots choice (bit_and a b)
unentered_and slots choice a b p q (k, chosen, e) = neither_entered slots choice a b k p q chosen (enters_and→enters_one slots k a b e)

pub unentered_or : (slots : Slots) (choice : ℕ → Bool) (a b : ℕ) → Unentered slots choice a → Unentered slots choice b
    → Unentered slots choice (bit_or a b)
unentered_or slots choice a b p q (k, chosen, e) = neither_entered slots choice a b k p q chosen (enters_or→enters_one slots k a b e)
