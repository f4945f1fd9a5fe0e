-- Which links enter the meet and the union of two sets, and how many do.
-- For one link these are truth tables over whether its ends are in the two sets; counts add them up.
use Rattle.std.proofs.Common.{◌≡◌, ℕ, ◌+◌, ◌<◌, ◌≤◌, Bool, true, false, cond, not, ◌&&◌, ◌||◌, ◌⊎◌, length, Some, None, Option, sym, refl, ap, ◌∙◌, subst, ap₂, inl, inr, true≢false, lt_of_not-le, arith}
use lib.Bits.{bit_and, bit_or}
use lib.ListN.{get_or-eq_default}
use mathlib.Core.Bool.{false≢true}
use Rattle.digraph.specs.declared.link.Link.{Link}
use Rattle.digraph.specs.Links.{Slots, link_at, Leads}
use Rattle.digraph.specs.Entering.{enters, enters_at, EnteredBy}
use Rattle.stations.specs.Sets.{digit, In, has, Part}
use Rattle.stations.proofs.Digits.{has→In, In→has, lacks→out, out→lacks, in_or_out, digit_and, digit_or, digit_of_0, none_or_some}
use Rattle.duality.specs.Entries.{entries}
use Rattle.duality.proofs.Searches.{find_or_none}
use Rattle.duality.proofs.Sums.{count_sum_mono, count_sum_plus}

-- ---- stations of meets and unions

pub In-and : (a b s : ℕ) → In a s → In b s → In (bit_and a b) s
In-and a b s h k = omega (arith, digit_and a b s)

pub and_part_left : (a b : ℕ) → Part (bit_and a b) a
and_part_left a b s h = omega (arith, digit_and a b s)

pub and_part_right : (a b : ℕ) → Part (bit_and a b) b
and_part_right a b s h = omega (arith, digit_and a b s)

pub or_part_left : (a b : ℕ) → Part a (bit_or a b)
or_part_left a b s h = omega (arith, digit_or a b s)

pub or_part_right : (a b : ℕ) → Part b (bit_or a b)
or_part_right a b s h = omega (arith, digit_or a b s)

pub share_or_not : (a b : ℕ) → ((s : ℕ) × (In a s) × (In b s)) ⊎ ((s : ℕ) → In a s → In b s → ⊥)
share_or_not a b = go (none_or_some (bit_and a b))
  where
    go : (bit_and a b ≡ 0) ⊎ ((s : ℕ) × In (bit_and a b) s) → ((s : ℕ) × (In a s) × (In b s)) ⊎ ((s : ℕ) → In a s → In b s → ⊥)
    go (inl e) = inr (λ s h k. let both = subst (λ (x : ℕ). In x s) e (In-and a b s h k) in omega (arith, digit_of_0 s))
    go (inr t) = inl (t.0, and_part_left a b t.0 t.1, and_part_right a b t.0 t.1)

has_and : (a b s : ℕ) → has (bit_and a b) s ≡ (has a s && has b s)
has_and a b s = go (has a s) (has b s) refl refl
  where
    go : (x y : Bool) → has a s ≡ x → has b s ≡ y → has (bit_and a b) s ≡ (x && y)
    go true true p q = In→has (bit_and a b) s (In-and a b s (has→In a s p) (has→In b s q))
    go true false p q = out→lacks (bit_and a b) s (omega (arith, digit_and a b s, lacks→out b s q))
    go false y p q = out→lacks (bit_and a b) s (omega (arith, digit_and a b s, lacks→out a s p))

has_or : (a b s : ℕ) → has (bit_or a b) s ≡ (has a s || has b s)
has_or a b s = go (has a s) (has b s) refl refl
  where
    go : (x y : Bool) → has a s ≡ x → has b s ≡ y → has (bit_or a b) s ≡ (x || y)
    go true y p q = In→has (bit_or a b) s (or_part_left a b s (has→In a s p))
    go false true p q = In→has (bit_or a b) s (or_part_right a b s (has→In b s q))
    go false false p q = out→lacks (bit_or a b) s (omega (arith, digit_or a b s, lacks→out a s p, lacks→out b s q))

-- ---- the ends of a link

-- the station that the link of a number leads into, and the one that it leads from; 0 for both where there is no link
abbrev head_of : Option Link → ℕ
head_of None = 0
head_of (Some l) = l.head

abbrev tail_of : Option Link → ℕ
tail_of None = 0
tail_of (Some l) = l.tail

abbrev pub head_at : Slots → ℕ → ℕ
head_at slots k = head_of (link_at slots k)

abbrev pub tail_at : Slots → ℕ → ℕ
tail_at slots k = tail_of (link_at slots k)

-- head in, tail out
abbrev across : Bool → Bool → Bool
across head tail = head && not tail

pub enters_by_ends : (slots : Slots) (k set : ℕ) → enters_at slots k set ≡ (has set (head_at slots k) && not (has set (tail_at slots k)))
enters_by_ends slots k set = go (link_at slots k)
  where
    none : (b : Bool) → false ≡ (b && not b)
    none true = refl
    none false = refl

    go : (o : Option Link) → enters o set ≡ (has set (head_of o) && not (has set (tail_of o)))
    go None = none (has set 0)
    go (Some l) = refl

pub head_in : (slots : Slots) (k set : ℕ) → enters_at slots k set ≡ true → In set (head_at slots k)
head_in slots k set e = has→In set (head_at slots k) (first (has set (head_at slots k)) (has set (tail_at slots k)) (sym (enters_by_ends slots k set) ∙ e))
  where
    first : (x y : Bool) → (x && not y) ≡ true → x ≡ true
    first true y e = refl
    first false y e = e

pub tail_out : (slots : Slots) (k set : ℕ) → enters_at slots k set ≡ true → In set (tail_at slots k) → ⊥
tail_out slots k set e i =
    second (has set (head_at slots k)) (has set (tail_at slots k)) (sym (enters_by_ends slots k set) ∙ e) (In→has set (tail_at slots k) i)
  where
    second : (x y : Bool) → (x && not y) ≡ true → y ≡ true → ⊥
    second true true e i = false≢true e
    second true false e i = false≢true i
    second false y e i = false≢true e

pub enters_if : (slots : Slots) (k set : ℕ) → In set (head_at slots k) → (In set (tail_at slots k) → ⊥) → enters_at slots k set ≡ true
enters_if slots k set h t =
    enters_by_ends slots k set ∙ both (has set (head_at slots k)) (has set (tail_at slots k)) (In→has set (head_at slots k) h) (λ e. t (has→In set (tail_at slots k) e))
  where
    both : (x y : Bool) → x ≡ true → (y ≡ true → ⊥) → (x && not y) ≡ true
    both true true p q = absurd (q refl)
    both true false p q = refl
    both false y p q = p

-- a link whose head is in a set that it does not enter has its tail there too
pub tail_in : (slots : Slots) (k set : ℕ) → (enters_at slots k set ≡ true → ⊥) → In set (head_at slots k) → In set (tail_at slots k)
tail_in slots k set ne h = go (in_or_out set (tail_at slots k))
  where
    go : In set (tail_at slots k) ⊎ (digit set (tail_at slots k) ≡ 0) → In set (tail_at slots k)
    go (inl i) = i
    go (inr o) = absurd (ne (enters_if slots k set h (λ i. omega arith)))

pub no_link_enters_nothing : (slots : Slots) (k set : ℕ) → link_at slots k ≡ None → enters_at slots k set ≡ false
no_link_enters_nothing slots k set e = ap (λ (o : Option Link). enters o set) e

-- what enters a set is a link of the table
pub entering_is_listed : (slots : Slots) (k set : ℕ) → enters_at slots k set ≡ true → k < length slots
entering_is_listed slots k set e =
    lt_of_not-le (λ h. true≢false (sym e ∙ no_link_enters_nothing slots k set (get_or-eq_default slots None h)))

pub entering_leads : (slots : Slots) (k set : ℕ) → enters_at slots k set ≡ true → Leads slots k (tail_at slots k) (head_at slots k)
entering_leads slots k set e = go (link_at slots k) e
  where
    go : (o : Option Link) → enters o set ≡ true → o ≡ Some (record { tail = tail_of o; head = head_of o })
    go None e = absurd (false≢true e)
    go (Some l) e = refl

pub leads_head : (slots : Slots) (k : ℕ) {u v : ℕ} → Leads slots k u v → head_at slots k ≡ v
leads_head slots k e = ap head_of e

pub leads_tail : (slots : Slots) (k : ℕ) {u v : ℕ} → Leads slots k u v → tail_at slots k ≡ u
leads_tail slots k e = ap tail_of e

-- some link of a choice enters a set, or none does
pub entered_or_not : (slots : Slots) (choice : ℕ → Bool) (set : ℕ) → Dec (EnteredBy slots choice set)
entered_or_not slots choice set = go (find_or_none (λ k. (choice k ≡ true) × (enters_at slots k set ≡ true)) decide (length slots))
  where
    decide : (k : ℕ) → Dec ((choice k ≡ true) × (enters_at slots k set ≡ true))
    decide k = both (choice k) (enters_at slots k set) refl refl
      where
        both : (a b : Bool) → choice k ≡ a → enters_at slots k set ≡ b → Dec ((choice k ≡ true) × (enters_at slots k set ≡ true))
        both true true e f = yes (e, f)
        both true false e f = no (λ t. true≢false (sym t.1 ∙ f))
        both false b e f = no (λ t. true≢false (sym t.0 ∙ e))

    go : ((k : ℕ) × (k < length slots) × ((choice k ≡ true) × (enters_at slots k set ≡ true)))
        ⊎ ((k : ℕ) → k < length slots → (choice k ≡ true) × (enters_at slots k set ≡ true) → ⊥) → Dec (EnteredBy slots choice set)
    go (inl t) = yes (t.0, t.2.0, t.2.1)
    go (inr none) = no (λ t. none t.0 (entering_is_listed slots t.0 set t.2) (t.1, t.2))

-- ---- one link and two sets

across_meet : (a b c d : Bool) → across (a && b) (c && d) ≡ true → (across a c ≡ true) ⊎ (across b d ≡ true)
across_meet true true true true e = inl e
across_meet true true true false e = inr refl
across_meet true true false d e = inl refl
across_meet true false c d e = absurd (false≢true e)
across_meet false b c d e = absurd (false≢true e)

across_union : (a b c d : Bool) → across (a || b) (c || d) ≡ true → (across a c ≡ true) ⊎ (across b d ≡ true)
across_union true b true d e = absurd (false≢true e)
across_union true b false true e = absurd (false≢true e)
across_union true b false false e = inl refl
across_union false true true d e = absurd (false≢true e)
across_union false true false true e = absurd (false≢true e)
across_union false true false false e = inr refl
across_union false false c d e = absurd (false≢true e)

pub enters_meet : (slots : Slots) (k a b : ℕ) → enters_at slots k (bit_and a b) ≡ true → (enters_at slots k a ≡ true) ⊎ (enters_at slots k b ≡ true)
enters_meet slots k a b e =
    back (across_meet (has a h) (has b h) (has a t) (has b t)
    (sym (ap₂ across (has_and a b h) (has_and a b t)) ∙ sym (enters_by_ends slots k (bit_and a b)) ∙ e))
  where
    h : ℕ
    h = head_at slots k

    t : ℕ
    t = tail_at slots k

    back : (across (has a h) (has a t) ≡ true) ⊎ (across (has b h) (has b t) ≡ true) → (enters_at slots k a ≡ true) ⊎ (enters_at slots k b ≡ true)
    back (inl p) = inl (enters_by_ends slots k a ∙ p)
    back (inr p) = inr (enters_by_ends slots k b ∙ p)

pub enters_union : (slots : Slots) (k a b : ℕ) → enters_at slots k (bit_or a b) ≡ true → (enters_at slots k a ≡ true) ⊎ (enters_at slots k b ≡ true)
enters_union slots k a b e =
    back (across_union (has a h) (has b h) (has a t) (has b t)
    (sym (ap₂ across (has_or a b h) (has_or a b t)) ∙ sym (enters_by_ends slots k (bit_or a b)) ∙ e))
  where
    h : ℕ
    h = head_at slots k

    t : ℕ
    t = tail_at slots k

    back : (across (has a h) (has a t) ≡ true) ⊎ (across (has b h) (has b t) ≡ true) → (enters_at slots k a ≡ true) ⊎ (enters_at slots k b ≡ true)
    back (inl p) = inl (enters_by_ends slots k a ∙ p)
    back (inr p) = inr (enters_by_ends slots k b ∙ p)

across_both : (a b c d : Bool) (r : ℕ)
    → cond (across (a && b) (c && d)) r 0 + cond (across (a || b) (c || d)) r 0 ≤ cond (across a c) r 0 + cond (across b d) r 0
across_both true true true true r = omega arith
across_both true true true false r = omega arith
across_both true true false true r = omega arith
across_both true true false false r = omega arith
across_both true false true d r = omega arith
across_both true false false true r = omega arith
across_both true false false false r = omega arith
across_both false true true true r = omega arith
across_both false true true false r = omega arith
across_both false true false true r = omega arith
across_both false true false false r = omega arith
across_both false false c d r = omega arith

-- a link counted r times for the meet and for the union is counted as often for the two sets
pub enters_both : (slots : Slots) (k a b r : ℕ)
    → cond (enters_at slots k (bit_and a b)) r 0 + cond (enters_at slots k (bit_or a b)) r 0 ≤ cond (enters_at slots k a) r 0 + cond (enters_at slots k b) r 0
enters_both slots k a b r =
    let meet = enters_by_ends slots k (bit_and a b) ∙ ap₂ across (has_and a b (head_at slots k)) (has_and a b (tail_at slots k)) in
    let union = enters_by_ends slots k (bit_or a b) ∙ ap₂ across (has_or a b (head_at slots k)) (has_or a b (tail_at slots k)) in
    let one = enters_by_ends slots k a in
    let other = enters_by_ends slots k b in
    omega (
      arith,
      ap (λ (x : Bool). cond x r 0) meet,
      ap (λ (x : Bool). cond x r 0) union,
      ap (λ (x : Bool). cond x r 0) one,
      ap (λ (x : Bool). cond x r 0) other,
      across_both (has a (head_at slots k)) (has b (head_at slots k)) (has a (tail_at slots k)) (has b (tail_at slots k)) r,
    )

-- ---- how often a set is entered

pub entries_of_meet_and_union : (slots : Slots) (r : ℕ → ℕ) (a b : ℕ)
    → entries slots r (bit_and a b) + entries slots r (bit_or a b) ≤ entries slots r a + entries slots r b
entries_of_meet_and_union slots r a b =
    omega (
      arith,
      count_sum_plus (at (bit_and a b)) (at (bit_or a b)) (length slots),
      count_sum_plus (at a) (at b) (length slots),
      count_sum_mono (λ k. at (bit_and a b) k + at (bit_or a b) k) (λ k. at a k + at b k) (length slots) (λ k l. enters_both slots k a b (r k)),
    )
  where
    at : ℕ → ℕ → ℕ
    at set k = cond (enters_at slots k set) (r k) 0
