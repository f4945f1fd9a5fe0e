-- The least and the greatest of the sets that a spanning tree enters just once and no chosen link enters, by the tree's links one by one:
-- such a set with tree link f is one that no chosen link and no other link of the tree enters, so what is least and greatest for each f is known.
use Rattle.std.proofs.Common.{◌≡◌, ℕ, zero, suc, ◌-◌, ◌^◌, ◌<◌, ◌≤◌, Bool, true, not, ◌&&◌, eqb, ◌⊎◌, List, [], ◌∷◌, length, get_or, sym, refl, ap, ◌∙◌, subst, inl, inr, arith, pow_pos}
use lib.Count.{ones}
use native.Mathlib.Decide.{ℕ_discrete}
use Rattle.std.proofs.lemmas.Bool.{false≢true, eqb-true, eqb-false, eq-eqb, ne_eqb, not-true, and_parts, or_cases, or_left, or_right}
use Rattle.stations.specs.Sets.{digit, In, Part}
use Rattle.stations.proofs.Digits.{digit_not, In-below, Part→≤, Part-antisym, ones_mono, ones_full}
use Rattle.digraph.specs.Counting.{OneIntoEach}
use Rattle.digraph.specs.Entering.{enters_at, EnteredBy}
use Rattle.digraph.specs.Links.{Slots, Leads}
use Rattle.digraph.specs.Trees.{SpanningTree}
use Rattle.digraph.proofs.OneEach.{one_into_each}
use Rattle.cuts.specs.Climbing.{depth}
use Rattle.cuts.specs.Families.{TreeMember, listed, besides, Unentered, LeastUnentered, GreatestUnentered}
use Rattle.cuts.specs.Reaching.{ReachesTo, ReachedFrom}
use Rattle.cuts.proofs.EntryCounts.{EntersAtPlace, enters→ends, entered_once→same_place, unentered_by_fewer}
use Rattle.cuts.proofs.Extremes.{entered_unless_not}
use Rattle.cuts.proofs.FeedExtremes.{part_lacks}
use Rattle.cuts.proofs.FeedFamily.{In→not_empty, not_empty→In}
use Rattle.cuts.proofs.Parents.{below_deeper}
use Rattle.cuts.proofs.TreeFamily.{tree_link, same_place→member, member_below_head}

-- ---- the choice with the other links of the list

pub place→listed : (list : List ℕ) (i : ℕ) → i < length list → listed list (get_or list i 0) ≡ true
place→listed [] i h = absurd (omega arith)
place→listed (x ∷ xs) zero h = or_left (eqb x x) (listed xs x) (eq-eqb x x refl)
place→listed (x ∷ xs) (suc i) h = or_right (eqb x (get_or xs i 0)) (listed xs (get_or xs i 0)) (place→listed xs i (omega arith))

pub listed→place : (list : List ℕ) (k : ℕ) → listed list k ≡ true → (i : ℕ) × (i < length list) × (get_or list i 0 ≡ k)
listed→place [] k e = absurd (false≢true e)
listed→place (x ∷ xs) k e = go (or_cases (eqb x k) (listed xs k) e) (listed→place xs k)
  where
    go : (eqb x k ≡ true) ⊎ (listed xs k ≡ true) → (listed xs k ≡ true → (i : ℕ) × (i < length xs) × (get_or xs i 0 ≡ k))
        → (i : ℕ) × (i < length (x ∷ xs)) × (get_or (x ∷ xs) i 0 ≡ k)
    go (inl here) rest = (0, omega arith, eqb-true x k here)
    go (inr later) rest = let t = rest later in (suc t.0, omega (arith, t.1), t.2)

pub chosen→besides : (list : List ℕ) (f : ℕ) (choice : ℕ → Bool) (k : ℕ) → choice k ≡ true → besides list f choice k ≡ true
chosen→besides list f choice k e = or_left (choice k) (listed list k && not (eqb k f)) e

pub other_place→besides : (list : List ℕ) (f : ℕ) (choice : ℕ → Bool) (i : ℕ) → i < length list → (get_or list i 0 ≡ f → ⊥)
    → besides list f choice (get_or list i 0) ≡ true
other_place→besides list f choice i h ne =
    or_right (choice (get_or list i 0)) (listed list (get_or list i 0) && not (eqb (get_or list i 0) f))
    (rw (place→listed list i h, ne_eqb (get_or list i 0) f ne) refl)

-- a number of the choice, or one in the list at another place
pub besides→either : (list : List ℕ) (f : ℕ) (choice : ℕ → Bool) (k : ℕ) → besides list f choice k ≡ true
    → (choice k ≡ true) ⊎ ((i : ℕ) × (i < length list) × (get_or list i 0 ≡ k) × (k ≡ f → ⊥))
besides→either list f choice k e = go (or_cases (choice k) (listed list k && not (eqb k f)) e)
  where
    go : (choice k ≡ true) ⊎ (listed list k && not (eqb k f) ≡ true) → (choice k ≡ true) ⊎ ((i : ℕ) × (i < length list) × (get_or list i 0 ≡ k) × (k ≡ f → ⊥))
    go (inl c) = inl c
    go (inr b) =
        let is = and_parts (listed list k) (not (eqb k f)) b in
        let t = listed→place list k is.0 in
        inr (t.0, t.1, t.2, eqb-false k f (not-true (eqb k f) is.1))

-- ---- members that no chosen link enters

module _ (n : ℕ) (slots : Slots) (list : List ℕ) (tree : SpanningTree n slots list) (choice : ℕ → Bool) where
  once : OneIntoEach n slots list
  once = one_into_each n slots list tree

  -- neither do the other links of the tree enter it
  pub unentered_member→unentered_besides : (x i : ℕ) → TreeMember n slots list x → Unentered slots choice x → EntersAtPlace slots list x i
      → Unentered slots (besides list (get_or list i 0) choice) x
  unentered_member→unentered_besides x i member none place (k, chosen, e) = go (besides→either list (get_or list i 0) choice k chosen)
    where
      go : (choice k ≡ true) ⊎ ((j : ℕ) × (j < length list) × (get_or list j 0 ≡ k) × (k ≡ get_or list i 0 → ⊥)) → ⊥
      go (inl c) = none (k, c, e)
      go (inr (j, h, at, ne)) =
          let enters_j = subst (λ (y : ℕ). enters_at slots y x ≡ true) (sym at) e in
          let same = entered_once→same_place slots list x j i (omega (arith, member.2)) (h, enters_j) place in
          ne (sym at ∙ ap (λ (y : ℕ). get_or list y 0) same)

  -- and the other way round: what none but link f enters is a member, with tree link f
  module _ (f x s : ℕ) (small : x < 2 ^ n) (out : digit x 0 ≡ 0) (at : In x s) (none : Unentered slots (besides list f choice) x) where
    pub only_f_enters : (i : ℕ) → EntersAtPlace slots list x i → get_or list i 0 ≡ f
    only_f_enters i place = go (ℕ_discrete (get_or list i 0) f)
      where
        go : Dec (get_or list i 0 ≡ f) → get_or list i 0 ≡ f
        go (yes e) = e
        go (no ne) = absurd (none (get_or list i 0, other_place→besides list f choice i place.0 ne, place.1))

    pub unentered_besides→member : TreeMember n slots list x
    unentered_besides→member = same_place→member n slots list tree x s small out at
        (λ i j p q. once.numbers_differ i j p.0 q.0 (only_f_enters i p ∙ sym (only_f_enters j q)))

    pub unentered_besides→unentered : Unentered slots choice x
    unentered_besides→unentered = unentered_by_fewer slots choice (besides list f choice) x (chosen→besides list f choice) none

  -- a member that no chosen link enters, with its tree link
  record Missed (x : ℕ) : Type 0 where
    i : ℕ
    within : i < length list
    tail : ℕ
    head : ℕ
    leads : Leads slots (get_or list i 0) tail head
    enters_x : enters_at slots (get_or list i 0) x ≡ true
    head_in : In x head
    none : Unentered slots (besides list (get_or list i 0) choice) x

  missed : (x : ℕ) → TreeMember n slots list x → Unentered slots choice x → Missed x
  missed x member none =
      let t = tree_link n slots list x member in
      let ends = enters→ends slots (get_or list t.0 0) x t.1.1 in
      record {
        i = t.0;
        within = t.1.0;
        tail = ends.tail;
        head = ends.head;
        leads = ends.leads;
        enters_x = t.1.1;
        head_in = ends.head_in;
        none = unentered_member→unentered_besides x t.0 member none t.1;
      }

  -- ---- the least

  -- all that reach v along chosen links and links of the tree other than f are to have the base among them
  abbrev pub BaseReaches : ℕ → ℕ → Type 0
  BaseReaches f v = (x : ℕ) → In x v → Unentered slots (besides list f choice) x → In x 0

  pub base_among→base_reaches : (f v set : ℕ) → ReachesTo n slots (besides list f choice) v set → In set 0 → BaseReaches f v
  base_among→base_reaches f v set to at x h none = to.least x h none 0 at

  module _ (i u v set : ℕ) (within : i < length list) (leads : Leads slots (get_or list i 0) u v)
      (to : ReachesTo n slots (besides list (get_or list i 0) choice) v set) (out : digit set 0 ≡ 0)
      (deeper : (j s w : ℕ) → j < length list → Leads slots (get_or list j 0) s w → depth slots list v < depth slots list w → BaseReaches (get_or list j 0) w) where
    set_member : TreeMember n slots list set
    set_member = unentered_besides→member (get_or list i 0) set v to.small out to.has_it to.unentered

    -- the tree link that enters the set
    set_entered : enters_at slots (get_or list i 0) set ≡ true
    set_entered =
        let t = tree_link n slots list set set_member in
        subst (λ (y : ℕ). enters_at slots y set ≡ true)
        (only_f_enters (get_or list i 0) set v to.small out to.has_it to.unentered t.0 t.1) t.1.1

    no_smaller : (part : ℕ) → TreeMember n slots list part → Part part set → (part ≡ set → ⊥) → Missed part → ⊥
    no_smaller part member p ne m = go (ℕ_discrete m.head v)
      where
        go : Dec (m.head ≡ v) → ⊥
        -- the same tree link: the part holds v, and with it the whole set
        go (yes e) =
            let leads_to_v = subst (λ (y : ℕ). Leads slots (get_or list m.i 0) m.tail y) e m.leads in
            let same = once.heads_differ m.i i m.tail u v m.within within leads_to_v leads in
            let none = subst (λ (j : ℕ). Unentered slots (besides list (get_or list j 0) choice) part) same m.none in
            ne (Part-antisym part set p (to.least part (subst (In part) e m.head_in) none))
        -- another: its head is deeper, so the base reaches it, and is in the part
        go (no away) =
            let at = p m.head m.head_in in
            let below = member_below_head n slots list tree set set_member i u v within leads set_entered m.head at in
            let farther = below_deeper n slots list tree m.head v (In-below n set m.head to.small at) below away in
            omega (arith, deeper m.i m.tail m.head m.within m.leads farther part m.head_in m.none, member.1)

    pub deepest→tree_least : LeastUnentered slots choice (TreeMember n slots list) set
    deepest→tree_least = record {
      member = set_member;
      unentered = unentered_besides→unentered (get_or list i 0) set v to.small out to.has_it to.unentered;
      least = λ part member p ne. entered_unless_not slots choice part (λ none. no_smaller part member p ne (missed part member none));
    }

  pub base_reaches→tree_entered : ((j s w : ℕ) → j < length list → Leads slots (get_or list j 0) s w → BaseReaches (get_or list j 0) w)
      → (x : ℕ) → TreeMember n slots list x → EnteredBy slots choice x
  base_reaches→tree_entered reaches x member = entered_unless_not slots choice x (λ none.
      let m = missed x member none in
      omega (arith, reaches m.i m.tail m.head m.within m.leads x m.head_in m.none, member.1))

  -- with the fewest stations, among those without the base: S f v is to be all that reach v along chosen links and links of the tree other than f
  module _ (S : ℕ → ℕ → ℕ) (each : (j s w : ℕ) → j < length list → Leads slots (get_or list j 0) s w
      → ReachesTo n slots (besides list (get_or list j 0) choice) w (S (get_or list j 0) w)) where
    pub fewest→tree_least : (i u v : ℕ) → i < length list → Leads slots (get_or list i 0) u v → digit (S (get_or list i 0) v) 0 ≡ 0
        → ((j s w : ℕ) → j < length list → Leads slots (get_or list j 0) s w → digit (S (get_or list j 0) w) 0 ≡ 0
        → ones (S (get_or list i 0) v) ≤ ones (S (get_or list j 0) w))
        → LeastUnentered slots choice (TreeMember n slots list) (S (get_or list i 0) v)
    fewest→tree_least i u v within leads out fewest = record {
      member = unentered_besides→member (get_or list i 0) set v to.small out to.has_it to.unentered;
      unentered = unentered_besides→unentered (get_or list i 0) set v to.small out to.has_it to.unentered;
      least = λ part member p ne. entered_unless_not slots choice part (λ none.
          let m = missed part member none in
          let inside = (each m.i m.tail m.head m.within m.leads).least part m.head_in m.none in
          let lacks = part_lacks (S (get_or list m.i 0) m.head) part 0 inside member.1 in
          let fewer = fewest m.i m.tail m.head m.within m.leads lacks in
          ne (ones_full part set p (omega (arith, ones_mono (S (get_or list m.i 0) m.head) part inside))));
    }
      where
        set : ℕ
        set = S (get_or list i 0) v

        to : ReachesTo n slots (besides list (get_or list i 0) choice) v set
        to = each i u v within leads

  -- ---- the greatest

  -- for the link at each place of the tree, what the base reaches along chosen links and the other links of the tree
  module _ (R : ℕ → ℕ) (each : (j : ℕ) → j < length list → ReachedFrom n slots (besides list (get_or list j 0) choice) 0 (R j)) where
    -- what the base does not reach so
    abbrev Rest : ℕ → ℕ
    Rest j = 2 ^ n - 1 - R j

    missed→in_rest : (x : ℕ) → TreeMember n slots list x → (m : Missed x) → Part x (Rest m.i)
    missed→in_rest x member m = (each m.i m.within).greatest x member.0 member.1 m.none

    -- with the most stations
    pub most→tree_greatest : (i : ℕ) → i < length list → 0 < 2 ^ n - 1 - R i
        → ((j : ℕ) → j < length list → ones (2 ^ n - 1 - R j) ≤ ones (2 ^ n - 1 - R i))
        → GreatestUnentered slots choice (TreeMember n slots list) (2 ^ n - 1 - R i)
    most→tree_greatest i within left most = record {
      member = unentered_besides→member (get_or list i 0) (Rest i) some.0 small base_out some.1 from.unentered;
      unentered = unentered_besides→unentered (get_or list i 0) (Rest i) some.0 small base_out some.1 from.unentered;
      greatest = λ whole member p ne. entered_unless_not slots choice whole (λ none.
          let m = missed whole member none in
          ne (ones_full (Rest i) whole p (omega (arith, most m.i m.within, ones_mono whole (Rest m.i) (missed→in_rest whole member m)))));
    }
      where
        from : ReachedFrom n slots (besides list (get_or list i 0) choice) 0 (R i)
        from = each i within

        some : (s : ℕ) × In (Rest i) s
        some = not_empty→In (Rest i) left

        small : Rest i < 2 ^ n
        small = omega (arith, pow_pos n)

        base_out : digit (Rest i) 0 ≡ 0
        base_out = omega (arith, digit_not n (R i) 0 from.small (omega (arith, tree.one_fewer)), from.has_it)

    pub none_left→tree_entered : ((j : ℕ) → j < length list → 2 ^ n - 1 - R j ≡ 0) → (x : ℕ) → TreeMember n slots list x → EnteredBy slots choice x
    none_left→tree_entered empty x member = entered_unless_not slots choice x (λ none.
        let m = missed x member none in
        let inside = missed→in_rest x member m in
        omega (arith, empty m.i m.within, Part→≤ x (Rest m.i) inside, In→not_empty x m.head m.head_in))
