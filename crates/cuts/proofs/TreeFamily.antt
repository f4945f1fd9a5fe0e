-- The sets without the base that a spanning tree enters just once: with two that share a station their meet and their union, with
-- every station its singleton and its subtree. A tree enters each of them at least once, and the counts leave no room for more.
use Rattle.std.proofs.Common.{◌≡◌, ℕ, zero, suc, ◌+◌, ◌^◌, ◌<◌, ◌≤◌, true, ◌⊎◌, List, length, get_or, sym, refl, subst, inl, inr, arith}
use lib.Bits.{bit_and, bit_or, and_le_l, or_lt}
use lib.Pow.{pow-lt}
use native.Mathlib.Decide.{ℕ_discrete}
use Rattle.stations.specs.Sets.{digit, In, Part}
use Rattle.stations.proofs.Digits.{digit_and, digit_or, digit_pow_same, digit_pow_other, In-below, in_or_out}
use Rattle.digraph.specs.Counting.{OneIntoEach}
use Rattle.digraph.specs.Entering.{enters_at}
use Rattle.digraph.specs.Links.{Slots, Leads}
use Rattle.digraph.specs.Trees.{Along, SpanningTree}
use Rattle.digraph.proofs.OneEach.{one_into_each, one_head}
use Rattle.cuts.specs.Climbing.{parent, depth, BelowOrAt, subtree}
use Rattle.cuts.specs.Entries.{entries}
use Rattle.cuts.specs.Families.{FeedMember, TreeMember}
use Rattle.cuts.proofs.EntryCounts.{Enters, EntersAtPlace, enters→ends, enters_station→leads, ends→enters, enters_within, entries→place, entries_and_or, entered_once→same_place, same_place→entered_once}
use Rattle.cuts.proofs.FeedFamily.{In→not_empty}
use Rattle.cuts.proofs.Parents.{parent_leads, parent_unique, depth_0→base, depth_of_parent, below_itself, below_by_parent, parent_below, climb_from_base, In-subtree→below, below→In_subtree, subtree_small}
use Rattle.cuts.proofs.TreeEntries.{tree_enters, tree_enters_feed_member}

-- the place in the list of the one link that enters a member
pub tree_link : (n : ℕ) (slots : Slots) (list : List ℕ) (x : ℕ) → TreeMember n slots list x → (i : ℕ) × EntersAtPlace slots list x i
tree_link n slots list x member = entries→place slots list x (omega (arith, member.2))

pub tree_member_not_empty : (n : ℕ) (slots : Slots) (list : List ℕ) (x : ℕ) → TreeMember n slots list x → FeedMember n x
tree_member_not_empty n slots list x member =
    let t = tree_link n slots list x member in
    let ends = enters→ends slots (get_or list t.0 0) x t.1.1 in
    (member.0, member.1, In→not_empty x ends.head ends.head_in)

-- a member is entered by a link of the table
pub tree_member_entered : (n : ℕ) (slots : Slots) (list : List ℕ) (x : ℕ) → TreeMember n slots list x
    → (k : ℕ) × (k < length slots) × (enters_at slots k x ≡ true)
tree_member_entered n slots list x member =
    let t = tree_link n slots list x member in
    (get_or list t.0 0, enters_within slots (get_or list t.0 0) x t.1.1, t.1.1)

module _ (n : ℕ) (slots : Slots) (list : List ℕ) (tree : SpanningTree n slots list) where
  once : OneIntoEach n slots list
  once = one_into_each n slots list tree

  -- entered from one place at most, a set with a station but not the base is a member
  pub same_place→member : (x s : ℕ) → x < 2 ^ n → digit x 0 ≡ 0 → In x s
      → ((i j : ℕ) → EntersAtPlace slots list x i → EntersAtPlace slots list x j → i ≡ j) → TreeMember n slots list x
  same_place→member x s small out at same =
      (small, out, omega (arith, tree_enters n slots list x s tree small out at, same_place→entered_once slots list x same))

  -- ---- meets and unions

  module _ (x y s : ℕ) (mx : TreeMember n slots list x) (my : TreeMember n slots list y) (in_x : In x s) (in_y : In y s) where
    and_small : bit_and x y < 2 ^ n
    and_small = omega (arith, and_le_l x y, mx.0)

    or_small : bit_or x y < 2 ^ n
    or_small = or_lt n x y mx.0 my.0

    and_base : digit (bit_and x y) 0 ≡ 0
    and_base = omega (arith, digit_and x y 0, mx.1)

    or_base : digit (bit_or x y) 0 ≡ 0
    or_base = omega (arith, digit_or x y 0, mx.1, my.1)

    and_entered : 1 ≤ entries slots list (bit_and x y)
    and_entered = tree_enters n slots list (bit_and x y) s tree and_small and_base (omega (arith, digit_and x y s))

    or_entered : 1 ≤ entries slots list (bit_or x y)
    or_entered = tree_enters n slots list (bit_or x y) s tree or_small or_base (omega (arith, digit_or x y s))

    pub tree_member_and : TreeMember n slots list (bit_and x y)
    tree_member_and = (and_small, and_base, omega (arith, entries_and_or slots list x y, and_entered, or_entered, mx.2, my.2))

    pub tree_member_or : TreeMember n slots list (bit_or x y)
    tree_member_or = (or_small, or_base, omega (arith, entries_and_or slots list x y, and_entered, or_entered, mx.2, my.2))

  -- ---- with a second list

  -- a list that enters every member, and the tree, enter every set without the base twice
  pub entered_twice : (other : List ℕ) → ((x : ℕ) → TreeMember n slots list x → 1 ≤ entries slots other x) → (x : ℕ) → FeedMember n x
      → 2 ≤ entries slots list x + entries slots other x
  entered_twice other covers x member = go (ℕ_discrete (entries slots list x) 1)
    where
      go : Dec (entries slots list x ≡ 1) → 2 ≤ entries slots list x + entries slots other x
      go (yes e) = omega (arith, covers x (member.0, member.1, e))
      go (no ne) = omega (arith, tree_enters_feed_member n slots list x tree member)

  -- ---- one station

  -- places with one head are one
  same_head : (v : ℕ) (set : ℕ) → ((i : ℕ) → EntersAtPlace slots list set i → (u : ℕ) × Leads slots (get_or list i 0) u v)
      → (i j : ℕ) → EntersAtPlace slots list set i → EntersAtPlace slots list set j → i ≡ j
  same_head v set heads i j p q =
      once.heads_differ i j (heads i p).0 (heads j q).0 v p.0 q.0 (heads i p).1 (heads j q).1

  pub tree_member_station : (v : ℕ) → 0 < v → v < n → TreeMember n slots list (2 ^ v)
  tree_member_station v pos h =
      same_place→member (2 ^ v) v (pow-lt h) (digit_pow_other v 0 (λ e. omega arith)) (digit_pow_same v)
      (same_head v (2 ^ v) (λ i p. enters_station→leads slots (get_or list i 0) v p.1))

  -- ---- the highest station of a member

  module _ (x : ℕ) (member : TreeMember n slots list x) (i u v : ℕ) (within : i < length list) (leads : Leads slots (get_or list i 0) u v)
      (enters_x : enters_at slots (get_or list i 0) x ≡ true) where
    pub head_in_member : In x v
    head_in_member =
        let ends = enters→ends slots (get_or list i 0) x enters_x in
        subst (In x) (one_head slots (get_or list i 0) {u = ends.tail} {v = ends.head} {s = u} {t = v} ends.leads leads) ends.head_in

    -- a station whose parent is outside is the head
    entered_at_head : (w : ℕ) → In x w → Along slots list (parent slots list w) w → digit x (parent slots list w) ≡ 0 → w ≡ v
    entered_at_head w at along out =
        let enters_too = ends→enters slots (get_or list along.0 0) (parent slots list w) w x along.2 at out in
        let same = entered_once→same_place slots list x along.0 i (omega (arith, member.2)) (along.1, enters_too) (within, enters_x) in
        one_head slots (get_or list i 0) {u = parent slots list w} {v = w} {s = u} {t = v}
        (subst (λ (j : ℕ). Leads slots (get_or list j 0) (parent slots list w) w) same along.2) leads

    below_head_within : (d w : ℕ) → depth slots list w ≡ d → In x w → BelowOrAt slots list w v
    below_head_within zero w e at =
        let base = depth_0→base n slots list tree w (In-below n x w member.0 at) e in
        absurd (omega (arith, subst (In x) base at, member.1))
    below_head_within (suc d) zero e at = absurd (omega (arith, member.1))
    below_head_within (suc d) (suc w) e at = go (in_or_out x (parent slots list (suc w))) (below_head_within d (parent slots list (suc w)) up)
      where
        station : suc w < n
        station = In-below n x (suc w) member.0 at

        up : depth slots list (parent slots list (suc w)) ≡ d
        up = omega (arith, depth_of_parent n slots list tree (suc w) (omega arith) station)

        go : In x (parent slots list (suc w)) ⊎ (digit x (parent slots list (suc w)) ≡ 0)
            → (In x (parent slots list (suc w)) → BelowOrAt slots list (parent slots list (suc w)) v) → BelowOrAt slots list (suc w) v
        go (inl h) rest = below_by_parent slots list (suc w) v (rest h)
        go (inr o) rest =
            subst (λ (y : ℕ). BelowOrAt slots list (suc w) y) (entered_at_head (suc w) at (parent_leads n slots list tree (suc w) (omega arith) station) o)
            (below_itself slots list (suc w))

    pub member_below_head : (w : ℕ) → In x w → BelowOrAt slots list w v
    member_below_head w at = below_head_within (depth slots list w) w refl at

    pub member_in_subtree : Part x (subtree n slots list v)
    member_in_subtree w at = below→In_subtree n slots list tree v w (In-below n x w member.0 at) (member_below_head w at)

  -- ---- subtrees

  pub tree_member_subtree : (v : ℕ) → 0 < v → v < n → TreeMember n slots list (subtree n slots list v)
  tree_member_subtree v pos h =
      same_place→member set v (subtree_small n slots list tree v) base_out (inside v h (below_itself slots list v)) (same_head v set heads)
    where
      set : ℕ
      set = subtree n slots list v

      inside : (w : ℕ) → w < n → BelowOrAt slots list w v → In set w
      inside = below→In_subtree n slots list tree v

      base_out : digit set 0 ≡ 0
      base_out = go (in_or_out set 0)
        where
          go : In set 0 ⊎ (digit set 0 ≡ 0) → digit set 0 ≡ 0
          go (inr o) = o
          go (inl at) =
              let p = In-subtree→below n slots list tree v 0 at in
              absurd (omega (arith, p.1, climb_from_base n slots list tree p.0))

      heads : (i : ℕ) → EntersAtPlace slots list set i → (u : ℕ) × Leads slots (get_or list i 0) u v
      heads i p = (ends.tail, go (ℕ_discrete ends.head v))
        where
          ends : Enters slots (get_or list i 0) set
          ends = enters→ends slots (get_or list i 0) set p.1

          along : Along slots list ends.tail ends.head
          along = (i, p.0, ends.leads)

          -- were the head not v, the tail would be below v too
          tail_inside : (ends.head ≡ v → ⊥) → In set ends.tail
          tail_inside ne =
              let up = parent_unique n slots list tree ends.tail ends.head along in
              inside ends.tail (once.tails_are_stations ends.tail ends.head along)
              (subst (λ (y : ℕ). BelowOrAt slots list y v) (sym up)
              (parent_below slots list ends.head v (In-subtree→below n slots list tree v ends.head ends.head_in) ne))

          go : Dec (ends.head ≡ v) → Leads slots (get_or list i 0) ends.tail v
          go (yes e) = subst (λ (y : ℕ). Leads slots (get_or list i 0) ends.tail y) e ends.leads
          go (no ne) = absurd (omega (arith, tail_inside ne, ends.tail_out))
