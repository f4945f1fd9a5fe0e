-- A spanning tree enters every set that has some station but not the base; and as many links that do so are a spanning tree.
-- A path to a station of the set crosses into it; and while some station has no path yet, a listed link enters the set of those.
use Rattle.std.proofs.Common.{◌≡◌, ℕ, zero, suc, ◌+◌, ◌-◌, ◌^◌, ◌<◌, ◌≤◌, true, ◌⊎◌, List, length, get_or, is_some, Some, None, Option, refl, ap, ◌∙◌, subst, inl, inr, arith}
use lib.Pow.{pow-lt}
use native.Mathlib.Decide.{dec_lt}
use Rattle.std.proofs.lemmas.Bool.{false≢true}
use Rattle.stations.specs.Sets.{digit, In}
use Rattle.stations.proofs.Digits.{digit_le_1, digit_not, digit_of_0, In-below, In-pow, digit_pow_same}
use Rattle.digraph.specs.Links.{Slots, link_at, Leads, Proper}
use Rattle.digraph.specs.Paths.{Path, stay, step}
use Rattle.digraph.specs.Trees.{Along, SpanningTree}
use Rattle.digraph.specs.declared.link.Link.{Link}
use Rattle.digraph.proofs.OneEach.{one_head}
use Rattle.cuts.specs.Entries.{entries}
use Rattle.cuts.specs.Families.{FeedMember}
use Rattle.cuts.proofs.EntryCounts.{EntersAtPlace, Enters, enters→ends, ends→enters, enters→is_link, enters_station→leads, entries→place, enters→entries}
use Rattle.cuts.proofs.FeedFamily.{feed_member_station, not_empty→In}
use Rattle.cuts.proofs.Injections.{injective→≤, injective→all_taken}
use Rattle.cuts.proofs.Growing.{Grown, CanGrow, grow, path_crosses, one_more_only, one_more_keeps}

pub tree_enters_at : (n : ℕ) (slots : Slots) (list : List ℕ) (set s : ℕ) → SpanningTree n slots list → set < 2 ^ n → digit set 0 ≡ 0 → In set s
    → (i : ℕ) × EntersAtPlace slots list set i
tree_enters_at n slots list set s tree small out at =
    let cross = path_crosses set (tree.reaches s (In-below n set s small at)) out at in
    (cross.along.0, (cross.along.1, ends→enters slots (get_or list cross.along.0 0) cross.tail cross.head set cross.along.2 cross.head_in cross.tail_out))

pub tree_enters : (n : ℕ) (slots : Slots) (list : List ℕ) (set s : ℕ) → SpanningTree n slots list → set < 2 ^ n → digit set 0 ≡ 0 → In set s
    → 1 ≤ entries slots list set
tree_enters n slots list set s tree small out at =
    let t = tree_enters_at n slots list set s tree small out at in enters→entries slots list set t.0 t.1.0 t.1.1

pub tree_enters_feed_member : (n : ℕ) (slots : Slots) (list : List ℕ) (set : ℕ) → SpanningTree n slots list → FeedMember n set
    → 1 ≤ entries slots list set
tree_enters_feed_member n slots list set tree member =
    let t = not_empty→In set member.2 in tree_enters n slots list set t.0 tree member.0 member.1 t.1

-- ---- the other way round

-- what is named as a link leads from somewhere to somewhere
is_link→leads : (slots : Slots) (k : ℕ) → is_some (link_at slots k) ≡ true → (u : ℕ) × (v : ℕ) × Leads slots k u v
is_link→leads slots k = go (link_at slots k) refl
  where
    go : (o : Option Link) → link_at slots k ≡ o → is_some o ≡ true → (u : ℕ) × (v : ℕ) × Leads slots k u v
    go None e h = absurd (false≢true h)
    go (Some l) e h = (l.tail, l.head, e)

module _ (n : ℕ) (slots : Slots) (list : List ℕ) (proper : Proper n slots) (enters_all : (set : ℕ) → FeedMember n set → 1 ≤ entries slots list set) where
  -- ---- every station is reached

  -- the base, and only stations with a path from it
  record Reached (set : ℕ) : Type 0 where
    base : In set 0
    paths : (v : ℕ) → In set v → Path (Along slots list) 0 v

  reached_more : (set : ℕ) → set < 2 ^ n → Reached set → (i : ℕ) → EntersAtPlace slots list (2 ^ n - 1 - set) i → CanGrow n Reached set
  reached_more set small reached i place = (
    ends.head,
    below.1,
    omega (arith, ends.head_in, digit_not n set ends.head small below.1),
    record {
      base = one_more_keeps set ends.head 0 reached.base;
      paths = λ v h. paths v (one_more_only set ends.head v h);
    },
  )
    where
      ends : Enters slots (get_or list i 0) (2 ^ n - 1 - set)
      ends = enters→ends slots (get_or list i 0) (2 ^ n - 1 - set) place.1

      below : (ends.tail < n) × (ends.head < n) × (ends.tail ≡ ends.head → ⊥)
      below = proper (get_or list i 0) (record { tail = ends.tail; head = ends.head }) ends.leads

      tail_in : In set ends.tail
      tail_in = omega (arith, ends.tail_out, digit_not n set ends.tail small below.0, digit_le_1 set ends.tail)

      paths : (v : ℕ) → In set v ⊎ (ends.head ≡ v) → Path (Along slots list) 0 v
      paths v (inl h) = reached.paths v h
      paths v (inr e) =
          subst (λ (x : ℕ). Path (Along slots list) 0 x) e (step (reached.paths ends.tail tail_in) (i, place.0, ends.leads))

  all_or_more : 0 < n → (set : ℕ) → set < 2 ^ n → Reached set → (2 ^ n - 1 - set ≡ 0) ⊎ CanGrow n Reached set
  all_or_more some set small reached = go (dec_lt 0 (2 ^ n - 1 - set))
    where
      go : Dec (0 < 2 ^ n - 1 - set) → (2 ^ n - 1 - set ≡ 0) ⊎ CanGrow n Reached set
      go (no none) = inl (omega arith)
      go (yes left) =
          let rest_out : digit (2 ^ n - 1 - set) 0 ≡ 0 = omega (arith, digit_not n set 0 small (omega arith), reached.base) in
          let place = entries→place slots list (2 ^ n - 1 - set) (enters_all (2 ^ n - 1 - set) (omega arith, rest_out, left)) in
          inr (reached_more set small reached place.0 place.1)

  pub all_entered→reached : 0 < n → (v : ℕ) → v < n → Path (Along slots list) 0 v
  all_entered→reached some v h =
      grown.good.paths v (omega (arith, digit_not n grown.set v grown.small h, nothing, digit_le_1 grown.set v))
    where
      start : Reached (2 ^ 0)
      start = record { base = digit_pow_same 0; paths = λ v h. subst (λ (x : ℕ). Path (Along slots list) 0 x) (In-pow 0 v h) stay }

      grown : Grown n Reached (λ set. 2 ^ n - 1 - set ≡ 0)
      grown = grow n Reached (λ set. 2 ^ n - 1 - set ≡ 0) (all_or_more some) (2 ^ 0) (pow-lt some) start

      nothing : digit (2 ^ n - 1 - grown.set) v ≡ 0
      nothing = ap (λ (x : ℕ). digit x v) grown.done ∙ digit_of_0 v

  -- ---- the links are as many as they should

  -- the place from which a station other than the base is entered
  entry_place : (k : ℕ) → suc k < n → (i : ℕ) × EntersAtPlace slots list (2 ^ suc k) i
  entry_place k h = entries→place slots list (2 ^ suc k) (enters_all (2 ^ suc k) (feed_member_station n (suc k) (omega arith) h))

  one_station : (j k i : ℕ) → EntersAtPlace slots list (2 ^ suc j) i → EntersAtPlace slots list (2 ^ suc k) i → j ≡ k
  one_station j k i p q =
      let a = enters_station→leads slots (get_or list i 0) (suc j) p.1 in
      let b = enters_station→leads slots (get_or list i 0) (suc k) q.1 in
      omega (arith, one_head slots (get_or list i 0) {u = a.0} {v = suc j} {s = b.0} {t = suc k} a.1 b.1)

  -- one fewer than the stations: each number is that of a link
  pub all_entered→spanning_tree : length list + 1 ≡ n → SpanningTree n slots list
  all_entered→spanning_tree one_fewer = record { one_fewer = one_fewer; of_links = of_links; reaches = all_entered→reached (omega arith) }
    where
      of_links : (i : ℕ) → i < length list → is_some (link_at slots (get_or list i 0)) ≡ true
      of_links i h =
          let t = injective→all_taken (length list) (length list) (λ k i. EntersAtPlace slots list (2 ^ suc k) i)
          (λ k l. let p = entry_place k (omega arith) in (p.0, p.1.0, p.1)) (λ j k x l g p q. one_station j k x p q) i h (omega arith) in
          enters→is_link slots (get_or list i 0) (2 ^ suc t.0) t.2.1

  -- links with different heads, none of them the base: they are one fewer than the stations
  module _ (some : 0 < n) (of_links : (i : ℕ) → i < length list → is_some (link_at slots (get_or list i 0)) ≡ true)
      (heads_differ : (i j s t v : ℕ) → i < length list → j < length list → Leads slots (get_or list i 0) s v → Leads slots (get_or list j 0) t v → i ≡ j)
      (base_not_entered : (u : ℕ) → Along slots list u 0 → ⊥) where
    enough : n - 1 ≤ length list
    enough =
        injective→≤ (n - 1) (length list) (λ k i. EntersAtPlace slots list (2 ^ suc k) i)
        (λ k l. let p = entry_place k (omega arith) in (p.0, p.1.0, p.1)) (λ j k x l g p q. one_station j k x p q)

    -- the head of the link at place i is station x + 1
    Into : ℕ → ℕ → Type 0
    Into i x = (u : ℕ) × Leads slots (get_or list i 0) u (suc x)

    head_of : (i : ℕ) → i < length list → (x : ℕ) × (x < n - 1) × Into i x
    unfolding Into
    head_of i h = let t = is_link→leads slots (get_or list i 0) (of_links i h) in go t.0 t.1 t.2
      where
        go : (u v : ℕ) → Leads slots (get_or list i 0) u v → (x : ℕ) × (x < n - 1) × Into i x
        go u zero e = absurd (base_not_entered u (i, h, e))
        go u (suc x) e = (x, omega (arith, proper (get_or list i 0) (record { tail = u; head = suc x }) e), (u, e))

    not_more : length list ≤ n - 1
    unfolding Into
    not_more = injective→≤ (length list) (n - 1) Into head_of (λ j k x l g p q. heads_differ j k p.0 q.0 (suc x) l g p.1 q.1)

    pub distinct_heads→spanning_tree : SpanningTree n slots list
    distinct_heads→spanning_tree = all_entered→spanning_tree (omega (arith, enough, not_more))
