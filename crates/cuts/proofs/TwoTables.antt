-- The least and the greatest of the sets that a spanning tree enters just once and no chosen link enters, where the tree's links lie in
-- one table and the chosen links in another. The tables are joined, one behind the other, and what is known of one table is read off.
use Rattle.std.proofs.Common.{◌≡◌, ℕ, zero, suc, ◌+◌, ◌-◌, ◌^◌, ◌<◌, ◌≤◌, Bool, true, cond, ◌&&◌, eqb, ltb, ◌⊎◌, List, [], ◌∷◌, ◌++◌, map, length, get_or, is_some, Some, None, Option, sym, refl, ap, ◌∙◌, subst, ap₂, inl, inr, ⊎_elim, arith, pow_pos}
use lib.Count.{ones}
use Rattle.std.proofs.lemmas.List.{length-map, get_or-map, get_or_append_left, get_or-append-add, get_or-append_right, get_or_past}
use Rattle.std.proofs.lemmas.Bool.{and_parts, and_from, lt-ltb, ltb-true, cases_lt, true≢false}
use Rattle.stations.specs.Sets.{digit, In, Part}
use Rattle.stations.proofs.Digits.{digit_not}
use Rattle.digraph.specs.Counting.{OneIntoEach}
use Rattle.digraph.specs.Entering.{enters, enters_at, EnteredBy}
use Rattle.digraph.specs.Links.{Slots, link_at, Leads, Proper}
use Rattle.digraph.specs.Paths.{Path}
use Rattle.digraph.specs.Search.{Closed, Next}
use Rattle.digraph.specs.Trees.{Along, SpanningTree}
use Rattle.digraph.specs.declared.link.Link.{Link}
use Rattle.digraph.proofs.OneEach.{one_into_each, one_head}
use Rattle.digraph.proofs.Walks.{path_by_other_steps}
use Rattle.cuts.specs.Climbing.{tail_into, parent, steps_up, depth}
use Rattle.cuts.specs.Entries.{entries}
use Rattle.cuts.specs.Families.{TreeMember, besides, LeastUnentered, GreatestUnentered}
use Rattle.cuts.specs.Reaching.{ChosenStep, ReachesTo, ReachedFrom}
use Rattle.cuts.proofs.EntryCounts.{enters_within}
use Rattle.cuts.proofs.Parents.{parent_leads}
use Rattle.cuts.proofs.Reaching.{path_starts_inside, reaches_to→path, reached_from→path}
use Rattle.cuts.proofs.SearchResults.{search_back→reaches_to, search_on→reached_from}
use Rattle.cuts.proofs.TreeExtremes.{chosen→besides, other_place→besides, besides→either, base_among→base_reaches, deepest→tree_least, base_reaches→tree_entered, most→tree_greatest, none_left→tree_entered, only_f_enters, unentered_besides→member}
use Rattle.cuts.proofs.TreeFamily.{tree_link, head_in_member}

-- a number with a link is a place of the table
pub link→within : (slots : Slots) (k u v : ℕ) → Leads slots k u v → k < length slots
link→within slots k u v e = ⊎_elim (λ h. h) (λ past. absurd (none_is_some (sym (get_or_past slots k None past) ∙ e))) (cases_lt k (length slots))
  where
    none_is_some : {l : Link} → None ≡ Some l → ⊥
    none_is_some p = let z : ◌≡◌ {A = ℕ} 0 1 = cc in omega arith

module _ (first second : Slots) where
  -- the second table behind the first, and the numbers of its links there
  abbrev pub joined : Slots
  joined = first ++ second

  abbrev pub behind : List ℕ → List ℕ
  behind list = map (λ k. length first + k) list

  pub link_of_first : (k : ℕ) → k < length first → link_at joined k ≡ link_at first k
  link_of_first k h = get_or_append_left first second None k h

  pub link_of_second : (k : ℕ) → link_at joined (length first + k) ≡ link_at second k
  link_of_second k = get_or-append-add first second k None

  pub joined_proper : (n : ℕ) → Proper n first → Proper n second → Proper n joined
  joined_proper n one two k l e =
      ⊎_elim (λ h. one k l (sym (link_of_first k h) ∙ e)) (λ h. two (k - length first) l (sym (get_or-append_right first second (length first) k None refl h) ∙ e))
      (cases_lt k (length first))

  pub behind_at : (list : List ℕ) (i : ℕ) → i < length list → get_or (behind list) i 0 ≡ length first + get_or list i 0
  behind_at list i h = get_or-map (λ k. length first + k) list i 0 0 h

  pub behind_length : (list : List ℕ) → length (behind list) ≡ length list
  behind_length list = length-map list (λ k. length first + k)

  pub link_behind : (list : List ℕ) (i : ℕ) → i < length list → link_at joined (get_or (behind list) i 0) ≡ link_at second (get_or list i 0)
  link_behind list i h = ap (link_at joined) (behind_at list i h) ∙ link_of_second (get_or list i 0)

  along_behind : (list : List ℕ) (u v : ℕ) → Along second list u v → Along joined (behind list) u v
  along_behind list u v (i, h, e) = (i, omega (arith, behind_length list), link_behind list i h ∙ e)

  pub behind_spans : (n : ℕ) (list : List ℕ) → SpanningTree n second list → SpanningTree n joined (behind list)
  behind_spans n list tree = record {
    one_fewer = ap (λ (x : ℕ). x + 1) (behind_length list) ∙ tree.one_fewer;
    of_links = λ i h. let g : i < length list = omega (arith, behind_length list) in ap is_some (link_behind list i g) ∙ tree.of_links i g;
    reaches = λ v h. path_by_other_steps (along_behind list) (tree.reaches v h);
  }

  pub behind_entries : (list : List ℕ) (set : ℕ) → entries joined (behind list) set ≡ entries second list set
  behind_entries [] set = refl
  behind_entries (k ∷ ks) set = ap₂ (λ (a b : ℕ). a + b) (ap (λ (o : Option Link). cond (enters o set) 1 0) (link_of_second k)) (behind_entries ks set)

  behind_parent : (list : List ℕ) (v : ℕ) → parent joined (behind list) v ≡ parent second list v
  behind_parent [] v = refl
  behind_parent (k ∷ ks) v = ap₂ (λ (o : Option Link) (x : ℕ). tail_into o v x) (link_of_second k) (behind_parent ks v)

  behind_steps_up : (list : List ℕ) (fuel v : ℕ) → steps_up joined (behind list) fuel v ≡ steps_up second list fuel v
  behind_steps_up list zero v = refl
  behind_steps_up list (suc fuel) v =
      ap (λ (x : ℕ). cond (eqb v 0) 0 (suc x)) (behind_steps_up list fuel (parent joined (behind list) v) ∙ ap (steps_up second list fuel) (behind_parent list v))

  pub behind_depth : (list : List ℕ) (v : ℕ) → depth joined (behind list) v ≡ depth second list v
  behind_depth list v = ap (λ (x : ℕ). steps_up joined (behind list) x v) (behind_length list) ∙ behind_steps_up list (length list) v

  -- the chosen numbers of the first table
  abbrev pub within_first : (ℕ → Bool) → ℕ → Bool
  within_first choice k = ltb k (length first) && choice k

  pub entered→entered_joined : (choice : ℕ → Bool) (set : ℕ) → EnteredBy first choice set → EnteredBy joined (within_first choice) set
  entered→entered_joined choice set (k, c, e) =
      let h = enters_within first k set e in
      (k, and_from (ltb k (length first)) (choice k) (lt-ltb k (length first) h) c, ap (λ (o : Option Link). enters o set) (link_of_first k h) ∙ e)

  pub entered_joined→entered : (choice : ℕ → Bool) (set : ℕ) → EnteredBy joined (within_first choice) set → EnteredBy first choice set
  entered_joined→entered choice set (k, c, e) =
      let (h, chosen) = and_parts (ltb k (length first)) (choice k) c in
      (k, chosen, sym (ap (λ (o : Option Link). enters o set) (link_of_first k (ltb-true k (length first) h))) ∙ e)

-- a chosen link of the first table, or a listed link of the second that does not lead into v, leads from a to b
abbrev pub BesideStep : Slots → (ℕ → Bool) → Slots → List ℕ → ℕ → ℕ → ℕ → Type 0
BesideStep first choice second list v a b = ChosenStep first choice a b ⊎ ((b ≡ v → ⊥) × Along second list a b)

module _ (n : ℕ) (first second : Slots) (list : List ℕ) (choice : ℕ → Bool) (one : Proper n first) (two : Proper n second) (tree : SpanningTree n second list) where
  once : OneIntoEach n second list
  once = one_into_each n second list tree

  abbrev J : Slots
  J = joined first second

  abbrev L : List ℕ
  L = behind first second list

  abbrev C : ℕ → Bool
  C = within_first first second choice

  spans : SpanningTree n J L
  spans = behind_spans first second n list tree

  proper : Proper n J
  proper = joined_proper first second n one two

  member→joined : (set : ℕ) → TreeMember n second list set → TreeMember n J L set
  member→joined set m = (m.0, m.1, behind_entries first second list set ∙ m.2)

  joined→member : (set : ℕ) → TreeMember n J L set → TreeMember n second list set
  joined→member set m = (m.0, m.1, sym (behind_entries first second list set) ∙ m.2)

  place→joined : (i : ℕ) → i < length list → i < length L
  place→joined i h = omega (arith, behind_length first second list)

  joined→place : (i : ℕ) → i < length L → i < length list
  joined→place i h = omega (arith, behind_length first second list)

  leads→joined : (i u v : ℕ) → i < length list → Leads second (get_or list i 0) u v → Leads J (get_or L i 0) u v
  leads→joined i u v h e = link_behind first second list i h ∙ e

  joined→leads : (i u v : ℕ) → i < length list → Leads J (get_or L i 0) u v → Leads second (get_or list i 0) u v
  joined→leads i u v h e = sym (link_behind first second list i h) ∙ e

  -- the head of a link of the tree is a station other than the base
  head_is_station : (i u v : ℕ) → i < length list → Leads second (get_or list i 0) u v → (0 < v) × (v < n)
  head_is_station i u v h e = (positive v (λ z. once.base_not_entered u (i, h, subst (λ (x : ℕ). Leads second (get_or list i 0) u x) z e)), once.heads_are_stations u v (i, h, e))
    where
      positive : (x : ℕ) → (x ≡ 0 → ⊥) → 0 < x
      positive x ne = omega arith

  -- ---- the steps beside the link at place i, which leads into v

  module _ (i u v : ℕ) (within : i < length list) (leads : Leads second (get_or list i 0) u v) where
    -- all chosen links, and all links of the tree but this one
    abbrev Others : ℕ → Bool
    Others = besides L (get_or L i 0) C

    chosen→beside : (a b : ℕ) → ChosenStep J Others a b → BesideStep first choice second list v a b
    chosen→beside a b (k, chosen, e) = go (besides→either L (get_or L i 0) C k chosen)
      where
        go : (C k ≡ true) ⊎ ((j : ℕ) × (j < length L) × (get_or L j 0 ≡ k) × (k ≡ get_or L i 0 → ⊥)) → BesideStep first choice second list v a b
        go (inl c) =
            let (h, is) = and_parts (ltb k (length first)) (choice k) c in
            inl (k, is, sym (link_of_first first second k (ltb-true k (length first) h)) ∙ e)
        go (inr (j, far, at, ne)) =
            let h = joined→place j far in
            let there = joined→leads j a b h (subst (λ (x : ℕ). Leads J x a b) (sym at) e) in
            inr (λ same. ne (sym at ∙ ap (λ (x : ℕ). get_or L x 0) (once.heads_differ j i a u v h within (subst (λ (x : ℕ). Leads second (get_or list j 0) a x) same there) leads)), (j, h, there))

    beside→chosen : (a b : ℕ) → BesideStep first choice second list v a b → ChosenStep J Others a b
    beside→chosen a b (inl (k, c, e)) =
        let h = link→within first k a b e in
        (k, chosen→besides L (get_or L i 0) C k (and_from (ltb k (length first)) (choice k) (lt-ltb k (length first) h) c), link_of_first first second k h ∙ e)
    beside→chosen a b (inr (away, (j, h, e))) =
        (get_or L j 0, other_place→besides L (get_or L i 0) C j (place→joined j h) (λ same. away (same_head same)), leads→joined j a b h e)
      where
        same_head : get_or L j 0 ≡ get_or L i 0 → b ≡ v
        same_head same =
            let here = subst (λ (x : ℕ). Leads J x a b) same (leads→joined j a b h e) in
            one_head J (get_or L i 0) {u = a} {v = b} {s = u} {t = v} here (leads→joined i u v within leads)

    pub searched_back : (masks : List ℕ) (r : ℕ) → v < n → In r v → Closed masks r → ((z : ℕ) → In z v → Closed masks z → Part r z)
        → ((a b : ℕ) → BesideStep first choice second list v a b → Next masks b a) → ((a b : ℕ) → Next masks b a → BesideStep first choice second list v a b)
        → ReachesTo n J Others v r
    searched_back masks r station has_it closed least there back =
        search_back→reaches_to n J Others proper masks v r station has_it closed least (λ a b s. there a b (chosen→beside a b s)) (λ a b s. beside→chosen a b (back a b s))

    pub searched_on : (masks : List ℕ) (s r : ℕ) → s < n → In r s → Closed masks r → ((z : ℕ) → In z s → Closed masks z → Part r z)
        → ((a b : ℕ) → BesideStep first choice second list v a b → Next masks a b) → ((a b : ℕ) → Next masks a b → BesideStep first choice second list v a b)
        → ReachedFrom n J Others s r
    searched_on masks s r station has_it closed least there back =
        search_on→reached_from n J Others proper masks s r station has_it closed least (λ a b x. there a b (chosen→beside a b x)) (λ a b x. beside→chosen a b (back a b x))

    -- what reaches v so does by a path, and the other way round; and so with what is reached
    pub reaches→path : (r a : ℕ) → v < n → ReachesTo n J Others v r → In r a → Path (BesideStep first choice second list v) a v
    reaches→path r a station to at = path_by_other_steps chosen→beside (reaches_to→path n J Others proper v station r a to at)

    pub path→reaches : (r a : ℕ) → ReachesTo n J Others v r → Path (BesideStep first choice second list v) a v → In r a
    path→reaches r a to path = path_starts_inside J Others r a v to.unentered to.has_it (path_by_other_steps beside→chosen path)

    pub reached→path : (s r a : ℕ) → s < n → ReachedFrom n J Others s r → In r a → Path (BesideStep first choice second list v) s a
    reached→path s r a station from at = path_by_other_steps chosen→beside (reached_from→path n J Others proper s station r a from at)

    -- what the base does not reach so has v, if anything
    module _ (r : ℕ) (from : ReachedFrom n J Others 0 r) (s : ℕ) (left : In (2 ^ n - 1 - r) s) where
      rest_small : 2 ^ n - 1 - r < 2 ^ n
      rest_small = omega (arith, pow_pos n)

      rest_base : digit (2 ^ n - 1 - r) 0 ≡ 0
      rest_base = omega (arith, digit_not n r 0 from.small (omega (arith, tree.one_fewer)), from.has_it)

      rest_member : TreeMember n J L (2 ^ n - 1 - r)
      rest_member = unentered_besides→member n J L spans C (get_or L i 0) (2 ^ n - 1 - r) s rest_small rest_base left from.unentered

      rest_entered : enters_at J (get_or L i 0) (2 ^ n - 1 - r) ≡ true
      rest_entered =
          let t = tree_link n J L (2 ^ n - 1 - r) rest_member in
          subst (λ (y : ℕ). enters_at J y (2 ^ n - 1 - r) ≡ true)
          (only_f_enters n J L spans C (get_or L i 0) (2 ^ n - 1 - r) s rest_small rest_base left from.unentered t.0 t.1) t.1.1

      pub rest_has_head : In (2 ^ n - 1 - r) v
      rest_has_head = head_in_member n J L spans (2 ^ n - 1 - r) rest_member i u v (place→joined i within) (leads→joined i u v within leads) rest_entered

  -- ---- the least

  -- S v is to be all that reach v along chosen links and the links of the tree but the one into v
  module _ (S : ℕ → ℕ) (each : (i u v : ℕ) (h : i < length list) (e : Leads second (get_or list i 0) u v) → ReachesTo n J (besides L (get_or L i 0) C) v (S v)) where
    pub deepest→least : (v : ℕ) → 0 < v → v < n → digit (S v) 0 ≡ 0
        → ((w : ℕ) → 0 < w → w < n → depth second list v < depth second list w → In (S w) 0)
        → LeastUnentered first choice (TreeMember n second list) (S v)
    deepest→least v pos station out deeper = record {
      member = joined→member (S v) found.member;
      unentered = λ e. found.unentered (entered→entered_joined first second choice (S v) e);
      least = λ part member p ne. entered_joined→entered first second choice part (found.least part (member→joined part member) p ne);
    }
      where
        link : Along second list (parent second list v) v
        link = parent_leads n second list tree v pos station

        found : LeastUnentered J C (TreeMember n J L) (S v)
        found =
            deepest→tree_least n J L spans C link.0 (parent second list v) v (S v) (place→joined link.0 link.1) (leads→joined link.0 (parent second list v) v link.1 link.2)
            (each link.0 (parent second list v) v link.1 link.2) out
            (λ j s w far leads less.
            let h = joined→place j far in
            let e = joined→leads j s w h leads in
            let at = head_is_station j s w h e in
            base_among→base_reaches n J L spans C (get_or L j 0) w (S w) (each j s w h e)
            (deeper w at.0 at.1 (omega (arith, behind_depth first second list v, behind_depth first second list w))))

    pub all_with_base→entered : ((w : ℕ) → 0 < w → w < n → In (S w) 0) → (x : ℕ) → TreeMember n second list x → EnteredBy first choice x
    all_with_base→entered all x member =
        entered_joined→entered first second choice x
        (base_reaches→tree_entered n J L spans C
        (λ j s w far leads.
        let h = joined→place j far in
        let e = joined→leads j s w h leads in
        let at = head_is_station j s w h e in
        base_among→base_reaches n J L spans C (get_or L j 0) w (S w) (each j s w h e) (all w at.0 at.1))
        x (member→joined x member))

  -- ---- the greatest

  -- R v is to be what the base reaches along chosen links and the links of the tree but the one into v
  module _ (R : ℕ → ℕ) (each : (i u v : ℕ) (h : i < length list) (e : Leads second (get_or list i 0) u v) → ReachedFrom n J (besides L (get_or L i 0) C) 0 (R v)) where
    head_of : Option Link → ℕ
    head_of None = 0
    head_of (Some l) = l.head

    head_at : ℕ → ℕ
    head_at j = head_of (link_at second (get_or list j 0))

    -- the link at a place, by its head
    link_in_joined : (j : ℕ) → j < length list → (u : ℕ) × Leads second (get_or list j 0) u (head_at j)
    unfolding head_at head_of
    link_in_joined j h = go (link_at second (get_or list j 0)) refl (tree.of_links j h)
      where
        go : (o : Option Link) → link_at second (get_or list j 0) ≡ o → is_some (link_at second (get_or list j 0)) ≡ true → (u : ℕ) × Leads second (get_or list j 0) u (head_at j)
        go None e some = absurd (true≢false (sym some ∙ ap is_some e))
        go (Some l) e some = (l.tail, e ∙ ap (λ (x : ℕ). Some (record { tail = l.tail; head = x })) (sym (ap head_of e)))

    each_place : (j : ℕ) → j < length L → ReachedFrom n J (besides L (get_or L j 0) C) 0 (R (head_at j))
    each_place j far = let h = joined→place j far in each j (link_in_joined j h).0 (head_at j) h (link_in_joined j h).1

    head_at_is : (j u v : ℕ) → Leads second (get_or list j 0) u v → head_at j ≡ v
    unfolding head_at head_of
    head_at_is j u v e = ap head_of e

    pub most→greatest : (v : ℕ) → 0 < v → v < n → 0 < 2 ^ n - 1 - R v
        → ((w : ℕ) → 0 < w → w < n → ones (2 ^ n - 1 - R w) ≤ ones (2 ^ n - 1 - R v))
        → GreatestUnentered first choice (TreeMember n second list) (2 ^ n - 1 - R v)
    most→greatest v pos station left most = record {
      member = joined→member (2 ^ n - 1 - R v) found.member;
      unentered = λ e. found.unentered (entered→entered_joined first second choice (2 ^ n - 1 - R v) e);
      greatest = λ whole member p ne. entered_joined→entered first second choice whole (found.greatest whole (member→joined whole member) p ne);
    }
      where
        link : Along second list (parent second list v) v
        link = parent_leads n second list tree v pos station

        here : head_at link.0 ≡ v
        here = head_at_is link.0 (parent second list v) v link.2

        most_at : (j : ℕ) → j < length L → ones (2 ^ n - 1 - R (head_at j)) ≤ ones (2 ^ n - 1 - R v)
        most_at j far =
            let h = joined→place j far in
            let (u, e) = link_in_joined j h in
            let at = head_is_station j u (head_at j) h e in
            most (head_at j) at.0 at.1

        found : GreatestUnentered J C (TreeMember n J L) (2 ^ n - 1 - R v)
        found =
            subst (λ (x : ℕ). GreatestUnentered J C (TreeMember n J L) (2 ^ n - 1 - R x)) here
            (most→tree_greatest n J L spans C (λ j. R (head_at j)) each_place link.0 (place→joined link.0 link.1)
            (subst (λ (x : ℕ). 0 < 2 ^ n - 1 - R x) (sym here) left)
            (λ j far. subst (λ (x : ℕ). ones (2 ^ n - 1 - R (head_at j)) ≤ ones (2 ^ n - 1 - R x)) (sym here) (most_at j far)))

    pub none_left→entered : ((w : ℕ) → 0 < w → w < n → 2 ^ n - 1 - R w ≡ 0) → (x : ℕ) → TreeMember n second list x → EnteredBy first choice x
    none_left→entered none x member =
        entered_joined→entered first second choice x
        (none_left→tree_entered n J L spans C (λ j. R (head_at j)) each_place (λ j far. none_at j (joined→place j far)) x (member→joined x member))
      where
        none_at : (j : ℕ) → j < length list → 2 ^ n - 1 - R (head_at j) ≡ 0
        none_at j h =
            let (u, e) = link_in_joined j h in
            let at = head_is_station j u (head_at j) h e in
            none (head_at j) at.0 at.1
