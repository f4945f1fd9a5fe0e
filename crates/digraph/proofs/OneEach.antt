-- The last steps of the paths to the stations other than the base are as many links as the tree has, and all different: so they are all of its links.
-- Every listed link is then the last step of the path to its head, and what is claimed of the links is read off that.
use Rattle.std.proofs.Common.{◌≡◌, ℕ, suc, ◌<◌, List, length, get_or, Some, sym, ap, ◌∙◌, subst, lt_irrefl, arith}
use native.Mathlib.Decide.{dec_lt}
use Rattle.digraph.specs.declared.link.Link.{Link}
use Rattle.digraph.specs.Counting.{OneIntoEach}
use Rattle.digraph.specs.Links.{Slots, link_at, Leads}
use Rattle.digraph.specs.Paths.{Path, stay, step}
use Rattle.digraph.specs.Trees.{Along, SpanningTree}
use Rattle.digraph.proofs.Pigeons.{all_taken}

-- a link has one tail and one head
same_link : (slots : Slots) (k : ℕ) (a b : Link) → link_at slots k ≡ Some a → link_at slots k ≡ Some b → a ≡ b
same_link slots k a b p q = cc

pub one_tail : (slots : Slots) (k : ℕ) {u v s t : ℕ} → Leads slots k u v → Leads slots k s t → u ≡ s
one_tail slots k {u} {v} {s} {t} p q = ap (λ (l : Link). l.tail) (same_link slots k (record { tail = u; head = v }) (record { tail = s; head = t }) p q)

pub one_head : (slots : Slots) (k : ℕ) {u v s t : ℕ} → Leads slots k u v → Leads slots k s t → v ≡ t
one_head slots k {u} {v} {s} {t} p q = ap (λ (l : Link). l.head) (same_link slots k (record { tail = u; head = v }) (record { tail = s; head = t }) p q)

-- the last step of a path to a station other than the base
record LastStep (slots : Slots) (list : List ℕ) (v : ℕ) : Type 0 where
  from : ℕ
  path : Path (Along slots list) 0 from
  along : Along slots list from v

last_step : (slots : Slots) (list : List ℕ) {v : ℕ} → Path (Along slots list) 0 v → 0 < v → LastStep slots list v
last_step slots list stay h = absurd (lt_irrefl 0 h)
last_step slots list (step {u = u} path e) h = record { from = u; path = path; along = e }

module _ (n : ℕ) (slots : Slots) (list : List ℕ) (tree : SpanningTree n slots list) where
  -- link i of the list is the last step of the path to station k + 1
  record Enters (i k : ℕ) : Type 0 where
    within : i < length list
    tail : ℕ
    path : Path (Along slots list) 0 tail
    leads : Leads slots (get_or list i 0) tail (suc k)

  -- the index of the link that enters station k + 1; any number where there is no such station
  entry : (k : ℕ) → (i : ℕ) × (k < length list → Enters i k)
  entry k = go (dec_lt k (length list))
    where
      go : Dec (k < length list) → (i : ℕ) × (k < length list → Enters i k)
      go (yes h) =
          let last = last_step slots list (tree.reaches (suc k) (omega (arith, tree.one_fewer))) (omega arith) in
          (last.along.0, λ _. record { within = last.along.1; tail = last.from; path = last.path; leads = last.along.2 })
      go (no h) = (0, λ l. absurd (h l))

  index : ℕ → ℕ
  index k = (entry k).0

  enters : (k : ℕ) → k < length list → Enters (index k) k
  unfolding index
  enters k = (entry k).1

  -- two stations are not entered by one link
  same_station : (j k : ℕ) → j < length list → k < length list → get_or list (index j) 0 ≡ get_or list (index k) 0 → j ≡ k
  same_station j k l h e =
      let there = subst (λ (x : ℕ). Leads slots x (enters j l).tail (suc j)) e (enters j l).leads in
      omega (arith, one_head slots (get_or list (index k) 0) there (enters k h).leads)

  -- every listed link enters a station in this way
  record Used (i : ℕ) : Type 0 where
    station : ℕ
    below : station < length list
    is : index station ≡ i
    as_last : Enters i station

  used : (i : ℕ) → i < length list → Used i
  used i h =
      let t = all_taken (length list) i index h (λ k l. (enters k l).within)
      (λ j k l g e. same_station j k l g (ap (λ (x : ℕ). get_or list x 0) e)) in
      record { station = t.0; below = t.1; is = t.2; as_last = subst (λ (x : ℕ). Enters x t.0) t.2 (enters t.0 t.1) }

  head_is : (i u v : ℕ) (h : i < length list) → Leads slots (get_or list i 0) u v → v ≡ suc (used i h).station
  head_is i u v h leads = one_head slots (get_or list i 0) leads (used i h).as_last.leads

  same_index : (i j : ℕ) (h : i < length list) (g : j < length list) → (used i h).station ≡ (used j g).station → i ≡ j
  same_index i j h g e = sym (used i h).is ∙ ap index e ∙ (used j g).is

  heads_below : (u v : ℕ) → Along slots list u v → v < n
  heads_below u v along = omega (arith, head_is along.0 u v along.1 along.2, (used along.0 along.1).below, tree.one_fewer)

  ends_below : {v : ℕ} → Path (Along slots list) 0 v → v < n
  ends_below stay = omega (arith, tree.one_fewer)
  ends_below (step {u = u} {v = v} path along) = heads_below u v along

  pub one_into_each : OneIntoEach n slots list
  one_into_each = record {
    numbers_differ = λ i j h g e.
        let there = subst (λ (x : ℕ). Leads slots x (used i h).as_last.tail (suc (used i h).station)) e (used i h).as_last.leads in
        same_index i j h g (omega (arith, head_is j _ _ g there));
    heads_differ = λ i j s t v h g p q. same_index i j h g (omega (arith, head_is i s v h p, head_is j t v g q));
    each_entered = λ v pos l. let last = last_step slots list (tree.reaches v l) pos in (last.from, last.along);
    base_not_entered = λ u along. omega (arith, head_is along.0 u 0 along.1 along.2);
    heads_are_stations = heads_below;
    tails_are_stations = λ u v along.
        let last = (used along.0 along.1).as_last in
        omega (arith, one_tail slots (get_or list along.0 0) along.2 last.leads, ends_below last.path);
  }
