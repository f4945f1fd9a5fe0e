-- A spanning tree that is only known to be there can be shown: what the base reaches along the listed links is found by growing,
-- with a path to each of its stations, and it is all stations.
use Rattle.std.proofs.Common.{◌≡◌, ℕ, ◌+◌, ◌-◌, ◌^◌, ◌<◌, true, false, ◌⊎◌, List, length, get_or, is_some, sym, subst, inl, inr, arith}
use mathlib.Core.HLevel.{⊥_prop}
use mathlib.Core.Logic.{∥∥₁_elim}
use native.Mathlib.Nat.{ℕ_set}
use Rattle.std.proofs.lemmas.Bool.{both_ways, cases_Bool}
use Rattle.stations.specs.Sets.{digit, In}
use Rattle.stations.proofs.Digits.{digit_not, in_or_out}
use Rattle.digraph.specs.Links.{Slots, link_at, Leads, Proper}
use Rattle.digraph.specs.Trees.{Along, SpanningTree}
use Rattle.digraph.proofs.Walks.{path_by_other_steps}
use Rattle.cuts.specs.Families.{listed}
use Rattle.cuts.specs.Reaching.{ChosenStep, ReachedFrom}
use Rattle.cuts.proofs.Reaching.{path_starts_inside, reached_from, reached_from→path}
use Rattle.cuts.proofs.TreeExtremes.{place→listed, listed→place}

-- steps along the list are steps along links that are listed
along→chosen : (slots : Slots) (list : List ℕ) (u v : ℕ) → Along slots list u v → ChosenStep slots (listed list) u v
along→chosen slots list u v (i, h, e) = (get_or list i 0, place→listed list i h, e)

chosen→along : (slots : Slots) (list : List ℕ) (u v : ℕ) → ChosenStep slots (listed list) u v → Along slots list u v
chosen→along slots list u v (k, l, e) =
    let (i, h, at) = listed→place list k l in
    (i, h, subst (λ (x : ℕ). Leads slots x u v) (sym at) e)

module _ (n : ℕ) (slots : Slots) (list : List ℕ) (proper : Proper n slots) (hidden : ∥ SpanningTree n slots list ∥₁) where
  one_fewer : length list + 1 ≡ n
  one_fewer = ∥∥₁_elim hidden (ℕ_set (length list + 1) n) (λ tree. tree.one_fewer)

  of_links : (i : ℕ) → i < length list → is_some (link_at slots (get_or list i 0)) ≡ true
  of_links i h = go (cases_Bool (is_some (link_at slots (get_or list i 0))))
    where
      go : (is_some (link_at slots (get_or list i 0)) ≡ true) ⊎ (is_some (link_at slots (get_or list i 0)) ≡ false) → is_some (link_at slots (get_or list i 0)) ≡ true
      go (inl e) = e
      go (inr e) = absurd (∥∥₁_elim hidden ⊥_prop (λ tree. both_ways (is_some (link_at slots (get_or list i 0))) e (tree.of_links i h)))

  base : 0 < n
  base = omega (arith, one_fewer)

  -- what the base reaches along listed links
  found : (set : ℕ) × ReachedFrom n slots (listed list) 0 set
  found = reached_from n slots (listed list) proper 0 base

  all_found : (v : ℕ) → v < n → In found.0 v
  all_found v h = ∥∥₁_elim hidden (ℕ_set (digit found.0 v) 1) (λ tree. go tree (in_or_out found.0 v))
    where
      go : SpanningTree n slots list → In found.0 v ⊎ (digit found.0 v ≡ 0) → In found.0 v
      go tree (inl at) = at
      go tree (inr out) =
          let path = path_by_other_steps (along→chosen slots list) (tree.reaches v h) in
          let v_left = digit_not n found.0 v found.1.small h in
          let base_left = path_starts_inside slots (listed list) (2 ^ n - 1 - found.0) 0 v found.1.unentered (omega arith) path in
          absurd (omega (arith, digit_not n found.0 0 found.1.small base, found.1.has_it))

  pub shown_tree : SpanningTree n slots list
  shown_tree = record {
    one_fewer = one_fewer;
    of_links = of_links;
    reaches = λ v h. path_by_other_steps (chosen→along slots list) (reached_from→path n slots (listed list) proper 0 base found.0 v found.1 (all_found v h));
  }
