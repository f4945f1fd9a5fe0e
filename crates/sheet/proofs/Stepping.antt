-- A search over the steps along a list of links decides whether the list is a spanning tree: every
-- station is seen, and no other, exactly if a path along the list leads to each.
use Rattle.std.proofs.Common.{◌≡◌, ℕ, ◌+◌, ◌-◌, ◌^◌, ◌<◌, ◌≤◌, true, eqb, List, map, length, get_or, replicate, None, Decides, sym, ◌∙◌, subst, arith}
use Rattle.std.proofs.lemmas.Nat.{pow_pos}
use Rattle.std.proofs.lemmas.List.{get_or-map, length-map}
use Rattle.std.proofs.lemmas.Bool.{eq-eqb, eqb-true}
use Rattle.stations.specs.Sets.{In, has}
use Rattle.stations.proofs.Digits.{digit_ones_below, Part-antisym, In→has, has→In, In-below}
use Rattle.digraph.specs.Links.{Slots, link_at}
use Rattle.digraph.specs.Paths.{Path, stay, step}
use Rattle.digraph.specs.Search.{Next}
use Rattle.digraph.specs.Steps.{steps_from}
use Rattle.digraph.specs.Trees.{Along, SpanningTree}
use Rattle.digraph.proofs.Stepping.{AllLow, Somewhere, next_somewhere, somewhere_next}
use Rattle.digraph.proofs.Walks.{path_by_other_steps}
use Rattle.sheet.specs.Calls.{all_links}
use Rattle.sheet.proofs.Columns.{named_at_place}
use Rattle.digraph.specs.Links.{Proper}

module _ (n : ℕ) (slots : Slots) (proper : Proper n slots) (few : n ≤ 40) where
  -- the links of a list of numbers lie between stations
  pub links_low : (ks : List ℕ) → AllLow (map (link_at slots) ks)
  links_low ks i h l e =
      let ends = proper (get_or ks i 0) l (sym (get_or-map (link_at slots) ks i 0 None (omega (arith, length-map ks (link_at slots)))) ∙ e) in
      (omega (arith, ends.0), omega (arith, ends.1))

  somewhere_along : (ks : List ℕ) (u v : ℕ) → Somewhere (map (link_at slots) ks) u v → Along slots ks u v
  somewhere_along ks u v (i, h, e) =
      let j : i < length ks = omega (arith, length-map ks (link_at slots)) in
      (i, j, sym (get_or-map (link_at slots) ks i 0 None j) ∙ e)

  along_somewhere : (ks : List ℕ) (u v : ℕ) → Along slots ks u v → Somewhere (map (link_at slots) ks) u v
  along_somewhere ks u v (i, h, e) = (i, omega (arith, length-map ks (link_at slots)), get_or-map (link_at slots) ks i 0 None h ∙ e)

  -- a search over the steps that sees every station, and no other, has found a spanning tree
  module _ (some : 2 ≤ n) (ks : List ℕ) (count : length ks + 1 ≡ n) (named : all_links slots ks ≡ true) (r : ℕ)
      (found : (v : ℕ) → Decides (has r v) (Path (Next (steps_from (replicate 40 0) (map (link_at slots) ks))) 0 v)) where
    next_along : (u v : ℕ) → Next (steps_from (replicate 40 0) (map (link_at slots) ks)) u v → Along slots ks u v
    next_along u v h = somewhere_along ks u v (next_somewhere (map (link_at slots) ks) (links_low ks) u v h)

    along_next : (u v : ℕ) → Along slots ks u v → Next (steps_from (replicate 40 0) (map (link_at slots) ks)) u v
    along_next u v a = somewhere_next (map (link_at slots) ks) (links_low ks) u v (along_somewhere ks u v a)

    reached_is_station : (v : ℕ) → Path (Next (steps_from (replicate 40 0) (map (link_at slots) ks))) 0 v → v < n
    reached_is_station v stay = omega arith
    reached_is_station v (step {u = u} p e) = let (i, h, q) = next_along u v e in (proper (get_or ks i 0) _ q).1

    pub all_seen_decides_tree : Decides (eqb r (2 ^ n - 1)) (SpanningTree n slots ks)
    all_seen_decides_tree = (tree, seen)
      where
        tree : eqb r (2 ^ n - 1) ≡ true → SpanningTree n slots ks
        tree e =
            record {
              one_fewer = count;
              of_links = named_at_place slots ks named;
              reaches = λ v h. path_by_other_steps next_along ((found v).0 (In→has r v (subst (λ (m : ℕ). In m v) (sym (eqb-true r (2 ^ n - 1) e)) (digit_ones_below n v h))));
            }

        seen : SpanningTree n slots ks → eqb r (2 ^ n - 1) ≡ true
        seen t =
            eq-eqb r (2 ^ n - 1)
            (Part-antisym r (2 ^ n - 1)
            (λ v i. digit_ones_below n v (reached_is_station v ((found v).0 (In→has r v i))))
            (λ v i. has→In r v ((found v).1 (path_by_other_steps along_next (t.reaches v (In-below n (2 ^ n - 1) v (omega (arith, pow_pos n)) i))))))
