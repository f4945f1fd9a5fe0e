-- The table of parents: after the links of the tree among the first numbers have been put down, each of their heads has its tail,
-- and what is no head has 0. No two links of the tree have one head, so none is put down over another.
use Rattle.std.proofs.Common.{◌≡◌, ℕ, ◌+◌, ◌<◌, ◌≤◌, Bool, true, false, cond, ◌⊎◌, List, length, get_or, set, replicate, Some, None, Option, sym, refl, ap, ◌∙◌, subst, inl, inr, ⊎_elim, arith}
use Rattle.std.proofs.lemmas.List.FromFn.{fill_by_all, get_or-map-range_with_len}
use Rattle.std.proofs.lemmas.List.{length-set, get_or-set_same, get_or-set_other, get_or-replicate, get_or_past}
use Rattle.std.proofs.lemmas.Bool.{cases_eq, cases_lt}
use Rattle.digraph.specs.Links.{link_at, Leads}
use Rattle.digraph.specs.Steps.{Low}
use Rattle.digraph.specs.Trees.{Along, SpanningTree}
use Rattle.digraph.specs.declared.link.Link.{Link}
use Rattle.digraph.proofs.OneEach.{one_into_each, one_tail, one_head}
use Rattle.sheet.specs.Calls.{in_tree}
use Rattle.sheet.specs.Held.{Held}
use Rattle.sheet.specs.Sound.{Sound}
use Rattle.cuts.proofs.Parents.{parent_leads, no_parent→base}
use Rattle.cuts.proofs.TwoTables.{link→within}
use Rattle.tree_shape.specs.Trees.{tree_of, tree_link, parent_of, with_parent, parents_of}
use Rattle.tree_shape.proofs.Planted.{in_tree→place, place→in_tree}

some_is_not_none : {A : Type 0} {x : A} → None ≡ Some x → ⊥
some_is_not_none p = let z : ◌≡◌ {A = ℕ} 0 1 = cc in omega arith

-- a link of the tree, by its number
link_of_tree : (b : Bool) (o : Option Link) (l : Link) → cond b o None ≡ Some l → (b ≡ true) × (o ≡ Some l)
link_of_tree true o l e = (refl, e)
link_of_tree false o l e = absurd (some_is_not_none e)

tree_link_is : (t : Held) (k : ℕ) (l : Link) → in_tree t k ≡ true → link_at t.links k ≡ Some l → tree_link t k ≡ Some l
tree_link_is t k l b e = ap (λ (x : Bool). cond x (link_at t.links k) None) b ∙ e

pub tree_link_low : (t : Held) (k : ℕ) → Sound t → Low (tree_link t k)
tree_link_low t k sound l e =
    let ends = sound.proper k l (link_of_tree (in_tree t k) (link_at t.links k) l e).1 in
    (omega (arith, ends.0, sound.few), omega (arith, ends.1, sound.few))

-- the table after the numbers below `upto`
pub record Noted (t : Held) (parents : List ℕ) (upto : ℕ) : Type 0 where
  pub sized : length parents ≡ 40
  pub some : (k u w : ℕ) → k < upto → in_tree t k ≡ true → Leads t.links k u w → get_or parents w 0 ≡ u
  pub none : (w : ℕ) → ((u : ℕ) → Along t.links (tree_of t) u w → ⊥) → get_or parents w 0 ≡ 0

pub noted_none : (t : Held) → Noted t (replicate 40 0) 0
noted_none t = record {
  sized = refl;
  some = λ k u w h b e. absurd (omega arith);
  none = λ w out. ⊎_elim (λ h. get_or-replicate 40 w 0 0 h) (λ h. get_or_past (replicate 40 0) w 0 (omega arith)) (cases_lt w 40);
}

module _ (t : Held) (sound : Sound t) (tree : SpanningTree t.stations t.links (tree_of t)) where
  -- two links of the tree with one head are one
  same_number : (j k a b w : ℕ) → in_tree t j ≡ true → in_tree t k ≡ true → Leads t.links j a w → Leads t.links k b w → j ≡ k
  same_number j k a b w p q e d =
      let (i, h, at) = in_tree→place t j p in
      let (m, g, is) = in_tree→place t k q in
      sym at ∙ ap (λ (x : ℕ). get_or (tree_of t) x 0) ((one_into_each t.stations t.links (tree_of t) tree).heads_differ i m a b w h g
      (subst (λ (x : ℕ). Leads t.links x a w) (sym at) e) (subst (λ (x : ℕ). Leads t.links x b w) (sym is) d)) ∙ is

  -- with the link of number k, if it is one of the tree
  pub noted_more : (parents : List ℕ) (k : ℕ) → Noted t parents k → Noted t (with_parent parents (tree_link t k)) (k + 1)
  noted_more parents k was = go (tree_link t k) refl
    where
      go : (o : Option Link) → tree_link t k ≡ o → Noted t (with_parent parents o) (k + 1)
      go None e = record {
        sized = was.sized;
        some = λ j u w h b d. ⊎_elim (λ less. was.some j u w less b d)
            (λ more. absurd (some_is_not_none (sym e ∙ subst (λ (x : ℕ). tree_link t x ≡ Some (record { tail = u; head = w })) (let z : j ≡ k = omega arith in z) (tree_link_is t j (record { tail = u; head = w }) b d))))
            (cases_lt j k);
        none = was.none;
      }
      go (Some l) e = record {
        sized = length-set parents l.head l.tail ∙ was.sized;
        some = λ j u w h b d. ⊎_elim (same_number_as j u w d) (other_number j u w b d h) (cases_eq k j);
        none = λ w out. get_or-set_other parents l.head w l.tail 0 (λ same. out l.tail (along same)) ∙ was.none w out;
      }
        where
          is : (in_tree t k ≡ true) × (link_at t.links k ≡ Some l)
          is = link_of_tree (in_tree t k) (link_at t.links k) l e

          low : l.head < 40
          low = omega (arith, (sound.proper k l is.1).1, sound.few)

          along : {w : ℕ} → w ≡ l.head → Along t.links (tree_of t) l.tail w
          along {w} same =
              let (i, h, at) = in_tree→place t k is.0 in
              (i, h, subst (λ (x : ℕ). Leads t.links x l.tail w) (sym at) (is.1 ∙ ap (λ (x : ℕ). Some (record { tail = l.tail; head = x })) (sym same)))

          same_number_as : (j u w : ℕ) → Leads t.links j u w → k ≡ j → get_or (set parents l.head l.tail) w 0 ≡ u
          same_number_as j u w d same =
              let here = subst (λ (x : ℕ). Leads t.links x u w) (sym same) d in
              let head = one_head t.links k {u = l.tail} {v = l.head} {s = u} {t = w} is.1 here in
              let tail = one_tail t.links k {u = l.tail} {v = l.head} {s = u} {t = w} is.1 here in
              ap (λ (x : ℕ). get_or (set parents l.head l.tail) x 0) (sym head) ∙ get_or-set_same parents l.head l.tail 0 (omega (arith, low, was.sized)) ∙ tail

          other_number : (j u w : ℕ) → in_tree t j ≡ true → Leads t.links j u w → j < k + 1 → (k ≡ j → ⊥) → get_or (set parents l.head l.tail) w 0 ≡ u
          other_number j u w b d h ne =
              get_or-set_other parents l.head w l.tail 0
              (λ same. ne (same_number k j l.tail u l.head is.0 b is.1 (subst (λ (x : ℕ). Leads t.links j u x) same d)))
              ∙ was.some j u w (omega arith) b d

  pub noted_all : (parents : List ℕ) → Noted t parents 200 → parents ≡ parents_of t
  unfolding parents_of
  noted_all parents done = fill_by_all (parent_of t) parents 40 0 done.sized (λ w h. at w (cases_eq w 0) (cases_lt w t.stations))
    where
      no_head : (w : ℕ) → ((u : ℕ) → Along t.links (tree_of t) u w → ⊥) → get_or parents w 0 ≡ parent_of t w
      no_head w out = done.none w out ∙ sym (no_parent→base t.links (tree_of t) w out)

      at : (w : ℕ) → (w ≡ 0) ⊎ (w ≡ 0 → ⊥) → (w < t.stations) ⊎ (t.stations ≤ w) → get_or parents w 0 ≡ parent_of t w
      at w (inl z) b = no_head w (λ u a. (one_into_each t.stations t.links (tree_of t) tree).base_not_entered u (subst (λ (x : ℕ). Along t.links (tree_of t) u x) z a))
      at w (inr some) (inr far) = no_head w (λ u a. omega (arith, (one_into_each t.stations t.links (tree_of t) tree).heads_are_stations u w a))
      at w (inr some) (inl h) =
          let (i, g, e) = parent_leads t.stations t.links (tree_of t) tree w (omega arith) h in
          let k = get_or (tree_of t) i 0 in
          done.some k (parent_of t w) w (omega (arith, link→within t.links k (parent_of t w) w e, sound.sized)) (place→in_tree t i g) e

pub parent_at : (t : Held) (w : ℕ) → w < 40 → get_or (parents_of t) w 0 ≡ parent_of t w
unfolding parents_of
parent_at t w h = get_or-map-range_with_len (parent_of t) 0 40 w w 0 h (omega arith)
