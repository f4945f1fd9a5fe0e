-- The masks of marked links have just their steps, forth or back; so a set is closed going back
-- exactly if no marked link enters it. By reading one link off the masks, or putting one on.
use Rattle.std.specs.Prelude.{◌≡◌, ℕ, ◌^◌, ◌<◌, ◌≤◌, Bool, true, false, cond, not, List, map, length, Some, None, Option, ◌≢◌, slice_index, slice_index_or, refl}
use Rattle.std.proofs.Common.{⊎_elim, sym, ap, ◌∙◌, subst, arith}
use Rattle.std.specs.List.{range_with_len}
use Rattle.std.specs.Option.{option_map}
use Rattle.std.proofs.lemmas.List.FromFn.{get_or-map-range_with_len, length-map-range_with_len}
use Rattle.std.proofs.lemmas.List.{get_or_past}
use Rattle.std.proofs.lemmas.Bool.{and_parts, and_from, not-true, not_from_false, both_ways, cases_Bool, cases_lt}
use Rattle.stations.specs.Sets.{In, has}
use Rattle.stations.proofs.Digits.{has→In, In→has}
use Rattle.digraph.specs.Entering.{marked, enters, Entered}
use Rattle.digraph.specs.Links.{Slots, link_at}
use Rattle.digraph.specs.Search.{Next, Closed}
use Rattle.digraph.specs.Steps.{Low}
use Rattle.digraph.specs.declared.link.Link.{Link}
use Rattle.digraph.proofs.Stepping.{AllLow, next_somewhere, somewhere_next, steps_are_low}
use Rattle.digraph.specs.Links.{Proper}
use Rattle.family.specs.Laws.{Unentered}
use Rattle.family.specs.Reach.{MarkedStep, turned, marked_link, marked_steps}
use Rattle.family.specs.declared.reach.Direction.{Direction}
use Rattle.family.specs.declared.reach.Direction.TheVariants.{Forth, Back}

pub some_is_not_none : {A : Type 0} {x : A} → None ≢ Some x
some_is_not_none p = let z : ◌≡◌ {A = ℕ} 0 1 = cc in omega arith

-- a step one way is that link gone along that way
abbrev pub Way : Direction → Slots → List ℕ → ℕ → ℕ → Type 0
Way Forth slots marks u v = MarkedStep slots marks u v
Way Back slots marks u v = MarkedStep slots marks v u

-- what a marked link reads as
link_of_marked : (way : Direction) (b : Bool) (o : Option Link) (l : Link) → cond b (option_map (turned way) o) None ≡ Some l → (b ≡ true) × ((m : Link) × (o ≡ Some m) × (turned way m ≡ l))
link_of_marked way false o l e = absurd (some_is_not_none e)
link_of_marked way true None l e = absurd (some_is_not_none e)
link_of_marked way true (Some m) l e = (refl, (m, refl, cc))

-- a number with a link is a place of the table
link_is_placed : (slots : Slots) (k : ℕ) (m : Link) → link_at slots k ≡ Some m → k < length slots
link_is_placed slots k m q = ⊎_elim (λ h. h) (λ h. absurd (some_is_not_none (sym (get_or_past slots k None h) ∙ q))) (cases_lt k (length slots))

module _ (n : ℕ) (slots : Slots) (proper : Proper n slots) (few : n ≤ 40) (sized : length slots ≡ 200) (marks : List ℕ) where
  pub marked_link_low : (way : Direction) (k : ℕ) → Low (marked_link way slots marks k)
  marked_link_low way k l e = by_way way (link_of_marked way (marked marks k) (link_at slots k) l e).1
    where
      by_way : (way : Direction) → (m : Link) × (link_at slots k ≡ Some m) × (turned way m ≡ l) → (l.tail < 40) × (l.head < 40)
      by_way Forth (m, q, same) = subst (λ x. (x.tail < 40) × (x.head < 40)) same (omega (arith, (proper k m q).0), omega (arith, (proper k m q).1))
      by_way Back (m, q, same) = subst (λ x. (x.tail < 40) × (x.head < 40)) same (omega (arith, (proper k m q).1), omega (arith, (proper k m q).0))

  marked_links_low : (way : Direction) → AllLow (map (marked_link way slots marks) (range_with_len 0 200))
  marked_links_low way i h l e =
      marked_link_low way i l (sym (get_or-map-range_with_len (marked_link way slots marks) 0 200 i i None (omega (arith, length-map-range_with_len (marked_link way slots marks) 0 200)) (omega arith)) ∙ e)

  pub marked_steps_low : (way : Direction) (u : ℕ) → slice_index (marked_steps way slots marks) u < 2 ^ 40
  unfolding marked_steps
  marked_steps_low way = steps_are_low (map (marked_link way slots marks) (range_with_len 0 200)) (marked_links_low way)

  -- off the masks
  pub next_is_way : (way : Direction) (u v : ℕ) → Next (marked_steps way slots marks) u v → Way way slots marks u v
  unfolding marked_steps
  next_is_way way u v h =
      let (i, small, e) = next_somewhere (map (marked_link way slots marks) (range_with_len 0 200)) (marked_links_low way) u v h in
      let at = sym (get_or-map-range_with_len (marked_link way slots marks) 0 200 i i None (omega (arith, length-map-range_with_len (marked_link way slots marks) 0 200)) (omega arith)) ∙ e in
      by_way way i (link_of_marked way (marked marks i) (link_at slots i) _ at)
    where
      by_way : (way : Direction) (k : ℕ) → (marked marks k ≡ true) × ((m : Link) × (link_at slots k ≡ Some m) × (turned way m ≡ record { tail = u; head = v })) → Way way slots marks u v
      by_way Forth k (b, (m, q, same)) = (k, b, q ∙ ap Some same)
      by_way Back k (b, (m, q, same)) = (k, b, q ∙ ap Some (ap (turned Back) same))

  marked_at : (way : Direction) (k : ℕ) → k < 200 → slice_index_or (map (marked_link way slots marks) (range_with_len 0 200)) k None ≡ marked_link way slots marks k
  marked_at way k h = get_or-map-range_with_len (marked_link way slots marks) 0 200 k k None h (omega arith)

  -- on the masks
  way_is_next_at : (way : Direction) (k u v : ℕ) (m : Link) → marked marks k ≡ true → link_at slots k ≡ Some m → turned way m ≡ record { tail = u; head = v } → Next (marked_steps way slots marks) u v
  unfolding marked_steps
  way_is_next_at way k u v m b q same =
      let small : k < 200 = omega (arith, link_is_placed slots k m q, sized) in
      somewhere_next (map (marked_link way slots marks) (range_with_len 0 200)) (marked_links_low way) u v (
        k,
        omega (arith, length-map-range_with_len (marked_link way slots marks) 0 200),
        marked_at way k small ∙ ap (λ x. cond x (option_map (turned way) (link_at slots k)) None) b ∙ ap (option_map (turned way)) q ∙ ap Some same,
      )

  pub way_is_next : (way : Direction) (u v : ℕ) → Way way slots marks u v → Next (marked_steps way slots marks) u v
  way_is_next Forth u v (k, b, q) = way_is_next_at Forth k u v (record { tail = u; head = v }) b q refl
  way_is_next Back u v (k, b, q) = way_is_next_at Back k u v (record { tail = v; head = u }) b q refl

  -- a set that is closed going back is entered by no marked link, and the other way round
  pub closed_is_unentered : (z : ℕ) → Closed (marked_steps Back slots marks) z → Unentered slots marks z
  closed_is_unentered z closed (k, b, e) = go (link_at slots k) refl e
    where
      go : (o : Option Link) → link_at slots k ≡ o → enters o z ≢ true
      go None q e = both_ways false refl e
      go (Some l) q e =
          let both = and_parts (has z l.head) (not (has z l.tail)) e in
          let inside = closed l.head l.tail (has→In z l.head both.0) (way_is_next Back l.head l.tail (k, b, q)) in
          both_ways (has z l.tail) (not-true (has z l.tail) both.1) (In→has z l.tail inside)

  pub unentered_is_closed : (z : ℕ) → Unentered slots marks z → Closed (marked_steps Back slots marks) z
  unentered_is_closed z out u v h next = ⊎_elim (has→In z v) (λ lacks. absurd (out (entering lacks))) (cases_Bool (has z v))
    where
      entering : has z v ≡ false → Entered slots marks z
      entering lacks =
          let (k, b, q) = next_is_way Back u v next in
          (k, b, ap (λ o. enters o z) q ∙ and_from (has z u) (not (has z v)) (In→has z u h) (not_from_false (has z v) lacks))

  -- what is left of the stations by a set that is closed going forth is entered by no marked link
  pub outside_closed_is_unentered : (z rest : ℕ) → Closed (marked_steps Forth slots marks) z → ((v : ℕ) → In rest v → has z v ≡ false) → ((v : ℕ) → v < n → has z v ≡ false → In rest v) → Unentered slots marks rest
  outside_closed_is_unentered z rest closed apart all (k, b, e) = go (link_at slots k) refl e
    where
      go : (o : Option Link) → link_at slots k ≡ o → enters o rest ≢ true
      go None q e = both_ways false refl e
      go (Some l) q e =
          let both = and_parts (has rest l.head) (not (has rest l.tail)) e in
          let out : has rest l.tail ≡ false = not-true (has rest l.tail) both.1 in
          let tail_in : has z l.tail ≡ true = ⊎_elim (λ y. y) (λ lacks. absurd (both_ways (has rest l.tail) out (In→has rest l.tail (all l.tail (proper k l q).0 lacks)))) (cases_Bool (has z l.tail)) in
          let head_in = closed l.tail l.head (has→In z l.tail tail_in) (way_is_next Forth l.tail l.head (k, b, q)) in
          both_ways (has z l.head) (apart l.head (has→In rest l.head both.0)) (In→has z l.head head_in)

  -- and the other way round: what is left of the stations by an unentered set is closed going forth
  pub outside_unentered_is_closed : (x rest : ℕ) → Unentered slots marks x → ((v : ℕ) → In rest v → has x v ≡ false) → ((v : ℕ) → v < n → has x v ≡ false → In rest v) → Closed (marked_steps Forth slots marks) rest
  outside_unentered_is_closed x rest out apart all u v h next =
      let (k, b, q) = next_is_way Forth u v next in
      ⊎_elim
      (λ held. absurd (out (k, b, ap (λ o. enters o x) q ∙ and_from (has x v) (not (has x u)) held (not_from_false (has x u) (apart u h)))))
      (λ lacks. all v (proper k _ q).1 lacks)
      (cases_Bool (has x v))
