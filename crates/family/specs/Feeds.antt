-- The laws of the feed family. Smallest: the set around some station of any other unentered member lies
-- inside it and has no fewer stations. Largest: what the base does not reach holds every unentered member.
use Rattle.std.specs.Prelude.{◌≡◌, ℕ, zero, suc, ◌+◌, ◌^◌, ◌<◌, ◌≤◌, Bool, true, false, cond, List, Some, None, Option, ◌==◌, ◌≢◌, bit_and, bit_or, count_ones, nat_lt}
use Rattle.std.specs.Int.Bits.{and_lt}
use Rattle.std.proofs.Common.{⊎_elim, sym, refl, ◌∙◌, ap, subst, arith}
use Rattle.std.proofs.lemmas.Nat.{pow_below, or_lt}
use Rattle.std.proofs.lemmas.Bool.{both_ways, cases_Bool, cases_lt, eq-eqb, ne_eqb, eqb-true, eqb-false, ltb-true, ltb-false, cond-true, cond-false}
use Rattle.stations.specs.Sets.{In, Part, has}
use Rattle.stations.proofs.Digits.{has→In, In→has, lacks→out, out→lacks, digit_and, digit_or, digit_of_0, digit_le_1, digit_pow_other, digit_pow_same, none_or_some, In-below, Part-antisym, ones_mono, ones_full}
use Rattle.digraph.specs.Entering.{Entered}
use Rattle.digraph.specs.Search.{reach_set}
use Rattle.sheet.specs.Held.{Held}
use Rattle.sheet.specs.Sound.{Sound}
use Rattle.family.specs.Choices.{FeedMember, for_size, others, fewer, fewest_from, feed_smallest, feed_largest}
use Rattle.family.specs.Laws.{Unentered, Smallest, Largest}
use Rattle.family.specs.Reach.{marked_steps, reaching, reached_from}
use Rattle.family.specs.declared.reach.Direction.TheVariants.{Back}
use Rattle.family.specs.Marking.{some_is_not_none}
use Rattle.family.specs.Outside.{others_inside, others_apart, entered_if_not_unentered, not_reached_unentered, not_reached_greatest}
use Rattle.family.specs.Reaching.{reaching_has_it, reaching_unentered, reaching_least, reaching_inside, reached_has_it, reached_inside}

-- a set that holds a station is not empty
pub holding_is_some : (set v : ℕ) → In set v → set ≡ 0 → ⊥
holding_is_some set v h e = omega (arith, digit_of_0 v, subst (λ m. In m v) e h)

-- the common part and the union of two sets without the base, and with a station in common
pub has_and : (x y s : ℕ) → In x s → In y s → In (bit_and x y) s
has_and x y s p q = omega (arith, digit_and x y s)

pub has_or : (x y s : ℕ) → In x s → In (bit_or x y) s
has_or x y s p = omega (arith, digit_or x y s, digit_le_1 y s)

pub and_lacks : (x y s : ℕ) → has x s ≡ false → has (bit_and x y) s ≡ false
and_lacks x y s p = out→lacks (bit_and x y) s (omega (arith, digit_and x y s, lacks→out x s p))

pub or_lacks : (x y s : ℕ) → has x s ≡ false → has y s ≡ false → has (bit_or x y) s ≡ false
or_lacks x y s p q = out→lacks (bit_or x y) s (omega (arith, digit_or x y s, lacks→out x s p, lacks→out y s q))

pub feed_common : (n x y s : ℕ) → FeedMember n x → FeedMember n y → In x s → In y s → FeedMember n (bit_and x y)
feed_common n x y s p q i j =
    record { inside = and_lt n x y p.inside q.inside; some = holding_is_some (bit_and x y) s (has_and x y s i j); without_base = and_lacks x y 0 p.without_base }

pub feed_union : (n x y s : ℕ) → FeedMember n x → FeedMember n y → In x s → In y s → FeedMember n (bit_or x y)
feed_union n x y s p q i j =
    record { inside = or_lt n x y p.inside q.inside; some = holding_is_some (bit_or x y) s (has_or x y s i); without_base = or_lacks x y 0 p.without_base q.without_base }

pub alone_is_feed_member : (n v : ℕ) → 0 < v → v < n → FeedMember n (2 ^ v)
alone_is_feed_member n v some low =
    record { inside = pow_below v n low; some = holding_is_some (2 ^ v) v (digit_pow_same v); without_base = out→lacks (2 ^ v) 0 (digit_pow_other v 0 (λ e. omega arith)) }

-- the best candidate among the sets around the first stations
pub record Best (steps : List ℕ) (upto set : ℕ) : Type 0 where
  pub around : ℕ
  pub station : around < upto
  pub is : set ≡ reach_set steps around
  pub without_base : has set 0 ≡ false
  pub fewest : (u : ℕ) → u < upto → has (reach_set steps u) 0 ≡ false → count_ones set ≤ count_ones (reach_set steps u)

-- so far: the best candidate, or every set has the base
SoFar : List ℕ → ℕ → Option ℕ → Type 0
SoFar steps upto None = (u : ℕ) → u < upto → has (reach_set steps u) 0 ≡ true
SoFar steps upto (Some set) = Best steps upto set

module _ (steps : List ℕ) where
  up_to : {P : ℕ → Type 0} (v : ℕ) → ((u : ℕ) → u < v → P u) → P v → (u : ℕ) → u < v + 1 → P u
  up_to {P} v rest here u h = ⊎_elim (rest u) (λ g. subst P (let z : v ≡ u = omega arith in z) here) (cases_lt u v)

  -- a set with the base is no candidate
  passed_over : (v : ℕ) (best : Option ℕ) → has (reach_set steps v) 0 ≡ true → SoFar steps v best → SoFar steps (v + 1) best
  unfolding SoFar
  passed_over v None base so = up_to v so base
  passed_over v (Some set) base so =
      record {
        around = so.around;
        station = omega (arith, so.station);
        is = so.is;
        without_base = so.without_base;
        fewest = up_to v so.fewest (λ lacks. absurd (both_ways (has (reach_set steps v) 0) lacks base));
      }

  by_count : (v set : ℕ) → has (reach_set steps v) 0 ≡ false → Best steps v set → (b : Bool) → nat_lt (count_ones (reach_set steps v)) (count_ones set) ≡ b → SoFar steps (v + 1) (cond b (Some (reach_set steps v)) (Some set))
  unfolding SoFar
  by_count v set lacks so true e =
      let less = ltb-true (count_ones (reach_set steps v)) (count_ones set) e in
      record {
        around = v;
        station = omega arith;
        is = refl;
        without_base = lacks;
        fewest = up_to v (λ u h other. omega (arith, so.fewest u h other)) (λ _. omega arith);
      }
  by_count v set lacks so false e =
      let no_less = ltb-false (count_ones (reach_set steps v)) (count_ones set) e in
      record {
        around = so.around;
        station = omega (arith, so.station);
        is = so.is;
        without_base = so.without_base;
        fewest = up_to v so.fewest (λ _. no_less);
      }

  taken_up : (v : ℕ) (best : Option ℕ) → has (reach_set steps v) 0 ≡ false → SoFar steps v best → SoFar steps (v + 1) (fewer best (reach_set steps v))
  unfolding SoFar
  taken_up v None lacks so =
      record {
        around = v;
        station = omega arith;
        is = refl;
        without_base = lacks;
        fewest = up_to v (λ u h other. absurd (both_ways (has (reach_set steps u) 0) other (so u h))) (λ _. omega arith);
      }
  taken_up v (Some set) lacks so = by_count v set lacks so (nat_lt (count_ones (reach_set steps v)) (count_ones set)) refl

  fewest_so_far : (k v : ℕ) (best : Option ℕ) → SoFar steps v best → SoFar steps (v + k) (fewest_from steps best v k)
  fewest_so_far zero v best so = subst (λ m. SoFar steps m best) (let z : v ≡ v + 0 = omega arith in z) so
  fewest_so_far (suc k) v best so =
      subst (λ m. SoFar steps m (fewest_from steps (cond (has (reach_set steps v) 0) best (fewer best (reach_set steps v))) (v + 1) k)) (let z : v + 1 + k ≡ v + suc k = omega arith in z)
      (fewest_so_far k (v + 1) (cond (has (reach_set steps v) 0) best (fewer best (reach_set steps v))) (one_more (has (reach_set steps v) 0) refl))
    where
      one_more : (b : Bool) → has (reach_set steps v) 0 ≡ b → SoFar steps (v + 1) (cond b best (fewer best (reach_set steps v)))
      one_more true e = passed_over v best e so
      one_more false e = taken_up v best e so

  fewest_is : (n : ℕ) (answer : Option ℕ) → fewest_from steps None 0 n ≡ answer → SoFar steps n answer
  unfolding SoFar
  fewest_is n answer e =
      let all = fewest_so_far n 0 None (λ u h. absurd (let z : u < 0 → ⊥ = λ g. omega arith in z h)) in
      subst (SoFar steps n) e (subst (λ m. SoFar steps m (fewest_from steps None 0 n)) (let z : 0 + n ≡ n = omega arith in z) all)

-- an answer on a sheet of the right size, and on any other
pub for_right_size : (n : ℕ) (h : Held) (answer : Option ℕ) → h.stations ≡ n → for_size n h answer ≡ answer
for_right_size n h answer e = cond-true (h.stations == n) answer None (eq-eqb h.stations n e)

pub none_for_other_size : (n : ℕ) (h : Held) (answer : Option ℕ) → (h.stations ≢ n) → for_size n h answer ≡ None
none_for_other_size n h answer ne = cond-false (h.stations == n) answer None (ne_eqb h.stations n ne)

module _ (n : ℕ) (h : Held) (marks : List ℕ) (sound : Sound h) (right : h.stations ≡ n) where
  station_of : (v : ℕ) → v < n → v < h.stations
  station_of v low = omega arith

  -- around a station of an unentered set lies a set inside it
  around_inside : (x v : ℕ) → x < 2 ^ n → In x v → Unentered h.links marks x → Part (reaching h.links marks v) x
  around_inside x v small held out =
      reaching_least h.stations h.links sound.proper sound.few sound.sized marks v (station_of v (In-below n x v small held)) x held out

  around_lacks_base : (x v : ℕ) → FeedMember n x → In x v → Unentered h.links marks x → has (reaching h.links marks v) 0 ≡ false
  around_lacks_base x v member held out =
      ⊎_elim (λ base. absurd (both_ways (has x 0) member.without_base (In→has x 0 (around_inside x v member.inside held out 0 (has→In (reaching h.links marks v) 0 base)))))
      (λ lacks. lacks) (cases_Bool (has (reaching h.links marks v) 0))

  some_station : (x : ℕ) → FeedMember n x → (v : ℕ) × In x v
  some_station x member = ⊎_elim (λ e. absurd (member.some e)) (λ some. some) (none_or_some x)

  pub feed_smallest_found : (set : ℕ) → feed_smallest n h marks ≡ Some set → Smallest (FeedMember n) h.links marks set
  unfolding SoFar
  feed_smallest_found set e = from_best (fewest_is (marked_steps Back h.links marks) n (Some set) (sym (for_right_size n h (fewest_from (marked_steps Back h.links marks) None 0 n) right) ∙ e))
    where
      from_best : Best (marked_steps Back h.links marks) n set → Smallest (FeedMember n) h.links marks set
      from_best best =
          let v = best.around in
          let low : v < h.stations = station_of v best.station in
          record {
            member =
                record {
                  inside = subst (λ m. m < 2 ^ n) (sym best.is) (subst (λ m. reaching h.links marks v < 2 ^ m) right (reaching_inside h.stations h.links sound.proper sound.few sound.sized marks v low));
                  some = holding_is_some set v (subst (λ m. In m v) (sym best.is) (reaching_has_it h.stations h.links sound.proper sound.few sound.sized marks v low));
                  without_base = best.without_base;
                };
            unentered = subst (Unentered h.links marks) (sym best.is) (reaching_unentered h.stations h.links sound.proper sound.few sound.sized marks v low);
            no_part = λ other member out part.
                let (u, held) = some_station other member in
                let inside = around_inside other u member.inside held out in
                let count = best.fewest u (In-below n other u member.inside held) (around_lacks_base other u member held out) in
                let same : other ≡ set = ones_full other set part (omega (arith, count, ones_mono (reaching h.links marks u) other inside)) in
                same;
          }

  pub feed_smallest_none : (set : ℕ) → feed_smallest n h marks ≡ None → FeedMember n set → Entered h.links marks set
  unfolding SoFar
  feed_smallest_none set e member =
      entered_if_not_unentered h.links marks set
      (λ out.
      let (v, held) = some_station set member in
      let all = fewest_is (marked_steps Back h.links marks) n None (sym (for_right_size n h (fewest_from (marked_steps Back h.links marks) None 0 n) right) ∙ e) in
      both_ways (has (reaching h.links marks v) 0) (around_lacks_base set v member held out) (all v (In-below n set v member.inside held)))

  base_low : 0 < h.stations
  base_low = omega (arith, sound.some)

  rest_is : others h.stations (reached_from h.links marks 0) ≡ others n (reached_from h.links marks 0)
  rest_is = ap (λ m. others m (reached_from h.links marks 0)) right

  reached_small : reached_from h.links marks 0 < 2 ^ n
  reached_small = subst (λ m. reached_from h.links marks 0 < 2 ^ m) right (reached_inside h.stations h.links sound.proper sound.few sound.sized marks 0 base_low)

  holds_all : (other : ℕ) → FeedMember n other → Unentered h.links marks other → Part other (others n (reached_from h.links marks 0))
  holds_all other member out =
      subst (Part other) rest_is
      (not_reached_greatest h.stations h.links sound.proper sound.few sound.sized marks 0 base_low other (subst (λ m. other < 2 ^ m) (sym right) member.inside) member.without_base out)

  lacks_base : has (others n (reached_from h.links marks 0)) 0 ≡ false
  lacks_base =
      ⊎_elim (λ base. absurd (both_ways (has (reached_from h.links marks 0) 0) (others_apart n (reached_from h.links marks 0) reached_small 0 (has→In (others n (reached_from h.links marks 0)) 0 base))
      (In→has (reached_from h.links marks 0) 0 (reached_has_it h.stations h.links sound.proper sound.few sound.sized marks 0 base_low))))
      (λ lacks. lacks) (cases_Bool (has (others n (reached_from h.links marks 0)) 0))

  -- the answer, by whether anything is left
  by_rest : (b : Bool) → (others n (reached_from h.links marks 0) == 0) ≡ b → (set : ℕ) → cond b None (Some (others n (reached_from h.links marks 0))) ≡ Some set → (others n (reached_from h.links marks 0) ≡ set) × (set ≡ 0 → ⊥)
  by_rest true e set p = absurd (some_is_not_none p)
  by_rest false e set p =
      let same : others n (reached_from h.links marks 0) ≡ set = cc in
      (same, λ zero_set. eqb-false (others n (reached_from h.links marks 0)) 0 e (same ∙ zero_set))

  pub feed_largest_found : (set : ℕ) → feed_largest n h marks ≡ Some set → Largest (FeedMember n) h.links marks set
  feed_largest_found set e =
      let answer = cond (others n (reached_from h.links marks 0) == 0) None (Some (others n (reached_from h.links marks 0))) in
      let found = by_rest (others n (reached_from h.links marks 0) == 0) refl set (sym (for_right_size n h answer right) ∙ e) in
      subst (Largest (FeedMember n) h.links marks) found.0
      (record {
        member = record { inside = others_inside n (reached_from h.links marks 0) reached_small; some = λ z. found.1 (sym found.0 ∙ z); without_base = lacks_base };
        unentered = subst (Unentered h.links marks) rest_is (not_reached_unentered h.stations h.links sound.proper sound.few sound.sized marks 0 base_low);
        no_whole = λ other member out part. Part-antisym other (others n (reached_from h.links marks 0)) (holds_all other member out) part;
      })

  none_left : (b : Bool) → (others n (reached_from h.links marks 0) == 0) ≡ b → cond b None (Some (others n (reached_from h.links marks 0))) ≡ None → others n (reached_from h.links marks 0) ≡ 0
  none_left true e p = eqb-true (others n (reached_from h.links marks 0)) 0 e
  none_left false e p = absurd (some_is_not_none (sym p))

  pub feed_largest_none : (set : ℕ) → feed_largest n h marks ≡ None → FeedMember n set → Entered h.links marks set
  feed_largest_none set e member =
      let answer = cond (others n (reached_from h.links marks 0) == 0) None (Some (others n (reached_from h.links marks 0))) in
      let empty = none_left (others n (reached_from h.links marks 0) == 0) refl (sym (for_right_size n h answer right) ∙ e) in
      entered_if_not_unentered h.links marks set
      (λ out. let (v, held) = some_station set member in omega (arith, digit_of_0 v, subst (λ m. In m v) empty (holds_all set member out v held)))
