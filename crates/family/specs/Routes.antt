-- The laws of the route family: the stations that reach the end are the least unentered set with it, and
-- those that the start does not reach are the greatest without it.
use Rattle.std.specs.Prelude.{◌≡◌, ℕ, ◌^◌, ◌<◌, Bool, true, false, cond, List, Some, None, ◌≢◌, bit_and, bit_or, refl}
use Rattle.std.specs.Int.Bits.{and_lt}
use Rattle.std.proofs.Common.{⊎_elim, sym, ◌∙◌, ap, subst, arith}
use Rattle.std.proofs.lemmas.Nat.{pow_below, or_lt}
use Rattle.std.proofs.lemmas.Bool.{both_ways, cases_Bool}
use Rattle.stations.specs.Sets.{In, Part, has}
use Rattle.stations.proofs.Digits.{has→In, In→has, out→lacks, digit_pow_other, digit_pow_same, Part-antisym}
use Rattle.digraph.specs.Entering.{Entered}
use Rattle.sheet.specs.Held.{Held}
use Rattle.sheet.specs.Sound.{Sound}
use Rattle.family.specs.Choices.{RouteMember, others, route_smallest, route_largest}
use Rattle.family.specs.Laws.{Unentered, Smallest, Largest}
use Rattle.family.specs.Reach.{reaching, reached_from}
use Rattle.family.specs.Feeds.{has_and, has_or, and_lacks, or_lacks, holding_is_some, for_right_size}
use Rattle.family.specs.Marking.{some_is_not_none}
use Rattle.family.specs.Outside.{others_inside, others_apart, entered_if_not_unentered, not_reached_unentered, not_reached_greatest}
use Rattle.family.specs.Reaching.{reaching_has_it, reaching_unentered, reaching_least, reaching_inside, reached_has_it, reached_inside}

pub route_member_is_some : (n s t x : ℕ) → RouteMember n s t x → x ≢ 0
route_member_is_some n s t x p = holding_is_some x t (has→In x t p.with_end)

pub route_common : (n s t x y v : ℕ) → RouteMember n s t x → RouteMember n s t y → In x v → In y v → RouteMember n s t (bit_and x y)
route_common n s t x y v p q i j =
    record {
      inside = and_lt n x y p.inside q.inside;
      with_end = In→has (bit_and x y) t (has_and x y t (has→In x t p.with_end) (has→In y t q.with_end));
      without_start = and_lacks x y s p.without_start;
    }

pub route_union : (n s t x y v : ℕ) → RouteMember n s t x → RouteMember n s t y → In x v → In y v → RouteMember n s t (bit_or x y)
route_union n s t x y v p q i j =
    record {
      inside = or_lt n x y p.inside q.inside;
      with_end = In→has (bit_or x y) t (has_or x y t (has→In x t p.with_end));
      without_start = or_lacks x y s p.without_start q.without_start;
    }

pub end_is_route_member : (n s t : ℕ) → t < n → (s ≢ t) → RouteMember n s t (2 ^ t)
end_is_route_member n s t low apart =
    record {
      inside = pow_below t n low;
      with_end = In→has (2 ^ t) t (digit_pow_same t);
      without_start = out→lacks (2 ^ t) s (digit_pow_other t s (λ e. apart (sym e)));
    }

-- an answer that is given if a test fails, or if it passes
if_false : (b : Bool) (x set : ℕ) → cond b None (Some x) ≡ Some set → (b ≡ false) × (x ≡ set)
if_false true x set p = absurd (some_is_not_none p)
if_false false x set p = (refl, cc)

if_true : (b : Bool) (x set : ℕ) → cond b (Some x) None ≡ Some set → (b ≡ true) × (x ≡ set)
if_true true x set p = (refl, cc)
if_true false x set p = absurd (some_is_not_none p)

none_if_true : (b : Bool) (x : ℕ) → cond b None (Some x) ≡ None → b ≡ true
none_if_true true x p = refl
none_if_true false x p = absurd (some_is_not_none (sym p))

none_if_false : (b : Bool) (x : ℕ) → cond b (Some x) None ≡ None → b ≡ false
none_if_false true x p = absurd (some_is_not_none (sym p))
none_if_false false x p = refl

module _ (n s t : ℕ) (start_low : s < n) (end_low : t < n) (h : Held) (marks : List ℕ) (sound : Sound h) (right : h.stations ≡ n) where
  end_in : t < h.stations
  end_in = omega arith

  start_in : s < h.stations
  start_in = omega arith

  -- the set around the end lies inside every unentered member
  around_end : (x : ℕ) → RouteMember n s t x → Unentered h.links marks x → Part (reaching h.links marks t) x
  around_end x member out = reaching_least h.stations h.links sound.proper sound.few sound.sized marks t end_in x (has→In x t member.with_end) out

  pub route_smallest_found : (set : ℕ) → route_smallest n s t h marks ≡ Some set → Smallest (RouteMember n s t) h.links marks set
  route_smallest_found set e =
      let found = if_false (has (reaching h.links marks t) s) (reaching h.links marks t) set (sym (for_right_size n h (cond (has (reaching h.links marks t) s) None (Some (reaching h.links marks t))) right) ∙ e) in
      subst (Smallest (RouteMember n s t) h.links marks) found.1
      (record {
        member =
            record {
              inside = subst (λ m. reaching h.links marks t < 2 ^ m) right (reaching_inside h.stations h.links sound.proper sound.few sound.sized marks t end_in);
              with_end = In→has (reaching h.links marks t) t (reaching_has_it h.stations h.links sound.proper sound.few sound.sized marks t end_in);
              without_start = found.0;
            };
        unentered = reaching_unentered h.stations h.links sound.proper sound.few sound.sized marks t end_in;
        no_part = λ other member out part. Part-antisym other (reaching h.links marks t) part (around_end other member out);
      })

  pub route_smallest_none : (set : ℕ) → route_smallest n s t h marks ≡ None → RouteMember n s t set → Entered h.links marks set
  route_smallest_none set e member =
      let start_reaches = none_if_true (has (reaching h.links marks t) s) (reaching h.links marks t) (sym (for_right_size n h (cond (has (reaching h.links marks t) s) None (Some (reaching h.links marks t))) right) ∙ e) in
      entered_if_not_unentered h.links marks set
      (λ out. both_ways (has set s) member.without_start (In→has set s (around_end set member out s (has→In (reaching h.links marks t) s start_reaches))))

  rest_is : others h.stations (reached_from h.links marks s) ≡ others n (reached_from h.links marks s)
  rest_is = ap (λ m. others m (reached_from h.links marks s)) right

  reached_small : reached_from h.links marks s < 2 ^ n
  reached_small = subst (λ m. reached_from h.links marks s < 2 ^ m) right (reached_inside h.stations h.links sound.proper sound.few sound.sized marks s start_in)

  holds_all : (other : ℕ) → RouteMember n s t other → Unentered h.links marks other → Part other (others n (reached_from h.links marks s))
  holds_all other member out =
      subst (Part other) rest_is
      (not_reached_greatest h.stations h.links sound.proper sound.few sound.sized marks s start_in other (subst (λ m. other < 2 ^ m) (sym right) member.inside) member.without_start out)

  lacks_start : has (others n (reached_from h.links marks s)) s ≡ false
  lacks_start =
      ⊎_elim (λ held. absurd (both_ways (has (reached_from h.links marks s) s) (others_apart n (reached_from h.links marks s) reached_small s (has→In (others n (reached_from h.links marks s)) s held))
      (In→has (reached_from h.links marks s) s (reached_has_it h.stations h.links sound.proper sound.few sound.sized marks s start_in))))
      (λ lacks. lacks) (cases_Bool (has (others n (reached_from h.links marks s)) s))

  pub route_largest_found : (set : ℕ) → route_largest n s t h marks ≡ Some set → Largest (RouteMember n s t) h.links marks set
  route_largest_found set e =
      let rest = others n (reached_from h.links marks s) in
      let found = if_true (has rest t) rest set (sym (for_right_size n h (cond (has rest t) (Some rest) None) right) ∙ e) in
      subst (Largest (RouteMember n s t) h.links marks) found.1
      (record {
        member = record { inside = others_inside n (reached_from h.links marks s) reached_small; with_end = found.0; without_start = lacks_start };
        unentered = subst (Unentered h.links marks) rest_is (not_reached_unentered h.stations h.links sound.proper sound.few sound.sized marks s start_in);
        no_whole = λ other member out part. Part-antisym other rest (holds_all other member out) part;
      })

  pub route_largest_none : (set : ℕ) → route_largest n s t h marks ≡ None → RouteMember n s t set → Entered h.links marks set
  route_largest_none set e member =
      let rest = others n (reached_from h.links marks s) in
      let end_reached = none_if_false (has rest t) rest (sym (for_right_size n h (cond (has rest t) (Some rest) None) right) ∙ e) in
      entered_if_not_unentered h.links marks set
      (λ out. both_ways (has rest t) end_reached (In→has rest t (holds_all set member out t (has→In set t member.with_end))))
