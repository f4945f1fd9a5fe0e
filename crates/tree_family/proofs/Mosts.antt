-- The set with most stations: what `min_by_key` picks of the candidates, by the reversed number of stations.
use Rattle.std.proofs.Common.{◌≡◌, ℕ, Bool, true, false, cond, nat_lt, List, [], ◌∷◌, Some, None, Option, count_ones, sym, refl, ap, ◌∙◌}
use Rattle.std.specs.List.{cons_option, filter_map, fold, reduce}
use Rattle.std.specs.Ordering.{nat_cmp}
use Rattle.std.specs.declared.cmp.Ordering.{Ordering}
use Rattle.std.specs.declared.cmp.Reverse.{Reverse}
use Rattle.stations.specs.Sets.{has}
use Rattle.sheet.specs.Held.{Held}
use Rattle.family.proofs.Picking.{lesser, lesser_by_number, picked_is_some}
use Rattle.tree_family.specs.Choices.{remaining, candidate, more, most_from}

-- more stations come first
abbrev pub most_first : Reverse ℕ → Reverse ℕ → Ordering
most_first a b = nat_cmp b.0 a.0

abbrev pub stations_reversed : ℕ → Reverse ℕ
stations_reversed set = record { 0 = count_ones set }

-- of two sets the one with more stations, the first among equals
abbrev with_more : ℕ → ℕ → ℕ
with_more = lesser most_first stations_reversed

module _ (t : Held) (marked : List ℕ) where
  -- what remains below a station, if the station itself remains
  abbrev pub candidate_at : ℕ → Option ℕ
  candidate_at v = candidate None (remaining t marked v) v

  most_of_more : (vs : List ℕ) (best : ℕ) → most_from t marked (Some best) vs ≡ Some (fold with_more best (filter_map candidate_at vs))
  most_of_more [] best = refl
  most_of_more (v ∷ vs) best = go (has set v) (most_of_more vs)
    where
      set : ℕ
      set = remaining t marked v

      go : (b : Bool) → ((after : ℕ) → most_from t marked (Some after) vs ≡ Some (fold with_more after (filter_map candidate_at vs)))
          → most_from t marked (cond b (more (Some best) set) (Some best)) vs ≡ Some (fold with_more best (cons_option (cond b (Some set) None) (filter_map candidate_at vs)))
      go true rest =
          ap (λ (o : Option ℕ). most_from t marked o vs) (picked_is_some (nat_lt (count_ones best) (count_ones set)) set best (with_more best set) (lesser_by_number (count_ones set) (count_ones best) best set))
          ∙ rest (with_more best set)
      go false rest = rest best

  pub most_is_first : (vs : List ℕ) → reduce with_more (filter_map candidate_at vs) ≡ most_from t marked None vs
  most_is_first [] = refl
  most_is_first (v ∷ vs) = go (has (remaining t marked v) v) (most_is_first vs)
    where
      go : (b : Bool) → reduce with_more (filter_map candidate_at vs) ≡ most_from t marked None vs
          → reduce with_more (cons_option (cond b (Some (remaining t marked v)) None) (filter_map candidate_at vs)) ≡ most_from t marked (cond b (Some (remaining t marked v)) None) vs
      go true rest = sym (most_of_more vs (remaining t marked v))
      go false rest = rest
