-- What a search keeps true, turn by turn, as facts on numbers: every station seen has a path, and one that is done has its next stations seen.
-- A turn takes the lowest station of those to do; what it adds is new, so the stations seen and done grow with every turn.
use Rattle.std.proofs.Common.{◌≡◌, ℕ, ◌-◌, ◌^◌, ◌<◌, min, max, ◌⊎◌, List, get_or, Decides, sym, subst, inl, inr, arith, pow_pos}
use lib.Bits.{bit_or, bit_xor, and_le_l, or_lt}
use lib.Count.{count_trailing_zeros}
use lib.Pow.{pow-lt}
use native.Mathlib.Decide.{ℕ_discrete}
use Rattle.stations.specs.Sets.{digit, In, has, Part}
use Rattle.stations.proofs.Digits.{digit_of_0, digit_or, digit_and, digit_not, digit_pow_same, digit_without_other, without_part, without_add, In-below, In-pow, Part→≤, trailing_lowest, in_or_out, or_apart, has→In, In→has}
use Rattle.digraph.specs.Paths.{Path, stay, step}
use Rattle.digraph.specs.Search.{Closed, Next, newly}

-- a set that holds the start and that no step leads out of holds the end of every path
pub path_stays : (masks : List ℕ) (start z : ℕ) {v : ℕ} → In z start → Closed masks z → Path (Next masks) start v → In z v
path_stays masks start z at closed stay = at
path_stays masks start z at closed (step {u = u} {v = v} path e) = closed u v (path_stays masks start z at closed path) e

-- after some turns: the stations seen, and those of them whose next stations have still to be looked at
pub record Searched (masks : List ℕ) (start seen todo : ℕ) : Type 0 where
  pub small : seen < 2 ^ 40
  pub started : In seen start
  pub to_do : Part todo seen
  pub found : (u : ℕ) → In seen u → Path (Next masks) start u
  pub done : (u v : ℕ) → In seen u → digit todo u ≡ 0 → Next masks u v → In seen v

-- what station s adds to the stations seen
pub record Fresh (masks : List ℕ) (seen s fresh : ℕ) : Type 0 where
  pub few : fresh < 2 ^ 40
  pub new : (t : ℕ) → In seen t → digit fresh t ≡ 0
  pub near : (t : ℕ) → In fresh t → Next masks s t
  pub all : (t : ℕ) → Next masks s t → In (bit_or seen fresh) t

pub newly_fresh : (masks : List ℕ) (seen s : ℕ) → get_or masks s 0 < 2 ^ 40 → seen < 2 ^ 40 → Fresh masks seen s (newly (get_or masks s 0) seen)
newly_fresh masks seen s h g = record {
  few = omega (arith, and_le_l (get_or masks s 0) (2 ^ 64 - 1 - seen));
  new = λ t i. omega (arith, both t, away t (In-below 40 seen t g i));
  near = λ t i. omega (arith, both t);
  all = λ t n. omega (arith, both t, away t (In-below 40 (get_or masks s 0) t h n), digit_or seen (newly (get_or masks s 0) seen) t);
}
  where
    both : (t : ℕ) → digit (newly (get_or masks s 0) seen) t ≡ min (digit (get_or masks s 0) t) (digit (2 ^ 64 - 1 - seen) t)
    both t = digit_and (get_or masks s 0) (2 ^ 64 - 1 - seen) t

    away : (t : ℕ) → t < 40 → digit (2 ^ 64 - 1 - seen) t ≡ 1 - digit seen t
    away t l = digit_not 64 seen t (omega arith) (omega arith)

-- ---- the start

first : (masks : List ℕ) (start : ℕ) → start < 40 → Searched masks start (2 ^ start) (2 ^ start)
first masks start h = record {
  small = pow-lt h;
  started = digit_pow_same start;
  to_do = λ s i. i;
  found = λ u i. subst (λ (x : ℕ). Path (Next masks) start x) (In-pow start u i) stay;
  done = λ u v i z n. omega arith;
}

pub begun : (masks : List ℕ) (start seen todo : ℕ) → start < 40 → seen ≡ 2 ^ start → todo ≡ 2 ^ start → Searched masks start seen todo
begun masks start seen todo h p q = rw (p, q) (first masks start h)

-- ---- a turn, at any of the stations to do

module _ (masks : List ℕ) (start seen todo : ℕ) (was : Searched masks start seen todo) where
  pub todo_small : todo < 2 ^ 40
  todo_small = omega (arith, Part→≤ todo seen was.to_do, was.small)

  module _ (s fresh : ℕ) (at : In todo s) (adds : Fresh masks seen s fresh) where
    pub turn : Searched masks start (bit_or seen fresh) (bit_or (bit_xor todo (2 ^ s)) fresh)
    turn = record {
      small = or_lt 40 seen fresh was.small adds.few;
      started = kept start was.started;
      to_do = λ u i. to_do' u i (in_or_out fresh u);
      found = λ u i. found' u i (in_or_out seen u);
      done = λ u v i z n. done' u v i z n (ℕ_discrete s u);
    }
      where
        both : (u : ℕ) → digit (bit_or seen fresh) u ≡ max (digit seen u) (digit fresh u)
        both u = digit_or seen fresh u

        rest : (u : ℕ) → digit (bit_or (bit_xor todo (2 ^ s)) fresh) u ≡ max (digit (bit_xor todo (2 ^ s)) u) (digit fresh u)
        rest u = digit_or (bit_xor todo (2 ^ s)) fresh u

        kept : (u : ℕ) → In seen u → In (bit_or seen fresh) u
        kept u i = omega (arith, both u)

        to_do' : (u : ℕ) → In (bit_or (bit_xor todo (2 ^ s)) fresh) u → In fresh u ⊎ (digit fresh u ≡ 0) → In (bit_or seen fresh) u
        to_do' u i (inl f) = omega (arith, both u)
        to_do' u i (inr z) = kept u (was.to_do u (without_part todo s at u (omega (arith, rest u))))

        found' : (u : ℕ) → In (bit_or seen fresh) u → In seen u ⊎ (digit seen u ≡ 0) → Path (Next masks) start u
        found' u i (inl o) = was.found u o
        found' u i (inr z) = step (was.found s (was.to_do s at)) (adds.near u (omega (arith, both u)))

        done' : (u v : ℕ) → In (bit_or seen fresh) u → digit (bit_or (bit_xor todo (2 ^ s)) fresh) u ≡ 0 → Next masks u v → Dec (s ≡ u)
            → In (bit_or seen fresh) v
        done' u v i z n (yes e) = adds.all v (subst (λ (x : ℕ). Next masks x v) (sym e) n)
        done' u v i z n (no ne) =
            kept v (was.done u v (omega (arith, both u, rest u)) (omega (arith, rest u, digit_without_other todo s u ne)) n)

    -- the stations that are seen and done are more
    pub turn_falls : 2 ^ 64 - (bit_or seen fresh - bit_or (bit_xor todo (2 ^ s)) fresh) < 2 ^ 64 - (seen - todo)
    turn_falls =
        let grown = or_apart seen fresh adds.new in
        let left = or_apart (bit_xor todo (2 ^ s)) fresh (λ t i. adds.new t (was.to_do t (without_part todo s at t i))) in
        omega (arith, grown, left, without_add todo s at, pow_pos s, Part→≤ todo seen was.to_do, was.small)

-- the station that a turn takes: the lowest of those to do
module _ (masks : List ℕ) (start seen todo : ℕ) (was : Searched masks start seen todo) (some : todo ≡ 0 → ⊥) where
  station_in : In todo (count_trailing_zeros 64 todo)
  station_in = (trailing_lowest 64 todo (omega arith) (omega (arith, todo_small masks start seen todo was))).inside

  pub station_below : count_trailing_zeros 64 todo < 40
  station_below = In-below 40 todo (count_trailing_zeros 64 todo) (todo_small masks start seen todo was) station_in

  module _ (bounded : (u : ℕ) → u < 40 → get_or masks u 0 < 2 ^ 40) where
    pub station_adds : Fresh masks seen (count_trailing_zeros 64 todo) (newly (get_or masks (count_trailing_zeros 64 todo) 0) seen)
    station_adds = newly_fresh masks seen (count_trailing_zeros 64 todo) (bounded (count_trailing_zeros 64 todo) station_below) was.small

    -- the stations seen and those to do after it
    module _ (seen' todo' : ℕ) (more : seen' ≡ bit_or seen (newly (get_or masks (count_trailing_zeros 64 todo) 0) seen))
        (left : todo' ≡ bit_or (bit_xor todo (2 ^ count_trailing_zeros 64 todo)) (newly (get_or masks (count_trailing_zeros 64 todo) 0) seen)) where
      pub lowest_turn : Searched masks start seen' todo'
      lowest_turn = rw (more, left) (turn masks start seen todo was (count_trailing_zeros 64 todo) _ station_in station_adds)

      pub lowest_turn_falls : 2 ^ 64 - (seen' - todo') < 2 ^ 64 - (seen - todo)
      lowest_turn_falls = rw (more, left) (turn_falls masks start seen todo was (count_trailing_zeros 64 todo) _ station_in station_adds)

-- ---- the end

module _ (masks : List ℕ) (start seen : ℕ) (was : Searched masks start seen 0) where
  pub ended_closed : Closed masks seen
  ended_closed u v i n = was.done u v i (digit_of_0 u) n

  pub ended_least : (z : ℕ) → In z start → Closed masks z → Part seen z
  ended_least z at closed s i = path_stays masks start z at closed (was.found s i)

  pub ended_paths : (v : ℕ) → Decides (has seen v) (Path (Next masks) start v)
  ended_paths v = (λ h. was.found v (has→In seen v h), λ path. In→has seen v (path_stays masks start seen was.started ended_closed path))
