-- Sets of stations that grow: a set that can be enlarged as long as it is not done comes to be done; and a path from outside a set to
-- a station of it crosses into it. Growing ends since the set's number rises; crossing goes along the path.
use Rattle.std.proofs.Common.{◌≡◌, ℕ, zero, suc, ◌+◌, ◌^◌, ◌<◌, ◌≤◌, ◌⊎◌, subst, inl, inr, arith, pow_pos}
use lib.Bits.{bit_or, or_lt}
use lib.Pow.{pow-lt}
use Rattle.stations.specs.Sets.{digit, In}
use Rattle.stations.proofs.Digits.{In-pow, digit_le_1, digit_or, digit_pow_same, in_or_out, or_apart}
use Rattle.digraph.specs.Paths.{Path, stay, step}

-- a set with one more station

pub one_more_has : (set s : ℕ) → In (bit_or set (2 ^ s)) s
one_more_has set s = omega (arith, digit_or set (2 ^ s) s, digit_pow_same s, digit_le_1 set s)

pub one_more_keeps : (set s t : ℕ) → In set t → In (bit_or set (2 ^ s)) t
one_more_keeps set s t h = omega (arith, digit_or set (2 ^ s) t, digit_le_1 (2 ^ s) t)

pub one_more_only : (set s t : ℕ) → In (bit_or set (2 ^ s)) t → In set t ⊎ (s ≡ t)
one_more_only set s t h = go (in_or_out set t)
  where
    go : In set t ⊎ (digit set t ≡ 0) → In set t ⊎ (s ≡ t)
    go (inl i) = inl i
    go (inr o) = inr (In-pow s t (omega (arith, digit_or set (2 ^ s) t)))

one_more_rises : (set s : ℕ) → digit set s ≡ 0 → set < bit_or set (2 ^ s)
one_more_rises set s out =
    omega (arith, or_apart set (2 ^ s) (λ t i. not_both t i (in_or_out (2 ^ s) t)), pow_pos s)
  where
    not_both : (t : ℕ) → In set t → In (2 ^ s) t ⊎ (digit (2 ^ s) t ≡ 0) → digit (2 ^ s) t ≡ 0
    not_both t i (inl h) = absurd (omega (arith, subst (λ (x : ℕ). digit set x ≡ 0) (In-pow s t h) out))
    not_both t i (inr z) = z

-- a station outside a set with which the set is still good
abbrev pub CanGrow : ℕ → (ℕ → Type 0) → ℕ → Type 0
CanGrow n Good set = (s : ℕ) × (s < n) × (digit set s ≡ 0) × Good (bit_or set (2 ^ s))

-- where growing ends
pub record Grown (n : ℕ) (Good Done : ℕ → Type 0) : Type 0 where
  pub set : ℕ
  pub small : set < 2 ^ n
  pub good : Good set
  pub done : Done set

module _ (n : ℕ) (Good Done : ℕ → Type 0) (more : (set : ℕ) → set < 2 ^ n → Good set → Done set ⊎ CanGrow n Good set) where
  grow_within : (fuel set : ℕ) → 2 ^ n ≤ set + fuel → set < 2 ^ n → Good set → Grown n Good Done
  grow_within zero set enough small good = absurd (omega arith)
  grow_within (suc fuel) set enough small good = go (more set small good) (grow_within fuel)
    where
      go : Done set ⊎ CanGrow n Good set → ((next : ℕ) → 2 ^ n ≤ next + fuel → next < 2 ^ n → Good next → Grown n Good Done) → Grown n Good Done
      go (inl done) rest = record { set = set; small = small; good = good; done = done }
      go (inr (s, h, out, next)) rest =
          rest (bit_or set (2 ^ s)) (omega (arith, one_more_rises set s out)) (or_lt n set (2 ^ s) small (pow-lt h)) next

  pub grow : (set : ℕ) → set < 2 ^ n → Good set → Grown n Good Done
  grow set = grow_within (2 ^ n) set (omega arith)

-- a step of a path that leads into a set
pub record Crossing (E : ℕ → ℕ → Type 0) (set : ℕ) : Type 0 where
  pub tail : ℕ
  pub head : ℕ
  pub along : E tail head
  pub tail_out : digit set tail ≡ 0
  pub head_in : In set head

pub path_crosses : {E : ℕ → ℕ → Type 0} {s v : ℕ} (set : ℕ) → Path E s v → digit set s ≡ 0 → In set v → Crossing E set
path_crosses set stay out at = absurd (omega arith)
path_crosses {E} set (step {u = u} {v = v} path e) out at = go (in_or_out set u) (path_crosses set path out)
  where
    go : In set u ⊎ (digit set u ≡ 0) → (In set u → Crossing E set) → Crossing E set
    go (inl i) rest = rest i
    go (inr o) rest = record { tail = u; head = v; along = e; tail_out = o; head_in = at }
