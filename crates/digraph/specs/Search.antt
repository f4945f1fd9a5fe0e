-- What a search from station to station finds, where each station has the set of stations one step from it.
use Rattle.std.specs.Prelude.{ℕ, zero, suc, ◌-◌, ◌^◌, cond, List, [], ◌∷◌, bit_and, bit_or, slice_index}
use Rattle.stations.specs.Sets.{In, has}

-- station v is one step from station u; place u of the list has the stations one step from u
abbrev pub Next : List ℕ → ℕ → ℕ → Type 0
Next masks u v = In (slice_index masks u) v

-- no step leads out of the set z
abbrev pub Closed : List ℕ → ℕ → Type 0
Closed masks z = (u v : ℕ) → In z u → Next masks u v → In z v

-- the stations of `near` that are not in `seen`
abbrev pub newly : ℕ → ℕ → ℕ
newly near seen = bit_and near (2 ^ 64 - 1 - seen)

-- the stations one step from those of a set, from station u on
abbrev pub spread : List ℕ → ℕ → ℕ → ℕ
spread [] u set = 0
spread (m ∷ ms) u set = bit_or (cond (has set u) m 0) (spread ms (suc u) set)

-- so many times, a set with the stations one step from it
abbrev pub widened : List ℕ → ℕ → ℕ → ℕ
widened masks set zero = set
widened masks set (suc times) = widened masks (bit_or set (spread masks 0 set)) times

-- the stations reached from a start: 40 times is as often as 40 stations can ask
unfoldable pub reach_set : List ℕ → ℕ → ℕ
reach_set masks start = widened masks (2 ^ start) 40
