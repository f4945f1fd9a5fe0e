-- Climbing a tree of links: from a station to the tail of the listed link into it, and on towards the base, station 0.
use Rattle.std.specs.Prelude.{◌≡◌, ℕ, zero, suc, ◌-◌, ◌^◌, Bool, cond, List, [], ◌∷◌, length, Some, None, Option, ◌==◌, bit_or}
use Rattle.digraph.specs.Links.{Slots, link_at}
use Rattle.digraph.specs.declared.link.Link.{Link}

-- the tail of what may be a link, if its head is v; else the number given
abbrev pub tail_into : Option Link → ℕ → ℕ → ℕ
tail_into None v other = other
tail_into (Some l) v other = cond (l.head == v) l.tail other

-- the tail of the first listed link into v; the base, if there is none
abbrev pub parent : Slots → List ℕ → ℕ → ℕ
parent slots [] v = 0
parent slots (k ∷ ks) v = tail_into (link_at slots k) v (parent slots ks v)

-- the station that so many steps up from v lead to
abbrev pub climb : Slots → List ℕ → ℕ → ℕ → ℕ
climb slots list zero v = v
climb slots list (suc j) v = climb slots list j (parent slots list v)

-- how many steps up it is from v to the base, as far as the fuel goes
abbrev pub steps_up : Slots → List ℕ → ℕ → ℕ → ℕ
steps_up slots list zero v = 0
steps_up slots list (suc fuel) v = cond (v == 0) 0 (suc (steps_up slots list fuel (parent slots list v)))

-- how many steps up it is from v to the base; no way up is longer than the list
abbrev pub depth : Slots → List ℕ → ℕ → ℕ
depth slots list v = steps_up slots list (length list) v

-- w is below v, or is v: some number of steps up from w lead to v
abbrev pub BelowOrAt : Slots → List ℕ → ℕ → ℕ → Type 0
BelowOrAt slots list w v = (j : ℕ) × (climb slots list j w ≡ v)

-- the same, as a test: as many steps up from w as w is deeper than v lead to v
abbrev pub is_below_or_at : Slots → List ℕ → ℕ → ℕ → Bool
is_below_or_at slots list w v = climb slots list (depth slots list w - depth slots list v) w == v

-- the set of those of the n lowest stations that pass a test
abbrev pub passing : ℕ → (ℕ → Bool) → ℕ
passing zero test = 0
passing (suc n) test = bit_or (passing n test) (cond (test n) (2 ^ n) 0)

-- the set of the stations that are below v, with v
abbrev pub subtree : ℕ → Slots → List ℕ → ℕ → ℕ
subtree n slots list v = passing n (λ w. is_below_or_at slots list w v)
