-- How often the links of a list enter a set of stations.
use Rattle.std.specs.Prelude.{ℕ, ◌+◌, cond, List, [], ◌∷◌}
use Rattle.digraph.specs.Entering.{enters_at}
use Rattle.digraph.specs.Links.{Slots}

-- 1 if the link of number k enters the set, and 0 if not
abbrev pub entry : Slots → ℕ → ℕ → ℕ
entry slots k set = cond (enters_at slots k set) 1 0

-- how many places of the list have a link that enters the set
abbrev pub entries : Slots → List ℕ → ℕ → ℕ
entries slots [] set = 0
entries slots (k ∷ ks) set = entry slots k set + entries slots ks set
