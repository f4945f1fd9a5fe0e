-- What is reached along chosen links, as sets.
use Rattle.std.specs.Prelude.{◌≡◌, ℕ, ◌-◌, ◌^◌, ◌<◌, Bool, true}
use Rattle.stations.specs.Sets.{digit, In, Part}
use Rattle.digraph.specs.Links.{Slots, Leads}
use Rattle.cuts.specs.Families.{Unentered}

-- a chosen link leads from u to v
abbrev pub ChosenStep : Slots → (ℕ → Bool) → ℕ → ℕ → Type 0
ChosenStep slots choice u v = (k : ℕ) × (choice k ≡ true) × Leads slots k u v

-- the stations from which v is reached: the least set with v that no chosen link enters
pub record ReachesTo (n : ℕ) (slots : Slots) (choice : ℕ → Bool) (v set : ℕ) : Type 0 where
  pub small : set < 2 ^ n
  pub has_it : In set v
  pub unentered : Unentered slots choice set
  pub least : (other : ℕ) → In other v → Unentered slots choice other → Part set other

-- the stations reached from s: no chosen link enters the others, and every set without s that none enters is of those others
pub record ReachedFrom (n : ℕ) (slots : Slots) (choice : ℕ → Bool) (s set : ℕ) : Type 0 where
  pub small : set < 2 ^ n
  pub has_it : In set s
  pub unentered : Unentered slots choice (2 ^ n - 1 - set)
  pub greatest : (other : ℕ) → other < 2 ^ n → digit other s ≡ 0 → Unentered slots choice other → Part other (2 ^ n - 1 - set)
