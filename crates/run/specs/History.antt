-- What a history says: the calls of a run with their outcomes, place by place. Only accepted calls count.
use Rattle.std.specs.Prelude.{◌≡◌, ℕ, ◌<◌, ◌⊎◌, List, length, Some, Option, Ok, Result, slice_index_or}
use Rattle.std.specs.List.{slice_get}
use Rattle.digraph.specs.Links.{Slots, link_at}
use Rattle.digraph.specs.declared.link.Link.{Link}
use Rattle.refusal.specs.declared.Refusal.{Refusal}
use Rattle.sheet.specs.Held.{Held}
use Rattle.run.specs.declared.calls.Call.{Call}
use Rattle.run.specs.declared.calls.Call.TheVariants.{Add, Reprice, Withdraw, Install}
use Rattle.run.specs.declared.calls.Answer.{Answer}

-- what became of a call: its answer, if it was accepted, or the refusal
abbrev pub Outcome : Type 0 → Type 0
Outcome T = Result (Answer T) Refusal

-- below n the last place that has anything has this
pub record Latest {A : Type 0} (At : ℕ → A → Type 0) (n : ℕ) (x : A) : Type 0 where
  pub place : ℕ
  pub before : place < n
  pub here : At place x
  pub last : (j : ℕ) (other : A) → place < j → j < n → At j other → ⊥

module _ {T F : Type 0} (calls : List (Call T F)) (outcomes : List (Outcome T)) where
  -- place i of the list has this call, and it was accepted
  pub record AcceptedAt (i : ℕ) (call : Call T F) : Type 0 where
    pub made : slice_get calls i ≡ Some call
    pub answer : Answer T
    pub accepted : slice_get outcomes i ≡ Some (Ok answer)

  -- an accepted add of link k at place i
  abbrev pub AddedAt : ℕ → ℕ → Link → Type 0
  AddedAt i k l = (price : T) × AcceptedAt i (Add k l price)

  -- an accepted withdraw of it
  abbrev pub WithdrawnAt : ℕ → ℕ → Type 0
  WithdrawnAt i k = AcceptedAt i (Withdraw k)

  -- an accepted add or reprice that names number k, with its price
  abbrev pub PricedAt : ℕ → ℕ → T → Type 0
  PricedAt i k price = ((l : Link) × AcceptedAt i (Add k l price)) ⊎ AcceptedAt i (Reprice k price)

  -- an accepted install of a list
  abbrev pub InstalledAt : ℕ → List ℕ → Type 0
  InstalledAt i list = (lent : _) × (lent.now ≡ list) × AcceptedAt i (Install lent)

  -- after n calls link k is on the sheet: it was added, and not withdrawn after that
  pub record OnSheet (n k : ℕ) (l : Link) : Type 0 where
    pub place : ℕ
    pub before : place < n
    pub added : AddedAt place k l
    pub not_withdrawn : (j : ℕ) → place < j → j < n → WithdrawnAt j k → ⊥

  -- the price in force of number k is that of the last accepted add or reprice that names it
  abbrev pub InForce : ℕ → ℕ → T → Type 0
  InForce n k = Latest (λ i. PricedAt i k) n

  -- the installed tree is the list of the last accepted install
  abbrev pub Installed : ℕ → List ℕ → Type 0
  Installed = Latest InstalledAt

  -- the links of a sheet are what the history of n calls says
  pub record ShowsLinks (n : ℕ) (slots : Slots) : Type 0 where
    pub was_added : (k : ℕ) (l : Link) → link_at slots k ≡ Some l → OnSheet n k l
    pub is_link : (k : ℕ) (l : Link) → OnSheet n k l → link_at slots k ≡ Some l

  -- so is its tree
  pub record ShowsTree (n : ℕ) (tree : Option (List ℕ)) : Type 0 where
    pub was_installed : (list : List ℕ) → tree ≡ Some list → Installed n list
    pub is_tree : (list : List ℕ) → Installed n list → tree ≡ Some list

  -- and so is the column, with a first column where no price was set
  pub record ShowsColumn (first : List T) (n : ℕ) (column : List T) : Type 0 where
    pub in_force : (k : ℕ) (price : T) → InForce n k price → (d : T) → slice_index_or column k d ≡ price
    pub never_priced : (k : ℕ) (d : T) → ((i : ℕ) (price : T) → i < n → PricedAt i k price → ⊥) → slice_index_or column k d ≡ slice_index_or first k d
    pub sized : length column ≡ length first

  -- sheet and column are what the history of n calls says, from a number of stations and a first column on
  pub record Shows (stations : ℕ) (first : List T) (n : ℕ) (sheet : Held) (column : List T) : Type 0 where
    pub stations_are : sheet.stations ≡ stations
    pub place_for_each_number : length sheet.links ≡ 200
    pub links : ShowsLinks n sheet.links
    pub tree : ShowsTree n sheet.tree
    pub prices : ShowsColumn first n column
