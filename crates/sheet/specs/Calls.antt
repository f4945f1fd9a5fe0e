-- What turns each call on a sheet back, the checks in their order. A price column is given by the
-- parts of its amounts, place by place.
use Rattle.std.specs.Prelude.{ℕ, ◌-◌, Bool, true, not, ◌&&◌, ◌||◌, List, [], ◌∷◌, ◌++◌, length, ℤ, is_some, ◌==◌, nat_eq, nat_le, nat_lt, slice_index_or}
use Rattle.amount.specs.Parts.{legal}
use Rattle.std.specs.List.{list_all, list_any}
use Rattle.std.specs.Option.{unwrap_or}
use Rattle.digraph.specs.Links.{Slots, link_at}
use Rattle.refusal.specs.Checks.{Check, ◌refuses_with◌, retold}
use Rattle.refusal.specs.Conversions.{refusal_of_link, refusal_of_tree}
use Rattle.refusal.specs.declared.Refusal.{Refusal}
use Rattle.refusal.specs.declared.Refusal.TheVariants.{ColumnSize, PriceInColumn, StationCount, PriceOffered, NoSuchLink, LinkInTree}
use Rattle.refusal.specs.declared.LinkRefusal.{LinkRefusal}
use Rattle.refusal.specs.declared.LinkRefusal.TheVariants as link
use Rattle.refusal.specs.declared.TreeRefusal.{TreeRefusal}
use Rattle.refusal.specs.declared.TreeRefusal.TheVariants as tree
use Rattle.sheet.specs.Held.{Held}

-- number k has no link, or a legal price
abbrev pub priced_at : Slots → List (List ℤ) → ℕ → Bool
priced_at slots ps k = not (is_some (link_at slots k)) || legal (slice_index_or ps k [])

-- every link's price is legal
abbrev pub priced : Slots → List (List ℤ) → Bool
priced [] ps = true
priced (o ∷ slots) [] = true
priced (o ∷ slots) (p ∷ ps) = priced_at (o ∷ slots) (p ∷ ps) 0 && priced slots ps

-- a number stands in a list
abbrev pub listed : ℕ → List ℕ → Bool
listed k xs = list_any (λ x. x == k) xs

-- every number of a list names a link
abbrev pub all_links : Slots → List ℕ → Bool
all_links slots ks = list_all (λ k. is_some (link_at slots k)) ks

-- a link of the installed tree
abbrev pub in_tree : Held → ℕ → Bool
in_tree h k = listed k (unwrap_or h.tree [])

-- every call on a sheet but open begins with these
abbrev pub column_checks : Held → List (List ℤ) → List (Check Refusal)
column_checks h ps =
    (not (length ps == 200) refuses_with ColumnSize) ∷
    (not (priced h.links ps) refuses_with PriceInColumn) ∷ []

abbrev pub open_checks : ℕ → List (Check Refusal)
open_checks n = ((nat_lt n 2 || nat_lt 40 n) refuses_with StationCount) ∷ []

-- a link that cannot be added: its number, tail, head and price
abbrev pub link_checks : Held → ℕ → ℕ → ℕ → List ℤ → List (Check LinkRefusal)
link_checks h k tail head price =
    (nat_lt 199 k refuses_with link.LinkNumber) ∷
    (is_some (link_at h.links k) refuses_with link.LinkInUse) ∷
    ((nat_le h.stations tail || nat_le h.stations head) refuses_with link.NoSuchStation) ∷
    (nat_eq tail head refuses_with link.EqualEnds) ∷
    (not (legal price) refuses_with link.PriceOffered) ∷ []

-- the column's checks and then the link's, the latter told in some words
abbrev pub add_checks_told : (LinkRefusal → Refusal) → Held → List (List ℤ) → ℕ → ℕ → ℕ → List ℤ → List (Check Refusal)
add_checks_told told h ps k tail head price = column_checks h ps ++ retold told (link_checks h k tail head price)

abbrev pub add_checks : Held → List (List ℤ) → ℕ → ℕ → ℕ → List ℤ → List (Check Refusal)
add_checks = add_checks_told refusal_of_link

abbrev pub reprice_checks : Held → List (List ℤ) → ℕ → List ℤ → List (Check Refusal)
reprice_checks h ps k price =
    column_checks h ps ++
    ((not (is_some (link_at h.links k)) refuses_with NoSuchLink) ∷
    (not (legal price) refuses_with PriceOffered) ∷ [])

abbrev pub withdraw_checks : Held → List (List ℤ) → ℕ → List (Check Refusal)
withdraw_checks h ps k =
    column_checks h ps ++
    ((not (is_some (link_at h.links k)) refuses_with NoSuchLink) ∷
    (in_tree h k refuses_with LinkInTree) ∷ [])

-- a list that cannot be installed; `spans` says whether it is a spanning tree
abbrev pub tree_checks : Held → List ℕ → Bool → List (Check TreeRefusal)
tree_checks h list spans =
    (not (length list == h.stations - 1) refuses_with tree.TreeLength) ∷
    (not (all_links h.links list) refuses_with tree.NoSuchLink) ∷
    (not spans refuses_with tree.StationNotReached) ∷ []

-- the column's checks and then the list's, the latter told in some words
abbrev pub install_checks_told : (TreeRefusal → Refusal) → Held → List (List ℤ) → List ℕ → Bool → List (Check Refusal)
install_checks_told told h ps list spans = column_checks h ps ++ retold told (tree_checks h list spans)

abbrev pub install_checks : Held → List (List ℤ) → List ℕ → Bool → List (Check Refusal)
install_checks = install_checks_told refusal_of_tree
