-- What every sheet keeps, after a link is put at a number or taken away: links stay proper, and a
-- spanning tree stays one where its own links stay. By cases on whether the number is the one changed.
use Rattle.std.proofs.Common.{◌≡◌, ℕ, zero, suc, ◌-◌, ◌<◌, true, false, ◌⊎◌, List, [], ◌∷◌, length, get_or, take, set, replicate, is_some, Some, None, Option, unwrap_or, sym, refl, ap, ◌∙◌, subst, inl, inr, ⊎_elim, arith}
use mathlib.Core.Logic.{∥∥₁_map}
use Rattle.std.proofs.lemmas.List.{get_or-set_other}
use Rattle.std.proofs.lemmas.Bool.{cases_eq, both_ways}
use Rattle.digraph.specs.Links.{Slots, link_at}
use Rattle.digraph.specs.declared.link.Link.{Link}
use Rattle.std.specs.Option.{option_map}
use Rattle.digraph.proofs.Walks.{spanning_tree_of_same_links}
use Rattle.digraph.specs.Trees.{SpanningTree}
use Rattle.sheet.specs.declared.tree.Tree.{Tree}
use Rattle.sheet.specs.Calls.{listed}
use Rattle.sheet.proofs.Columns.{listed_at_place}
use Rattle.digraph.specs.Links.{Proper}
use Rattle.sheet.specs.Keeps.{Spans}

-- nothing is at any number of an empty table
pub none_in_empty : (n k : ℕ) → link_at (replicate n None) k ≡ None
none_in_empty zero k = refl
none_in_empty (suc n) zero = refl
none_in_empty (suc n) (suc k) = none_in_empty n k

some_is_not_none : {A : Type 0} {x : A} {o : Option A} → o ≡ None → o ≡ Some x → ⊥
some_is_not_none p q = let z : ◌≡◌ {A = ℕ} 0 1 = cc in omega arith

pub proper_in_empty : (n m : ℕ) → Proper n (replicate m None)
proper_in_empty n m k l e = absurd (some_is_not_none (none_in_empty m k) e)

-- a link read after a write is the one written or one that stood there before
read_after_write : (slots : Slots) (k j : ℕ) (o : Option Link) (l : Link) → link_at (set slots k o) j ≡ Some l → (o ≡ Some l) ⊎ (link_at slots j ≡ Some l)
read_after_write slots k j o l e = ⊎_elim (at_it slots k j o l e) (λ ne. inr (sym (get_or-set_other slots k j o None ne) ∙ e)) (cases_eq j k)
  where
    at_it : (slots : Slots) (k j : ℕ) (o : Option Link) (l : Link) → link_at (set slots k o) j ≡ Some l → j ≡ k → (o ≡ Some l) ⊎ (link_at slots j ≡ Some l)
    at_it [] k j o l e eq = inr e
    at_it (x ∷ xs) zero zero o l e eq = inl e
    at_it (x ∷ xs) zero (suc j) o l e eq = inr e
    at_it (x ∷ xs) (suc k) zero o l e eq = inr e
    at_it (x ∷ xs) (suc k) (suc j) o l e eq = at_it xs k j o l e (omega arith)

pub proper_with_link : (n : ℕ) (slots : Slots) (k : ℕ) (l : Link) → l.tail < n → l.head < n → (l.tail ≡ l.head → ⊥) → Proper n slots → Proper n (set slots k (Some l))
proper_with_link n slots k l t h a p j m e =
    ⊎_elim (λ q. let same : l ≡ m = cc in subst (λ (x : Link). (x.tail < n) × (x.head < n) × (x.tail ≡ x.head → ⊥)) same (t, h, a)) (p j m) (read_after_write slots k j (Some l) m e)

pub proper_without_link : (n : ℕ) (slots : Slots) (k : ℕ) → Proper n slots → Proper n (set slots k None)
proper_without_link n slots k p j m e = ⊎_elim (λ q. absurd (some_is_not_none refl q)) (p j m) (read_after_write slots k j None m e)

pub no_tree_spans : (n : ℕ) (slots : Slots) → Spans n slots None
no_tree_spans n slots t e = absurd (some_is_not_none refl e)

-- a tree stays where a number gets another link, if it is none of the tree's
pub spanning_after_set
    : (n : ℕ) (slots : Slots) (list : List ℕ) (k : ℕ) (o : Option Link)
    → ((i : ℕ) → i < length list → get_or list i 0 ≡ k → ⊥)
    → SpanningTree n slots list
    → SpanningTree n (set slots k o) list
spanning_after_set n slots list k o other t =
    spanning_tree_of_same_links n slots (set slots k o) list (λ i h. sym (get_or-set_other slots k (get_or list i 0) o None (other i h))) t

-- a number without a link is none of the tree's
not_of_tree : (n : ℕ) (slots : Slots) (list : List ℕ) (k : ℕ) → link_at slots k ≡ None → SpanningTree n slots list → (i : ℕ) → i < length list → get_or list i 0 ≡ k → ⊥
not_of_tree n slots list k free t i h e =
    let some : is_some (link_at slots k) ≡ true = subst (λ (x : ℕ). is_some (link_at slots x) ≡ true) e (t.of_links i h) in
    let none : is_some (link_at slots k) ≡ false = ap is_some free in
    both_ways _ none some

pub spans_with_link : (n : ℕ) (slots : Slots) (tree : Option Tree) (k : ℕ) (l : Link) → link_at slots k ≡ None → Spans n slots tree → Spans n (set slots k (Some l)) tree
spans_with_link n slots tree k l free spans t e =
    ∥∥₁_map (spans t e) (λ s. spanning_after_set n slots _ k (Some l) (not_of_tree n slots _ k free s) s)

pub none_from_test : {A : Type 0} (o : Option A) → is_some o ≡ false → o ≡ None
none_from_test None e = refl
none_from_test (Some x) e = cc

pub spans_without_link
    : (n : ℕ) (slots : Slots) (tree : Option Tree) (k : ℕ)
    → listed k (unwrap_or (option_map (λ t. take (n - 1) t.numbers) tree) []) ≡ false
    → Spans n slots tree
    → Spans n (set slots k None) tree
spans_without_link n slots tree k free spans t e =
    let out : listed k (take (n - 1) t.numbers) ≡ false = subst (λ (o : Option Tree). listed k (unwrap_or (option_map (λ t. take (n - 1) t.numbers) o) []) ≡ false) e free in
    ∥∥₁_map (spans t e) (spanning_after_set n slots _ k None (λ i h q. both_ways _ out (listed_at_place k _ i h q)))

pub spans_with_tree
    : (n : ℕ) (slots : Slots) (tree : Tree) (list : List ℕ)
    → length list ≡ n - 1
    → take (length list) tree.numbers ≡ list
    → SpanningTree n slots list
    → Spans n slots (Some tree)
spans_with_tree n slots tree list count is t other e =
    let same : tree ≡ other = cc in
    let list_of : take (n - 1) tree.numbers ≡ list = ap (λ (k : ℕ). take k tree.numbers) (sym count) ∙ is in
    ∣ subst (λ (x : Tree). SpanningTree n slots (take (n - 1) x.numbers)) same (subst (SpanningTree n slots) (sym list_of) t) ∣₁
