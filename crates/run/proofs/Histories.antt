-- One call more in a history: what it says of links, tree and column after the call, from what it said
-- before. A call that is not accepted, or of another kind, leaves each of them as it was.
use Rattle.std.proofs.Common.{◌≡◌, ℕ, suc, ◌<◌, List, length, get_or, set, Some, None, Option, sym, ap, ◌∙◌, ⊎_elim, arith}
use Rattle.std.proofs.lemmas.List.{get_or-set_same, get_or-set_other, length-set}
use Rattle.std.proofs.lemmas.Bool.{cases_eq}
use Rattle.digraph.specs.Links.{Slots, link_at}
use Rattle.digraph.specs.declared.link.Link.{Link}
use Rattle.run.specs.History.{Outcome, Latest, AddedAt, WithdrawnAt, PricedAt, InstalledAt, OnSheet, ShowsLinks, ShowsTree, ShowsColumn}
use Rattle.run.specs.declared.calls.Call.{Call}

-- ---- the last place of a kind

module _ {A : Type 0} (At : ℕ → A → Type 0) (i : ℕ) where
  -- place i is of another kind
  module _ (none : (x : A) → At i x → ⊥) where
    still_latest : (x : A) → Latest At i x → Latest At (suc i) x
    still_latest x was =
        record {
          place = was.place;
          before = omega arith;
          here = was.here;
          last = λ j other after h x. ⊎_elim (λ same. none other (rw same at x)) (λ ne. was.last j other after (omega arith) x) (cases_eq j i);
        }

    was_latest : (x : A) → Latest At (suc i) x → Latest At i x
    was_latest x is =
        record {
          place = is.place;
          before = ⊎_elim (λ same. absurd (none x (rw same at is.here))) (λ ne. omega arith) (cases_eq is.place i);
          here = is.here;
          last = λ j other after h. is.last j other after (omega arith);
        }

  -- it is of the kind
  now_latest : (x : A) → At i x → Latest At (suc i) x
  now_latest x at = record { place = i; before = omega arith; here = at; last = λ j other after h. absurd (omega arith) }

  latest_is_now : (x y : A) → At i y → Latest At (suc i) x → At i x
  latest_is_now x y at is =
      ⊎_elim (λ same. rw same at is.here) (λ ne. absurd (is.last i y (omega arith) (omega arith) at)) (cases_eq is.place i)

module _ {T F : Type 0} (calls : List (Call T F)) (outcomes : List (Outcome T)) (i : ℕ) where
  -- ---- links

  module _ (slots : Slots) (shows : ShowsLinks calls outcomes i slots) where
    -- a link that is on the sheet stays, unless call i withdraws it
    stays_on_sheet : (k : ℕ) (l : Link) → (WithdrawnAt calls outcomes i k → ⊥) → OnSheet calls outcomes i k l → OnSheet calls outcomes (suc i) k l
    stays_on_sheet k l kept on =
        record {
          place = on.place;
          before = omega arith;
          added = on.added;
          not_withdrawn = λ j after h w. ⊎_elim (λ same. kept (rw same at w)) (λ ne. on.not_withdrawn j after (omega arith) w) (cases_eq j i);
        }

    -- one that is on the sheet was on it, or call i added it
    was_on_sheet : (k : ℕ) (l : Link) → (AddedAt calls outcomes i k l → ⊥) → OnSheet calls outcomes (suc i) k l → OnSheet calls outcomes i k l
    was_on_sheet k l old on =
        record {
          place = on.place;
          before = ⊎_elim (λ same. absurd (old (rw same at on.added))) (λ ne. omega arith) (cases_eq on.place i);
          added = on.added;
          not_withdrawn = λ j after h. on.not_withdrawn j after (omega arith);
        }

    pub links_untouched : ((k : ℕ) (l : Link) → AddedAt calls outcomes i k l → ⊥) → ((k : ℕ) → WithdrawnAt calls outcomes i k → ⊥) → ShowsLinks calls outcomes (suc i) slots
    links_untouched none_added none_withdrawn =
        record {
          was_added = λ k l e. stays_on_sheet k l (none_withdrawn k) (shows.was_added k l e);
          is_link = λ k l on. shows.is_link k l (was_on_sheet k l (none_added k l) on);
        }

    module _ (k₀ : ℕ) (placed : k₀ < length slots) where
      -- at another number the links are the ones before
      elsewhere : (o : Option Link) (k : ℕ) → (k ≡ k₀ → ⊥) → link_at (set slots k₀ o) k ≡ link_at slots k
      elsewhere o k ne = get_or-set_other slots k₀ k o None ne

      there : (o : Option Link) (k : ℕ) → k ≡ k₀ → link_at (set slots k₀ o) k ≡ o
      there o k same = ap (link_at (set slots k₀ o)) same ∙ get_or-set_same slots k₀ o None placed

      pub links_added : (l₀ : Link) → link_at slots k₀ ≡ None → AddedAt calls outcomes i k₀ l₀ → ((k : ℕ) (l : Link) → AddedAt calls outcomes i k l → (k ≡ k₀) × (l ≡ l₀))
          → ((k : ℕ) → WithdrawnAt calls outcomes i k → ⊥) → ShowsLinks calls outcomes (suc i) (set slots k₀ (Some l₀))
      links_added l₀ free added only none_withdrawn =
          record {
            was_added = λ k l e. ⊎_elim
                (λ same. let same_link : l ≡ l₀ = cc (there (Some l₀) k same) in rw same_link (rw same here))
                (λ ne. stays_on_sheet k l (none_withdrawn k) (shows.was_added k l (sym (elsewhere (Some l₀) k ne) ∙ e))) (cases_eq k k₀);
            is_link = λ k l on. ⊎_elim
                (λ same. let (same_number, same_link) = only k l (rw same at on.added) in there (Some l₀) k same_number ∙ ap Some (sym same_link))
                (λ ne. before k l on ne) (cases_eq on.place i);
          }
        where
          here : OnSheet calls outcomes (suc i) k₀ l₀
          here = record { place = i; before = omega arith; added = added; not_withdrawn = λ j after h w. absurd (omega arith) }

          before : (k : ℕ) (l : Link) (on : OnSheet calls outcomes (suc i) k l) → (on.place ≡ i → ⊥) → link_at (set slots k₀ (Some l₀)) k ≡ Some l
          before k l on ne =
              let was = shows.is_link k l (record { place = on.place; before = omega arith; added = on.added; not_withdrawn = λ j after h. on.not_withdrawn j after (omega arith) }) in
              ⊎_elim (λ same. let was_free = ap (link_at slots) same ∙ free in cc) (λ other. elsewhere (Some l₀) k other ∙ was) (cases_eq k k₀)

      pub links_withdrawn : WithdrawnAt calls outcomes i k₀ → ((k : ℕ) → WithdrawnAt calls outcomes i k → k ≡ k₀) → ((k : ℕ) (l : Link) → AddedAt calls outcomes i k l → ⊥)
          → ShowsLinks calls outcomes (suc i) (set slots k₀ None)
      unfolding was_on_sheet
      links_withdrawn withdrawn only none_added =
          record {
            was_added = λ k l e. ⊎_elim
                (λ same. let gone = there None k same in cc)
                (λ ne. stays_on_sheet k l (λ w. ne (only k w)) (shows.was_added k l (sym (elsewhere None k ne) ∙ e))) (cases_eq k k₀);
            is_link = λ k l on.
                let was = was_on_sheet k l (none_added k l) on in
                ⊎_elim (λ same. absurd (on.not_withdrawn i was.before (omega arith) (rw same withdrawn)))
                (λ ne. elsewhere None k ne ∙ shows.is_link k l was) (cases_eq k k₀);
          }

  -- ---- the tree

  module _ (tree : Option (List ℕ)) (shows : ShowsTree calls outcomes i tree) where
    pub tree_untouched : ((list : List ℕ) → InstalledAt calls outcomes i list → ⊥) → ShowsTree calls outcomes (suc i) tree
    tree_untouched none =
        record {
          was_installed = λ list e. still_latest (InstalledAt calls outcomes) i none list (shows.was_installed list e);
          is_tree = λ list on. shows.is_tree list (was_latest (InstalledAt calls outcomes) i none list on);
        }

  pub tree_installed : (list₀ : List ℕ) → InstalledAt calls outcomes i list₀ → ((list : List ℕ) → InstalledAt calls outcomes i list → list ≡ list₀) → ShowsTree calls outcomes (suc i) (Some list₀)
  tree_installed list₀ installed only =
      record {
        was_installed = λ list e. let same : list ≡ list₀ = cc in rw same (now_latest (InstalledAt calls outcomes) i list₀ installed);
        is_tree = λ list on. ap Some (sym (only list (latest_is_now (InstalledAt calls outcomes) i list list₀ installed on)));
      }

  -- ---- the column

  module _ (first : List T) (column : List T) (shows : ShowsColumn calls outcomes first i column) where
    pub column_untouched : ((k : ℕ) (price : T) → PricedAt calls outcomes i k price → ⊥) → ShowsColumn calls outcomes first (suc i) column
    column_untouched none =
        record {
          in_force = λ k price on. shows.in_force k price (was_latest (λ j. PricedAt calls outcomes j k) i (none k) price on);
          never_priced = λ k d not_priced. shows.never_priced k d (λ j price h. not_priced j price (omega arith));
          sized = shows.sized;
        }

    pub column_priced : (k₀ : ℕ) (p₀ : T) → k₀ < length column → PricedAt calls outcomes i k₀ p₀ → ((k : ℕ) (p : T) → PricedAt calls outcomes i k p → (k ≡ k₀) × (p ≡ p₀)) → ShowsColumn calls outcomes first (suc i) (set column k₀ p₀)
    column_priced k₀ p₀ placed priced only =
        record {
          in_force = λ k price on d. ⊎_elim
              (λ same. let same_price = only k price (latest_is_now (λ j. PricedAt calls outcomes j k) i price p₀ (rw same priced) on) in
              ap (λ x. get_or (set column k₀ p₀) x d) same ∙ get_or-set_same column k₀ p₀ d placed ∙ sym same_price.1)
              (λ ne. get_or-set_other column k₀ k p₀ d ne ∙ shows.in_force k price (was_latest (λ j. PricedAt calls outcomes j k) i (λ p x. ne (only k p x).0) price on) d) (cases_eq k k₀);
          never_priced = λ k d not_priced. ⊎_elim (λ same. absurd (not_priced i p₀ (omega arith) (rw same priced)))
              (λ ne. get_or-set_other column k₀ k p₀ d ne ∙ shows.never_priced k d (λ j price h. not_priced j price (omega arith))) (cases_eq k k₀);
          sized = length-set column k₀ p₀ ∙ shows.sized;
        }
