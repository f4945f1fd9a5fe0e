-- A quote put together: what the calls inside it ask for, and what it leaves, over plain values.
use Rattle.std.proofs.Common.{◌≡◌, ℕ, ◌*◌, ◌<◌, Bool, true, false, cond, List, [], map, length, get_or, ℤ, is_some, None, sym, refl, ap, ◌∙◌, subst, ap₂, ⊎_elim, arith}
use Rattle.std.proofs.lemmas.List.{length-map}
use Rattle.std.proofs.lemmas.Bool.{both_ways, cases_Bool}
use Rattle.std.proofs.lemmas.Bool.Decides.{nat_tests}
use Rattle.amount.specs.Parts.{minus, nothing, within, Fitting}
use Rattle.cover.specs.Memory.{Memory, memory_sized, room}
use Rattle.cover.specs.Ready.{Ready}
use Rattle.cover.specs.Filled.{Filled, Small}
use Rattle.cover.proofs.PackingProgress.{same_parts}
use Rattle.cuts.specs.Families.{listed}
use Rattle.cuts.proofs.TreeExtremes.{listed→place}
use Rattle.digraph.specs.Entering.{marked}
use Rattle.duality.specs.Trees.{is_link, cost_of_list}
use Rattle.refusal.specs.Checks.{first}
use Rattle.sheet.specs.Calls.{priced, column_checks}
use Rattle.sheet.specs.Held.{Held}
use Rattle.sheet.specs.Sound.{Sound}
use Rattle.stages.specs.Asked.{price_of}
use Rattle.stages.specs.Packing.{left_of, left_after}
use Rattle.stages.specs.Theorems.{cost_in_force}
use Rattle.remainders.proofs.Summing.{nothing_within, summed_within}
use Rattle.tree_shape.specs.Trees.{tree_of}
use Rattle.quote.specs.Memory.{QuoteMemory, quote_memory_sized}
use Rattle.quote.specs.Quotes.{quote_asked, revised_price, tree_cost, QuoteFilled}
use Rattle.quote.specs.Trees.{shown, NoSmallerConcession, KeepsTheTree}
use Rattle.quote.proofs.Differences.{difference_fits, list_cost_same}
use Rattle.quote.proofs.ListCosts.{cost_within_few}
use Rattle.quote.proofs.TreeQuotes.{tree, none_left_out, tree_is_short, link_price_small}
use Rattle.quote.proofs.Keeping.{no_smaller_concession, keeps_the_tree}

-- what the column's checks that passed say
pub column_passed : (h : Held) (column : List (List ℤ)) → first (column_checks h column) ≡ None → (length column ≡ 200) × (priced h.links column ≡ true)
column_passed h column e = (grind (arith, nat_tests), grind (arith, nat_tests))

pub quote_lengths : {T : Type 0} (m : QuoteMemory T) → quote_memory_sized m ≡ true
    → (memory_sized m.cover ≡ true) × (length m.cover.packing.left ≡ 200) × (length m.revised ≡ 200)
quote_lengths m e = (grind (arith, nat_tests), grind (arith, nat_tests), grind (arith, nat_tests))

module _ {T : Type 0} (parts : T → List ℤ) (width : ℕ) (h : Held) (sound : Sound h) (planted : is_some h.tree ≡ true) (prices : List T)
    (long : length prices ≡ 200) (legal_all : priced h.links (map parts prices) ≡ true) (wide : (k : ℕ) → k < 200 → length (get_or (map parts prices) k []) ≡ width) where
  abbrev column : List (List ℤ)
  column = map parts prices

  sized : length (map parts prices) ≡ 200
  sized = length-map prices parts ∙ long

  pub cover_ready : Ready h (quote_asked width h (map parts prices)) h.stations
  cover_ready = record { column_sized = sized; links_priced = legal_all; same_stations = refl; all_entered = none_left_out h sound planted }

  price_small : (k : ℕ) → is_link h.links k ≡ true → within 100000 (shown (map parts prices) k) ≡ true
  price_small = link_price_small h sound planted width (map parts prices) sized legal_all wide

  -- what a tree link loses fits
  pub tree_difference_fits : (left : List T) (sets sets_then amounts : _) → Small parts (quote_asked width h (map parts prices)) (room left sets_then amounts) sets
      → (i : ℕ) → i < length (tree_of h) → Fitting (minus (shown (map parts prices) (get_or (tree_of h) i 0)) (shown (map parts left) (get_or (tree_of h) i 0)))
  tree_difference_fits left sets sets_then amounts small i l =
      let k = get_or (tree_of h) i 0 in
      let link = (tree h sound planted).of_links i l in
      difference_fits 100000 8000000 (shown (map parts prices) k) (shown (map parts left) k) (omega arith) (price_small k link) (small.left_small k link)

  pub tree_prices_small : (i : ℕ) → i < length (tree_of h) → within 100000 (shown (map parts prices) (get_or (tree_of h) i 0)) ≡ true
  tree_prices_small i l = price_small (get_or (tree_of h) i 0) ((tree h sound planted).of_links i l)

  -- the price of each number in force is small
  in_force_small : (k : ℕ) → within 100000 (price_of (quote_asked width h (map parts prices)) k) ≡ true
  in_force_small k = go (is_link h.links k) refl
    where
      go : (b : Bool) → is_link h.links k ≡ b → within 100000 (cond b (get_or (map parts prices) k []) (nothing width)) ≡ true
      go true e = price_small k e
      go false e = nothing_within 100000 width

  cover_cost_within : (choice : ℕ → Bool) → within 20000000 (cost_in_force (quote_asked width h (map parts prices)) choice) ≡ true
  cover_cost_within choice =
      subst (λ m. within (100000 * m) (cost_in_force (quote_asked width h (map parts prices)) choice) ≡ true) sound.sized
      (summed_within width (λ k. cond (choice k) (price_of (quote_asked width h (map parts prices)) k) (nothing width)) (λ k. go k (choice k)) (length h.links))
    where
      go : (k : ℕ) (b : Bool) → within 100000 (cond b (price_of (quote_asked width h (map parts prices)) k) (nothing width)) ≡ true
      go k true = in_force_small k
      go k false = nothing_within 100000 width

  -- at the tree's links the column shows the prices in force
  shown_cost_is : cost_of_list width (shown (map parts prices)) (tree_of h) ≡ tree_cost width h (map parts prices)
  shown_cost_is =
      list_cost_same width (shown (map parts prices)) (price_of (quote_asked width h (map parts prices))) (tree_of h)
      (λ i l. sym (ap (λ b. cond b (get_or (map parts prices) (get_or (tree_of h) i 0) []) (nothing width)) ((tree h sound planted).of_links i l)))

  module _ (old new : Memory T) (sets : ℕ) (cost : List ℤ) (filled : Filled parts (quote_asked width h (map parts prices)) old new sets cost) where
    module _ (total concession : List ℤ) (total-is : total ≡ cost_of_list width (shown (map parts prices)) (tree_of h))
        (taken : Fitting (minus total cost) → concession ≡ minus total cost) where
      pub concession_is : concession ≡ minus (tree_cost width h (map parts prices)) cost
      concession_is =
          taken (difference_fits 3900000 20000000 total cost (omega arith)
          (subst (λ x. within 3900000 x ≡ true) (sym total-is) (cost_within_few width (shown (map parts prices)) (tree_of h) (tree_is_short h sound planted) tree_prices_small))
          (subst (λ x. within 20000000 x ≡ true) (sym filled.cost_of_marked) (cover_cost_within (marked new.marks))))
          ∙ ap (λ x. minus x cost) (total-is ∙ shown_cost_is)

      pub quote_least : NoSmallerConcession width h (map parts prices) concession
      quote_least =
          no_smaller_concession h sound planted width (map parts prices) sized legal_all wide sets new.marks filled.stages cost concession filled.cost_of_marked concession_is

      module _ (entry revised_now : List T) (entry_long : length entry ≡ 200) (now_long : length revised_now ≡ length entry)
          (lowered : (k : ℕ) → listed (tree_of h) k ≡ true → shown (map parts revised_now) k ≡ minus (shown (map parts prices) k) (shown (map parts new.packing.left) k))
          (others : (k : ℕ) (d : T) → listed (tree_of h) k ≡ false → get_or revised_now k d ≡ cond (is_link h.links k) (get_or prices k d) (get_or entry k d)) where
        in_force : (k : ℕ) → is_link h.links k ≡ true → shown (map parts prices) k ≡ price_of (quote_asked width h (map parts prices)) k
        in_force k link = sym (ap (λ b. cond b (get_or (map parts prices) k []) (nothing width)) link)

        revised_is : (k : ℕ) → is_link h.links k ≡ true → shown (map parts revised_now) k ≡ revised_price width h (map parts prices) sets k
        revised_is k link = ⊎_elim in_tree beside (cases_Bool (listed (tree_of h) k))
          where
            in_tree : listed (tree_of h) k ≡ true → shown (map parts revised_now) k ≡ revised_price width h (map parts prices) sets k
            in_tree e =
                lowered k e ∙ ap₂ minus (in_force k link) (filled.packing.left_written k link)
                ∙ sym (ap (λ b. cond b (minus (price_of (quote_asked width h (map parts prices)) k) (left_of (left_after (quote_asked width h (map parts prices)) sets) k)) (price_of (quote_asked width h (map parts prices)) k)) e)

            beside : listed (tree_of h) k ≡ false → shown (map parts revised_now) k ≡ revised_price width h (map parts prices) sets k
            beside e =
                same_parts parts revised_now prices k (now_long ∙ entry_long ∙ sym long) (λ d. others k d e ∙ ap (λ b. cond b (get_or prices k d) (get_or entry k d)) link)
                ∙ in_force k link
                ∙ sym (ap (λ b. cond b (minus (price_of (quote_asked width h (map parts prices)) k) (left_of (left_after (quote_asked width h (map parts prices)) sets) k)) (price_of (quote_asked width h (map parts prices)) k)) e)

        -- a number without a link is none of the tree
        not_in_tree : (k : ℕ) → is_link h.links k ≡ false → listed (tree_of h) k ≡ false
        not_in_tree k none = ⊎_elim (λ e. absurd (listed_is_link e)) (λ e. e) (cases_Bool (listed (tree_of h) k))
          where
            listed_is_link : listed (tree_of h) k ≡ true → ⊥
            listed_is_link e =
                let (i, l, at) = listed→place (tree_of h) k e in
                both_ways (is_link h.links k) none (subst (λ x. is_link h.links x ≡ true) at ((tree h sound planted).of_links i l))

        pub quote_filled : QuoteFilled parts width h (map parts prices) (record { cover = old; revised = entry }) (record { cover = new; revised = revised_now }) sets cost concession
        quote_filled =
            record {
              covered = filled;
              concession_is = concession_is;
              revised_written = revised_is;
              revised_untouched = λ k d none. others k d (not_in_tree k none) ∙ ap (λ b. cond b (get_or prices k d) (get_or entry k d)) none;
              revised_sized = now_long;
            }

        pub quote_keeps : KeepsTheTree width h (map parts prices) (map parts revised_now) concession
        quote_keeps =
            keeps_the_tree h sound planted width (map parts prices) sized legal_all wide sets new.marks filled.stages cost concession filled.cost_of_marked concession_is (map parts revised_now) revised_is
