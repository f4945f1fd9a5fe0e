-- Loading is placing every link on a sheet of its own and writing the prices afterwards: the checks of
-- the column pass at every record, since it has 200 places and every price put so far is legal.
use Rattle.std.proofs.Common.{◌≡◌, ℕ, zero, suc, ◌+◌, ◌/◌, ◌<◌, ◌≤◌, Bool, true, false, cond, not, ◌||◌, eqb, List, [], ◌∷◌, length, set, replicate, ℤ, is_some, is_ok, Some, None, Ok, Err, Decides, Option, Result, if◌then◌else◌, sym, refl, ap, ◌∙◌, subst, arith}
use Rattle.std.specs.Option.{option_map}
use Rattle.std.specs.Result.{result_err, result_map_both}
use Rattle.std.proofs.lemmas.List.{length-set, length-take, length-drop, nil_from_length}
use Rattle.std.proofs.lemmas.Bool.{and_parts, and_from, eq-eqb, ne_eqb, true≢false, false≢true}
use Rattle.std.proofs.lemmas.Bool.Decides.{nat_tests}
use Rattle.amount.specs.Parts.{legal}
use Rattle.amount.specs.Records.{length_of_record}
use Rattle.digraph.specs.Links.{Slots}
use Rattle.digraph.specs.Trees.{SpanningTree}
use Rattle.digraph.specs.declared.link.Link.{Link}
use Rattle.refusal.specs.Checks.{first, retold}
use Rattle.refusal.specs.declared.LinkRefusal.{LinkRefusal}
use Rattle.refusal.specs.declared.TreeRefusal.{TreeRefusal}
use Rattle.refusal.specs.declared.Refusal.{Refusal}
use Rattle.refusal.specs.declared.Refusal.TheVariants.{ColumnSize, FileRecord, FileTree}
use Rattle.refusal.proofs.Firsts.{first_of_back, first_retold}
use Rattle.sheet.specs.Calls.{priced, column_checks, link_checks, tree_checks}
use Rattle.sheet.specs.Held.{Held, opened, with_link, with_tree}
use Rattle.sheet.proofs.Columns.{passed_link_is_numbered}
use Rattle.sheet_file.specs.Files.{Entry, entry_at, entries_from, entries, file_checks, stations_of, tree_numbers, bytes_of, records_section, end_of}
use Rattle.sheet_file.specs.Loading.{Priced, with_column, unless_refused, and_then, link_of, adding, installing, loading, load_checks, links_of, no_links}
use Rattle.sheet_file.specs.Placing.{placing, planting, sheet_from, writing}

-- a column stays legal where a link comes with a legal price
priced_with_link : (slots : Slots) (ps : List (List ℤ)) (k : ℕ) (l : Link) (p : List ℤ) → priced slots ps ≡ true → legal p ≡ true → priced (set slots k (Some l)) (set ps k p) ≡ true
priced_with_link [] ps k l p e q = refl
priced_with_link (o ∷ slots) [] zero l p e q = refl
priced_with_link (o ∷ slots) [] (suc k) l p e q = refl
priced_with_link (o ∷ slots) (x ∷ ps) zero l p e q = and_from (legal p) (priced slots ps) q (and_parts (not (is_some o) || legal x) (priced slots ps) e).1
priced_with_link (o ∷ slots) (x ∷ ps) (suc k) l p e q =
    let both = and_parts (not (is_some o) || legal x) (priced slots ps) e in
    and_from (not (is_some o) || legal x) (priced (set slots k (Some l)) (set ps k p)) both.0 (priced_with_link slots ps k l p both.1 q)

-- an empty sheet asks nothing of the column
priced_empty : (n : ℕ) (ps : List (List ℤ)) → priced (replicate n None) ps ≡ true
priced_empty zero ps = refl
priced_empty (suc n) [] = refl
priced_empty (suc n) (p ∷ ps) = priced_empty n ps

passed_link_is_legal : (h : Held) (k t v : ℕ) (p : List ℤ) → first (link_checks h k t v p) ≡ None → legal p ≡ true
passed_link_is_legal h k t v p e = grind (arith, nat_tests)

column_passes : (h : Held) (ps : List (List ℤ)) → length ps ≡ 200 → priced h.links ps ≡ true → first (column_checks h ps) ≡ None
column_passes h ps size legal_all = grind (arith, nat_tests)

module _ (place : ℕ) (ps : List (List ℤ)) where
  -- what adding a record comes to, by what the link's own checks say
  step_by_checks
      : (o : Option LinkRefusal) (h : Held) (e : Entry) (es : List Entry)
      → (o ≡ None → adding (place + 1) (with_column (with_link h e.number (Some (link_of e))) (set ps e.number e.price)) es ≡ result_map_both (λ x. with_column x (writing (set ps e.number e.price) es)) (λ r. r) (placing (place + 1) (with_link h e.number (Some (link_of e))) es))
      → unless_refused (option_map (FileRecord place) o) (λ r. r) (adding (place + 1) (with_column (with_link h e.number (Some (link_of e))) (set ps e.number e.price)) es)
      ≡ result_map_both (λ x. with_column x (writing ps (e ∷ es))) (λ r. r) (unless_refused o (FileRecord place) (placing (place + 1) (with_link h e.number (Some (link_of e))) es))
  step_by_checks None h e es go = go refl
  step_by_checks (Some why) h e es go = refl

pub adding_is_placing_and_writing
    : (es : List Entry) (place : ℕ) (h : Held) (ps : List (List ℤ))
    → length ps ≡ 200
    → priced h.links ps ≡ true
    → adding place (with_column h ps) es ≡ result_map_both (λ x. with_column x (writing ps es)) (λ r. r) (placing place h es)
adding_is_placing_and_writing [] place h ps size legal_all = refl
adding_is_placing_and_writing (e ∷ es) place h ps size legal_all =
    let checks = link_checks h e.number e.tail e.head e.price in
    ap (λ o. unless_refused o (λ r. r) (adding (place + 1) (with_column (with_link h e.number (Some (link_of e))) (set ps e.number e.price)) es))
    (first_of_back (column_checks h ps) (retold (FileRecord place) checks) (column_passes h ps size legal_all) ∙ first_retold (FileRecord place) checks)
    ∙ step_by_checks place ps (first checks) h e es
    (λ passed. adding_is_placing_and_writing es (place + 1) (with_link h e.number (Some (link_of e))) (set ps e.number e.price) (length-set ps e.number e.price ∙ size)
    (priced_with_link h.links ps e.number (link_of e) e.price legal_all (passed_link_is_legal h e.number e.tail e.head e.price passed)))

-- what a sheet is after every record was placed
pub record Placed (h after : Held) (ps : List (List ℤ)) (es : List Entry) : Type 0 where
  pub same_stations : after.stations ≡ h.stations
  pub links_are : after.links ≡ links_of h.links es
  pub sized : length ps ≡ 200 → length (writing ps es) ≡ 200
  pub legal_all : priced h.links ps ≡ true → priced after.links (writing ps es) ≡ true

refused_is_not_ok : {A : Type 0} {x : A} {e : Refusal} → Err e ≡ Ok x → ⊥
refused_is_not_ok p = let z : ◌≡◌ {A = ℕ} 0 1 = cc in omega arith

-- a record that was placed passed its checks, and so did the rest
accepted : {E : Type 0} (o : Option E) (told : E → Refusal) (rest : Result Held Refusal) (after : Held) → unless_refused o told rest ≡ Ok after → (o ≡ None) × (rest ≡ Ok after)
accepted None told rest after p = (refl, p)
accepted (Some e) told rest after p = absurd (refused_is_not_ok p)

pub placed : (es : List Entry) (place : ℕ) (h after : Held) (ps : List (List ℤ)) → placing place h es ≡ Ok after → Placed h after ps es
placed [] place h after ps p =
    let same : h ≡ after = cc in
    record {
      same_stations = ap (λ x. x.stations) (sym same);
      links_are = ap (λ x. x.links) (sym same);
      sized = λ e. e;
      legal_all = λ e. ap (λ x. priced x.links ps) (sym same) ∙ e;
    }
placed (e ∷ es) place h after ps p =
    let parts = accepted (first (link_checks h e.number e.tail e.head e.price)) (FileRecord place) (placing (place + 1) (with_link h e.number (Some (link_of e))) es) after p in
    let rest = placed es (place + 1) (with_link h e.number (Some (link_of e))) after (set ps e.number e.price) parts.1 in
    record {
      same_stations = rest.same_stations;
      links_are = rest.links_are;
      sized = λ size. rest.sized (length-set ps e.number e.price ∙ size);
      legal_all = λ all. rest.legal_all (priced_with_link h.links ps e.number (link_of e) e.price all (passed_link_is_legal h e.number e.tail e.head e.price parts.0));
    }

-- the number of a record that was placed is a place of the column
pub placed_is_numbered : (w : ℕ) (bs : List ℕ) (start n place : ℕ) (h after : Held) → placing place h (entries_from w bs start n) ≡ Ok after → (i : ℕ) → i < n → (entry_at w bs (start + i)).number < 200
placed_is_numbered w bs start zero place h after p i l = omega arith
placed_is_numbered w bs start (suc n) place h after p zero l =
    let e = entry_at w bs start in
    let parts = accepted (first (link_checks h e.number e.tail e.head e.price)) (FileRecord place) (placing (place + 1) (with_link h e.number (Some (link_of e))) (entries_from w bs (start + 1) n)) after p in
    subst (λ x. (entry_at w bs x).number < 200) (let z : start ≡ start + 0 = omega arith in z) (passed_link_is_numbered h e.number e.tail e.head e.price parts.0)
placed_is_numbered w bs start (suc n) place h after p (suc i) l =
    let e = entry_at w bs start in
    let parts = accepted (first (link_checks h e.number e.tail e.head e.price)) (FileRecord place) (placing (place + 1) (with_link h e.number (Some (link_of e))) (entries_from w bs (start + 1) n)) after p in
    subst (λ x. (entry_at w bs x).number < 200) (let z : start + 1 + i ≡ start + suc i = omega arith in z) (placed_is_numbered w bs (start + 1) n (place + 1) (with_link h e.number (Some (link_of e))) after parts.1 i (omega arith))

-- installing and planting differ in the column's checks, which pass
planted : (h : Held) (ps : List (List ℤ)) (tree : List ℕ) (spans : Bool) → length ps ≡ 200 → priced h.links ps ≡ true → installing (with_column h ps) tree spans ≡ result_map_both (λ x. with_column x ps) (λ r. r) (planting h tree spans)
planted h ps [] spans size all = refl
planted h ps (k ∷ ks) spans size all =
    ap (λ o. unless_refused o (λ r. r) (Ok (with_column (with_tree h (k ∷ ks)) ps)))
    (first_of_back (column_checks h ps) (retold FileTree (tree_checks h (k ∷ ks) spans)) (column_passes h ps size all) ∙ first_retold FileTree (tree_checks h (k ∷ ks) spans))
    ∙ by_checks (first (tree_checks h (k ∷ ks) spans))
  where
    by_checks : (o : Option TreeRefusal) → unless_refused (option_map FileTree o) (λ r. r) (Ok (with_column (with_tree h (k ∷ ks)) ps)) ≡ result_map_both (λ x. with_column x ps) (λ r. r) (unless_refused o FileTree (Ok (with_tree h (k ∷ ks))))
    by_checks None = refl
    by_checks (Some e) = refl

pub loading_on_a_sheet_of_its_own
    : (w kind : ℕ) (file : List ℕ) (ps : List (List ℤ)) (spans : Bool)
    → first (load_checks w kind file ps) ≡ None
    → length ps ≡ 200
    → loading w kind file ps spans ≡ result_map_both (λ x. with_column x (writing ps (entries w file))) (λ r. r) (sheet_from (stations_of file) (entries w file) (tree_numbers file) spans)
loading_on_a_sheet_of_its_own w kind file ps spans passed size =
    let n = stations_of file in
    let es = entries w file in
    let tree = tree_numbers file in
    ap (λ o. unless_refused o (λ r. r) (and_then (adding 0 (with_column (opened n) ps) es) (λ s. installing s tree spans))) passed
    ∙ ap (λ a. and_then a (λ s. installing s tree spans)) (adding_is_placing_and_writing es 0 (opened n) ps size (priced_empty 200 ps))
    ∙ go (placing 0 (opened n) es) refl
  where
    go : (r : Result Held Refusal) → placing 0 (opened (stations_of file)) (entries w file) ≡ r → and_then (result_map_both (λ x. with_column x (writing ps (entries w file))) (λ e. e) r) (λ s. installing s (tree_numbers file) spans) ≡ result_map_both (λ x. with_column x (writing ps (entries w file))) (λ e. e) (and_then r (λ h. planting h (tree_numbers file) spans))
    go (Err e) p = refl
    go (Ok h) p =
        let after = placed (entries w file) 0 (opened (stations_of file)) h ps p in
        planted h (writing ps (entries w file)) (tree_numbers file) spans (after.sized size) (after.legal_all (priced_empty 200 ps))

-- what a file whose head and sections passed is known to be
pub record Whole (file : List ℕ) : Type 0 where
  pub some : 2 ≤ stations_of file
  pub few : stations_of file ≤ 40
  pub short : length file ≤ 4096
  pub inside : end_of (records_section file) ≤ length file

pub passed_file_is_whole : (w kind : ℕ) (file : List ℕ) → first (file_checks w kind file) ≡ None → Whole file
passed_file_is_whole w kind file e =
    record { some = grind (arith, nat_tests); few = grind (arith, nat_tests); short = grind (arith, nat_tests); inside = grind (arith, nat_tests) }

pub length_of_section : (file : List ℕ) → Whole file → length (bytes_of file (records_section file)) ≡ (records_section file).size
length_of_section file whole = simp (length-take, length-drop) (omega (arith, whole.inside))

-- what the sheet of a file comes to, by how far it went
module _ (n : ℕ) (es : List Entry) (tree : List ℕ) (spans : Bool) where
  pub record_refused : (e : Refusal) → Err e ≡ placing 0 (opened n) es → Err e ≡ sheet_from n es tree spans
  record_refused e p = ap (λ r. and_then r (λ h. planting h tree spans)) p

  module _ (h : Held) (p : Ok h ≡ placing 0 (opened n) es) where
    up_to_tree : (r : Result Held Refusal) → r ≡ planting h tree spans → r ≡ sheet_from n es tree spans
    up_to_tree r e = e ∙ ap (λ x. and_then x (λ y. planting y tree spans)) p

    pub same_tree_decided : Decides spans (SpanningTree n (links_of no_links es) tree) → Decides spans (SpanningTree h.stations h.links tree)
    same_tree_decided d =
        let after = placed es 0 (opened n) h [] (sym p) in
        subst (λ m. Decides spans (SpanningTree m h.links tree)) (sym after.same_stations) (subst (λ s. Decides spans (SpanningTree n s tree)) (sym after.links_are) d)

    pub no_tree_to_plant : length tree ≡ 0 → Ok h ≡ sheet_from n es tree spans
    no_tree_to_plant e = up_to_tree (Ok h) (sym (ap (λ t. planting h t spans) (nil_from_length tree e)))

    planting_some : (t : List ℕ) → (length t ≡ 0 → ⊥) → planting h t spans ≡ unless_refused (first (tree_checks h t spans)) FileTree (Ok (with_tree h t))
    planting_some [] some = absurd (some refl)
    planting_some (k ∷ ks) some = refl

    -- by what planting the tree answered, and what the sheet then held
    pub tree_decides : (r : Result (Unit {0}) TreeRefusal) (after : Held) → (length tree ≡ 0 → ⊥) → result_err r ≡ first (tree_checks h tree spans) → after ≡ (if is_ok r then with_tree h tree else h) → result_map_both (λ _. after) FileTree r ≡ sheet_from n es tree spans
    tree_decides (Ok x) after some passed made =
        up_to_tree (Ok after) (ap Ok made ∙ ap (λ o. unless_refused o FileTree (Ok (with_tree h tree))) passed ∙ sym (planting_some tree some))
    tree_decides (Err why) after some refused made =
        up_to_tree (Err (FileTree why)) (ap (λ o. unless_refused o FileTree (Ok (with_tree h tree))) refused ∙ sym (planting_some tree some))

-- from the view of a file to what loading it comes to
wrong_column : (w kind : ℕ) (file : List ℕ) (ps : List (List ℤ)) (b : Bool) → b ≡ false → (rest : Result Priced Refusal) → unless_refused (cond (not b) (Some ColumnSize) (first (file_checks w kind file))) (λ r. r) rest ≡ Err ColumnSize
wrong_column w kind file ps true e rest = absurd (true≢false e)
wrong_column w kind file ps false e rest = refl

pub column_refused : (w kind : ℕ) (file : List ℕ) (ps : List (List ℤ)) (spans : Bool) → (length ps ≡ 200 → ⊥) → Err ColumnSize ≡ loading w kind file ps spans
column_refused w kind file ps spans ne = sym (wrong_column w kind file ps (eqb (length ps) 200) (ne_eqb (length ps) 200 ne) _)

load_checks_of_file : (w kind : ℕ) (file : List ℕ) (ps : List (List ℤ)) → length ps ≡ 200 → first (load_checks w kind file ps) ≡ first (file_checks w kind file)
load_checks_of_file w kind file ps size = ap (λ b. cond (not b) (Some ColumnSize) (first (file_checks w kind file))) (eq-eqb (length ps) 200 size)

pub file_refused : (w kind : ℕ) (file : List ℕ) (ps : List (List ℤ)) (spans : Bool) (e : Refusal) → length ps ≡ 200 → Some e ≡ first (file_checks w kind file) → Err e ≡ loading w kind file ps spans
file_refused w kind file ps spans e size refused =
    ap (λ o. unless_refused o (λ r. r) (and_then (adding 0 (with_column (opened (stations_of file)) ps) (entries w file)) (λ s. installing s (tree_numbers file) spans)))
    (refused ∙ sym (load_checks_of_file w kind file ps size))

module _ (w kind : ℕ) (file : List ℕ) (passed : None ≡ first (file_checks w kind file)) (n : ℕ) (bs tree : List ℕ)
    (n_is : n ≡ stations_of file) (bs_are : bs ≡ bytes_of file (records_section file)) (tree_is : tree ≡ tree_numbers file) where
  whole : Whole file
  whole = passed_file_is_whole w kind file (sym passed)

  pub records_fit : length bs ≤ 4096
  records_fit = omega (arith, ap length bs_are, length_of_section file whole, whole.inside, whole.short)

  pub same_entries : entries_from w bs 0 (length bs / length_of_record w) ≡ entries w file
  same_entries =
      ap (λ b. entries_from w b 0 (length b / length_of_record w)) bs_are
      ∙ ap (λ m. entries_from w (bytes_of file (records_section file)) 0 (m / length_of_record w)) (length_of_section file whole)

  pub same_decision : (spans : Bool) → Decides spans (SpanningTree (stations_of file) (links_of no_links (entries w file)) (tree_numbers file)) → Decides spans (SpanningTree n (links_of no_links (entries_from w bs 0 (length bs / length_of_record w))) tree)
  same_decision spans d =
      subst (λ t. Decides spans (SpanningTree n (links_of no_links (entries_from w bs 0 (length bs / length_of_record w))) t)) (sym tree_is)
      (subst (λ m. Decides spans (SpanningTree m (links_of no_links (entries_from w bs 0 (length bs / length_of_record w))) (tree_numbers file))) (sym n_is)
      (subst (λ es. Decides spans (SpanningTree (stations_of file) (links_of no_links es) (tree_numbers file))) (sym same_entries) d))

  module _ (ps : List (List ℤ)) (size : length ps ≡ 200) (spans : Bool) where
    same_loading : result_map_both (λ x. with_column x (writing ps (entries_from w bs 0 (length bs / length_of_record w)))) (λ r. r) (sheet_from n (entries_from w bs 0 (length bs / length_of_record w)) tree spans) ≡ loading w kind file ps spans
    same_loading =
        ap (λ es. result_map_both (λ x. with_column x (writing ps es)) (λ r. r) (sheet_from n es tree spans)) same_entries
        ∙ ap (λ m. result_map_both (λ x. with_column x (writing ps (entries w file))) (λ r. r) (sheet_from m (entries w file) tree spans)) n_is
        ∙ ap (λ t. result_map_both (λ x. with_column x (writing ps (entries w file))) (λ r. r) (sheet_from (stations_of file) (entries w file) t spans)) tree_is
        ∙ sym (loading_on_a_sheet_of_its_own w kind file ps spans (load_checks_of_file w kind file ps size ∙ sym passed) size)

    pub loaded_from_view : (h : Held) (after : List (List ℤ)) → Ok h ≡ sheet_from n (entries_from w bs 0 (length bs / length_of_record w)) tree spans → after ≡ writing ps (entries_from w bs 0 (length bs / length_of_record w)) → Ok (with_column h after) ≡ loading w kind file ps spans
    loaded_from_view h after e made =
        ap (λ a. Ok (with_column h a)) made ∙ ap (result_map_both (λ x. with_column x (writing ps (entries_from w bs 0 (length bs / length_of_record w)))) (λ r. r)) e ∙ same_loading

    pub refused_from_view : (e : Refusal) → Err e ≡ sheet_from n (entries_from w bs 0 (length bs / length_of_record w)) tree spans → Err e ≡ loading w kind file ps spans
    refused_from_view e p = ap (result_map_both (λ x. with_column x (writing ps (entries_from w bs 0 (length bs / length_of_record w)))) (λ r. r)) p ∙ same_loading

pub numbered_if_placed : (w : ℕ) (bs : List ℕ) (h : Held) (n : ℕ) → is_ok (placing 0 h (entries_from w bs 0 n)) ≡ true → (i : ℕ) → i < n → (entry_at w bs i).number < 200
numbered_if_placed w bs h n ok i l = go (placing 0 h (entries_from w bs 0 n)) refl ok
  where
    go : (r : Result Held Refusal) → placing 0 h (entries_from w bs 0 n) ≡ r → is_ok r ≡ true → (entry_at w bs i).number < 200
    go (Err e) p ok = absurd (false≢true ok)
    go (Ok after) p ok = subst (λ x. (entry_at w bs x).number < 200) (let z : 0 + i ≡ i = omega arith in z) (placed_is_numbered w bs 0 n 0 h after p i l)
