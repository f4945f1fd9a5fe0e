use Rattle.std.proofs.Common.{◌≡◌, ℕ, ◌<◌, ◌≤◌, true, List, [], map, length, get_or, ℤ, is_some, sym, ap, ◌∙◌, subst, arith, rules}
use Rattle.cover.specs.Filled.{Filled, Small}
use Rattle.cover.specs.Lent.{contents}
use Rattle.cover.specs.Memory.{Memory, room}
use Rattle.cover.specs.Ready.{Ready}
use Rattle.sheet.specs.Held.{held}
use Rattle.sheet.specs.declared.Sheet.{Sheet}
use Rattle.sheet.proofs.Sounds.{sheet_is_sound}
use Rattle.stages.specs.Asked.{asked_of}
use Rattle.stages.proofs.Asking.{column_wide}
use Rattle.tree_family.specs.Choices.{tree_smallest, tree_largest}
use Rattle.tree_family.specs.declared.tree.TreeFamily.{TreeFamily}
use Rattle.amount.specs.Parts.{within}
use Rattle.duality.specs.Trees.{cost_of_list}
use Rattle.quote.specs.Lent.{quote_contents}
use Rattle.quote.specs.Quotes.{quote_asked, QuoteFilled}
use Rattle.quote.specs.Trees.{shown}
use Rattle.quote.proofs.TreeQuotes.{tree_is_short, tree_link_placed}
use Rattle.quote.proofs.Quoting.{quote_lengths, cover_ready, tree_difference_fits, tree_prices_small, quote_filled, quote_keeps, quote_least}
use Rattle.quote.proofs.finding.find_quote.Given as given
use Rattle.quote.proofs.finding.find_quote.Goals as goal

-- the family's sheet is the one that was handed over, so it has a tree
planted : (f : TreeFamily) (s : Sheet) → f.shape.rooted.sheet ≡ s → is_some (held s).tree ≡ true
planted f s same = subst (λ x. is_some (held x).tree ≡ true) same f.shape.rooted.planted

wide : (g : given.Over) (prices : List g.row.T.Denot) → length prices ≡ 200 → (k : ℕ) → k < 200 → length (get_or (map g.T.Amount.parts prices) k []) ≡ g.T.Amount.width
wide g prices e k h = column_wide g.T.Amount.parts g.T.Amount.width g.met.T.Amount.as_wide prices k (omega arith)

-- the cover can be sought: the family's questions are those of the sheet handed over
pub invariant_of-question : goal.invariant_of-question
invariant_of-question g c =
    let s = c.args.sheet.now in
    let prices = c.args.prices.now in
    let parts = g.T.Amount.parts in
    let same = c.requires.family in
    record {
      ready = subst (λ x. Ready (held s) (asked_of g.T.Amount.width (held s) (map parts prices) (tree_smallest (held x)) (tree_largest (held x))) x.stations.count) (sym same)
          (cover_ready parts g.T.Amount.width (held s) (sheet_is_sound s) (planted c.args.family.now s same) prices c.requires.column c.requires.priced (wide g prices c.requires.column));
    }

pub find_cover-cover-requires : goal.find_cover-cover-requires
find_cover-cover-requires g c = (quote_lengths (quote_contents c.args.memory.now) c.requires.memory).0

-- what the cover left, in terms of the sheet handed over
small_here : (g : given.Over) (f : TreeFamily) (s : Sheet) → f.shape.rooted.sheet ≡ s → (prices left amounts : List g.row.T.Denot) (sets : List ℕ) (count : ℕ)
    → Small g.T.Amount.parts (asked_of g.T.Amount.width (held s) (map g.T.Amount.parts prices) (tree_smallest (held f.shape.rooted.sheet)) (tree_largest (held f.shape.rooted.sheet))) (room left sets amounts) count
    → Small g.T.Amount.parts (quote_asked g.T.Amount.width (held s) (map g.T.Amount.parts prices)) (room left sets amounts) count
small_here g f s same prices left amounts sets count =
    subst (λ x. Small g.T.Amount.parts (asked_of g.T.Amount.width (held s) (map g.T.Amount.parts prices) (tree_smallest (held x)) (tree_largest (held x))) (room left sets amounts) count) same

filled_here : (g : given.Over) (f : TreeFamily) (s : Sheet) → f.shape.rooted.sheet ≡ s → (prices : List g.row.T.Denot) (old new : Memory g.row.T.Denot) (count : ℕ) (cost : List ℤ)
    → Filled g.T.Amount.parts (asked_of g.T.Amount.width (held s) (map g.T.Amount.parts prices) (tree_smallest (held f.shape.rooted.sheet)) (tree_largest (held f.shape.rooted.sheet))) old new count cost
    → Filled g.T.Amount.parts (quote_asked g.T.Amount.width (held s) (map g.T.Amount.parts prices)) old new count cost
filled_here g f s same prices old new count cost =
    subst (λ x. Filled g.T.Amount.parts (asked_of g.T.Amount.width (held s) (map g.T.Amount.parts prices) (tree_smallest (held x)) (tree_largest (held x))) old new count cost) same

pub revise-requires : goal.revise-requires
revise-requires g c =
    let s = c.args.sheet.now in
    let prices = c.args.prices.now in
    let parts = g.T.Amount.parts in
    let cover = c.find_cover-cover in
    let left = cover.new.memory.left.now in
    let has_tree = planted c.args.family.now s c.requires.family in
    let lengths = quote_lengths (quote_contents c.args.memory.now) c.requires.memory in
    record {
      prices = c.requires.column;
      left = cover.ensures.filled.packing.left_sized ∙ lengths.1;
      revised = lengths.2;
      placed = tree_link_placed (held s) (sheet_is_sound s) has_tree;
      fits = tree_difference_fits parts g.T.Amount.width (held s) (sheet_is_sound s) has_tree prices c.requires.column c.requires.priced (wide g prices c.requires.column)
          left cover.result.sets cover.new.memory.sets.now cover.new.memory.amounts.now
          (small_here g c.args.family.now s c.requires.family prices left cover.new.memory.amounts.now cover.new.memory.sets.now cover.result.sets cover.ensures.small);
    }

pub cost_of_listed-tree_cost-requires : goal.cost_of_listed-tree_cost-requires
cost_of_listed-tree_cost-requires g c =
    let s = c.args.sheet.now in
    let f = c.args.family.now in
    let prices = c.args.prices.now in
    let parts = g.T.Amount.parts in
    let has_tree = planted f s c.requires.family in
    let list_is = sym c.tree_links.ensures in
    record {
      few = subst (λ l. length l ≤ 39) list_is (tree_is_short (held s) (sheet_is_sound s) has_tree);
      placed = subst (λ l. (i : ℕ) → i < length l → get_or l i 0 < length prices) list_is (λ i l. omega (arith, tree_link_placed (held s) (sheet_is_sound s) has_tree i l, c.requires.column));
      small = subst (λ l. (i : ℕ) → i < length l → within 100000 (shown (map parts prices) (get_or l i 0)) ≡ true) list_is
          (tree_prices_small parts g.T.Amount.width (held s) (sheet_is_sound s) has_tree prices c.requires.column c.requires.priced (wide g prices c.requires.column));
    }

pub returns : goal.returns
returns g c =
    let s = c.args.sheet.now in
    let h = held s in
    let f = c.args.family.now in
    let prices = c.args.prices.now in
    let parts = g.T.Amount.parts in
    let w = g.T.Amount.width in
    let cover = c.find_cover-cover in
    let sound = sheet_is_sound s in
    let has_tree = planted f s c.requires.family in
    let is_wide = wide g prices c.requires.column in
    let old = (quote_contents c.args.memory.now).cover in
    let new = contents cover.new.memory in
    let entry = c.args.memory.now.revised.now in
    let cost = parts cover.result.cost in
    let filled = filled_here g f s c.requires.family prices old new cover.result.sets cost cover.ensures.filled in
    let total = parts c.cost_of_listed-tree_cost.result in
    let total-is = c.cost_of_listed-tree_cost.ensures ∙ ap (cost_of_list w (shown (map parts prices))) c.tree_links.ensures in
    let lengths = quote_lengths (quote_contents c.args.memory.now) c.requires.memory in
    record {
      same_memory = search rules;
      filled = subst (λ m. QuoteFilled parts w h (map parts prices) (quote_contents c.args.memory.now) (record { cover = m; revised = c.revise.new.revised }) cover.result.sets cost (parts c.minus.result)) (search rules)
          (quote_filled parts w h sound has_tree prices c.requires.column c.requires.priced is_wide old new cover.result.sets cost filled total (parts c.minus.result) total-is c.minus.ensures
          entry c.revise.new.revised lengths.2 c.revise.auto.revised c.revise.ensures.lowered c.revise.ensures.others);
      small = subst (λ r. Small parts (quote_asked w h (map parts prices)) r cover.result.sets) (search rules)
          (small_here g f s c.requires.family prices cover.new.memory.left.now cover.new.memory.amounts.now cover.new.memory.sets.now cover.result.sets cover.ensures.small);
      keeps = quote_keeps parts w h sound has_tree prices c.requires.column c.requires.priced is_wide old new cover.result.sets cost filled total (parts c.minus.result) total-is c.minus.ensures
          entry c.revise.new.revised lengths.2 c.revise.auto.revised c.revise.ensures.lowered c.revise.ensures.others;
      least = quote_least parts w h sound has_tree prices c.requires.column c.requires.priced is_wide old new cover.result.sets cost filled total (parts c.minus.result) total-is c.minus.ensures;
    }
