use Rattle.std.proofs.Common.{◌≡◌, ◌/◌, false, map, length, sym, refl, ◌∙◌, subst, arith}
use Rattle.std.proofs.lemmas.List.{length-map}
use Rattle.std.proofs.lemmas.Result.{err_from_is_err_and}
use Rattle.std.proofs.lemmas.Bool.{true≢false}
use Rattle.amount.specs.Records.{length_of_record}
use Rattle.sheet.specs.Held.{held, opened}
use Rattle.sheet_file.specs.Loading.{mentions}
use Rattle.sheet_file.proofs.Loaded.{column_refused, file_refused, records_fit, same_entries, same_decision, loaded_from_view, refused_from_view, numbered_if_placed}
use Rattle.sheet_file.proofs.load.load.Goals as goal

pub returns-then-prices-ne-LINKS : goal.returns-then-prices-ne-LINKS
returns-then-prices-ne-LINKS g c =
    let f = g.T.Amount.parts in
    record {
      loaded = λ spans d. column_refused g.T.Amount.width g.T.Amount.KIND c.args.file.now (map f c.args.prices.now) spans (λ e. c.if-prices-ne-LINKS.true (sym (length-map c.args.prices.now f) ∙ e));
      sheet_kept = λ _. refl;
      column_kept = λ _. refl;
      untouched = λ k d none. refl;
    }

pub returns-in_err-seen : goal.returns-in_err-seen
returns-in_err-seen g c =
    let f = g.T.Amount.parts in
    let p = err_from_is_err_and c.from_residual.result c.from_residual.ensures.1 in
    rw (p.1, p.2)
    (record {
      loaded = λ spans d. file_refused g.T.Amount.width g.T.Amount.KIND c.args.file.now (map f c.args.prices.now) spans _ (length-map c.args.prices.now f ∙ c.if-prices-ne-LINKS.false) c.in_err-seen.ensures.refusal;
      sheet_kept = λ _. refl;
      column_kept = λ _. refl;
      untouched = λ k d none. refl;
    })

pub sheet_in-requires : goal.sheet_in-requires
sheet_in-requires g c =
    let v = c.in_ok-seen.seen in
    let e = c.in_ok-seen.ensures in
    records_fit g.T.Amount.width g.T.Amount.KIND c.args.file.now e.refusal v.stations.count v.records.now v.tree.now e.stations e.records e.tree

pub returns-in_err-loaded : goal.returns-in_err-loaded
returns-in_err-loaded g c =
    let w = g.T.Amount.width in
    let kind = g.T.Amount.KIND in
    let f = g.T.Amount.parts in
    let file = c.args.file.now in
    let v = c.in_ok-seen.seen in
    let e = c.in_ok-seen.ensures in
    let p = err_from_is_err_and c.from_residual-in_err-loaded.result c.from_residual-in_err-loaded.ensures.1 in
    rw (p.1, p.2)
    (record {
      loaded = λ spans d.
          refused_from_view w kind file e.refusal v.stations.count v.records.now v.tree.now e.stations e.records e.tree (map f c.args.prices.now) (length-map c.args.prices.now f ∙ c.if-prices-ne-LINKS.false) spans _
          (c.in_err-loaded.ensures.sheet spans (same_decision w kind file e.refusal v.stations.count v.records.now v.tree.now e.stations e.records e.tree spans d));
      sheet_kept = λ _. refl;
      column_kept = λ _. refl;
      untouched = λ k d none. refl;
    })

pub write_prices-requires : goal.write_prices-requires
write_prices-requires g c = λ place h.
    let w = g.T.Amount.width in
    let v = c.in_ok-seen.seen in
    let small = numbered_if_placed w v.records.now (opened v.stations.count) (length v.records.now / length_of_record w) (c.in_ok-loaded.ensures.placed refl) place h in
    omega (arith, small, c.if-prices-ne-LINKS.false)

pub returns : goal.returns
returns g c =
    let w = g.T.Amount.width in
    let kind = g.T.Amount.KIND in
    let f = g.T.Amount.parts in
    let file = c.args.file.now in
    let v = c.in_ok-seen.seen in
    let e = c.in_ok-seen.ensures in
    record {
      loaded = λ spans d.
          loaded_from_view w kind file e.refusal v.stations.count v.records.now v.tree.now e.stations e.records e.tree (map f c.args.prices.now) (length-map c.args.prices.now f ∙ c.if-prices-ne-LINKS.false) spans
          (held c.in_ok-loaded.loaded) (map f c.write_prices.new.prices)
          (c.in_ok-loaded.ensures.sheet spans (same_decision w kind file e.refusal v.stations.count v.records.now v.tree.now e.stations e.records e.tree spans d))
          c.write_prices.ensures.written;
      sheet_kept = λ no_more. absurd (true≢false no_more);
      column_kept = λ no_more. absurd (true≢false no_more);
      untouched = λ k d none.
          c.write_prices.ensures.untouched k d
          (subst (λ es. mentions k es ≡ false) (sym (same_entries w kind file e.refusal v.stations.count v.records.now v.tree.now e.stations e.records e.tree)) none);
    }
