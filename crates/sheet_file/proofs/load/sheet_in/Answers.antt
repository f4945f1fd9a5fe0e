use Rattle.std.proofs.Common.{◌≡◌, ℕ, ◌/◌, true, length, is_ok, Ok, Err, Result, MatchResult, sym, refl, ap, ◌∙◌, arith}
use Rattle.std.specs.Result.{IsErrAnd, result_map_both}
use Rattle.refusal.specs.declared.Refusal.{Refusal}
use Rattle.refusal.specs.declared.Refusal.TheVariants.{FileTree}
use Rattle.refusal.specs.declared.TreeRefusal.{TreeRefusal}
use Rattle.std.proofs.lemmas.List.{map-id}
use Rattle.std.proofs.lemmas.Result.{err_from_is_err_and}
use Rattle.std.proofs.lemmas.Bool.{eqb-true, eqb-false, false≢true}
use Rattle.amount.specs.Records.{length_of_record}
use Rattle.sheet.specs.Held.{Held, held}
use Rattle.sheet_file.specs.Files.{entries_from}
use Rattle.sheet_file.specs.Placing.{placing}
use Rattle.sheet_file.proofs.Loaded.{record_refused, same_tree_decided, no_tree_to_plant, tree_decides}
use Rattle.sheet_file.proofs.load.sheet_in.Goals as goal

pub returns-in_err-place_records : goal.returns-in_err-place_records
returns-in_err-place_records g c =
    let f = c.args.file in
    let w = g.T.Amount.width in
    let es = entries_from w f.records.now 0 (length f.records.now / length_of_record w) in
    let p = err_from_is_err_and c.from_residual.result c.from_residual.ensures.1 in
    rw (p.1, p.2)
    (record {
      placed = λ ok. absurd (false≢true ok);
      sheet = λ spans d. record_refused f.stations.count es f.tree.now spans _ (c.in_err-place_records.ensures ∙ ap (λ h. placing 0 h es) c.for_stations-sheet.ensures);
    })

pub returns-then-is_empty : goal.returns-then-is_empty
returns-then-is_empty g c =
    let f = c.args.file in
    let w = g.T.Amount.width in
    let es = entries_from w f.records.now 0 (length f.records.now / length_of_record w) in
    let p = c.in_ok-place_records.ensures ∙ ap (λ h. placing 0 h es) c.for_stations-sheet.ensures in
    record {
      placed = λ _. ap is_ok (sym p);
      sheet = λ spans d. no_tree_to_plant f.stations.count es f.tree.now spans (held c.place_records.new.sheet) p (eqb-true (length f.tree.now) 0 (sym c.if-is_empty.ensures));
    }

-- a tree that was planted, told as the whole result
planted_ok : (r : Result (Unit {0}) TreeRefusal) (after : Held) → is_ok r ≡ true → result_map_both (λ _. after) FileTree r ≡ Ok after
planted_ok (Ok _) after e = refl
planted_ok (Err why) after e = absurd (false≢true e)

-- and one that was refused
planted_err
    : (r : Result (Unit {0}) TreeRefusal) (told : Result (Unit {0}) Refusal) (e : Refusal) (after : Held)
    → MatchResult r (λ x. told ≡ Ok x) (λ why. IsErrAnd told (λ d. d ≡ FileTree why))
    → told ≡ Err e
    → result_map_both (λ _. after) FileTree r ≡ Err e
planted_err (Ok x) told e after m q = absurd (let z : ◌≡◌ {A = ℕ} 0 1 = cc in omega arith)
planted_err (Err why) told e after m q = ap Err (sym (rw q at m))

pub returns-clause-sheet : goal.returns-clause-sheet
returns-clause-sheet g c = λ spans d.
    let f = c.args.file in
    let w = g.T.Amount.width in
    let es = entries_from w f.records.now 0 (length f.records.now / length_of_record w) in
    let h = held c.place_records.new.sheet in
    let after = held c.plant.new.self in
    let p = c.in_ok-place_records.ensures ∙ ap (λ x. placing 0 x es) c.for_stations-sheet.ensures in
    sym (planted_ok c.plant.result after (sym c.map_err.ensures.variant ∙ ap is_ok c.in_ok-map_err.was))
    ∙ tree_decides f.stations.count es f.tree.now spans h p c.plant.result after (eqb-false (length f.tree.now) 0 (sym c.if-is_empty.ensures))
    ((rw map-id at c.plant.ensures.refusal) spans (same_tree_decided f.stations.count es f.tree.now spans h p d)) (rw map-id at c.plant.ensures.holds)

pub returns-in_err-map_err-clause-sheet : goal.returns-in_err-map_err-clause-sheet
returns-in_err-map_err-clause-sheet g c = λ spans d.
    let f = c.args.file in
    let w = g.T.Amount.width in
    let es = entries_from w f.records.now 0 (length f.records.now / length_of_record w) in
    let h = held c.place_records.new.sheet in
    let after = held c.plant.new.self in
    let p = c.in_ok-place_records.ensures ∙ ap (λ x. placing 0 x es) c.for_stations-sheet.ensures in
    let q = err_from_is_err_and c.from_residual-in_err-map_err.result c.from_residual-in_err-map_err.ensures.1 in
    rw (q.1, q.2)
    (sym (planted_err c.plant.result c.map_err.result _ after c.map_err.ensures.cases c.in_err-map_err.was)
    ∙ tree_decides f.stations.count es f.tree.now spans h p c.plant.result after (eqb-false (length f.tree.now) 0 (sym c.if-is_empty.ensures))
    ((rw map-id at c.plant.ensures.refusal) spans (same_tree_decided f.stations.count es f.tree.now spans h p d)) (rw map-id at c.plant.ensures.holds))
