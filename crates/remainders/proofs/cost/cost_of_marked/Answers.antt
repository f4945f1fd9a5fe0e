use Rattle.std.proofs.Common.{◌≡◌, eqb, [], map, length, drop, sym, ap, ◌∙◌, ⊎_elim, arith}
use Rattle.std.proofs.lemmas.List.{get_or-map, length-drop}
use Rattle.std.proofs.lemmas.Bool.{cond-true, cond-false, eq-eqb, ne_eqb, not_from_true, not_from_false}
use Rattle.remainders.proofs.Reading.{one_place_on, one_more_read}
use Rattle.remainders.proofs.Summing.{priced_if_marked, priced_small, summed_one_more, summed_none_more}
use Rattle.duality.specs.Costs.{summed}
use Rattle.remainders.proofs.cost.cost_of_marked.Goals as goal

pub loop-mark-preserved-then-mark-ne0 : goal.loop-mark-preserved-then-mark-ne0
loop-mark-preserved-then-mark-ne0 g c =
    let f = g.T.Amount.parts in
    let w = g.T.Amount.width in
    let n = length c.loop-mark.yielded in
    let inv = c.loop-mark.invariant in
    let mark = one_place_on c.args.marks.now c.next.new.self.a.rest.now n c.in-Some.mark.now 0 (sym inv.0 ∙ c.in-Some.ensures.steps.0) in
    let price = one_place_on c.args.prices.now c.next.new.self.b.rest.now n c.in-Some.price.now c.in-Some.price.now (sym inv.1 ∙ c.in-Some.ensures.steps.1) in
    let more = one_more_read c.loop-mark.yielded (c.in-Some.mark, c.in-Some.price) in
    let prices = map f c.args.prices.now in (
      mark.0 ∙ ap (λ m. drop m c.args.marks.now) more,
      price.0 ∙ ap (λ m. drop m c.args.prices.now) more,
      summed_one_more w (priced_if_marked w c.args.marks.now prices) (priced_small w c.args.marks.now prices c.requires.small) n (f c.loop-mark.total) inv.2 (omega (arith, mark.2, c.told-marks))
          (f c.in-Some.price.now) (f c.plus-total.result)
          (sym (cond-true _ _ _ (not_from_false _ (ap (λ m. eqb m 0) mark.1 ∙ ne_eqb _ _ c.if-mark-ne0.true)) ∙ get_or-map f c.args.prices.now n c.in-Some.price.now [] price.2 ∙ ap f price.1))
          c.plus-total.ensures ∙ ap (summed w (priced_if_marked w c.args.marks.now prices)) more,
      omega (arith, more, mark.2, c.told-marks),
    )

pub loop-mark-preserved : goal.loop-mark-preserved
loop-mark-preserved g c =
    let f = g.T.Amount.parts in
    let w = g.T.Amount.width in
    let n = length c.loop-mark.yielded in
    let inv = c.loop-mark.invariant in
    let mark = one_place_on c.args.marks.now c.next.new.self.a.rest.now n c.in-Some.mark.now 0 (sym inv.0 ∙ c.in-Some.ensures.steps.0) in
    let price = one_place_on c.args.prices.now c.next.new.self.b.rest.now n c.in-Some.price.now c.in-Some.price.now (sym inv.1 ∙ c.in-Some.ensures.steps.1) in
    let more = one_more_read c.loop-mark.yielded (c.in-Some.mark, c.in-Some.price) in
    let prices = map f c.args.prices.now in (
      mark.0 ∙ ap (λ m. drop m c.args.marks.now) more,
      price.0 ∙ ap (λ m. drop m c.args.prices.now) more,
      summed_none_more w (priced_if_marked w c.args.marks.now prices) (priced_small w c.args.marks.now prices c.requires.small) n (f c.loop-mark.total) inv.2 (g.met.T.Amount.as_wide c.loop-mark.total)
          (sym (cond-false _ _ _ (not_from_true _ (ap (λ m. eqb m 0) mark.1 ∙ eq-eqb _ _ c.if-mark-ne0.false)))) ∙ ap (summed w (priced_if_marked w c.args.marks.now prices)) more,
      omega (arith, more, mark.2, c.told-marks),
    )

pub returns : goal.returns
returns g c =
    let n = length c.loop-mark.yielded in
    let inv = c.loop-mark.invariant in
    let end : n ≡ 200 = ⊎_elim
    (λ none. omega (arith, none.1.0, ap length inv.0, length-drop n c.args.marks.now, c.told-marks, inv.3))
    (λ none. omega (arith, none.1.0, ap length inv.1, length-drop n c.args.prices.now, c.requires.sized, inv.3)) c.in-None.ensures.steps in
    inv.2 ∙ ap (summed g.T.Amount.width _) end
