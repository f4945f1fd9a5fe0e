use Rattle.std.proofs.Common.{◌≡◌, [], ◌∷◌, ◌++◌, length, take, sym, ap, ◌∙◌, ap₂, arith}
use Rattle.std.proofs.lemmas.List.{length-set, take_more, take_more_set, take_all}
use Rattle.sheet.proofs.spanning.tree_of.Goals as goal

pub loop-i-preserved : goal.loop-i-preserved
loop-i-preserved g c =
    let ks = g.L.Numbers.numbers c.args.list.now in
    let i = c.loop-i.i in (
      length-set c.loop-i.numbers i c.at.result ∙ c.loop-i.invariant.0,
      take_more_set c.loop-i.numbers i c.at.result (omega (arith, c.loop-i.invariant.0))
          ∙ ap₂ (λ a b. a ++ b ∷ []) c.loop-i.invariant.1 c.at.ensures
          ∙ sym (take_more ks i 0 (omega arith)),
    )

pub returns : goal.returns
returns g c =
    let ks = g.L.Numbers.numbers c.args.list.now in
    let end : c.loop-i.i ≡ length ks = omega arith in
    ap (λ n. take n c.loop-i.numbers) (sym end) ∙ c.loop-i.invariant.1 ∙ take_all c.loop-i.i ks (omega arith)
