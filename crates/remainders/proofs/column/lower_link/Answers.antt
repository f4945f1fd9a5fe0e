use Rattle.std.proofs.Common.{◌++◌, map, take, set, sym, ap, ◌∙◌, arith}
use Rattle.std.proofs.lemmas.List.{append-nil, get_or-set_other, map-set}
use Rattle.std.proofs.lemmas.Bool.{cond-true, cond-false}
use Rattle.remainders.specs.Column.{spent}
use Rattle.remainders.proofs.Lowering.{difference_at_read}
use Rattle.remainders.proofs.column.lower_link.Goals as goal

pub returns-then-is_spent : goal.returns-then-is_spent
returns-then-is_spent g c =
    let f = g.T.Amount.parts in
    let left = c.args.left.now in
    let less = difference_at_read f left c.args.k c.index-left-k.result c.minus-rest.result (f c.args.amount) (omega (arith, c.requires.sized, c.requires.within)) c.index-left-k.is c.minus-rest.ensures c.requires.fits in
    let none_left = ap (spent g.T.Amount.width) (sym less) ∙ sym c.if-is_spent.ensures in
    record {
      lowered = map-set f left c.args.k c.minus-rest.result ∙ ap (set (map f left) c.args.k) less;
      others = λ j d other. get_or-set_other left c.args.k j c.minus-rest.result d other;
      marks = c.note.ensures.marks ∙ sym (cond-true _ _ _ none_left);
      order = c.note.ensures.order ∙ ap (λ xs. take c.args.used.now.count c.args.used.now.order ++ xs) (sym (cond-true _ _ _ none_left));
    }

pub returns-else-is_spent : goal.returns-else-is_spent
returns-else-is_spent g c =
    let f = g.T.Amount.parts in
    let left = c.args.left.now in
    let less = difference_at_read f left c.args.k c.index-left-k.result c.minus-rest.result (f c.args.amount) (omega (arith, c.requires.sized, c.requires.within)) c.index-left-k.is c.minus-rest.ensures c.requires.fits in
    let some_left = ap (spent g.T.Amount.width) (sym less) ∙ sym c.if-is_spent.ensures in
    record {
      lowered = map-set f left c.args.k c.minus-rest.result ∙ ap (set (map f left) c.args.k) less;
      others = λ j d other. get_or-set_other left c.args.k j c.minus-rest.result d other;
      marks = sym (cond-false _ _ _ some_left);
      order = sym (append-nil (take c.args.used.now.count c.args.used.now.order))
          ∙ ap (λ xs. take c.args.used.now.count c.args.used.now.order ++ xs) (sym (cond-false _ _ _ some_left));
    }
