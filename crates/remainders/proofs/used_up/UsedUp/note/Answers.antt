use Rattle.std.proofs.Common.{refl, ◌∙◌, arith}
use Rattle.std.proofs.lemmas.List.{length-set, take_more_set, get_or-set_other}
use Rattle.remainders.proofs.Noting.{room_for_one}
use Rattle.remainders.proofs.used_up.UsedUp.note.Goals as goal

pub bounds-self-self : goal.bounds-self-self
bounds-self-self c =
    let s = c.args.self.now in
    (room_for_one s.marks s.count c.args.k s.sized s.room c.requires.within c.requires.fresh).0

pub invariant_of-self : goal.invariant_of-self
invariant_of-self c =
    let s = c.args.self.now in
    record {
      sized = length-set s.marks c.args.k 1 ∙ s.sized;
      long = length-set s.order s.count c.args.k ∙ s.long;
      room = (room_for_one s.marks s.count c.args.k s.sized s.room c.requires.within c.requires.fresh).1;
      clear = λ i behind. get_or-set_other s.order s.count i _ 0 (λ same. omega (arith, same)) ∙ s.clear i (omega arith);
    }

pub returns : goal.returns
returns c =
    let s = c.args.self.now in
    let room = room_for_one s.marks s.count c.args.k s.sized s.room c.requires.within c.requires.fresh in
    record { marks = refl; order = take_more_set s.order s.count c.args.k (omega (arith, s.long, room.0)) }
