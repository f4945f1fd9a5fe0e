use Rattle.std.proofs.Common.{replicate, ⊎_elim}
use Rattle.std.proofs.lemmas.Bool.{cases_lt}
use Rattle.std.proofs.lemmas.List.{get_or_past, get_or-replicate}
use Rattle.remainders.proofs.used_up.UsedUp.none.Goals as goal

pub invariant_of-result-clause-clear : goal.invariant_of-result-clause-clear
invariant_of-result-clause-clear c = λ i behind. ⊎_elim (get_or-replicate 200 i _ 0) (get_or_past (replicate 200 _) i 0) (cases_lt i 200)
