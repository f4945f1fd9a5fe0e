-- The item is the lowest station of those that were left, and the others of them are left then.
-- A list and its rest are handed on whole, so that the 64 stations are never computed.
use Rattle.std.proofs.Common.{◌≡◌, ℕ, ◌<◌, List, ◌∷◌, length, ap, arith}
use Rattle.stations.proofs.Lowest.{rising_next}
use Rattle.stations.proofs.rising.StationsIterator.next.Goals as goal

one_less : {x : ℕ} {xs rest : List ℕ} → xs ≡ x ∷ rest → length rest < length xs
one_less e = omega (arith, ap length e)

pub returns-clause-steps : goal.returns-clause-steps
returns-clause-steps c = rising_next c.args.self.now.left (omega arith) (omega arith)

pub returns-clause-goes : goal.returns-clause-goes
returns-clause-goes c =
    let next = rising_next c.args.self.now.left (omega arith) (omega arith) in
    record { on = λ _. (tt, tt, one_less next); keeps = tt; rests = λ _. tt }
