-- Each turn appends the first of the stations still to come.
-- The 64 stations' text is never computed: a list and its rest are handed on whole.
use Rattle.std.proofs.Common.{◌≡◌, ℕ, List, ◌∷◌, decimal, subst}
use Rattle.annex.proofs.Appending.{Under_way, begun, gone_on, done}
use Rattle.annex.specs.Lines.{spaced}
use Rattle.annex.specs.declared.text.Text.{Text}
use Rattle.stations.specs.Sets.{rising}
use Rattle.annex.proofs.text.Text.push_stations.Goals as goal

pub loop-station-init : goal.loop-station-init
loop-station-init c =
    rw (c.into_iter-station-iterator.ensures.into_iter_gives, c.rising-station-items.ensures) (begun c.requires)

-- what is left, as its first and the others
next : {s t : Text} {whole xs rest : List ℕ} {x : ℕ} → xs ≡ x ∷ rest → Under_way s whole t (spaced xs) → Under_way s whole t (spaced (x ∷ rest))
next {s} {t} {whole} e w = subst (λ l. Under_way s whole t (spaced l)) e w

pub loop-station-preserved : goal.loop-station-preserved
loop-station-preserved c =
    gone_on (32 ∷ decimal c.in-Some.station) (spaced (rising c.next.new.self.left)) (next c.in-Some.ensures.steps c.loop-station.invariant) c.push_spaced.ensures

pub returns : goal.returns
returns c = done (subst (λ l. Under_way c.args.self.now (spaced (rising c.args.set)) c.loop-station.self (spaced l)) c.in-None.ensures.steps.0 c.loop-station.invariant)
