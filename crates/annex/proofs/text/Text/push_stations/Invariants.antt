-- What the loop keeps: the stations still to come are what is left to append.
-- So the end of the list is the end of the text, and no part of it has to be named.
use Rattle.annex.proofs.Appending.{Under_way}
use Rattle.annex.specs.Lines.{spaced}
use Rattle.stations.specs.Sets.{rising}
use Rattle.annex.proofs.text.Text.push_stations.Given as goal

abbrev pub invariant-loop-station : goal.invariant-loop-station
invariant-loop-station l =
    Under_way l.initial.self (spaced (rising l.set)) l.self (spaced (rising l.station-iterator.left))
