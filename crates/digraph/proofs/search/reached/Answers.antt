-- Each need is a fact on numbers that Searching states: the first station, a turn, and the end.
use Rattle.std.proofs.Common.{◌≡◌, ℕ, length, subst, arith, rules}
use Rattle.digraph.proofs.Widening.{least_closed_is_reach_set, low_everywhere}
use Rattle.digraph.proofs.Searching.{Searched, begun, station_below, lowest_turn, lowest_turn_falls, ended_closed, ended_least, ended_paths}
use Rattle.digraph.proofs.search.reached.Goals as goal

pub loop-progress-init : goal.loop-progress-init
loop-progress-init c = begun _ _ _ _ c.requires.in_range c.begin-progress.ensures.seen c.begin-progress.ensures.todo

pub bounds-next-station : goal.bounds-next-station
bounds-next-station c = station_below _ _ _ _ c.loop-progress.invariant c.loop-progress-test.true

pub look-requires : goal.look-requires
look-requires c = omega (arith, station_below _ _ _ _ c.loop-progress.invariant c.loop-progress-test.true)

pub loop-progress-smaller : goal.loop-progress-smaller
loop-progress-smaller c =
    lowest_turn_falls _ _ _ _ c.loop-progress.invariant c.loop-progress-test.true c.requires.bounded _ _
    c.look.ensures.seen c.look.ensures.todo

pub loop-progress-preserved : goal.loop-progress-preserved
loop-progress-preserved c =
    lowest_turn _ _ _ _ c.loop-progress.invariant c.loop-progress-test.true c.requires.bounded _ _
    c.look.ensures.seen c.look.ensures.todo

pub returns : goal.returns
returns c =
    let was = subst (λ (x : ℕ). Searched c.args.next.now c.args.start c.loop-progress.progress.seen x)
    c.loop-progress-test.false c.loop-progress.invariant in
    let sized : length c.args.next.now ≡ 40 = search rules in
    record {
      value = least_closed_is_reach_set c.args.next.now (low_everywhere c.args.next.now sized c.requires.bounded) c.args.start c.loop-progress.progress.seen c.requires.in_range was.started (ended_closed _ _ _ was) (ended_least _ _ _ was);
      small = was.small;
      has_start = was.started;
      closed = ended_closed _ _ _ was;
      least = ended_least _ _ _ was;
      paths = ended_paths _ _ _ was;
    }
