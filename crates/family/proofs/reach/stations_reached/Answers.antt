use Rattle.std.proofs.Common.{◌^◌, ◌<◌, Decides, sym, ap, ◌∙◌, subst, arith}
use Rattle.stations.specs.Sets.{In, has}
use Rattle.digraph.specs.Paths.{Path}
use Rattle.digraph.specs.Search.{Next, reach_set}
use Rattle.family.specs.Reaching.{reached_has_it, reached_inside, paths_from}
use Rattle.family.proofs.reach.stations_reached.Goals as goal

pub reached-requires : goal.reached-requires
reached-requires c = omega (arith, c.args.sheet.now.stations.few)

pub returns : goal.returns
returns c =
    let s = c.args.sheet.now in
    let ms = c.args.marks.now in
    let v = c.args.station in
    let is = c.reached.ensures.value ∙ ap (λ m. reach_set m v) c.steps.ensures in
    record {
      value = is;
      inside = subst (λ r. r < 2 ^ s.stations.count) (sym is) (reached_inside s.stations.count s.links.slots s.proper s.stations.few s.links.sized ms v c.requires);
      has_it = subst (λ r. In r v) (sym is) (reached_has_it s.stations.count s.links.slots s.proper s.stations.few s.links.sized ms v c.requires);
      paths = λ u. paths_from s.stations.count s.links.slots s.proper s.stations.few s.links.sized ms v c.requires c.reached.result u
          (subst (λ m. Decides (has c.reached.result u) (Path (Next m) v u)) c.steps.ensures (c.reached.ensures.paths u));
    }
