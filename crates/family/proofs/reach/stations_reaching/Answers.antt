use Rattle.std.proofs.Common.{◌^◌, ◌<◌, Decides, sym, ap, ◌∙◌, subst, arith}
use Rattle.stations.specs.Sets.{In, Part, has}
use Rattle.digraph.specs.Paths.{Path}
use Rattle.digraph.specs.Search.{Next, reach_set}
use Rattle.family.specs.Laws.{Unentered}
use Rattle.family.specs.Reaching.{reaching_has_it, reaching_unentered, reaching_least, reaching_inside, paths_to}
use Rattle.family.proofs.reach.stations_reaching.Goals as goal

pub reached-requires : goal.reached-requires
reached-requires c = omega (arith, c.args.sheet.now.stations.few)

pub returns : goal.returns
returns c =
    let s = c.args.sheet.now in
    let ms = c.args.marks.now in
    let v = c.args.station in
    let is = c.reached.ensures.value ∙ ap (λ m. reach_set m v) c.steps.ensures in
    record {
      value = is;
      inside = subst (λ r. r < 2 ^ s.stations.count) (sym is) (reaching_inside s.stations.count s.links.slots s.proper s.stations.few s.links.sized ms v c.requires);
      has_it = subst (λ r. In r v) (sym is) (reaching_has_it s.stations.count s.links.slots s.proper s.stations.few s.links.sized ms v c.requires);
      unentered = subst (Unentered s.links.slots ms) (sym is) (reaching_unentered s.stations.count s.links.slots s.proper s.stations.few s.links.sized ms v c.requires);
      least = λ z at out. subst (λ r. Part r z) (sym is) (reaching_least s.stations.count s.links.slots s.proper s.stations.few s.links.sized ms v c.requires z at out);
      paths = λ u. paths_to s.stations.count s.links.slots s.proper s.stations.few s.links.sized ms v c.requires c.reached.result u
          (subst (λ m. Decides (has c.reached.result u) (Path (Next m) v u)) c.steps.ensures (c.reached.ensures.paths u));
    }
