use Rattle.std.proofs.Common.{◌≡◌, ◌<◌, ◌^◌, not, map, option_map, sym, ap, ◌∙◌, arith, rules}
use Rattle.std.specs.List.{find}
use borrow.Author.Tests.{tests}
use Rattle.std.proofs.lemmas.Iterator.{YieldsList-from_map}
use Rattle.std.proofs.lemmas.Iterator.Consumers.{YieldsList-from_first, YieldsList-at}
use Rattle.std.proofs.lemmas.Iterator.Search.{find_from_yields_List}
use Rattle.std.proofs.lemmas.Iterator.Adapters.{option_map_id}
use Rattle.stations.specs.Sets.{has, rising}
use Rattle.stations.specs.declared.rising.Stations.{Stations}
use Rattle.tree_shape.specs.Shapes.{tree_in}
use Rattle.tree_shape.specs.Trees.{level}
use Rattle.tree_family.specs.Choices.{around, first_at_depth}
use Rattle.tree_shape.proofs.Shapes.{shape_is_sound}
use Rattle.tree_family.proofs.Depths.{found_first}
use Rattle.tree_family.proofs.Serving.{serves_stations}
use Rattle.tree_family.proofs.marked.MarkedTree.first_of_level.Goals as goal

pub find-requires-clause-can : goal.find-requires-clause-can
find-requires-clause-can c =
    let shape = c.args.self.now.shape.now in
    let left_is : c.map.result.iter.left ≡ c.level.result = ap (λ (k : Stations). k.left) c.map.ensures.source ∙ c.rising.ensures in
    let small : c.map.result.iter.left < 2 ^ (tree_in shape).stations = omega (arith, left_is, c.level.ensures.inside) in
    (tt, serves_stations (tree_in shape).stations small (λ a x b r. search (rules, tests)) (λ x low. let few = (shape_is_sound shape).few in search (rules, tests)))

found : (c : goal.After-find) → option_map (λ x. x) c.find.result ≡ find (λ set. not (has set 0)) (map (around (tree_in c.args.self.now.shape.now) c.args.self.now.marked.next) (rising (level (tree_in c.args.self.now.shape.now) c.args.depth)))
found c =
    find_from_yields_List (λ set. not (has set 0)) c.find.new.self _ _ c.find.ensures.ran
    (YieldsList-from_map _ (around (tree_in c.args.self.now.shape.now) c.args.self.now.marked.next)
    (YieldsList-at c.map.ensures.source (YieldsList-from_first (λ x. x) (λ (k : Stations). rising k.left) (rising (level (tree_in c.args.self.now.shape.now) c.args.depth)) (ap rising (c.rising.ensures ∙ c.level.ensures.value))))
    c.map.ensures.closure (λ x r q k. search (rules, tests)))
    (λ x b q k. search (rules, tests))

pub returns : goal.returns
unfolding first_at_depth
returns c =
    let m = c.args.self.now in
    let t = tree_in m.shape.now in
    sym (option_map_id c.find.result) ∙ found c ∙ found_first t m.marked.next (rising (level t c.args.depth))
