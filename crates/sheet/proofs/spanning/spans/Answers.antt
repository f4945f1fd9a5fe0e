use Rattle.std.proofs.Common.{◌≡◌, ◌-◌, ◌*◌, ◌%◌, ◌^◌, eqb, Decides, sym, ap, ◌∙◌, subst, arith}
use Rattle.std.proofs.lemmas.Nat.{one_shl}
use Rattle.stations.specs.Sets.{has}
use Rattle.digraph.specs.Paths.{Path}
use Rattle.digraph.specs.Search.{Next}
use Rattle.digraph.specs.Trees.{SpanningTree}
use Rattle.sheet.proofs.Stepping.{all_seen_decides_tree}
use Rattle.sheet.proofs.spanning.spans.Goals as goal

pub returns : goal.returns
returns g c =
    let s = c.args.sheet.now in
    let ks = g.L.Numbers.numbers c.args.list.now in
    let r = c.reached.result in
    let found = subst (λ masks. (v : Prim.Native.Nat.ℕ) → Decides (has r v) (Path (Next masks) 0 v)) c.steps_along.ensures c.reached.ensures.paths in
    let decided = all_seen_decides_tree s.stations.count s.links.slots s.proper s.stations.few s.stations.some ks c.requires.count c.requires.named r found in
    let full : (1 * 2 ^ c.stations.result) % 18446744073709551616 - 1 ≡ 2 ^ s.stations.count - 1 = ap (λ x. x - 1) (one_shl c.stations.result 64 (omega (arith, c.stations.ensures, s.stations.few)) ∙ ap (λ x. 2 ^ x) c.stations.ensures) in
    subst (λ m. Decides (eqb r m) (SpanningTree s.stations.count s.links.slots ks)) (sym full) decided
