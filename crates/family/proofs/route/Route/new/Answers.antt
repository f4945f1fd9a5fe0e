use Rattle.std.proofs.Common.{refl, arith, rules}
use Rattle.family.specs.Routes.{end_is_route_member}
use Rattle.family.proofs.route.Route.new.Goals as goal

pub returns : goal.returns
returns c =
    let is = c.in_ok-count.ensures in
    record {
      refusal = search rules;
      size = (is, refl, refl);
      members = end_is_route_member c.in_ok-count.count.count c.args.start c.args.end (omega (arith, is)) c.if-start-end.false;
    }
