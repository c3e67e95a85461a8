use Rattle.std.proofs.Common.{rules, IsTrue}
use Rattle.flux_moments.specs.Water.{IsOut, IsFarOut}
use Rattle.hull_model.specs.Nodes.{IsNode}
use Rattle.hull_polyhedron.specs.Between.{IsBetween}
use Rattle.flux_moments.proofs.Waters.{first_in, rest_in, with_first}
use Rattle.flux_moments.proofs.water.are_out.Goals as goal

pub returns-then-not-is_out-clause-clear : goal.returns-then-not-is_out-clause-clear
returns-then-not-is_out-clause-clear c b h is all =
    let far = first_in (IsFarOut c.args.planes.now c.args.way.first c.args.way.last b h) c.loop-rest.rest.now _ c.in-len1-up.len_at_least (c.loop-rest.invariant.kept b h all) in
    let t : IsTrue c.is_out.result = c.is_out.ensures.clear b h is far in
    search rules

pub loop-rest-preserved : goal.loop-rest-preserved
loop-rest-preserved c =
    let t : IsTrue c.is_out.result = search rules in
    record {
      limits = rest_in IsNode c.loop-rest.rest.now c.loop-rest.invariant.limits;
      between = rest_in (IsBetween c.args.way.first c.args.way.last) c.loop-rest.rest.now c.loop-rest.invariant.between;
      all = λ all. c.loop-rest.invariant.all (with_first (IsOut c.args.planes.now c.args.way.first c.args.way.last) c.loop-rest.rest.now _ (c.is_out.ensures.out t) all);
      kept = λ b h all. rest_in (IsFarOut c.args.planes.now c.args.way.first c.args.way.last b h) c.loop-rest.rest.now (c.loop-rest.invariant.kept b h all);
    }
