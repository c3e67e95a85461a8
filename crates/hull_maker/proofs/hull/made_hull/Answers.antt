use Rattle.std.proofs.Common.{rules, sym, subst}
use mathlib.Core.Path.{◌∙◌}
use Rattle.hull_model.specs.Body.{IsHull}
use Rattle.hull_maker.proofs.Left.{first_station, next_station, last_station}
use Rattle.hull_maker.proofs.Kept.{is_hull}
use Rattle.hull_maker.proofs.hull.made_hull.Goals as goal

pub loop-i-init : goal.loop-i-init
loop-i-init c = rw c.new-stations.ensures.items (first_station c.args.seed)

pub loop-i-preserved : goal.loop-i-preserved
loop-i-preserved c =
    rw (c.in_ok-made_station.ensures.state, c.in_ok-push.ensures.items) (next_station c.args.seed c.loop-i.i c.loop-i.draws.state c.loop-i.stations.items _ c.loop-i-test.true c.in_ok-made_station.ensures.station c.loop-i.invariant)

pub unreachable-requires : goal.unreachable-requires
unreachable-requires c =
    let all = last_station c.args.seed c.loop-i.i c.loop-i.draws.state c.loop-i.stations.items c.loop-i-test.false c.loop-i.invariant in
    let kept = subst IsHull (sym all) (is_hull c.args.seed) in
    search rules

pub returns : goal.returns
returns c = c.in-Some.ensures.same ∙ last_station c.args.seed c.loop-i.i c.loop-i.draws.state c.loop-i.stations.items c.loop-i-test.false c.loop-i.invariant
