use Rattle.std.proofs.Common.{rules, ap}
use mathlib.Core.Path.{◌∙◌}
use Rattle.hull_maker.proofs.Left.{next_point}
use Rattle.hull_maker.specs.MadeHull as spec
use Rattle.hull_maker.proofs.hull.made_station.Goals as goal

pub loop-j-preserved : goal.loop-j-preserved
loop-j-preserved c =
    let is = c.made_point.ensures ∙ ap (spec.point c.args.i c.loop-j.j) c.draw.ensures.value in
    rw (c.draw.ensures.state, c.in_ok-push.ensures.items) (next_point c.args.i c.args.draws.now.state c.loop-j.j c.loop-j.draws.state c.loop-j.points.items _ (search rules) is c.loop-j.invariant)
