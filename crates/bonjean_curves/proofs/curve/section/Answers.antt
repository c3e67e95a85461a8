use Rattle.std.proofs.Common.{◌*◌, ◌<◌, arith}
use Rattle.hull_model.specs.Section.{section_area, section_moment}
use Rattle.bonjean_curves.proofs.Least.{least_span_at}
use Rattle.bonjean_curves.proofs.curve.section.Goals as goal

pub returns-clause-area : goal.returns-clause-area
returns-clause-area c =
    let integrals = c.integrals_below-integrals.result in
    let least = rw (c.from-2.ensures, c.from-rise.ensures) at c.least_span.ensures.least in
    least_span_at section_area c.args.hull.now c.stations.result.now c.args.station c.index-stations-station.result c.as_slice-points.result.now c.args.draft c.from.result integrals.area integrals.rise
    c.requires.station c.stations.ensures.same c.as_slice-points.ensures c.from.ensures integrals.rises.0 least c.integrals_below-integrals.ensures.area

pub returns-clause-moment : goal.returns-clause-moment
returns-clause-moment c =
    let integrals = c.integrals_below-integrals.result in
    let some : 0 < integrals.rise = integrals.rises.0 in
    let least = rw c.from-rise.ensures at c.least_span-2.ensures.least in
    least_span_at section_moment c.args.hull.now c.stations.result.now c.args.station c.index-stations-station.result c.as_slice-points.result.now c.args.draft c.from.result integrals.moment (3 * integrals.rise)
    c.requires.station c.stations.ensures.same c.as_slice-points.ensures c.from.ensures (omega arith) least c.integrals_below-integrals.ensures.moment
