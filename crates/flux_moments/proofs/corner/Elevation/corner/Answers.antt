use Rattle.exact_algebra.proofs.Fraction.{fractions}
use Rattle.exact_algebra.proofs.Order as Order
use Rattle.outward_interval.specs.Widths.{units}
use Rattle.flux_moments.specs.Sizes.{distance, spread}
use Rattle.flux_moments.proofs.BoxWidths.{with_side}
use Rattle.flux_moments.proofs.corner.Elevation.corner.Goals as goal

pub returns-clause-side : goal.returns-clause-side
returns-clause-side c plane is = c.side_of.ensures.contains plane is.direction

pub returns-clause-size : goal.returns-clause-size
returns-clause-size c b h is reached known = with_side c.args.planes.now b is h (distance c.args.node) reached (units 20 2) (spread b h) (Order.≼_refl fractions _)
    known (c.side_of.ensures.narrow b.turn is.cosine is.sine) c.side_of.ensures.near
