use Rattle.std.proofs.lemmas.Int.{to_z-of_z}
use Rattle.flux_moments.specs.Planes.{cosine}
use Rattle.flux_moments.proofs.Heights.{cosine_ends, cosine_contained}
use Rattle.flux_moments.proofs.corner.times_cosine.Goals as goal

pub times-requires-clause-part : goal.times-requires-clause-part
times-requires-clause-part c = cosine_ends c.args.bracket.now

pub returns-clause-contains : goal.returns-clause-contains
returns-clause-contains c plane h =
    let contains = simp (to_z-of_z, c.ranges.n) at c.times.ensures.contains in
    contains (cosine plane) (cosine_contained c.args.bracket.now plane h)

pub returns-clause-ends : goal.returns-clause-ends
returns-clause-ends c = simp (to_z-of_z, c.ranges.n) at c.times.ensures.ends

pub returns-clause-narrow : goal.returns-clause-narrow
returns-clause-narrow c = simp (to_z-of_z, c.ranges.n) at c.times.ensures.narrow

pub returns-clause-same : goal.returns-clause-same
returns-clause-same c = simp (to_z-of_z, c.ranges.n) at c.times.ensures.same
