use Rattle.std.proofs.Common.{ℤ, subst}
use Rattle.flux_moments.specs.Planes.{AreLevelEnds}
use Rattle.compartment_loss.proofs.UprightParts.{corner_contained, corner_narrow, corner_near}
use Rattle.compartment_loss.proofs.upright_part.corner_depth.Goals as goal

pub returns-clause-contains : goal.returns-clause-contains
returns-clause-contains c planes way upright levels between plane p is holds =
    let level = c.args.place.level in
    let ends = subst (λ (x : ℤ). AreLevelEnds planes way.first way.last x level.lo level.hi) c.requires.same levels in
    corner_contained planes way c.args.corner.now level c.sub.result ends between c.sub.ensures upright plane p is holds

pub returns-clause-narrow : goal.returns-clause-narrow
returns-clause-narrow c planes way levels between b h y z size some extent =
    let level = c.args.place.level in
    let ends = subst (λ (x : ℤ). AreLevelEnds planes way.first way.last x level.lo level.hi) c.requires.same levels in
    corner_narrow planes way c.args.corner.now level c.sub.result ends between c.sub.ensures b h y z size extent some

pub returns-clause-near : goal.returns-clause-near
returns-clause-near c planes way levels between b h y z size reached extent =
    let level = c.args.place.level in
    let ends = subst (λ (x : ℤ). AreLevelEnds planes way.first way.last x level.lo level.hi) c.requires.same levels in
    corner_near planes way c.args.corner.now level c.sub.result ends between c.sub.ensures b h y z size extent reached
