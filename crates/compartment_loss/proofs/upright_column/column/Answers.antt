use Rattle.std.proofs.Common.{rules, ◌≡◌, inr, ◌+◌, pos, unsigned_abs}
use Rattle.exact_algebra.proofs.Whole.{whole}
use Rattle.flux_moments.specs.Sizes.{spread, doubled_area}
use Rattle.flux_moments.proofs.BoxWidths.{column_sizes}
use Rattle.flux_moments.proofs.PartWidths.{nonnegative_last}
use Rattle.flux_moments.proofs.DryFaces.{no_volume, no_integral}
use Rattle.compartment_loss.proofs.UprightColumns.{edgewise, no_volume_narrow, no_length_narrow}
use Rattle.compartment_loss.proofs.upright_column.column.Goals as goal

pub returns-then-face-eq0-clause-volume : goal.returns-then-face-eq0-clause-volume
returns-then-face-eq0-clause-volume c plane is =
    let none : c.args.face.now.az ≡ pos 0 = search rules in
    let first = c.args.way.first in
    let last = c.args.way.last in
    let face = c.args.face.now in
    no_volume plane first last face c.requires.face (inr (edgewise c.args.planes.now c.requires.upright plane is first last face c.requires.face none)) c.nothing.ensures.volume

pub returns-then-face-eq0-clause-mx : goal.returns-then-face-eq0-clause-mx
returns-then-face-eq0-clause-mx c plane is =
    let none : c.args.face.now.az ≡ pos 0 = search rules in
    let first = c.args.way.first in
    let last = c.args.way.last in
    let face = c.args.face.now in
    no_integral plane first last face c.requires.face (λ p. p.x) (inr (edgewise c.args.planes.now c.requires.upright plane is first last face c.requires.face none)) c.nothing.ensures.mx

pub returns-then-face-eq0-clause-volume_width : goal.returns-then-face-eq0-clause-volume_width
returns-then-face-eq0-clause-volume_width c b h is some reached =
    let face = c.args.face.now in
    no_volume_narrow (spread b h) h (doubled_area face) b.turn (column_sizes c.args.planes.now b is h some (unsigned_abs face.ay + unsigned_abs face.az)) c.nothing.ensures.volume

pub returns-then-face-eq0-clause-mx_width : goal.returns-then-face-eq0-clause-mx_width
returns-then-face-eq0-clause-mx_width c b h is some reached =
    let face = c.args.face.now in
    let way = c.args.way in
    no_length_narrow (spread b h) h (doubled_area face) b.turn (column_sizes c.args.planes.now b is h some (unsigned_abs face.ay + unsigned_abs face.az)) (whole way.last)
    (nonnegative_last way.first way.last way.start.0 way.forwards) c.nothing.ensures.mx
