use Rattle.std.proofs.Common.{pos, ◌-ℤ◌, arith}
use Rattle.std.proofs.lemmas.Int.{ints, to_z-of_z}
use Rattle.std.specs.Int.{w64}
use mir.Val.{SFits}
use Rattle.hull_model.proofs.Magnitudes.{fits_64}
use Rattle.plane_clip.proofs.FaceSizes.{areas_below}
use Rattle.flux_moments.proofs.FaceAreas.{turned_area, turned_below}
use Rattle.flux_moments.proofs.lid_sums.area_from_above.Goals as goal

pub overflow_sub-result : goal.overflow_sub-result
overflow_sub-result c =
    let small = (areas_below c.args.face.now c.requires).1 in
    let fits : SFits w64 c.args.face.now.az = fits_64 _ (omega (arith, small)) in
    simp to_z-of_z (omega (arith, ints, small))

pub returns-clause-value : goal.returns-clause-value
returns-clause-value c =
    let small = (areas_below c.args.face.now c.requires).1 in
    let fits : SFits w64 c.args.face.now.az = fits_64 _ (omega (arith, small)) in
    let turned : SFits w64 (pos 0 -ℤ c.args.face.now.az) = fits_64 _ (omega (arith, turned_below c.args.face.now.az small)) in
    simp to_z-of_z (turned_area c.args.face.now.az)

pub returns-clause-small : goal.returns-clause-small
returns-clause-small c =
    let small = (areas_below c.args.face.now c.requires).1 in
    let fits : SFits w64 c.args.face.now.az = fits_64 _ (omega (arith, small)) in
    let turned : SFits w64 (pos 0 -ℤ c.args.face.now.az) = fits_64 _ (omega (arith, turned_below c.args.face.now.az small)) in
    simp to_z-of_z (turned_below c.args.face.now.az small)
