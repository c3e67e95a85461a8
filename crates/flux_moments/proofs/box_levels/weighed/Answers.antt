use Rattle.std.proofs.Common.{◌*ℤ◌, ◌^◌, arith}
use Rattle.std.proofs.lemmas.Int.{ints, to_z-of_z}
use Rattle.std.specs.Int.{w64}
use mir.Val.{SFits}
use Rattle.hull_model.proofs.Magnitudes.{fits_64}
use Rattle.plane_clip.proofs.QuotientSizes.{times_size}
use Rattle.flux_moments.proofs.box_levels.weighed.Goals as goal

pub returns-clause-small : goal.returns-clause-small
returns-clause-small c =
    let level : SFits w64 c.args.level = c.ranges.level in
    let place : SFits w64 c.args.place = c.ranges.place in
    let small = times_size (2 ^ 30) c.args.level c.args.place c.requires.level in
    let product : SFits w64 (c.args.level *ℤ c.args.place) = fits_64 _ (omega (arith, ints, small, c.requires.place.0, c.requires.place.1)) in
    simp to_z-of_z small
