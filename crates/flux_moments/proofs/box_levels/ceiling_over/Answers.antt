use Rattle.std.proofs.Common.{rules, pos, ◌-ℤ◌, unsigned_abs, arith}
use Rattle.std.proofs.lemmas.Int.{ints, to_z-of_z}
use Rattle.std.specs.Int.{w64}
use mir.Val.{SFits}
use Rattle.hull_model.proofs.Magnitudes.{fits_64}
use Rattle.flux_moments.proofs.Levels.{ceiling_opposite}
use Rattle.flux_moments.proofs.box_levels.ceiling_over.Goals as goal

pub returns-clause-ceiling : goal.returns-clause-ceiling
returns-clause-ceiling c =
    let n : SFits w64 c.args.n = c.ranges.n in
    let length : SFits w64 c.args.length = c.ranges.length in
    let turned : SFits w64 (pos 0 -ℤ c.args.n) = fits_64 _ (omega (arith, ints, c.requires.size, c.requires.length.0, c.requires.length.1)) in
    let z : SFits w64 c.floor_over.result = search rules in
    let back : SFits w64 (pos 0 -ℤ c.floor_over.result) = fits_64 _ (omega (arith, ints, c.floor_over.ensures.small)) in
    let floor = simp to_z-of_z at c.floor_over.ensures.floor in
    simp to_z-of_z (ceiling_opposite c.args.n c.floor_over.result (unsigned_abs c.args.length) floor)

pub returns-clause-small : goal.returns-clause-small
returns-clause-small c =
    let z : SFits w64 c.floor_over.result = search rules in
    let back : SFits w64 (pos 0 -ℤ c.floor_over.result) = fits_64 _ (omega (arith, ints, c.floor_over.ensures.small)) in
    simp to_z-of_z (omega (arith, ints, c.floor_over.ensures.small))
