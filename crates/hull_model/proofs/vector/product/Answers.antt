use Rattle.std.proofs.Common.{◌*ℤ◌, arith}
use Rattle.std.proofs.lemmas.Int.{to_z-of_z}
use Rattle.std.specs.Int.{w64}
use mir.Val.{SFits}
use Rattle.hull_model.proofs.Magnitudes.{fits_64, short_product}
use Rattle.hull_model.proofs.vector.product.Goals as goal

pub returns-clause-value : goal.returns-clause-value
returns-clause-value c =
    let a : SFits w64 c.args.a = c.ranges.a in
    let b : SFits w64 c.args.b = c.ranges.b in
    let whole : SFits w64 (c.args.a *ℤ c.args.b) = fits_64 _ (omega (arith, short_product c.args.a c.args.b c.requires.a c.requires.b)) in
    simp to_z-of_z

pub returns-clause-size : goal.returns-clause-size
returns-clause-size c =
    let a : SFits w64 c.args.a = c.ranges.a in
    let b : SFits w64 c.args.b = c.ranges.b in
    let whole : SFits w64 (c.args.a *ℤ c.args.b) = fits_64 _ (omega (arith, short_product c.args.a c.args.b c.requires.a c.requires.b)) in
    simp to_z-of_z (short_product c.args.a c.args.b c.requires.a c.requires.b)
