use Rattle.std.proofs.Common.{refl, ◌*ℤ◌, ◌^◌, arith}
use Rattle.std.proofs.lemmas.Int.{to_z-of_z}
use Rattle.std.specs.Int.{w64}
use mir.Val.{SFits}
use Rattle.hull_model.proofs.Magnitudes.{fits_64}
use Rattle.flux_moments.proofs.ProductEnds.{product_less}
use Rattle.flux_moments.proofs.lid_sums.product.Goals as goal

pub returns-clause-value : goal.returns-clause-value
returns-clause-value c =
    let u : SFits w64 c.args.u = c.ranges.u in
    let v : SFits w64 c.args.v = c.ranges.v in
    let small = product_less (2 ^ 19) (2 ^ 19) c.args.u c.args.v c.requires.u c.requires.v in
    let product : SFits w64 (c.args.u *ℤ c.args.v) = fits_64 _ (omega (arith, small)) in
    simp to_z-of_z refl

pub returns-clause-small : goal.returns-clause-small
returns-clause-small c =
    let u : SFits w64 c.args.u = c.ranges.u in
    let v : SFits w64 c.args.v = c.ranges.v in
    let small = product_less (2 ^ 19) (2 ^ 19) c.args.u c.args.v c.requires.u c.requires.v in
    let product : SFits w64 (c.args.u *ℤ c.args.v) = fits_64 _ (omega (arith, small)) in
    simp to_z-of_z (omega (arith, small))
