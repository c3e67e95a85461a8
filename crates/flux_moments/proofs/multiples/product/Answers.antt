use Rattle.std.proofs.Common.{refl, ◌*ℤ◌, arith}
use Rattle.std.proofs.lemmas.Int.{to_z-of_z}
use Rattle.std.specs.Int.{w64}
use mir.Val.{SFits}
use Rattle.hull_model.proofs.Magnitudes.{fits_64}
use Rattle.flux_moments.proofs.OneWord.{product_at_most}
use Rattle.flux_moments.proofs.multiples.product.Goals as goal

pub returns : goal.returns
returns c =
    let end : SFits w64 c.args.end = c.ranges.end in
    let n : SFits w64 c.args.n = c.ranges.n in
    let product : SFits w64 (c.args.end *ℤ c.args.n) = fits_64 _ (omega (arith, product_at_most c.args.end c.args.n c.requires.end c.requires.n)) in
    record { value = simp to_z-of_z refl }
