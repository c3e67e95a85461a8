use Rattle.std.proofs.Common.{◌-ℤ◌, arith}
use Rattle.std.proofs.lemmas.Int.{ints, to_z-of_z}
use Rattle.std.specs.Int.{w64}
use mir.Val.{SFits}
use Rattle.hull_model.proofs.Magnitudes.{fits_64}
use Rattle.flux_moments.proofs.multiples.Multiples.minus.Goals as goal

pub returns : goal.returns
returns c =
    let a : SFits w64 c.args.self.lo = fits_64 _ (omega (arith, c.args.self.ends.low)) in
    let b : SFits w64 c.args.self.hi = fits_64 _ (omega (arith, c.args.self.ends.high)) in
    let d : SFits w64 c.args.other.lo = fits_64 _ (omega (arith, c.args.other.ends.low)) in
    let e : SFits w64 c.args.other.hi = fits_64 _ (omega (arith, c.args.other.ends.high)) in
    let low : SFits w64 (c.args.self.lo -ℤ c.args.other.hi) = fits_64 _ (omega (arith, ints, c.args.self.ends.low, c.args.other.ends.high)) in
    let high : SFits w64 (c.args.self.hi -ℤ c.args.other.lo) = fits_64 _ (omega (arith, ints, c.args.self.ends.high, c.args.other.ends.low)) in
    simp to_z-of_z at c.rounded.ensures
