use Rattle.std.proofs.Common.{◌*ℤ◌, w64}
use Rattle.std.proofs.lemmas.Int.{to_z-of_z}
use mir.Val.{SFits}
use Rattle.floodable_length.proofs.Levels.{product-small, product-fits}
use Rattle.floodable_length.proofs.products.product.Goals as goal

pub returns-clause-value : goal.returns-clause-value
returns-clause-value c =
    let a : SFits w64 c.args.a = c.ranges.a in
    let b : SFits w64 c.args.b = c.ranges.b in
    let whole : SFits w64 (c.args.a *ℤ c.args.b) = product-fits c.args.a c.args.b c.requires.a c.requires.b in
    simp to_z-of_z

pub returns-clause-size : goal.returns-clause-size
returns-clause-size c =
    let a : SFits w64 c.args.a = c.ranges.a in
    let b : SFits w64 c.args.b = c.ranges.b in
    let whole : SFits w64 (c.args.a *ℤ c.args.b) = product-fits c.args.a c.args.b c.requires.a c.requires.b in
    simp to_z-of_z (product-small c.args.a c.args.b c.requires.a c.requires.b)
