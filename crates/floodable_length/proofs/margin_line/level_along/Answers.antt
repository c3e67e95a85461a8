use Rattle.std.proofs.Common.{◌≡◌, ap₂, ◌+ℤ◌, ◌*ℤ◌, w64, rules}
use Rattle.std.proofs.lemmas.Int.{to_z-of_z}
use mir.Val.{SFits}
use Rattle.floodable_length.proofs.Levels.{sum-fits}
use Rattle.floodable_length.proofs.margin_line.level_along.Goals as goal

pub returns : goal.returns
returns c =
    let a : SFits w64 c.args.a = c.ranges.a in
    let f : SFits w64 c.args.f = c.ranges.f in
    let aft : SFits w64 c.args.aft = c.ranges.aft in
    let fore : SFits w64 c.args.fore = c.ranges.fore in
    let one : SFits w64 c.product.result = search rules in
    let other : SFits w64 c.product-2.result = search rules in
    let sum : SFits w64 (c.product.result +ℤ c.product-2.result) = sum-fits c.product.result c.product-2.result c.product.ensures.size c.product-2.ensures.size in
    let value : c.product.result ≡ c.args.a *ℤ c.args.fore = simp to_z-of_z at c.product.ensures.value in
    let value-2 : c.product-2.result ≡ c.args.f *ℤ c.args.aft = simp to_z-of_z at c.product-2.ensures.value in
    simp to_z-of_z (ap₂ ◌+ℤ◌ value value-2)
