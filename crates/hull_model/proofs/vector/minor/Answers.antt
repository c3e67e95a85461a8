use Rattle.std.proofs.Common.{ap₂, ◌-ℤ◌, ◌^◌, arith}
use Rattle.std.proofs.lemmas.Int.{to_z-of_z}
use Rattle.std.specs.Int.{w64}
use mir.Val.{SFits}
use Rattle.hull_model.proofs.Magnitudes.{fits_64, difference_below}
use Rattle.hull_model.proofs.vector.minor.Goals as goal

pub returns-clause-value : goal.returns-clause-value
returns-clause-value c =
    let a : SFits w64 c.args.a = c.ranges.a in
    let b : SFits w64 c.args.b = c.ranges.b in
    let d : SFits w64 c.args.c = c.ranges.c in
    let e : SFits w64 c.args.d = c.ranges.d in
    let p : SFits w64 c.product.result = record { sfits = c.product.type_inv } in
    let q : SFits w64 c.product-2.result = record { sfits = c.product-2.type_inv } in
    let first = simp to_z-of_z at c.product.ensures.value in
    let second = simp to_z-of_z at c.product-2.ensures.value in
    let whole : SFits w64 (c.product.result -ℤ c.product-2.result) = fits_64 _ (omega (arith, difference_below (2 ^ 40) c.product.result c.product-2.result c.product.ensures.size c.product-2.ensures.size)) in
    simp to_z-of_z (ap₂ (λ x y. x -ℤ y) first second)

pub returns-clause-size : goal.returns-clause-size
returns-clause-size c =
    let p : SFits w64 c.product.result = record { sfits = c.product.type_inv } in
    let q : SFits w64 c.product-2.result = record { sfits = c.product-2.type_inv } in
    let whole : SFits w64 (c.product.result -ℤ c.product-2.result) = fits_64 _ (omega (arith, difference_below (2 ^ 40) c.product.result c.product-2.result c.product.ensures.size c.product-2.ensures.size)) in
    simp to_z-of_z (difference_below (2 ^ 40) c.product.result c.product-2.result c.product.ensures.size c.product-2.ensures.size)
