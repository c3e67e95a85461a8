use Rattle.std.proofs.Common.{◌*ℤ◌, arith}
use Rattle.std.proofs.lemmas.Int.{ints, to_z-of_z}
use Rattle.std.specs.Int.{w128}
use mir.Val.{SFits}
use Rattle.plane_clip.proofs.WayValues.{way_part_fits, rest_fits, product_part, product_whole, product_fits, product-value}
use Rattle.plane_clip.proofs.way.Way.times.Goals as goal

pub invariant_of-result : goal.invariant_of-result
invariant_of-result c =
    let a = c.args.self in
    let b = c.args.other in
    let n : SFits w128 a.n = way_part_fits a.n a.d a.part.0 a.part.1 a.whole.1 in
    let d : SFits w128 a.d = rest_fits a.d a.whole.0 a.whole.1 in
    let m : SFits w128 b.n = way_part_fits b.n b.d b.part.0 b.part.1 b.whole.1 in
    let e : SFits w128 b.d = rest_fits b.d b.whole.0 b.whole.1 in
    let first : SFits w128 (a.n *ℤ b.n) = product_fits a.n b.n a.d b.d a.part b.part a.whole b.whole in
    let second : SFits w128 (a.d *ℤ b.d) = product_fits a.d b.d a.d b.d (omega (arith, ints, a.whole.0), omega (arith, ints)) (omega (arith, ints, b.whole.0), omega (arith, ints)) a.whole b.whole in
    simp to_z-of_z (record { part = product_part a.n b.n a.d b.d a.part b.part; whole = product_whole a.d b.d a.whole b.whole })

pub returns : goal.returns
returns c =
    let a = c.args.self in
    let b = c.args.other in
    let n : SFits w128 a.n = way_part_fits a.n a.d a.part.0 a.part.1 a.whole.1 in
    let d : SFits w128 a.d = rest_fits a.d a.whole.0 a.whole.1 in
    let m : SFits w128 b.n = way_part_fits b.n b.d b.part.0 b.part.1 b.whole.1 in
    let e : SFits w128 b.d = rest_fits b.d b.whole.0 b.whole.1 in
    let first : SFits w128 (a.n *ℤ b.n) = product_fits a.n b.n a.d b.d a.part b.part a.whole b.whole in
    let second : SFits w128 (a.d *ℤ b.d) = product_fits a.d b.d a.d b.d (omega (arith, ints, a.whole.0), omega (arith, ints)) (omega (arith, ints, b.whole.0), omega (arith, ints)) a.whole b.whole in
    simp to_z-of_z (product-value a.n b.n a.d b.d a.whole.0 b.whole.0)
