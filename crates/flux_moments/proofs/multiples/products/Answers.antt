use Rattle.std.proofs.Common.{rules, pos, ◌≤ℤ◌, ◌<ℤ◌}
use Rattle.std.proofs.lemmas.Int.{to_z-of_z}
use Rattle.std.specs.Int.{w64}
use mir.Val.{SFits}
use Rattle.flux_moments.proofs.OneWord.{products_rising, products_falling}
use Rattle.flux_moments.proofs.multiples.products.Goals as goal

pub returns-then-n-lt0 : goal.returns-then-n-lt0
returns-then-n-lt0 c =
    let low : SFits w64 c.args.low = c.ranges.low in
    let high : SFits w64 c.args.high = c.ranges.high in
    let n : SFits w64 c.args.n = c.ranges.n in
    let p : SFits w64 c.product-p.result = search rules in
    let q : SFits w64 c.product-q.result = search rules in
    let less : c.args.n <ℤ pos 0 = search rules in
    simp to_z-of_z (products_falling c.args.low c.args.high c.args.n c.requires.order less (simp to_z-of_z at c.product-p.ensures.value)
    (simp to_z-of_z at c.product-q.ensures.value))

pub returns-else-n-lt0 : goal.returns-else-n-lt0
returns-else-n-lt0 c =
    let low : SFits w64 c.args.low = c.ranges.low in
    let high : SFits w64 c.args.high = c.ranges.high in
    let n : SFits w64 c.args.n = c.ranges.n in
    let p : SFits w64 c.product-p.result = search rules in
    let q : SFits w64 c.product-q.result = search rules in
    let some : pos 0 ≤ℤ c.args.n = search rules in
    simp to_z-of_z (products_rising c.args.low c.args.high c.args.n c.requires.order some (simp to_z-of_z at c.product-p.ensures.value)
    (simp to_z-of_z at c.product-q.ensures.value))
