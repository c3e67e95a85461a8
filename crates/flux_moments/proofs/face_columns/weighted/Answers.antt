use Rattle.std.proofs.Common.{ℤ, suc, ◌+◌, ◌*◌, ◌≡◌, ◌∙◌, sym, ◌^◌, ◌<◌, unsigned_abs, arith, subst}
use Rattle.std.proofs.lemmas.Int.{to_z-of_z}
use Rattle.std.specs.Int.{w64, w128}
use mir.Val.{SFits}
use Rattle.exact_algebra.proofs.Fraction.{◌⊗◌}
use Rattle.exact_algebra.proofs.Span.{ContainsFraction}
use Rattle.exact_algebra.proofs.Whole.{whole}
use Rattle.hull_model.proofs.Magnitudes.{fits_64}
use Rattle.outward_interval.specs.Laws.{product_contains, product_width}
use Rattle.outward_interval.specs.Ends.{EndsBelow, AreLeastEnds, least_product, greatest_product}
use Rattle.flux_moments.specs.Limits.{EndsAtMost, EndsLess}
use Rattle.flux_moments.proofs.ProductEnds.{products_fit, product_ends, less, at_most_less, multiple_fits, multiple_ends}
use Rattle.outward_interval.specs.Widths.{IsNarrow}
use Rattle.flux_moments.specs.Sizes.{column_width}
use Rattle.outward_interval.proofs.Narrow.{narrow-multiple, narrow-scaled, near-scaled}
use Rattle.flux_moments.proofs.face_columns.weighted.Goals as goal

column_ends : {a b c d lo hi : ℤ} → EndsBelow 41 a b → EndsLess (3 * 2 ^ 76) c d → AreLeastEnds (least_product a b c d) (greatest_product a b c d)
    (2 ^ 40) lo hi → EndsAtMost (3 * 2 ^ 77) lo hi
column_ends mean factor ends = product_ends (2 ^ 41) (3 * 2 ^ 76) (3 * 2 ^ 77) (2 ^ 40) (omega arith) (less 41 mean) factor ends

pub scaled_by-column-requires : goal.scaled_by-column-requires
scaled_by-column-requires c = (omega arith, (omega arith, products_fit (2 ^ 41) (3 * 2 ^ 76) (omega arith) (less 41 c.requires.mean) c.requires.factor))

pub times_whole-requires : goal.times_whole-requires
times_whole-requires c =
    let column = column_ends c.requires.mean c.requires.factor c.scaled_by-column.ensures.ends in
    let small = c.args.corner.now.place in
    let fits : SFits w64 c.args.corner.now.x = fits_64 _ (omega (arith, small)) in
    let wide : SFits w128 c.from.result = record { sfits = c.from.type_inv } in
    let same : c.from.result ≡ c.args.corner.now.x = c.from.ensures ∙ to_z-of_z w64 c.args.corner.now.x fits in (
      omega arith,
      simp to_z-of_z (multiple_fits (suc (3 * 2 ^ 77)) (2 ^ 19) c.from.result (omega arith) (at_most_less (3 * 2 ^ 77) column)
          (subst (λ (z : ℤ). unsigned_abs z < 2 ^ 19) (sym same) small)),
    )

pub mul-requires : goal.mul-requires
mul-requires c =
    let column = column_ends c.requires.mean c.requires.factor c.scaled_by-column.ensures.ends in (
      omega arith,
      products_fit (suc (3 * 2 ^ 77)) (suc (2 ^ 37 + 1)) (omega arith) (at_most_less (3 * 2 ^ 77) column)
          (at_most_less (2 ^ 37 + 1) c.args.corner.now.side_ends),
    )

pub mul-requires-2 : goal.mul-requires-2
mul-requires-2 c =
    let column = column_ends c.requires.mean c.requires.factor c.scaled_by-column.ensures.ends in (
      omega arith,
      products_fit (suc (3 * 2 ^ 77)) (suc (9 * 2 ^ 37 + 1)) (omega arith) (at_most_less (3 * 2 ^ 77) column)
          (at_most_less (9 * 2 ^ 37 + 1) c.args.corner.now.middle_ends),
    )

pub returns-clause-mv : goal.returns-clause-mv
returns-clause-mv c m a v h k i = product_contains 20 _ _ _ _ _ _ _ _ c.mul.ensures (c.scaled_by-column.ensures.contains m a h k) i

pub returns-clause-mu : goal.returns-clause-mu
returns-clause-mu c m a u h k i = product_contains 20 _ _ _ _ _ _ _ _ c.mul-2.ensures (c.scaled_by-column.ensures.contains m a h k) i

pub returns-clause-mx : goal.returns-clause-mx
returns-clause-mx c m a h k =
    let fits : SFits w64 c.args.corner.now.x = fits_64 _ (omega (arith, c.args.corner.now.place)) in
    let wide : SFits w128 c.from.result = record { sfits = c.from.type_inv } in
    let same : c.from.result ≡ c.args.corner.now.x = c.from.ensures ∙ to_z-of_z w64 c.args.corner.now.x fits in
    let product = simp to_z-of_z at c.times_whole.ensures.contains (m ⊗ a) (c.scaled_by-column.ensures.contains m a h k) in
    subst (λ (n : ℤ). ContainsFraction 20 c.times_whole.result.lo c.times_whole.result.hi ((m ⊗ a) ⊗ whole n)) same product

pub returns-clause-ends : goal.returns-clause-ends
returns-clause-ends c =
    let column = column_ends c.requires.mean c.requires.factor c.scaled_by-column.ensures.ends in
    let small = c.args.corner.now.place in
    let fits : SFits w64 c.args.corner.now.x = fits_64 _ (omega (arith, small)) in
    let wide : SFits w128 c.from.result = record { sfits = c.from.type_inv } in
    let same : c.from.result ≡ c.args.corner.now.x = c.from.ensures ∙ to_z-of_z w64 c.args.corner.now.x fits in
    let ends = simp to_z-of_z at c.times_whole.ensures.ends in
    let along = multiple_ends (suc (3 * 2 ^ 77)) (2 ^ 19) c.from.result (at_most_less (3 * 2 ^ 77) column)
    (subst (λ (z : ℤ). unsigned_abs z < 2 ^ 19) (sym same) small) ends in record {
      volume = column;
      mx = record { low = omega (arith, along.low); high = omega (arith, along.high) };
      mv = product_ends (suc (3 * 2 ^ 77)) (suc (2 ^ 37 + 1)) (3 * 2 ^ 94 + 2 ^ 60) (2 ^ 20) (omega arith) (at_most_less (3 * 2 ^ 77) column)
          (at_most_less (2 ^ 37 + 1) c.args.corner.now.side_ends) c.mul.ensures;
      mu = product_ends (suc (3 * 2 ^ 77)) (suc (9 * 2 ^ 37 + 1)) (27 * 2 ^ 94 + 2 ^ 60) (2 ^ 20) (omega arith) (at_most_less (3 * 2 ^ 77) column)
          (at_most_less (9 * 2 ^ 37 + 1) c.args.corner.now.middle_ends) c.mul-2.ensures;
    }

pub returns-clause-mx_width : goal.returns-clause-mx_width
returns-clause-mx_width c w m e a wide near factor_width factor_reach =
    let fits : SFits w64 c.args.corner.now.x = fits_64 _ (omega (arith, c.args.corner.now.place)) in
    let from : SFits w128 c.from.result = record { sfits = c.from.type_inv } in
    let same : c.from.result ≡ c.args.corner.now.x = c.from.ensures ∙ to_z-of_z w64 c.args.corner.now.x fits in
    let column : IsNarrow 20 (column_width w m e a) c.scaled_by-column.result.lo c.scaled_by-column.result.hi = narrow-scaled {F = 20} {G = 40}
    c.args.mean.ordered c.args.factor.ordered (omega arith) c.scaled_by-column.ensures.width wide near factor_width factor_reach in
    narrow-multiple (unsigned_abs c.args.corner.now.x) (rw same at (simp to_z-of_z at c.times_whole.ensures.width)) column

pub returns-clause-mv_width : goal.returns-clause-mv_width
returns-clause-mv_width c w m e a v n wide near factor_width factor_reach side_width side_reach =
    let column : IsNarrow 20 (column_width w m e a) c.scaled_by-column.result.lo c.scaled_by-column.result.hi = narrow-scaled {F = 20} {G = 40}
    c.args.mean.ordered c.args.factor.ordered (omega arith) c.scaled_by-column.ensures.width wide near factor_width factor_reach in
    let reach = near-scaled {F = 20} {G = 40} c.args.mean.ordered c.args.factor.ordered (omega arith) c.scaled_by-column.ensures.ends near factor_reach in
    narrow-scaled {F = 20} {G = 20} c.scaled_by-column.result.ordered c.args.corner.now.side.ordered (omega arith)
    (product_width (2 ^ 20) _ _ _ _ _ _ c.scaled_by-column.result.ordered c.args.corner.now.side.ordered c.mul.ensures) column reach side_width side_reach

pub returns-clause-mu_width : goal.returns-clause-mu_width
returns-clause-mu_width c w m e a v n wide near factor_width factor_reach side_width side_reach =
    let column : IsNarrow 20 (column_width w m e a) c.scaled_by-column.result.lo c.scaled_by-column.result.hi = narrow-scaled {F = 20} {G = 40}
    c.args.mean.ordered c.args.factor.ordered (omega arith) c.scaled_by-column.ensures.width wide near factor_width factor_reach in
    let reach = near-scaled {F = 20} {G = 40} c.args.mean.ordered c.args.factor.ordered (omega arith) c.scaled_by-column.ensures.ends near factor_reach in
    narrow-scaled {F = 20} {G = 20} c.scaled_by-column.result.ordered c.args.corner.now.middle.ordered (omega arith)
    (product_width (2 ^ 20) _ _ _ _ _ _ c.scaled_by-column.result.ordered c.args.corner.now.middle.ordered c.mul-2.ensures) column reach side_width side_reach
