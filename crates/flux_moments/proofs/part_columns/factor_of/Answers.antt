use Rattle.std.proofs.Common.{◌-◌, ◌*◌, ◌^◌, ◌<◌, ◌≤◌, ℤ, ◌+ℤ◌, unsigned_abs, pos, arith}
use Rattle.exact_algebra.proofs.Fraction.{◌⊗◌}
use Rattle.hull_model.specs.FaceParts.{area_y, area_z}
use Rattle.outward_interval.specs.Laws.{sum_contains, negative_contains}
use Rattle.flux_moments.specs.Planes.{cosine, sine}
use Rattle.flux_moments.proofs.FaceAreas.{sum_within, opposite_below}
use Rattle.flux_moments.proofs.Heights.{cosine_ends, sine_ends, cosine_contained, sine_contained}
use Rattle.outward_interval.proofs.Narrow.{narrow-negative, narrow-sum, near-negative, near-sum}
use Rattle.flux_moments.specs.PartSizes.{side_area, top_area}
use Rattle.flux_moments.proofs.PartWidths.{turned-narrow, turned-near, greatest, greatest-near, greatest-ends, part-factor-narrow}
use Rattle.flux_moments.proofs.PartCorners.{in_mm, turned_fits, turned_ends}
use Rattle.flux_moments.proofs.part_columns.factor_of.Goals as goal

-- the sum of two multiples of areas
within : (x y : ℤ) → unsigned_abs x ≤ 2 ^ 40 * (2 ^ 36 - 1) → unsigned_abs y ≤ 2 ^ 40 * (2 ^ 37 - 1) → unsigned_abs (x +ℤ y) < 3 * 2 ^ 76
within x y h k = sum_within x y (pos (2 ^ 36 - 1)) (pos (2 ^ 37 - 1)) (omega arith) (omega arith) h k

pub scaled_by-across-requires : goal.scaled_by-across-requires
scaled_by-across-requires c = (omega arith, (omega arith, turned_fits ((2 ^ 36 - 1) * 2 ^ 20) (sine_ends c.args.bracket.now) c.args.part.now.ay_ends (omega arith)))

pub scaled_by-along-requires : goal.scaled_by-along-requires
scaled_by-along-requires c = (omega arith, (omega arith, turned_fits ((2 ^ 37 - 1) * 2 ^ 20) (cosine_ends c.args.bracket.now) c.args.part.now.az_ends (omega arith)))

pub add-requires : goal.add-requires
add-requires c =
    let across = in_mm (2 ^ 36 - 1) (turned_ends ((2 ^ 36 - 1) * 2 ^ 20) (sine_ends c.args.bracket.now) c.args.part.now.ay_ends c.scaled_by-across.ensures.ends) in
    let along = in_mm (2 ^ 37 - 1) (turned_ends ((2 ^ 37 - 1) * 2 ^ 20) (cosine_ends c.args.bracket.now) c.args.part.now.az_ends c.scaled_by-along.ensures.ends) in (
      omega arith,
      record {
        low = omega (arith, within c.scaled_by-across.result.lo c.scaled_by-along.result.lo across.low along.low);
        high = omega (arith, within c.scaled_by-across.result.hi c.scaled_by-along.result.hi across.high along.high);
      },
    )

pub returns-clause-ends : goal.returns-clause-ends
returns-clause-ends c =
    let across = in_mm (2 ^ 36 - 1) (turned_ends ((2 ^ 36 - 1) * 2 ^ 20) (sine_ends c.args.bracket.now) c.args.part.now.ay_ends c.scaled_by-across.ensures.ends) in
    let along = in_mm (2 ^ 37 - 1) (turned_ends ((2 ^ 37 - 1) * 2 ^ 20) (cosine_ends c.args.bracket.now) c.args.part.now.az_ends c.scaled_by-along.ensures.ends) in
    record {
      low = opposite_below c.neg.ensures.low c.add.ensures.high (within c.scaled_by-across.result.hi c.scaled_by-along.result.hi across.high along.high);
      high = opposite_below c.neg.ensures.high c.add.ensures.low (within c.scaled_by-across.result.lo c.scaled_by-along.result.lo across.low along.low);
    }

pub returns-clause-contains : goal.returns-clause-contains
returns-clause-contains c plane share t is h =
    let across = c.scaled_by-across.ensures.contains (sine plane) (area_y t ⊗ share) (sine_contained c.args.bracket.now plane is) h.ay in
    let along = c.scaled_by-along.ensures.contains (cosine plane) (area_z t ⊗ share) (cosine_contained c.args.bracket.now plane is) h.az in
    negative_contains 40 _ _ _ _ _ c.neg.ensures (sum_contains 40 _ _ _ _ _ _ _ _ c.add.ensures across along)

pub returns-clause-narrow : goal.returns-clause-narrow
returns-clause-narrow c e cosine sine ay az =
    let b = c.args.bracket.now in
    let part = c.args.part.now in
    let across = turned-narrow e (side_area part) b.s.lo b.s.hi part.ay.lo part.ay.hi c.scaled_by-across.result.lo c.scaled_by-across.result.hi
    b.s.ordered part.ay.ordered c.scaled_by-across.ensures.width (sine_ends b) sine ay (greatest-near part.ay.lo part.ay.hi) in
    let along = turned-narrow e (top_area part) b.c.lo b.c.hi part.az.lo part.az.hi c.scaled_by-along.result.lo c.scaled_by-along.result.hi
    b.c.ordered part.az.ordered c.scaled_by-along.ensures.width (cosine_ends b) cosine az (greatest-near part.az.lo part.az.hi) in
    part-factor-narrow e (side_area part) (top_area part) (narrow-negative c.neg.ensures (narrow-sum c.add.ensures across along))

pub returns-clause-near : goal.returns-clause-near
returns-clause-near c =
    let b = c.args.bracket.now in
    let part = c.args.part.now in
    let across = turned-near (greatest part.ay.lo part.ay.hi) (turned_ends (greatest part.ay.lo part.ay.hi) (sine_ends b) (greatest-ends part.ay.lo part.ay.hi) c.scaled_by-across.ensures.ends) in
    let along = turned-near (greatest part.az.lo part.az.hi) (turned_ends (greatest part.az.lo part.az.hi) (cosine_ends b) (greatest-ends part.az.lo part.az.hi) c.scaled_by-along.ensures.ends) in
    near-negative c.neg.ensures (near-sum c.add.ensures across along)
