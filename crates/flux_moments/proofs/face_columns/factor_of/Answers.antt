use Rattle.std.proofs.Common.{unsigned_abs, arith}
use Rattle.std.proofs.lemmas.Int.{to_z-of_z}
use Rattle.std.specs.Int.{w64}
use mir.Val.{SFits}
use Rattle.hull_model.proofs.Magnitudes.{fits_64}
use Rattle.outward_interval.specs.Laws.{sum_contains, negative_contains}
use Rattle.plane_clip.proofs.FaceSizes.{areas_below}
use Rattle.flux_moments.proofs.FaceAreas.{sum_within, opposite_below}
use Rattle.flux_moments.proofs.BoxWidths.{multiple-near, factor-narrow, factor-near}
use Rattle.flux_moments.proofs.face_columns.factor_of.Goals as goal

pub returns-clause-contains : goal.returns-clause-contains
returns-clause-contains c plane is =
    let small = areas_below c.args.face.now c.requires in
    let fits_y : SFits w64 c.args.face.now.ay = fits_64 _ (omega (arith, small.0)) in
    let fits_z : SFits w64 c.args.face.now.az = fits_64 _ (omega (arith, small.1)) in
    let across = simp to_z-of_z at c.times_sine-across.ensures.contains plane is.direction in
    let along = simp to_z-of_z at c.times_cosine-along.ensures.contains plane is.direction in
    negative_contains 40 _ _ _ _ _ c.neg.ensures (sum_contains 40 _ _ _ _ _ _ _ _ c.add.ensures across along)

pub times_sine-across-requires : goal.times_sine-across-requires
times_sine-across-requires c =
    let small = areas_below c.args.face.now c.requires in
    let fits : SFits w64 c.args.face.now.ay = fits_64 _ (omega (arith, small.0)) in
    simp to_z-of_z (omega (arith, small.0))

pub times_cosine-along-requires : goal.times_cosine-along-requires
times_cosine-along-requires c =
    let small = areas_below c.args.face.now c.requires in
    let fits : SFits w64 c.args.face.now.az = fits_64 _ (omega (arith, small.1)) in
    simp to_z-of_z (omega (arith, small.1))

pub add-requires : goal.add-requires
add-requires c =
    let small = areas_below c.args.face.now c.requires in
    let fits_y : SFits w64 c.args.face.now.ay = fits_64 _ (omega (arith, small.0)) in
    let fits_z : SFits w64 c.args.face.now.az = fits_64 _ (omega (arith, small.1)) in
    let across = simp to_z-of_z at c.times_sine-across.ensures.ends in
    let along = simp to_z-of_z at c.times_cosine-along.ensures.ends in (
      omega arith,
      record {
        low = omega (
          arith,
          sum_within c.times_sine-across.result.lo c.times_cosine-along.result.lo c.args.face.now.ay c.args.face.now.az small.0
              small.1 across.low along.low,
        );
        high = omega (
          arith,
          sum_within c.times_sine-across.result.hi c.times_cosine-along.result.hi c.args.face.now.ay c.args.face.now.az small.0
              small.1 across.high along.high,
        );
      },
    )

pub returns-clause-ends : goal.returns-clause-ends
returns-clause-ends c =
    let small = areas_below c.args.face.now c.requires in
    let fits_y : SFits w64 c.args.face.now.ay = fits_64 _ (omega (arith, small.0)) in
    let fits_z : SFits w64 c.args.face.now.az = fits_64 _ (omega (arith, small.1)) in
    let across = simp to_z-of_z at c.times_sine-across.ensures.ends in
    let along = simp to_z-of_z at c.times_cosine-along.ensures.ends in
    record {
      low = opposite_below c.neg.ensures.low c.add.ensures.high (sum_within c.times_sine-across.result.hi c.times_cosine-along.result.hi
          c.args.face.now.ay c.args.face.now.az small.0 small.1 across.high along.high);
      high = opposite_below c.neg.ensures.high c.add.ensures.low (sum_within c.times_sine-across.result.lo c.times_cosine-along.result.lo
          c.args.face.now.ay c.args.face.now.az small.0 small.1 across.low along.low);
    }

pub returns-clause-narrow : goal.returns-clause-narrow
returns-clause-narrow c e cosine sine =
    let small = areas_below c.args.face.now c.requires in
    let fits_y : SFits w64 c.args.face.now.ay = fits_64 _ (omega (arith, small.0)) in
    let fits_z : SFits w64 c.args.face.now.az = fits_64 _ (omega (arith, small.1)) in
    factor-narrow (unsigned_abs c.args.face.now.ay) (unsigned_abs c.args.face.now.az) e c.add.ensures c.neg.ensures
    (simp to_z-of_z at (c.times_sine-across.ensures.narrow e sine)) (simp to_z-of_z at (c.times_cosine-along.ensures.narrow e cosine))

pub returns-clause-near : goal.returns-clause-near
returns-clause-near c =
    let small = areas_below c.args.face.now c.requires in
    let fits_y : SFits w64 c.args.face.now.ay = fits_64 _ (omega (arith, small.0)) in
    let fits_z : SFits w64 c.args.face.now.az = fits_64 _ (omega (arith, small.1)) in
    factor-near (unsigned_abs c.args.face.now.ay) (unsigned_abs c.args.face.now.az) c.add.ensures c.neg.ensures
    (multiple-near c.args.face.now.ay (simp to_z-of_z at c.times_sine-across.ensures.ends))
    (multiple-near c.args.face.now.az (simp to_z-of_z at c.times_cosine-along.ensures.ends))
