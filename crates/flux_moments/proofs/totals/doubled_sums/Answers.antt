use Rattle.std.proofs.Common.{◌*◌, ◌^◌, sym, subst, get_or, arith}
use Rattle.exact_algebra.proofs.Fraction.{one}
use Rattle.hull_model.specs.Waterplane.{side_distance}
use Rattle.hull_polyhedron.specs.Columns.{middle}
use Rattle.plane_clip.specs.declared.part.Part.{Part}
use Rattle.plane_clip.specs.Between.{IsPartWithin}
use Rattle.flux_moments.specs.Shared.{shared_column}
use Rattle.flux_moments.proofs.ColumnSums.{sum-start, sum-allowed, sum-step, sum-end, sum-ends, all_at}
use Rattle.flux_moments.proofs.PartTotals.{IsHeld, widths-start, widths-more, widths-end, held_triangles, held-at, no_triangle}
use Rattle.flux_moments.proofs.totals.doubled_sums.Goals as goal

pub loop-part-init : goal.loop-part-init
loop-part-init c = record {
  volume = sum-start (IsHeld c.args.planes.now c.args.way.first c.args.way.last c.args.parts.now) _ 2 (7 * 2 ^ 75) (held_triangles c.args.planes.now c.args.way.first c.args.way.last c.args.parts.now) c.nothing-sums.result.volume c.nothing-sums.ensures.0;
  mx = sum-start (IsHeld c.args.planes.now c.args.way.first c.args.way.last c.args.parts.now) _ 2 (5 * 2 ^ 97) (held_triangles c.args.planes.now c.args.way.first c.args.way.last c.args.parts.now) c.nothing-sums.result.mx c.nothing-sums.ensures.1;
  mv = sum-start (IsHeld c.args.planes.now c.args.way.first c.args.way.last c.args.parts.now) _ 2 (5 * 2 ^ 95) (held_triangles c.args.planes.now c.args.way.first c.args.way.last c.args.parts.now) c.nothing-sums.result.mv c.nothing-sums.ensures.2;
  mu = sum-start (IsHeld c.args.planes.now c.args.way.first c.args.way.last c.args.parts.now) _ 4 (41 * 2 ^ 95) (held_triangles c.args.planes.now c.args.way.first c.args.way.last c.args.parts.now) c.nothing-sums.result.mu c.nothing-sums.ensures.3;
  widths = widths-start c.args.planes.now c.args.way.first c.args.way.last c.args.parts.now c.nothing-sums.result c.nothing-sums.ensures;
}

pub part_columns-requires : goal.part_columns-requires
part_columns-requires c = subst (λ (p : Part). IsPartWithin c.args.way.first c.args.way.last p) (sym c.part-item.is)
    (all_at (IsPartWithin c.args.way.first c.args.way.last) c.args.parts.now c.loop-part.part-index c.part-item.result c.loop-part-test.true c.requires.placed)

pub add-sums-requires : goal.add-sums-requires
add-sums-requires c = record {
  volume = sum-allowed (IsHeld c.args.planes.now c.args.way.first c.args.way.last c.args.parts.now) _ 2 (7 * 2 ^ 75) (held_triangles c.args.planes.now c.args.way.first c.args.way.last c.args.parts.now)
      c.loop-part.part-index c.loop-part.sums.volume c.part_columns.result.volume c.loop-part-test.true c.loop-part.invariant.volume c.part_columns.ensures.ends.volume (2 ^ 22) c.requires.few (omega arith);
  mx = sum-allowed (IsHeld c.args.planes.now c.args.way.first c.args.way.last c.args.parts.now) _ 2 (5 * 2 ^ 97) (held_triangles c.args.planes.now c.args.way.first c.args.way.last c.args.parts.now)
      c.loop-part.part-index c.loop-part.sums.mx c.part_columns.result.mx c.loop-part-test.true c.loop-part.invariant.mx c.part_columns.ensures.ends.mx (2 ^ 22) c.requires.few (omega arith);
  mv = sum-allowed (IsHeld c.args.planes.now c.args.way.first c.args.way.last c.args.parts.now) _ 2 (5 * 2 ^ 95) (held_triangles c.args.planes.now c.args.way.first c.args.way.last c.args.parts.now)
      c.loop-part.part-index c.loop-part.sums.mv c.part_columns.result.mv c.loop-part-test.true c.loop-part.invariant.mv c.part_columns.ensures.ends.mv (2 ^ 22) c.requires.few (omega arith);
  mu = sum-allowed (IsHeld c.args.planes.now c.args.way.first c.args.way.last c.args.parts.now) _ 4 (41 * 2 ^ 95) (held_triangles c.args.planes.now c.args.way.first c.args.way.last c.args.parts.now)
      c.loop-part.part-index c.loop-part.sums.mu c.part_columns.result.mu c.loop-part-test.true c.loop-part.invariant.mu c.part_columns.ensures.ends.mu (2 ^ 22) c.requires.few (omega arith);
}

pub loop-part-preserved : goal.loop-part-preserved
loop-part-preserved c = record {
  volume = sum-step (IsHeld c.args.planes.now c.args.way.first c.args.way.last c.args.parts.now) (λ h. shared_column h.plane c.args.way.first c.args.way.last (λ p. one)) 2 (7 * 2 ^ 75) (held_triangles c.args.planes.now c.args.way.first c.args.way.last c.args.parts.now)
      c.loop-part.part-index c.loop-part.sums.volume c.part_columns.result.volume c.loop-part-test.true c.loop-part.invariant.volume c.part_columns.ensures.ends.volume no_triangle c.add-sums.result.volume
      (λ h is. let u = get_or h.triangles c.loop-part.part-index no_triangle in c.part_columns.ensures.volume h.plane u.share u.at is.plane
      (held-at c.args.planes.now c.args.way.first c.args.way.last c.args.parts.now h is c.loop-part.part-index c.part-item.result c.part-item.is c.loop-part-test.true)) c.add-sums.ensures.volume;
  mx = sum-step (IsHeld c.args.planes.now c.args.way.first c.args.way.last c.args.parts.now) (λ h. shared_column h.plane c.args.way.first c.args.way.last (λ p. p.x)) 2 (5 * 2 ^ 97) (held_triangles c.args.planes.now c.args.way.first c.args.way.last c.args.parts.now)
      c.loop-part.part-index c.loop-part.sums.mx c.part_columns.result.mx c.loop-part-test.true c.loop-part.invariant.mx c.part_columns.ensures.ends.mx no_triangle c.add-sums.result.mx
      (λ h is. let u = get_or h.triangles c.loop-part.part-index no_triangle in c.part_columns.ensures.mx h.plane u.share u.at is.plane
      (held-at c.args.planes.now c.args.way.first c.args.way.last c.args.parts.now h is c.loop-part.part-index c.part-item.result c.part-item.is c.loop-part-test.true)) c.add-sums.ensures.mx;
  mv = sum-step (IsHeld c.args.planes.now c.args.way.first c.args.way.last c.args.parts.now) (λ h. shared_column h.plane c.args.way.first c.args.way.last (side_distance h.plane)) 2 (5 * 2 ^ 95) (held_triangles c.args.planes.now c.args.way.first c.args.way.last c.args.parts.now)
      c.loop-part.part-index c.loop-part.sums.mv c.part_columns.result.mv c.loop-part-test.true c.loop-part.invariant.mv c.part_columns.ensures.ends.mv no_triangle c.add-sums.result.mv
      (λ h is. let u = get_or h.triangles c.loop-part.part-index no_triangle in c.part_columns.ensures.mv h.plane u.share u.at is.plane
      (held-at c.args.planes.now c.args.way.first c.args.way.last c.args.parts.now h is c.loop-part.part-index c.part-item.result c.part-item.is c.loop-part-test.true)) c.add-sums.ensures.mv;
  mu = sum-step (IsHeld c.args.planes.now c.args.way.first c.args.way.last c.args.parts.now) (λ h. shared_column h.plane c.args.way.first c.args.way.last (middle h.plane c.args.way.first c.args.way.last)) 4 (41 * 2 ^ 95) (held_triangles c.args.planes.now c.args.way.first c.args.way.last c.args.parts.now)
      c.loop-part.part-index c.loop-part.sums.mu c.part_columns.result.mu c.loop-part-test.true c.loop-part.invariant.mu c.part_columns.ensures.ends.mu no_triangle c.add-sums.result.mu
      (λ h is. let u = get_or h.triangles c.loop-part.part-index no_triangle in c.part_columns.ensures.mu h.plane u.share u.at is.plane
      (held-at c.args.planes.now c.args.way.first c.args.way.last c.args.parts.now h is c.loop-part.part-index c.part-item.result c.part-item.is c.loop-part-test.true)) c.add-sums.ensures.mu;
  widths = widths-more c.args.planes.now c.args.way.first c.args.way.last c.args.parts.now c.loop-part.part-index c.part-item.result c.loop-part.sums c.part_columns.result c.add-sums.result
      c.loop-part-test.true c.part-item.is c.loop-part.invariant.widths c.part_columns.ensures.widths c.add-sums.ensures;
}

pub returns-clause-volume : goal.returns-clause-volume
returns-clause-volume c plane ts is held = sum-end (IsHeld c.args.planes.now c.args.way.first c.args.way.last c.args.parts.now) (λ h. shared_column h.plane c.args.way.first c.args.way.last (λ p. one)) 2 (7 * 2 ^ 75)
    (held_triangles c.args.planes.now c.args.way.first c.args.way.last c.args.parts.now) c.loop-part.part-index c.loop-part.sums.volume c.loop-part-test.false c.loop-part.invariant.volume
    (record { plane = plane; triangles = ts }) (record { plane = is; triangles = held })

pub returns-clause-mx : goal.returns-clause-mx
returns-clause-mx c plane ts is held = sum-end (IsHeld c.args.planes.now c.args.way.first c.args.way.last c.args.parts.now) (λ h. shared_column h.plane c.args.way.first c.args.way.last (λ p. p.x)) 2 (5 * 2 ^ 97)
    (held_triangles c.args.planes.now c.args.way.first c.args.way.last c.args.parts.now) c.loop-part.part-index c.loop-part.sums.mx c.loop-part-test.false c.loop-part.invariant.mx
    (record { plane = plane; triangles = ts }) (record { plane = is; triangles = held })

pub returns-clause-mv : goal.returns-clause-mv
returns-clause-mv c plane ts is held = sum-end (IsHeld c.args.planes.now c.args.way.first c.args.way.last c.args.parts.now) (λ h. shared_column h.plane c.args.way.first c.args.way.last (side_distance h.plane)) 2 (5 * 2 ^ 95)
    (held_triangles c.args.planes.now c.args.way.first c.args.way.last c.args.parts.now) c.loop-part.part-index c.loop-part.sums.mv c.loop-part-test.false c.loop-part.invariant.mv
    (record { plane = plane; triangles = ts }) (record { plane = is; triangles = held })

pub returns-clause-mu : goal.returns-clause-mu
returns-clause-mu c plane ts is held = sum-end (IsHeld c.args.planes.now c.args.way.first c.args.way.last c.args.parts.now) (λ h. shared_column h.plane c.args.way.first c.args.way.last (middle h.plane c.args.way.first c.args.way.last)) 4 (41 * 2 ^ 95)
    (held_triangles c.args.planes.now c.args.way.first c.args.way.last c.args.parts.now) c.loop-part.part-index c.loop-part.sums.mu c.loop-part-test.false c.loop-part.invariant.mu
    (record { plane = plane; triangles = ts }) (record { plane = is; triangles = held })

pub returns-clause-ends : goal.returns-clause-ends
returns-clause-ends c = record {
  volume = sum-ends (IsHeld c.args.planes.now c.args.way.first c.args.way.last c.args.parts.now) _ 2 (7 * 2 ^ 75) (held_triangles c.args.planes.now c.args.way.first c.args.way.last c.args.parts.now)
      4194303 c.loop-part.part-index c.loop-part.sums.volume (omega (arith, c.requires.few)) c.loop-part.invariant.volume;
  mx = sum-ends (IsHeld c.args.planes.now c.args.way.first c.args.way.last c.args.parts.now) _ 2 (5 * 2 ^ 97) (held_triangles c.args.planes.now c.args.way.first c.args.way.last c.args.parts.now)
      4194303 c.loop-part.part-index c.loop-part.sums.mx (omega (arith, c.requires.few)) c.loop-part.invariant.mx;
  mv = sum-ends (IsHeld c.args.planes.now c.args.way.first c.args.way.last c.args.parts.now) _ 2 (5 * 2 ^ 95) (held_triangles c.args.planes.now c.args.way.first c.args.way.last c.args.parts.now)
      4194303 c.loop-part.part-index c.loop-part.sums.mv (omega (arith, c.requires.few)) c.loop-part.invariant.mv;
  mu = sum-ends (IsHeld c.args.planes.now c.args.way.first c.args.way.last c.args.parts.now) _ 4 (41 * 2 ^ 95) (held_triangles c.args.planes.now c.args.way.first c.args.way.last c.args.parts.now)
      4194303 c.loop-part.part-index c.loop-part.sums.mu (omega (arith, c.requires.few)) c.loop-part.invariant.mu;
}

pub returns-clause-widths : goal.returns-clause-widths
returns-clause-widths c = widths-end c.args.planes.now c.args.way.first c.args.way.last c.args.parts.now c.loop-part.part-index c.loop-part.sums c.loop-part-test.false c.loop-part.invariant.widths
