use Rattle.std.proofs.Common.{◌^◌, sym, subst, arith}
use Rattle.exact_algebra.proofs.Fraction.{one}
use Rattle.exact_algebra.proofs.Whole.{whole}
use Rattle.plane_clip.specs.declared.part.Part.{Part}
use Rattle.plane_clip.specs.Between.{IsPartWithin}
use Rattle.flux_moments.specs.PartSizes.{part_area, part_volume, part_length}
use Rattle.flux_moments.specs.Shared.{shared_column}
use Rattle.flux_moments.specs.Sizes.{spread}
use Rattle.flux_moments.proofs.ColumnSums.{sum-end, sum-ends, narrow-end, all_at}
use Rattle.flux_moments.proofs.PartTotals.{IsHeld, held_triangles}
use Rattle.compartment_loss.proofs.UprightPartSums.{parts-start, parts-more, volume-allowed}
use Rattle.compartment_loss.proofs.upright_part.part_column_sums.Goals as goal

pub loop-part-init : goal.loop-part-init
loop-part-init c = (
  record { near = c.start-known.ensures.near; far = c.start-known.ensures.far },
  parts-start c.args.planes.now c.args.way.first c.args.way.last c.args.parts.now c.nothing-sums.result c.nothing-sums.ensures.volume c.nothing-sums.ensures.mx,
)

pub part_column-column-requires-clause-within : goal.part_column-column-requires-clause-within
part_column-column-requires-clause-within c = subst (λ (p : Part). IsPartWithin c.args.way.first c.args.way.last p) (sym c.part-item.is)
    (all_at (IsPartWithin c.args.way.first c.args.way.last) c.args.parts.now c.loop-part.part-index c.part-item.result c.loop-part-test.true c.requires.placed)

pub add-requires : goal.add-requires
add-requires c = (
  omega arith,
  volume-allowed c.args.planes.now c.args.way.first c.args.way.last c.args.parts.now c.loop-part.part-index c.loop-part.sums c.part_column-column.result.wet c.loop-part-test.true c.loop-part.invariant.1
      c.part_column-column.ensures.volume_ends c.part_column-column.ensures.mx_ends c.requires.few,
)

pub loop-part-preserved : goal.loop-part-preserved
loop-part-preserved c =
    let column = c.part_column-column in (
      record { near = column.ensures.near; far = column.ensures.far },
      parts-more c.args.planes.now c.args.way.first c.args.way.last c.args.parts.now c.loop-part.part-index c.loop-part.sums column.result.wet
          c.loop-part-test.true c.loop-part.invariant.1 column.ensures.volume_ends column.ensures.mx_ends c.part-item.result (record { volume = c.add.result; mx = c.add-in-loop-part.result }) c.part-item.is
          column.ensures.volume column.ensures.mx column.ensures.volume_width column.ensures.mx_width c.add.ensures c.add-in-loop-part.ensures,
    )

pub returns-clause-volume : goal.returns-clause-volume
returns-clause-volume c plane ts is held = sum-end (IsHeld c.args.planes.now c.args.way.first c.args.way.last c.args.parts.now) (λ h. shared_column h.plane c.args.way.first c.args.way.last (λ p. one)) 2 (2 ^ 79)
    (held_triangles c.args.planes.now c.args.way.first c.args.way.last c.args.parts.now) c.loop-part.part-index c.loop-part.sums.volume c.loop-part-test.false c.loop-part.invariant.1.volume
    (record { plane = plane; triangles = ts }) (record { plane = is; triangles = held })

pub returns-clause-mx : goal.returns-clause-mx
returns-clause-mx c plane ts is held = sum-end (IsHeld c.args.planes.now c.args.way.first c.args.way.last c.args.parts.now) (λ h. shared_column h.plane c.args.way.first c.args.way.last (λ p. p.x)) 2 (2 ^ 99)
    (held_triangles c.args.planes.now c.args.way.first c.args.way.last c.args.parts.now) c.loop-part.part-index c.loop-part.sums.mx c.loop-part-test.false c.loop-part.invariant.1.mx
    (record { plane = plane; triangles = ts }) (record { plane = is; triangles = held })

pub returns-clause-volume_ends : goal.returns-clause-volume_ends
returns-clause-volume_ends c = sum-ends (IsHeld c.args.planes.now c.args.way.first c.args.way.last c.args.parts.now) _ 2 (2 ^ 79) (held_triangles c.args.planes.now c.args.way.first c.args.way.last c.args.parts.now)
    4194303 c.loop-part.part-index c.loop-part.sums.volume (omega (arith, c.requires.few)) c.loop-part.invariant.1.volume

pub returns-clause-mx_ends : goal.returns-clause-mx_ends
returns-clause-mx_ends c = sum-ends (IsHeld c.args.planes.now c.args.way.first c.args.way.last c.args.parts.now) _ 2 (2 ^ 99) (held_triangles c.args.planes.now c.args.way.first c.args.way.last c.args.parts.now)
    4194303 c.loop-part.part-index c.loop-part.sums.mx (omega (arith, c.requires.few)) c.loop-part.invariant.1.mx

pub returns-clause-volume_width : goal.returns-clause-volume_width
returns-clause-volume_width c b h y z are = narrow-end (λ p. part_volume h (spread b h) (part_area p)) c.args.parts.now c.loop-part.part-index c.loop-part.sums.volume
    c.loop-part-test.false (c.loop-part.invariant.1.volume_width b h y z are)

pub returns-clause-mx_width : goal.returns-clause-mx_width
returns-clause-mx_width c b h y z are = narrow-end (λ p. part_length (whole c.args.way.last) h (spread b h) (part_area p)) c.args.parts.now c.loop-part.part-index c.loop-part.sums.mx
    c.loop-part-test.false (c.loop-part.invariant.1.mx_width b h y z are)
