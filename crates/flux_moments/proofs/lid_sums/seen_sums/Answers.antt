use Rattle.std.proofs.Common.{◌^◌, length, arith}
use Rattle.exact_algebra.proofs.Fraction.{one}
use Rattle.flux_moments.specs.Columns.{lid_part}
use Rattle.flux_moments.proofs.ColumnSums.{one_list, sum-allowed, sum-step, sum-end, sum-ends}
use Rattle.flux_moments.proofs.SeenSums.{IsLevel, lid-start, lid-more, lid-end}
use Rattle.flux_moments.proofs.lid_sums.seen_sums.Goals as goal

pub loop-face-init : goal.loop-face-init
loop-face-init c = lid-start c.args.planes.now c.args.way.first c.args.way.last c.args.faces.now c.nothing-sums.result c.nothing-sums.ensures

pub add-requires : goal.add-requires
add-requires c = (
  omega arith,
  sum-allowed (IsLevel c.args.planes.now c.args.way.first c.args.way.last c.args.faces.now) _ 2 (2 ^ 58) (one_list c.args.faces.now)
      c.loop-face.face-index c.loop-face.sums.area c.seen_part-part.result.area c.loop-face-test.true c.loop-face.invariant.area
      c.seen_part-part.ensures.area_ends (2 ^ 14) c.requires.few (omega arith),
)

pub add-requires-in-loop-face : goal.add-requires-in-loop-face
add-requires-in-loop-face c = (
  omega arith,
  sum-allowed (IsLevel c.args.planes.now c.args.way.first c.args.way.last c.args.faces.now) _ 2 (2 ^ 79)
      (one_list c.args.faces.now) c.loop-face.face-index c.loop-face.sums.sx c.seen_part-part.result.sx c.loop-face-test.true c.loop-face.invariant.sx
      c.seen_part-part.ensures.sx_ends (2 ^ 14) c.requires.few (omega arith),
)

pub add-requires-in-loop-face-2 : goal.add-requires-in-loop-face-2
add-requires-in-loop-face-2 c = (
  omega arith,
  sum-allowed (IsLevel c.args.planes.now c.args.way.first c.args.way.last c.args.faces.now) _ 2 (2 ^ 100)
      (one_list c.args.faces.now) c.loop-face.face-index c.loop-face.sums.syy c.seen_part-part.result.syy c.loop-face-test.true c.loop-face.invariant.syy
      c.seen_part-part.ensures.syy_ends (2 ^ 14) c.requires.few (omega arith),
)

pub add-requires-in-loop-face-3 : goal.add-requires-in-loop-face-3
add-requires-in-loop-face-3 c = (
  omega arith,
  sum-allowed (IsLevel c.args.planes.now c.args.way.first c.args.way.last c.args.faces.now) _ 2 (2 ^ 100)
      (one_list c.args.faces.now) c.loop-face.face-index c.loop-face.sums.sxx c.seen_part-part.result.sxx c.loop-face-test.true c.loop-face.invariant.sxx
      c.seen_part-part.ensures.sxx_ends (2 ^ 14) c.requires.few (omega arith),
)

pub loop-face-preserved : goal.loop-face-preserved
loop-face-preserved c = record {
  area = sum-step (IsLevel c.args.planes.now c.args.way.first c.args.way.last c.args.faces.now)
      (λ at. lid_part at c.args.way.first c.args.way.last (λ p. one) (λ p. one)) 2 (2 ^ 58) (one_list c.args.faces.now) c.loop-face.face-index
      c.loop-face.sums.area c.seen_part-part.result.area c.loop-face-test.true c.loop-face.invariant.area c.seen_part-part.ensures.area_ends _
      c.add.result c.seen_part-part.ensures.area c.add.ensures;
  sx = sum-step (IsLevel c.args.planes.now c.args.way.first c.args.way.last c.args.faces.now)
      (λ at. lid_part at c.args.way.first c.args.way.last (λ p. p.x) (λ p. one)) 2 (2 ^ 79) (one_list c.args.faces.now) c.loop-face.face-index
      c.loop-face.sums.sx c.seen_part-part.result.sx c.loop-face-test.true c.loop-face.invariant.sx c.seen_part-part.ensures.sx_ends _
      c.add-in-loop-face.result c.seen_part-part.ensures.sx c.add-in-loop-face.ensures;
  syy = sum-step (IsLevel c.args.planes.now c.args.way.first c.args.way.last c.args.faces.now)
      (λ at. lid_part at c.args.way.first c.args.way.last (λ p. p.y) (λ p. p.y)) 2 (2 ^ 100) (one_list c.args.faces.now) c.loop-face.face-index
      c.loop-face.sums.syy c.seen_part-part.result.syy c.loop-face-test.true c.loop-face.invariant.syy c.seen_part-part.ensures.syy_ends _
      c.add-in-loop-face-2.result c.seen_part-part.ensures.syy c.add-in-loop-face-2.ensures;
  sxx = sum-step (IsLevel c.args.planes.now c.args.way.first c.args.way.last c.args.faces.now)
      (λ at. lid_part at c.args.way.first c.args.way.last (λ p. p.x) (λ p. p.x)) 2 (2 ^ 100) (one_list c.args.faces.now) c.loop-face.face-index
      c.loop-face.sums.sxx c.seen_part-part.result.sxx c.loop-face-test.true c.loop-face.invariant.sxx c.seen_part-part.ensures.sxx_ends _
      c.add-in-loop-face-3.result c.seen_part-part.ensures.sxx c.add-in-loop-face-3.ensures;
  widths = lid-more c.args.planes.now c.args.way.first c.args.way.last c.args.faces.now c.loop-face.face-index _ c.loop-face.sums
      c.seen_part-part.result _ c.loop-face-test.true c.loop-face.invariant.widths
      c.seen_part-part.ensures.widths c.add.ensures c.add-in-loop-face.ensures c.add-in-loop-face-2.ensures c.add-in-loop-face-3.ensures;
}

pub returns-clause-area : goal.returns-clause-area
returns-clause-area c = sum-end (IsLevel c.args.planes.now c.args.way.first c.args.way.last c.args.faces.now)
    (λ at. lid_part at c.args.way.first c.args.way.last (λ p. one) (λ p. one)) 2 (2 ^ 58) (one_list c.args.faces.now) c.loop-face.face-index
    c.loop-face.sums.area c.loop-face-test.false c.loop-face.invariant.area

pub returns-clause-sx : goal.returns-clause-sx
returns-clause-sx c = sum-end (IsLevel c.args.planes.now c.args.way.first c.args.way.last c.args.faces.now)
    (λ at. lid_part at c.args.way.first c.args.way.last (λ p. p.x) (λ p. one)) 2 (2 ^ 79) (one_list c.args.faces.now) c.loop-face.face-index c.loop-face.sums.sx
    c.loop-face-test.false c.loop-face.invariant.sx

pub returns-clause-syy : goal.returns-clause-syy
returns-clause-syy c = sum-end (IsLevel c.args.planes.now c.args.way.first c.args.way.last c.args.faces.now)
    (λ at. lid_part at c.args.way.first c.args.way.last (λ p. p.y) (λ p. p.y)) 2 (2 ^ 100) (one_list c.args.faces.now) c.loop-face.face-index
    c.loop-face.sums.syy c.loop-face-test.false c.loop-face.invariant.syy

pub returns-clause-sxx : goal.returns-clause-sxx
returns-clause-sxx c = sum-end (IsLevel c.args.planes.now c.args.way.first c.args.way.last c.args.faces.now)
    (λ at. lid_part at c.args.way.first c.args.way.last (λ p. p.x) (λ p. p.x)) 2 (2 ^ 100) (one_list c.args.faces.now) c.loop-face.face-index
    c.loop-face.sums.sxx c.loop-face-test.false c.loop-face.invariant.sxx

pub returns-clause-ends : goal.returns-clause-ends
returns-clause-ends c = record {
  area = sum-ends (IsLevel c.args.planes.now c.args.way.first c.args.way.last c.args.faces.now) (λ at. lid_part at c.args.way.first c.args.way.last (λ p. one) (λ p. one)) 2 (2 ^ 58) (one_list c.args.faces.now)
      (length c.args.faces.now) c.loop-face.face-index c.loop-face.sums.area (omega arith) c.loop-face.invariant.area;
  sx = sum-ends (IsLevel c.args.planes.now c.args.way.first c.args.way.last c.args.faces.now) (λ at. lid_part at c.args.way.first c.args.way.last (λ p. p.x) (λ p. one)) 2 (2 ^ 79) (one_list c.args.faces.now)
      (length c.args.faces.now) c.loop-face.face-index c.loop-face.sums.sx (omega arith) c.loop-face.invariant.sx;
  syy = sum-ends (IsLevel c.args.planes.now c.args.way.first c.args.way.last c.args.faces.now) (λ at. lid_part at c.args.way.first c.args.way.last (λ p. p.y) (λ p. p.y)) 2 (2 ^ 100) (one_list c.args.faces.now)
      (length c.args.faces.now) c.loop-face.face-index c.loop-face.sums.syy (omega arith) c.loop-face.invariant.syy;
  sxx = sum-ends (IsLevel c.args.planes.now c.args.way.first c.args.way.last c.args.faces.now) (λ at. lid_part at c.args.way.first c.args.way.last (λ p. p.x) (λ p. p.x)) 2 (2 ^ 100) (one_list c.args.faces.now)
      (length c.args.faces.now) c.loop-face.face-index c.loop-face.sums.sxx (omega arith) c.loop-face.invariant.sxx;
}

pub returns-clause-widths : goal.returns-clause-widths
returns-clause-widths c = lid-end c.args.planes.now c.args.way.first c.args.way.last c.args.faces.now c.loop-face.face-index c.loop-face.sums
    c.loop-face-test.false c.loop-face.invariant.widths
