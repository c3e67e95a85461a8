use Rattle.std.proofs.Common.{◌<◌, ◌≤◌, ◌^◌, arith}
use Rattle.hull_polyhedron.specs.StripsOf.{strip_count}
use Rattle.hull_polyhedron.proofs.StripsOfHull.{lid_by_strips}
use Rattle.flux_moments.proofs.StripLidLoops.{lids-start, lid-fits, lid-step, lid-ends, lid-widths, lid-held, all-lid-ends, all-lid-widths, area_at, sx_at, syy_at, sxx_at}
use Rattle.flux_moments.proofs.lid_sums.lids_of_strips.Goals as goal

pub loop-n-init : goal.loop-n-init
loop-n-init c = lids-start c.args.faces.now c.args.planes.now c.nothing-sums.result c.strips-n-end.ensures.count c.nothing-sums.ensures

pub add-requires : goal.add-requires
add-requires c =
    let less : c.loop-n.n < strip_count c.args.faces.now = omega (arith, c.loop-n-test.true, c.loop-n.invariant.all) in
    let bounded : strip_count c.args.faces.now ≤ 63 = omega (arith, c.strips-n-end.ensures.few, c.loop-n.invariant.all) in (
      omega arith,
      lid-fits c.args.faces.now c.args.planes.now c.loop-n.n c.lid_of_strip-part.ensures.few less bounded area_at (2 ^ 58) (omega arith)
          c.loop-n.sums.area c.lid_of_strip-part.result.area c.loop-n.invariant.area c.lid_of_strip-part.ensures.ends.area,
    )

pub add-requires-in-loop-n : goal.add-requires-in-loop-n
add-requires-in-loop-n c =
    let less : c.loop-n.n < strip_count c.args.faces.now = omega (arith, c.loop-n-test.true, c.loop-n.invariant.all) in
    let bounded : strip_count c.args.faces.now ≤ 63 = omega (arith, c.strips-n-end.ensures.few, c.loop-n.invariant.all) in (
      omega arith,
      lid-fits c.args.faces.now c.args.planes.now c.loop-n.n c.lid_of_strip-part.ensures.few less bounded sx_at (2 ^ 79) (omega arith)
          c.loop-n.sums.sx c.lid_of_strip-part.result.sx c.loop-n.invariant.sx c.lid_of_strip-part.ensures.ends.sx,
    )

pub add-requires-in-loop-n-2 : goal.add-requires-in-loop-n-2
add-requires-in-loop-n-2 c =
    let less : c.loop-n.n < strip_count c.args.faces.now = omega (arith, c.loop-n-test.true, c.loop-n.invariant.all) in
    let bounded : strip_count c.args.faces.now ≤ 63 = omega (arith, c.strips-n-end.ensures.few, c.loop-n.invariant.all) in (
      omega arith,
      lid-fits c.args.faces.now c.args.planes.now c.loop-n.n c.lid_of_strip-part.ensures.few less bounded syy_at (2 ^ 100) (omega arith)
          c.loop-n.sums.syy c.lid_of_strip-part.result.syy c.loop-n.invariant.syy c.lid_of_strip-part.ensures.ends.syy,
    )

pub add-requires-in-loop-n-3 : goal.add-requires-in-loop-n-3
add-requires-in-loop-n-3 c =
    let less : c.loop-n.n < strip_count c.args.faces.now = omega (arith, c.loop-n-test.true, c.loop-n.invariant.all) in
    let bounded : strip_count c.args.faces.now ≤ 63 = omega (arith, c.strips-n-end.ensures.few, c.loop-n.invariant.all) in (
      omega arith,
      lid-fits c.args.faces.now c.args.planes.now c.loop-n.n c.lid_of_strip-part.ensures.few less bounded sxx_at (2 ^ 100) (omega arith)
          c.loop-n.sums.sxx c.lid_of_strip-part.result.sxx c.loop-n.invariant.sxx c.lid_of_strip-part.ensures.ends.sxx,
    )

pub loop-n-preserved : goal.loop-n-preserved
loop-n-preserved c =
    let less : c.loop-n.n < strip_count c.args.faces.now = omega (arith, c.loop-n-test.true, c.loop-n.invariant.all) in
    let bounded : strip_count c.args.faces.now ≤ 63 = omega (arith, c.strips-n-end.ensures.few, c.loop-n.invariant.all) in
    record {
      all = c.loop-n.invariant.all;
      area = lid-step c.args.faces.now c.args.planes.now c.loop-n.n c.lid_of_strip-part.ensures.few less bounded area_at (2 ^ 58) (omega arith)
          c.loop-n.sums.area c.lid_of_strip-part.result.area c.loop-n.invariant.area c.lid_of_strip-part.ensures.ends.area c.add.result
          (λ i at. c.lid_of_strip-part.ensures.area i.stations at.hull at.are i.at at.is) c.add.ensures;
      sx = lid-step c.args.faces.now c.args.planes.now c.loop-n.n c.lid_of_strip-part.ensures.few less bounded sx_at (2 ^ 79) (omega arith)
          c.loop-n.sums.sx c.lid_of_strip-part.result.sx c.loop-n.invariant.sx c.lid_of_strip-part.ensures.ends.sx c.add-in-loop-n.result
          (λ i at. c.lid_of_strip-part.ensures.sx i.stations at.hull at.are i.at at.is) c.add-in-loop-n.ensures;
      syy = lid-step c.args.faces.now c.args.planes.now c.loop-n.n c.lid_of_strip-part.ensures.few less bounded syy_at (2 ^ 100) (omega arith)
          c.loop-n.sums.syy c.lid_of_strip-part.result.syy c.loop-n.invariant.syy c.lid_of_strip-part.ensures.ends.syy c.add-in-loop-n-2.result
          (λ i at. c.lid_of_strip-part.ensures.syy i.stations at.hull at.are i.at at.is) c.add-in-loop-n-2.ensures;
      sxx = lid-step c.args.faces.now c.args.planes.now c.loop-n.n c.lid_of_strip-part.ensures.few less bounded sxx_at (2 ^ 100) (omega arith)
          c.loop-n.sums.sxx c.lid_of_strip-part.result.sxx c.loop-n.invariant.sxx c.lid_of_strip-part.ensures.ends.sxx c.add-in-loop-n-3.result
          (λ i at. c.lid_of_strip-part.ensures.sxx i.stations at.hull at.are i.at at.is) c.add-in-loop-n-3.ensures;
      ends = record {
        area = lid-ends c.args.faces.now c.args.planes.now c.loop-n.n c.lid_of_strip-part.ensures.few less bounded (2 ^ 58) c.loop-n.invariant.ends.area c.lid_of_strip-part.ensures.ends.area c.add.ensures;
        sx = lid-ends c.args.faces.now c.args.planes.now c.loop-n.n c.lid_of_strip-part.ensures.few less bounded (2 ^ 79) c.loop-n.invariant.ends.sx c.lid_of_strip-part.ensures.ends.sx c.add-in-loop-n.ensures;
        syy = lid-ends c.args.faces.now c.args.planes.now c.loop-n.n c.lid_of_strip-part.ensures.few less bounded (2 ^ 100) c.loop-n.invariant.ends.syy c.lid_of_strip-part.ensures.ends.syy c.add-in-loop-n-2.ensures;
        sxx = lid-ends c.args.faces.now c.args.planes.now c.loop-n.n c.lid_of_strip-part.ensures.few less bounded (2 ^ 100) c.loop-n.invariant.ends.sxx c.lid_of_strip-part.ensures.ends.sxx c.add-in-loop-n-3.ensures;
      };
      widths = lid-widths c.args.faces.now c.args.planes.now c.loop-n.n c.lid_of_strip-part.ensures.few less bounded c.loop-n.sums c.lid_of_strip-part.result _
          c.loop-n.invariant.widths c.lid_of_strip-part.ensures.widths c.add.ensures c.add-in-loop-n.ensures c.add-in-loop-n-2.ensures c.add-in-loop-n-3.ensures;
    }

pub returns-clause-area : goal.returns-clause-area
returns-clause-area c stations hull are at is = lid-held c.args.faces.now c.args.planes.now area_at c.loop-n.n c.loop-n.sums.area c.loop-n.invariant.all c.loop-n-test.false
    c.loop-n.invariant.area (record { stations = stations; at = at }) (record { hull = hull; are = are; is = is }) (lid_by_strips at stations).area

pub returns-clause-sx : goal.returns-clause-sx
returns-clause-sx c stations hull are at is = lid-held c.args.faces.now c.args.planes.now sx_at c.loop-n.n c.loop-n.sums.sx c.loop-n.invariant.all c.loop-n-test.false
    c.loop-n.invariant.sx (record { stations = stations; at = at }) (record { hull = hull; are = are; is = is }) (lid_by_strips at stations).x

pub returns-clause-syy : goal.returns-clause-syy
returns-clause-syy c stations hull are at is = lid-held c.args.faces.now c.args.planes.now syy_at c.loop-n.n c.loop-n.sums.syy c.loop-n.invariant.all c.loop-n-test.false
    c.loop-n.invariant.syy (record { stations = stations; at = at }) (record { hull = hull; are = are; is = is }) (lid_by_strips at stations).yy

pub returns-clause-sxx : goal.returns-clause-sxx
returns-clause-sxx c stations hull are at is = lid-held c.args.faces.now c.args.planes.now sxx_at c.loop-n.n c.loop-n.sums.sxx c.loop-n.invariant.all c.loop-n-test.false
    c.loop-n.invariant.sxx (record { stations = stations; at = at }) (record { hull = hull; are = are; is = is }) (lid_by_strips at stations).xx

pub returns-clause-ends : goal.returns-clause-ends
returns-clause-ends c = all-lid-ends c.args.faces.now c.args.planes.now c.loop-n.n c.loop-n.sums c.loop-n-test.false c.loop-n.invariant c.strips-n-end.ensures.apart

pub returns-clause-widths : goal.returns-clause-widths
returns-clause-widths c d1 d2 order level = all-lid-widths c.args.faces.now c.args.planes.now c.loop-n.n c.loop-n.sums c.loop-n-test.false c.loop-n.invariant
    c.strips-n-end.ensures.apart d1 d2 order level
