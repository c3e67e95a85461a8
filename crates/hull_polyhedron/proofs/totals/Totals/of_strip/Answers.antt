use Rattle.hull_polyhedron.proofs.RunningTotals.{triangle_step, three_more}
use Rattle.hull_polyhedron.proofs.totals.Totals.of_strip.Goals as goal

pub loop-t-preserved : goal.loop-t-preserved
loop-t-preserved c = record {
  value = triangle_step c.args.triangles.now c.loop-t.t-index c.t-item.result c.loop-t.sum c.of_triangle.result c.with-sum.result _ c.loop-t-test.true c.t-item.is c.of_triangle.ensures.value c.with-sum.ensures c.loop-t.invariant.value;
  size = three_more c.loop-t.t-index c.loop-t.sum c.of_triangle.result c.with-sum.result c.with-sum.ensures c.loop-t.invariant.size c.of_triangle.ensures.size;
}
