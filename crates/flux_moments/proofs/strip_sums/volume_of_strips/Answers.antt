use Rattle.std.proofs.Common.{subst, ℕ, ◌<◌, arith}
use Rattle.outward_interval.specs.Widths.{IsNarrow}
use Rattle.hull_polyhedron.specs.StripsOf.{strip_count, faces_to, sum_to}
use Rattle.hull_polyhedron.proofs.StripsOfHull.{hull_by_strips}
use Rattle.flux_moments.specs.Limits.{EndsAtMost}
use Rattle.flux_moments.specs.Sizes.{doubled_area, spread, volume_part}
use Rattle.flux_moments.specs.StripSizes.{most_volume, width_of}
use Rattle.flux_moments.specs.Widths.{size_of, reach_of}
use Rattle.flux_moments.proofs.StripLoops.{open_volume, volume-start, volume-fits, volume-more, held, counted, volume_at}
use Rattle.flux_moments.proofs.strip_sums.volume_of_strips.Goals as goal

pub loop-n-init : goal.loop-n-init
loop-n-init c = volume-start c.args.faces.now c.args.planes.now c.nothing-sum.result c.strips-n-end.ensures.count c.nothing-sum.ensures

pub add-sum-requires : goal.add-sum-requires
add-sum-requires c =
    let less : c.loop-n.n < strip_count c.args.faces.now = omega (arith, c.loop-n-test.true, c.loop-n.invariant.all) in (
      omega arith,
      volume-fits c.args.faces.now c.args.planes.now c.loop-n.n c.volume_of_strip.ensures.few less (omega (arith, c.strips-n-end.ensures.few, c.loop-n.invariant.all))
          c.loop-n.sum c.volume_of_strip.result c.loop-n.invariant c.volume_of_strip.ensures.ends,
    )

pub loop-n-preserved : goal.loop-n-preserved
loop-n-preserved c =
    let less : c.loop-n.n < strip_count c.args.faces.now = omega (arith, c.loop-n-test.true, c.loop-n.invariant.all) in
    volume-more c.args.faces.now c.args.planes.now c.loop-n.n c.volume_of_strip.ensures.few less (omega (arith, c.strips-n-end.ensures.few, c.loop-n.invariant.all))
    c.loop-n.sum c.volume_of_strip.result c.loop-n.invariant c.volume_of_strip.ensures.ends c.add-sum.result
    (λ i at. c.volume_of_strip.ensures.volume i.stations at.hull at.are i.plane at.is) c.volume_of_strip.ensures.width c.volume_of_strip.ensures.clear c.add-sum.ensures

pub returns-clause-ends : goal.returns-clause-ends
returns-clause-ends c = subst (λ (n : ℕ). EndsAtMost (most_volume (faces_to c.args.faces.now n) n) c.loop-n.sum.lo c.loop-n.sum.hi)
    (counted c.args.faces.now c.args.planes.now c.loop-n.n c.loop-n.sum c.loop-n.invariant.all c.loop-n-test.false c.loop-n.invariant.volume) c.loop-n.invariant.ends

pub returns-clause-volume : goal.returns-clause-volume
returns-clause-volume c stations hull are plane is = held c.args.faces.now c.args.planes.now volume_at 2 c.loop-n.n c.loop-n.sum c.loop-n.invariant.all c.loop-n-test.false
    c.loop-n.invariant.volume (record { stations = stations; plane = plane }) (record { hull = hull; are = are; is = is }) (hull_by_strips plane stations).volume

pub returns-clause-width : goal.returns-clause-width
returns-clause-width c = subst (λ (n : ℕ). IsNarrow 20 (width_of (λ g. sum_to c.args.faces.now g n) n
    (λ f. volume_part (spread (size_of c.args.planes.now) (reach_of c.args.faces.now c.args.planes.now)) (doubled_area f))) c.loop-n.sum.lo c.loop-n.sum.hi)
    (counted c.args.faces.now c.args.planes.now c.loop-n.n c.loop-n.sum c.loop-n.invariant.all c.loop-n-test.false c.loop-n.invariant.volume) c.loop-n.invariant.width

pub returns-clause-sharp : goal.returns-clause-sharp
returns-clause-sharp c chosen clear = subst (λ (n : ℕ). IsNarrow 20 (open_volume c.args.faces.now c.args.planes.now chosen n) c.loop-n.sum.lo c.loop-n.sum.hi)
    (counted c.args.faces.now c.args.planes.now c.loop-n.n c.loop-n.sum c.loop-n.invariant.all c.loop-n-test.false c.loop-n.invariant.volume) (c.loop-n.invariant.sharp chosen clear)
