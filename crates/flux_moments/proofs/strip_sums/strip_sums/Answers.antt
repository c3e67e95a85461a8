use Rattle.outward_interval.specs.Widths.{IsNarrow}
use Rattle.std.proofs.Common.{subst, ℕ, ◌<◌, arith}
use Rattle.exact_algebra.proofs.Whole.{whole}
use Rattle.hull_polyhedron.specs.StripsOf.{strip_count, faces_to, sum_to}
use Rattle.hull_polyhedron.proofs.StripsOfHull.{hull_by_strips}
use Rattle.flux_moments.specs.Sizes.{spread}
use Rattle.flux_moments.specs.StripSizes.{AreStripEnds, AreStripWidths}
use Rattle.flux_moments.specs.Widths.{size_of, reach_of}
use Rattle.flux_moments.proofs.StripLoops.{open_volume, open_length, strips-start, strips-fit, strips-more, held, counted, volume_at, mx_at, mv_at, mu_at}
use Rattle.flux_moments.proofs.strip_sums.strip_sums.Goals as goal

pub loop-n-init : goal.loop-n-init
loop-n-init c = strips-start c.args.faces.now c.args.planes.now c.nothing-sums.result c.strips-n-end.ensures.count c.nothing-sums.ensures

pub add-sums-requires : goal.add-sums-requires
add-sums-requires c =
    let less : c.loop-n.n < strip_count c.args.faces.now = omega (arith, c.loop-n-test.true, c.loop-n.invariant.all) in
    strips-fit c.args.faces.now c.args.planes.now c.loop-n.n c.strip_sum.ensures.few less (omega (arith, c.strips-n-end.ensures.few, c.loop-n.invariant.all))
    c.loop-n.sums c.strip_sum.result c.loop-n.invariant c.strip_sum.ensures.ends

pub loop-n-preserved : goal.loop-n-preserved
loop-n-preserved c =
    let less : c.loop-n.n < strip_count c.args.faces.now = omega (arith, c.loop-n-test.true, c.loop-n.invariant.all) in
    strips-more c.args.faces.now c.args.planes.now c.loop-n.n c.strip_sum.ensures.few less (omega (arith, c.strips-n-end.ensures.few, c.loop-n.invariant.all))
    c.loop-n.sums c.strip_sum.result c.loop-n.invariant c.strip_sum.ensures.ends c.add-sums.result
    (λ i at. c.strip_sum.ensures.volume i.stations at.hull at.are i.plane at.is) (λ i at. c.strip_sum.ensures.mx i.stations at.hull at.are i.plane at.is)
    (λ i at. c.strip_sum.ensures.mv i.stations at.hull at.are i.plane at.is) (λ i at. c.strip_sum.ensures.mu i.stations at.hull at.are i.plane at.is)
    c.strip_sum.ensures.widths c.strip_sum.ensures.clear c.add-sums.ensures

pub returns-clause-volume : goal.returns-clause-volume
returns-clause-volume c stations hull are plane is = held c.args.faces.now c.args.planes.now volume_at 2 c.loop-n.n c.loop-n.sums.volume c.loop-n.invariant.all c.loop-n-test.false
    c.loop-n.invariant.volume (record { stations = stations; plane = plane }) (record { hull = hull; are = are; is = is }) (hull_by_strips plane stations).volume

pub returns-clause-mx : goal.returns-clause-mx
returns-clause-mx c stations hull are plane is = held c.args.faces.now c.args.planes.now mx_at 2 c.loop-n.n c.loop-n.sums.mx c.loop-n.invariant.all c.loop-n-test.false
    c.loop-n.invariant.mx (record { stations = stations; plane = plane }) (record { hull = hull; are = are; is = is }) (hull_by_strips plane stations).mx

pub returns-clause-mv : goal.returns-clause-mv
returns-clause-mv c stations hull are plane is = held c.args.faces.now c.args.planes.now mv_at 2 c.loop-n.n c.loop-n.sums.mv c.loop-n.invariant.all c.loop-n-test.false
    c.loop-n.invariant.mv (record { stations = stations; plane = plane }) (record { hull = hull; are = are; is = is }) (hull_by_strips plane stations).mv

pub returns-clause-mu : goal.returns-clause-mu
returns-clause-mu c stations hull are plane is = held c.args.faces.now c.args.planes.now mu_at 4 c.loop-n.n c.loop-n.sums.mu c.loop-n.invariant.all c.loop-n-test.false
    c.loop-n.invariant.mu (record { stations = stations; plane = plane }) (record { hull = hull; are = are; is = is }) (hull_by_strips plane stations).mu

pub returns-clause-ends : goal.returns-clause-ends
returns-clause-ends c = subst (λ (n : ℕ). AreStripEnds (faces_to c.args.faces.now n) n c.loop-n.sums)
    (counted c.args.faces.now c.args.planes.now c.loop-n.n c.loop-n.sums.volume c.loop-n.invariant.all c.loop-n-test.false c.loop-n.invariant.volume) c.loop-n.invariant.ends

pub returns-clause-widths : goal.returns-clause-widths
returns-clause-widths c = subst (λ (n : ℕ). AreStripWidths (λ g. sum_to c.args.faces.now g n) n (whole c.args.faces.now.last_x) (reach_of c.args.faces.now c.args.planes.now)
    (spread (size_of c.args.planes.now) (reach_of c.args.faces.now c.args.planes.now)) c.loop-n.sums)
    (counted c.args.faces.now c.args.planes.now c.loop-n.n c.loop-n.sums.volume c.loop-n.invariant.all c.loop-n-test.false c.loop-n.invariant.volume) c.loop-n.invariant.widths

pub returns-clause-sharp : goal.returns-clause-sharp
returns-clause-sharp c chosen clear = subst (λ (n : ℕ). IsNarrow 20 (open_volume c.args.faces.now c.args.planes.now chosen n) c.loop-n.sums.volume.lo c.loop-n.sums.volume.hi
    × IsNarrow 20 (open_length c.args.faces.now c.args.planes.now chosen n) c.loop-n.sums.mx.lo c.loop-n.sums.mx.hi)
    (counted c.args.faces.now c.args.planes.now c.loop-n.n c.loop-n.sums.volume c.loop-n.invariant.all c.loop-n-test.false c.loop-n.invariant.volume) (c.loop-n.invariant.sharp chosen clear)
