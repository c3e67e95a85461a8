use Rattle.std.proofs.Common.{refl, ◌-ℤ◌, ◌^◌, unsigned_abs, arith, subst}
use Rattle.std.proofs.lemmas.Int.{ints, to_z-of_z}
use Rattle.std.specs.Int.{w128}
use mir.Val.{SFits}
use Rattle.exact_algebra.proofs.Fraction.{Fraction, ◌⊕◌, ◌⊗◌}
use Rattle.exact_algebra.proofs.Span.{ContainsFraction}
use Rattle.exact_algebra.proofs.Whole.{whole}
use Rattle.hull_model.proofs.Magnitudes.{fits_128}
use Rattle.outward_interval.specs.Laws.{sum_contains}
use Rattle.plane_clip.proofs.Portions.{mixed-value, times_ends, times_fit, sum_ends, sum_fits, rounded_ends, thin-times, thin-sum, thin-over}
use Rattle.plane_clip.proofs.parts.mixed.Goals as goal

pub times_whole-before-requires : goal.times_whole-before-requires
times_whole-before-requires c =
    let n : SFits w128 c.args.n = c.ranges.n in
    let d : SFits w128 c.args.d = c.ranges.d in
    let rest : SFits w128 (c.args.d -ℤ c.args.n) = fits_128 _ (omega (arith, ints, c.requires.part.0, c.requires.part.1, c.requires.whole.1)) in
    (omega arith, simp to_z-of_z (times_fit (2 ^ 36) (2 ^ 20) c.args.first.lo c.args.first.hi (c.args.d -ℤ c.args.n) c.requires.first.low c.requires.first.high (omega (arith, ints, c.requires.part.0, c.requires.part.1, c.requires.whole.1)) (omega arith)))

pub times_whole-behind-requires : goal.times_whole-behind-requires
times_whole-behind-requires c =
    let n : SFits w128 c.args.n = c.ranges.n in
    (omega arith, simp to_z-of_z (times_fit (2 ^ 36) (2 ^ 20) c.args.second.lo c.args.second.hi c.args.n c.requires.second.low c.requires.second.high (omega (arith, ints, c.requires.part.0, c.requires.part.1, c.requires.whole.1)) (omega arith)))

pub returns-clause-contains : goal.returns-clause-contains
returns-clause-contains c x y h k =
    let n : SFits w128 c.args.n = c.ranges.n in
    let d : SFits w128 c.args.d = c.ranges.d in
    let rest : SFits w128 (c.args.d -ℤ c.args.n) = fits_128 _ (omega (arith, ints, c.requires.part.0, c.requires.part.1, c.requires.whole.1)) in
    let before = simp to_z-of_z at c.times_whole-before.ensures.contains in
    let behind = simp to_z-of_z at c.times_whole-behind.ensures.contains in
    let quotient = simp to_z-of_z at c.over_whole.ensures.contains in
    subst (λ (z : Fraction). ContainsFraction 20 c.over_whole.result.lo c.over_whole.result.hi z) (mixed-value x y c.args.n c.args.d c.requires.whole.0)
    (quotient (x ⊗ whole (c.args.d -ℤ c.args.n) ⊕ y ⊗ whole c.args.n) (sum_contains 20 _ _ _ _ _ _ (x ⊗ whole (c.args.d -ℤ c.args.n)) (y ⊗ whole c.args.n) c.add.ensures (before x h) (behind y k)))

pub add-requires : goal.add-requires
add-requires c =
    let n : SFits w128 c.args.n = c.ranges.n in
    let d : SFits w128 c.args.d = c.ranges.d in
    let rest : SFits w128 (c.args.d -ℤ c.args.n) = fits_128 _ (omega (arith, ints, c.requires.part.0, c.requires.part.1, c.requires.whole.1)) in
    let before = times_ends (2 ^ 36) c.args.first.lo c.args.first.hi (c.args.d -ℤ c.args.n) c.times_whole-before.result.lo c.times_whole-before.result.hi c.requires.first.low c.requires.first.high (simp to_z-of_z at c.times_whole-before.ensures.ends) in
    let behind = times_ends (2 ^ 36) c.args.second.lo c.args.second.hi c.args.n c.times_whole-behind.result.lo c.times_whole-behind.result.hi c.requires.second.low c.requires.second.high (simp to_z-of_z at c.times_whole-behind.ensures.ends) in (
      omega arith,
      sum_fits (2 ^ 36) (2 ^ 20) (unsigned_abs c.args.d) _ _
          (sum_ends (2 ^ 36) c.args.n c.args.d c.times_whole-before.result.lo c.times_whole-before.result.hi c.times_whole-behind.result.lo c.times_whole-behind.result.hi _ _ c.requires.part.0 c.requires.part.1 before behind (record { low = refl; high = refl }))
          (omega (arith, ints, c.requires.whole.0, c.requires.whole.1)) (omega arith),
    )

pub returns-clause-ends : goal.returns-clause-ends
returns-clause-ends c most h i =
    let n : SFits w128 c.args.n = c.ranges.n in
    let d : SFits w128 c.args.d = c.ranges.d in
    let rest : SFits w128 (c.args.d -ℤ c.args.n) = fits_128 _ (omega (arith, ints, c.requires.part.0, c.requires.part.1, c.requires.whole.1)) in
    let before = times_ends most c.args.first.lo c.args.first.hi (c.args.d -ℤ c.args.n) c.times_whole-before.result.lo c.times_whole-before.result.hi h.low h.high (simp to_z-of_z at c.times_whole-before.ensures.ends) in
    let behind = times_ends most c.args.second.lo c.args.second.hi c.args.n c.times_whole-behind.result.lo c.times_whole-behind.result.hi i.low i.high (simp to_z-of_z at c.times_whole-behind.ensures.ends) in
    let sum = sum_ends most c.args.n c.args.d c.times_whole-before.result.lo c.times_whole-before.result.hi c.times_whole-behind.result.lo c.times_whole-behind.result.hi c.add.result.lo c.add.result.hi c.requires.part.0 c.requires.part.1 before behind c.add.ensures in
    let quotient = rounded_ends most c.add.result.lo c.add.result.hi c.args.d c.over_whole.result.lo c.over_whole.result.hi c.requires.whole.0 sum.0 sum.1 (simp to_z-of_z at c.over_whole.ensures.ends) in
    record { low = quotient.0; high = quotient.1 }

pub returns-clause-thin : goal.returns-clause-thin
returns-clause-thin c k h i =
    let n : SFits w128 c.args.n = c.ranges.n in
    let d : SFits w128 c.args.d = c.ranges.d in
    let rest : SFits w128 (c.args.d -ℤ c.args.n) = fits_128 _ (omega (arith, ints, c.requires.part.0, c.requires.part.1, c.requires.whole.1)) in
    let before = thin-times k (c.args.d -ℤ c.args.n) c.args.first.lo c.args.first.hi c.times_whole-before.result.lo c.times_whole-before.result.hi c.args.first.ordered h (simp to_z-of_z at c.times_whole-before.ensures.width) in
    let behind = thin-times k c.args.n c.args.second.lo c.args.second.hi c.times_whole-behind.result.lo c.times_whole-behind.result.hi c.args.second.ordered i (simp to_z-of_z at c.times_whole-behind.ensures.width) in
    thin-over k c.args.d c.add.result.lo c.add.result.hi c.over_whole.result.lo c.over_whole.result.hi c.requires.whole.0
    (thin-sum k c.args.n c.args.d c.times_whole-before.result.lo c.times_whole-before.result.hi c.times_whole-behind.result.lo c.times_whole-behind.result.hi c.add.result.lo c.add.result.hi c.requires.part.0 c.requires.part.1 before behind c.add.ensures) (simp to_z-of_z at c.over_whole.ensures.ends)
