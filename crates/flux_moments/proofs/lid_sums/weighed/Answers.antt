use Rattle.std.proofs.Common.{ℤ, ◌≡◌, ◌∙◌, sym, ◌^◌, ◌<◌, unsigned_abs, subst}
use Rattle.std.proofs.lemmas.Int.{to_z-of_z}
use Rattle.std.specs.Int.{w64, w128}
use mir.Val.{SFits}
use Rattle.exact_algebra.proofs.Fraction.{◌⊗◌}
use Rattle.exact_algebra.proofs.Span.{ContainsFraction}
use Rattle.exact_algebra.proofs.Whole.{whole}
use Rattle.flux_moments.proofs.ProductEnds.{less, multiple_ends}
use Rattle.outward_interval.proofs.Narrow.{narrow-multiple}
use Rattle.flux_moments.proofs.lid_sums.weighed.Goals as goal

pub returns-clause-ends : goal.returns-clause-ends
returns-clause-ends c most small =
    let weight : SFits w64 c.args.weight = c.ranges.weight in
    let wide : SFits w128 c.from.result = record { sfits = c.from.type_inv } in
    let same : c.from.result ≡ c.args.weight = c.from.ensures ∙ to_z-of_z w64 c.args.weight weight in
    multiple_ends (2 ^ 41) most c.from.result (less 41 c.requires.mean) (subst (λ (z : ℤ). unsigned_abs z < most) (sym same) small)
    (simp to_z-of_z at c.times_whole.ensures.ends)

pub returns-clause-contains : goal.returns-clause-contains
returns-clause-contains c m h =
    let weight : SFits w64 c.args.weight = c.ranges.weight in
    let wide : SFits w128 c.from.result = record { sfits = c.from.type_inv } in
    let same : c.from.result ≡ c.args.weight = c.from.ensures ∙ to_z-of_z w64 c.args.weight weight in
    let product = simp to_z-of_z at c.times_whole.ensures.contains m h in
    subst (λ (n : ℤ). ContainsFraction 40 c.times_whole.result.lo c.times_whole.result.hi (m ⊗ whole n)) same product

pub returns-clause-narrow : goal.returns-clause-narrow
returns-clause-narrow c w h =
    let weight : SFits w64 c.args.weight = c.ranges.weight in
    let wide : SFits w128 c.from.result = record { sfits = c.from.type_inv } in
    let same : c.from.result ≡ c.args.weight = c.from.ensures ∙ to_z-of_z w64 c.args.weight weight in
    narrow-multiple (unsigned_abs c.args.weight) (rw same at (simp to_z-of_z at c.times_whole.ensures.width)) h
