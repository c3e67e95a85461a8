use Rattle.std.proofs.Common.{ℤ, pos, ◌≡◌, ◌∙◌, sym, ◌^◌, ◌<◌, unsigned_abs, subst, arith}
use Rattle.std.proofs.lemmas.Int.{to_z-of_z}
use Rattle.std.specs.Int.{w64, w128}
use mir.Val.{SFits}
use Rattle.exact_algebra.proofs.Fraction.{◌⊗◌}
use Rattle.exact_algebra.proofs.Span.{ContainsFraction}
use Rattle.exact_algebra.proofs.Whole.{whole}
use Rattle.flux_moments.proofs.ProductEnds.{multiple_fits, multiple_ends, rescaled_ends}
use Rattle.outward_interval.specs.Widths.{IsNarrow}
use Rattle.outward_interval.proofs.Narrow.{narrow-multiple, narrow-rescaled}
use Rattle.flux_moments.proofs.lid_sums.seen.Goals as goal

pub times_whole-requires : goal.times_whole-requires
times_whole-requires c =
    let area : SFits w64 c.args.area = c.ranges.area in
    let wide : SFits w128 c.from.result = record { sfits = c.from.type_inv } in
    let same : c.from.result ≡ c.args.area = c.from.ensures ∙ to_z-of_z w64 c.args.area area in (
      omega arith,
      simp to_z-of_z (multiple_fits (2 ^ 83) (2 ^ 37) c.from.result (omega arith) c.requires.mean
          (subst (λ (z : ℤ). unsigned_abs z < 2 ^ 37) (sym same) c.requires.area)),
    )

pub returns-clause-contains : goal.returns-clause-contains
returns-clause-contains c m h =
    let area : SFits w64 c.args.area = c.ranges.area in
    let wide : SFits w128 c.from.result = record { sfits = c.from.type_inv } in
    let same : c.from.result ≡ c.args.area = c.from.ensures ∙ to_z-of_z w64 c.args.area area in
    let product = c.rescale.ensures.contains _ (simp to_z-of_z at c.times_whole.ensures.contains m h) in
    subst (λ (n : ℤ). ContainsFraction 20 c.rescale.result.lo c.rescale.result.hi (m ⊗ whole n)) same product

pub returns-clause-ends : goal.returns-clause-ends
returns-clause-ends c most h =
    let area : SFits w64 c.args.area = c.ranges.area in
    let wide : SFits w128 c.from.result = record { sfits = c.from.type_inv } in
    let same : c.from.result ≡ c.args.area = c.from.ensures ∙ to_z-of_z w64 c.args.area area in
    rescaled_ends most (multiple_ends most (2 ^ 37) c.from.result h (subst (λ (z : ℤ). unsigned_abs z < 2 ^ 37) (sym same) c.requires.area)
    (simp to_z-of_z at c.times_whole.ensures.ends)) c.rescale.ensures.ends

pub returns-clause-narrow : goal.returns-clause-narrow
returns-clause-narrow c w h =
    let area : SFits w64 c.args.area = c.ranges.area in
    let wide : SFits w128 c.from.result = record { sfits = c.from.type_inv } in
    let same : c.from.result ≡ c.args.area = c.from.ensures ∙ to_z-of_z w64 c.args.area area in
    let times : IsNarrow 40 (w ⊗ whole (pos (unsigned_abs c.args.area))) c.times_whole.result.lo c.times_whole.result.hi = narrow-multiple
    (unsigned_abs c.args.area) (rw same at (simp to_z-of_z at c.times_whole.ensures.width)) h in
    narrow-rescaled {F = 40} {G = 20} c.rescale.ensures.width (omega arith) times
