use Rattle.std.proofs.Common.{◌*◌, ◌^◌, ℤ, ◌∙◌, sym, subst, to_z, of_z, arith}
use Rattle.std.proofs.lemmas.Int.{to_z-of_z}
use Rattle.std.specs.Int.{w64}
use Rattle.std.specs.List.{AllByRecursion}
use mir.Val.{SFits}
use Rattle.exact_algebra.proofs.Fraction.{Fraction, one}
use Rattle.exact_algebra.proofs.Span.{ContainsFraction}
use Rattle.plane_clip.specs.Between.{IsPartWithin}
use Rattle.flux_moments.specs.Shared.{shared_columns}
use Rattle.flux_moments.proofs.Measured.{divided}
use Rattle.exact_algebra.proofs.Whole.{whole}
use Rattle.hull_model.specs.Fractions.{sum_over}
use Rattle.outward_interval.specs.Widths.{IsNarrow}
use Rattle.outward_interval.proofs.Narrow.{narrow-over}
use Rattle.flux_moments.specs.PartSizes.{part_area, part_length}
use Rattle.flux_moments.specs.Sizes.{spread}
use Rattle.flux_moments.proofs.PartTotals.{renamed_ends}
use Rattle.flux_moments.proofs.ColumnSums.{quotient_at_most}
use Rattle.flux_moments.proofs.ProductEnds.{at_most_below}
use Rattle.compartment_loss.proofs.upright_left.lost_at.Goals as goal

pub part_column_sums-sums-requires-clause-placed : goal.part_column_sums-sums-requires-clause-placed
part_column_sums-sums-requires-clause-placed c =
    let first : SFits w64 c.first_x.result = record { sfits = c.first_x.type_inv } in
    let last : SFits w64 c.last_x.result = record { sfits = c.last_x.type_inv } in
    let first_is = to_z-of_z w64 c.first_x.result first ∙ c.first_x.ensures.same in
    let last_is = to_z-of_z w64 c.last_x.result last ∙ c.last_x.ensures.same in
    subst (λ (z : ℤ). AllByRecursion (IsPartWithin z (to_z w64 (of_z w64 c.last_x.result))) c.args.parts.now) (sym first_is)
    (subst (λ (z : ℤ). AllByRecursion (IsPartWithin c.args.faces.now.first_x z) c.args.parts.now) (sym last_is) c.requires.placed)

pub returns-clause-volume : goal.returns-clause-volume
returns-clause-volume c plane ts is held =
    let first : SFits w64 c.first_x.result = record { sfits = c.first_x.type_inv } in
    let last : SFits w64 c.last_x.result = record { sfits = c.last_x.type_inv } in
    subst (λ (x : Fraction). ContainsFraction 20 c.over_whole.result.lo c.over_whole.result.hi x)
    (renamed_ends (λ first last. shared_columns plane first last (λ p. one) ts) (to_z-of_z w64 c.first_x.result first ∙ c.first_x.ensures.same) (to_z-of_z w64 c.last_x.result last ∙ c.last_x.ensures.same))
    (divided 20 2 (omega arith) (c.over_whole.ensures.contains _ (c.part_column_sums-sums.ensures.volume plane ts is held)))

pub returns-clause-mx : goal.returns-clause-mx
returns-clause-mx c plane ts is held =
    let first : SFits w64 c.first_x.result = record { sfits = c.first_x.type_inv } in
    let last : SFits w64 c.last_x.result = record { sfits = c.last_x.type_inv } in
    subst (λ (x : Fraction). ContainsFraction 20 c.over_whole-2.result.lo c.over_whole-2.result.hi x)
    (renamed_ends (λ first last. shared_columns plane first last (λ p. p.x) ts) (to_z-of_z w64 c.first_x.result first ∙ c.first_x.ensures.same) (to_z-of_z w64 c.last_x.result last ∙ c.last_x.ensures.same))
    (divided 20 2 (omega arith) (c.over_whole-2.ensures.contains _ (c.part_column_sums-sums.ensures.mx plane ts is held)))

pub returns-clause-volume_width : goal.returns-clause-volume_width
returns-clause-volume_width c b h t y z are enough = narrow-over t 2 (omega arith) c.over_whole.ensures.width (c.part_column_sums-sums.ensures.volume_width b h y z are) enough

pub returns-clause-mx_width : goal.returns-clause-mx_width
returns-clause-mx_width c b h t y z are enough =
    let last : SFits w64 c.last_x.result = record { sfits = c.last_x.type_inv } in
    let last_is = to_z-of_z w64 c.last_x.result last ∙ c.last_x.ensures.same in
    narrow-over t 2 (omega arith) c.over_whole-2.ensures.width
    (subst (λ (x : ℤ). IsNarrow 20 (sum_over (λ p. part_length (whole x) h (spread b h) (part_area p)) c.args.parts.now) c.part_column_sums-sums.result.mx.lo c.part_column_sums-sums.result.mx.hi)
    last_is (c.part_column_sums-sums.ensures.mx_width b h y z are)) enough

pub returns-clause-volume_ends : goal.returns-clause-volume_ends
returns-clause-volume_ends c = at_most_below (2 ^ 100) 101 (omega arith)
    (quotient_at_most (4194303 * 2 ^ 79) (2 ^ 100) 2 (omega arith) c.part_column_sums-sums.ensures.volume_ends c.over_whole.ensures.ends)

pub returns-clause-mx_ends : goal.returns-clause-mx_ends
returns-clause-mx_ends c = at_most_below (2 ^ 120) 121 (omega arith)
    (quotient_at_most (4194303 * 2 ^ 99) (2 ^ 120) 2 (omega arith) c.part_column_sums-sums.ensures.mx_ends c.over_whole-2.ensures.ends)
