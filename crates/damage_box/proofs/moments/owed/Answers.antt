use Rattle.std.proofs.Common.{◌∙◌, subst, pos, ◌*ℤ◌}
use Rattle.std.specs.Int.{w128}
use Rattle.std.proofs.lemmas.Int.{to_z-of_z}
use mir.Val.{SFits}
use Rattle.exact_algebra.proofs.Fraction.{Fraction}
use Rattle.exact_algebra.proofs.Span.{IsLeastSpanOf, least_span_over_out}
use Rattle.exact_fraction.specs.Fraction.{denominator, denominator-positive}
use Rattle.hull_model.proofs.Magnitudes.{fits_128}
use Rattle.loading_sheet.proofs.Ratios.{ratio_is}
use Rattle.damage_box.proofs.Balanced as Balanced
use Rattle.damage_box.proofs.moments.owed.Goals as goal

pub returns-clause-owed : goal.returns-clause-owed
returns-clause-owed c =
    let times : SFits w128 (c.args.moment *ℤ pos 1000000000) = fits_128 _ (Balanced.owed_fits c.args.moment c.requires) in
    let density : SFits w128 c.from.result = record { sfits = c.from.type_inv } in
    let parts = simp (to_z-of_z, c.ranges.moment, times, density) at c.in-Some.ensures.parts in
    subst (λ (x : Fraction). IsLeastSpanOf 20 c.of_ratio.result.lo c.of_ratio.result.hi x) (ratio_is c.in-Some.owed (c.args.moment *ℤ pos 1000000000) c.args.water.now.density parts.0 (parts.1 ∙ c.from.ensures)) c.of_ratio.ensures

pub returns-clause-width : goal.returns-clause-width
returns-clause-width c = Balanced.least_width c.of_ratio.ensures

pub returns-clause-ends : goal.returns-clause-ends
returns-clause-ends c =
    let times : SFits w128 (c.args.moment *ℤ pos 1000000000) = fits_128 _ (Balanced.owed_fits c.args.moment c.requires) in
    let density : SFits w128 c.from.result = record { sfits = c.from.type_inv } in
    let parts = simp (to_z-of_z, c.ranges.moment, times, density) at c.in-Some.ensures.parts in
    let den = denominator c.in-Some.owed in
    let some = denominator-positive c.in-Some.owed in
    Balanced.owed_ends den (Balanced.owed_size c.args.moment c.in-Some.owed.num den c.requires parts.0 some) (least_span_over_out c.in-Some.owed.num den some c.of_ratio.ensures)
