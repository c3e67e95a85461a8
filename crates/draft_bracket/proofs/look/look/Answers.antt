use Rattle.std.proofs.Common.{◌∙◌, subst, ℤ}
use Rattle.std.proofs.lemmas.Int.{to_z-of_z}
use Rattle.std.specs.Int.{w64, w128}
use mir.Val.{SFits}
use Rattle.exact_algebra.proofs.Span.{least_span_over}
use Rattle.exact_fraction.specs.Fraction.{fraction_of, denominator, denominator-positive}
use Rattle.draft_bracket.specs.Places.{IsPlace}
use Rattle.draft_bracket.proofs.Looks.{less_as, at_most_as, place_at}
use Rattle.draft_bracket.proofs.look.look.Goals as goal

pub returns-clause-place : goal.returns-clause-place
returns-clause-place c =
    let need = c.args.need.now in
    let volume = c.volume_at-volume.result in
    let down : SFits w128 c.lo.result = record { sfits = c.lo.type_inv } in
    let high : SFits w128 c.hi.result = record { sfits = c.hi.type_inv } in
    let up : SFits w128 c.hi-2.result = record { sfits = c.hi-2.type_inv } in
    let low : SFits w128 c.lo-2.result = record { sfits = c.lo-2.type_inv } in
    subst (λ (at : ℤ). IsPlace c.args.faces.now c.args.bracket.now (fraction_of c.args.need.now.ratio) at c.is_less.result c.is_at_most.result) (to_z-of_z w64 c.args.level c.ranges.level)
    (place_at c.args.faces.now c.args.bracket.now _ volume.lo volume.hi (fraction_of need.ratio) need.units.lo need.units.hi
    (least_span_over need.ratio.num (denominator need.ratio) (denominator-positive need.ratio) need.least)
    c.volume_at-volume.ensures.contains c.volume_at-volume.ensures.narrow c.is_less.result c.is_at_most.result
    (less_as c.is_less.result need.units.lo volume.hi _ _ (to_z-of_z w128 c.lo.result down ∙ c.lo.ensures) (to_z-of_z w128 c.hi.result high ∙ c.hi.ensures) c.is_less.ensures)
    (at_most_as c.is_at_most.result need.units.hi volume.lo _ _ (to_z-of_z w128 c.hi-2.result up ∙ c.hi-2.ensures) (to_z-of_z w128 c.lo-2.result low ∙ c.lo-2.ensures) c.is_at_most.ensures))
