use Rattle.std.proofs.Common.{◌∙◌, sym, arith}
use Rattle.std.proofs.lemmas.Int.{to_z-of_z}
use Rattle.std.specs.Int.{w64}
use mir.Val.{SFits}
use Rattle.exact_fraction.specs.Fraction.{fraction_of}
use Rattle.hull_model.proofs.Magnitudes.{fits_64}
use Rattle.draft_bracket.proofs.Sides.{looked_between, low_moved, high_moved}
use Rattle.draft_bracket.proofs.crossing.crossing.Goals as goal

pub loop-end-preserved-then-is_short : goal.loop-end-preserved-then-is_short
loop-end-preserved-then-is_short c =
    let look = looked_between c.args.faces.now c.args.bracket.now (fraction_of c.args.need.now.ratio) c.args.end c.args.from.level c.args.to.level c.loop-end.low c.loop-end.high c.look.result.0
    c.loop-end.invariant
    c.inner-level.result (record { sfits = c.inner-level.type_inv }) c.look.ensures.level c.inner-level.ensures.above c.inner-level.ensures.below c.inner-level.ensures.range c.look.ensures.place in
    low_moved c.args.faces.now c.args.bracket.now (fraction_of c.args.need.now.ratio) c.args.end c.args.from.level c.args.to.level c.loop-end.low c.loop-end.high c.look.result.0
    c.loop-end.invariant look
    (sym c.is_short.ensures ∙ c.if-is_short.true)

pub loop-end-preserved : goal.loop-end-preserved
loop-end-preserved c =
    let look = looked_between c.args.faces.now c.args.bracket.now (fraction_of c.args.need.now.ratio) c.args.end c.args.from.level c.args.to.level c.loop-end.low c.loop-end.high c.look.result.0
    c.loop-end.invariant
    c.inner-level.result (record { sfits = c.inner-level.type_inv }) c.look.ensures.level c.inner-level.ensures.above c.inner-level.ensures.below c.inner-level.ensures.range c.look.ensures.place in
    high_moved c.args.faces.now c.args.bracket.now (fraction_of c.args.need.now.ratio) c.args.end c.args.from.level c.args.to.level c.loop-end.low c.loop-end.high c.look.result.0
    c.loop-end.invariant look
    (sym c.is_short.ensures ∙ c.if-is_short.false)

pub returns-clause-neighbours : goal.returns-clause-neighbours
returns-clause-neighbours c =
    let low : SFits w64 c.loop-end.low.level = fits_64 _ (omega (arith, c.loop-end.invariant.low_range)) in
    let high : SFits w64 c.loop-end.high.level = fits_64 _ (omega (arith, c.loop-end.invariant.high_range)) in
    simp to_z-of_z at (c.has_inner.ensures.none c.loop-end-test.false)
