use mathlib.Core.Path.{◌∙◌, ap₂}
use Rattle.std.proofs.Common.{pos, ◌-ℤ◌, ◌<ℤ◌, arith}
use Rattle.std.proofs.lemmas.Int.{ints, to_z-of_z}
use Rattle.std.specs.Int.{w128}
use mir.Val.{SFits}
use Rattle.hull_model.specs.Body.{IsWithin}
use Rattle.plane_clip.specs.Ways.{quotient_of}
use Rattle.plane_clip.proofs.CornerCrossings.{down-part, up-part, before_unless, way_fits, way_within}
use Rattle.plane_clip.proofs.way.Way.of.Goals as goal

pub returns-then-from-to : goal.returns-then-from-to
returns-then-from-to c =
    let from : SFits w128 c.args.from = c.ranges.from in
    let to : SFits w128 c.args.to = c.ranges.to in
    let at : SFits w128 c.args.at = c.ranges.at in
    let within : IsWithin (pos 524287) c.args.at = way_within c.args.at c.args.from c.args.to c.requires.from c.requires.to c.requires.between in
    let first : SFits w128 (c.args.from -ℤ c.args.at) = way_fits c.args.from c.args.at c.requires.from within in
    let second : SFits w128 (c.args.from -ℤ c.args.to) = way_fits c.args.from c.args.to c.requires.from c.requires.to in
    let order : c.args.to <ℤ c.args.from = omega (arith, ints, c.if-from-to.true) in
    let values = simp to_z-of_z at c.new.ensures in
    ap₂ quotient_of values.0 values.1 ∙ down-part c.args.from c.args.to c.args.at order

pub returns-else-from-to : goal.returns-else-from-to
returns-else-from-to c =
    let from : SFits w128 c.args.from = c.ranges.from in
    let to : SFits w128 c.args.to = c.ranges.to in
    let at : SFits w128 c.args.at = c.ranges.at in
    let within : IsWithin (pos 524287) c.args.at = way_within c.args.at c.args.from c.args.to c.requires.from c.requires.to c.requires.between in
    let first : SFits w128 (c.args.at -ℤ c.args.from) = way_fits c.args.at c.args.from within c.requires.from in
    let second : SFits w128 (c.args.to -ℤ c.args.from) = way_fits c.args.to c.args.from c.requires.to c.requires.from in
    let order : c.args.from <ℤ c.args.to = before_unless c.args.at c.args.from c.args.to c.requires.between (λ m. omega (arith, ints, m, c.if-from-to.false)) in
    let values = simp to_z-of_z at c.new-else-from-to.ensures in
    ap₂ quotient_of values.0 values.1 ∙ up-part c.args.from c.args.to c.args.at order
