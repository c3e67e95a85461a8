use Rattle.std.proofs.Common.{arith}
use Rattle.std.proofs.lemmas.Int.{to_z-of_z}
use Rattle.std.specs.Int.{w64}
use mir.Val.{SFits}
use Rattle.exact_fraction.specs.Fraction.{fraction_of}
use Rattle.hull_model.proofs.Magnitudes.{fits_64}
use Rattle.draft_bracket.proofs.Found.{found_one, found_two}
use Rattle.draft_bracket.proofs.drafts.search.Goals as goal

pub returns-then-low : goal.returns-then-low
returns-then-low c =
    let low : SFits w64 c.crossing.result.0.level = fits_64 _ (omega (arith, c.crossing.ensures.first_range)) in
    let from = simp (to_z-of_z, c.ranges.bottom) at c.crossing.ensures.from in
    let to = simp (to_z-of_z, c.ranges.top) at c.crossing.ensures.to in
    simp to_z-of_z (found_one c.args.faces.now c.args.bracket.now (fraction_of c.args.need.now.ratio) c.args.bottom c.args.top c.requires.bottom c.requires.top c.crossing.result.0 c.crossing.result.1
    c.crossing.ensures.first c.crossing.ensures.first_side c.if-low.true from c.crossing.ensures.neighbours to)

pub returns : goal.returns
returns c =
    let low : SFits w64 c.crossing.result.0.level = fits_64 _ (omega (arith, c.crossing.ensures.first_range)) in
    let high : SFits w64 c.upper_neighbours.result.1.level = fits_64 _ (omega (arith, c.upper_neighbours.ensures.range)) in
    let from = simp (to_z-of_z, c.ranges.bottom) at c.crossing.ensures.from in
    let to = simp (to_z-of_z, c.ranges.top) at c.upper_neighbours.ensures.to in
    simp to_z-of_z (found_two c.args.faces.now c.args.bracket.now (fraction_of c.args.need.now.ratio) c.args.bottom c.args.top c.requires.bottom c.requires.top
    c.crossing.result.0 c.crossing.result.1 c.upper_neighbours.result.0 c.upper_neighbours.result.1 c.crossing.ensures.first c.crossing.ensures.last c.upper_neighbours.ensures.first
    c.upper_neighbours.ensures.last
    c.crossing.ensures.first_side c.crossing.ensures.last_side c.upper_neighbours.ensures.short c.upper_neighbours.ensures.enough from c.crossing.ensures.neighbours
    c.upper_neighbours.ensures.neighbours c.upper_neighbours.ensures.from to)
