use Rattle.std.proofs.Common.{◌≡◌, ◌∙◌, unsigned_abs, arith}
use Rattle.std.proofs.lemmas.Int.{to_z-of_z}
use Rattle.std.specs.Int.{w64, w128}
use mir.Val.{SFits}
use Rattle.exact_algebra.proofs.Products.{contains_times_whole}
use Rattle.hull_model.proofs.Magnitudes.{fits_64}
use Rattle.outward_interval.proofs.Narrow.{narrow-multiple}
use Rattle.outward_interval.proofs.Widths.{times_whole-width}
use Rattle.flux_moments.proofs.Heights.{products_at_most}
use Rattle.flux_moments.proofs.LevelEnds.{multiple_same}
use Rattle.flux_moments.proofs.OneWord.{multiples_small, multiples_ordered}
use Rattle.flux_moments.proofs.multiples.Multiples.of.Goals as goal

pub invariant_of-result : goal.invariant_of-result
invariant_of-result c =
    let part = c.args.part in
    let n : SFits w64 c.args.n = c.ranges.n in
    let from : SFits w128 c.lo.result = record { sfits = c.lo.type_inv } in
    let to : SFits w128 c.hi.result = record { sfits = c.hi.type_inv } in
    let low_word : SFits w64 c.word.result = record { sfits = c.word.type_inv } in
    let high_word : SFits w64 c.word-2.result = record { sfits = c.word-2.type_inv } in
    let low : c.word.result ≡ part.lo = (simp to_z-of_z at c.word.ensures) ∙ c.lo.ensures in
    let high : c.word-2.result ≡ part.hi = (simp to_z-of_z at c.word-2.ensures) ∙ c.hi.ensures in
    let ends = rw (low, high) at (simp to_z-of_z at c.products-lo.ensures) in
    let small = multiples_small part.lo part.hi c.args.n c.products-lo.result.0 c.products-lo.result.1 c.requires.part c.requires.n ends in
    let lo : SFits w64 c.products-lo.result.0 = fits_64 _ (omega (arith, small.low)) in
    let hi : SFits w64 c.products-lo.result.1 = fits_64 _ (omega (arith, small.high)) in
    record {
      ordered = simp to_z-of_z (multiples_ordered part.lo part.hi c.args.n c.products-lo.result.0 c.products-lo.result.1 c.requires.part c.requires.n ends);
      ends = simp to_z-of_z small;
    }

pub returns-clause-ends : goal.returns-clause-ends
returns-clause-ends c =
    let part = c.args.part in
    let n : SFits w64 c.args.n = c.ranges.n in
    let from : SFits w128 c.lo.result = record { sfits = c.lo.type_inv } in
    let to : SFits w128 c.hi.result = record { sfits = c.hi.type_inv } in
    let low_word : SFits w64 c.word.result = record { sfits = c.word.type_inv } in
    let high_word : SFits w64 c.word-2.result = record { sfits = c.word-2.type_inv } in
    let low : c.word.result ≡ part.lo = (simp to_z-of_z at c.word.ensures) ∙ c.lo.ensures in
    let high : c.word-2.result ≡ part.hi = (simp to_z-of_z at c.word-2.ensures) ∙ c.hi.ensures in
    let ends = rw (low, high) at (simp to_z-of_z at c.products-lo.ensures) in
    let small = multiples_small part.lo part.hi c.args.n c.products-lo.result.0 c.products-lo.result.1 c.requires.part c.requires.n ends in
    let lo : SFits w64 c.products-lo.result.0 = fits_64 _ (omega (arith, small.low)) in
    let hi : SFits w64 c.products-lo.result.1 = fits_64 _ (omega (arith, small.high)) in
    simp to_z-of_z (products_at_most part.lo part.hi c.args.n c.products-lo.result.0 c.products-lo.result.1 c.requires.part ends)

pub returns-clause-contains : goal.returns-clause-contains
returns-clause-contains c x h =
    let part = c.args.part in
    let n : SFits w64 c.args.n = c.ranges.n in
    let from : SFits w128 c.lo.result = record { sfits = c.lo.type_inv } in
    let to : SFits w128 c.hi.result = record { sfits = c.hi.type_inv } in
    let low_word : SFits w64 c.word.result = record { sfits = c.word.type_inv } in
    let high_word : SFits w64 c.word-2.result = record { sfits = c.word-2.type_inv } in
    let low : c.word.result ≡ part.lo = (simp to_z-of_z at c.word.ensures) ∙ c.lo.ensures in
    let high : c.word-2.result ≡ part.hi = (simp to_z-of_z at c.word-2.ensures) ∙ c.hi.ensures in
    let ends = rw (low, high) at (simp to_z-of_z at c.products-lo.ensures) in
    let small = multiples_small part.lo part.hi c.args.n c.products-lo.result.0 c.products-lo.result.1 c.requires.part c.requires.n ends in
    let lo : SFits w64 c.products-lo.result.0 = fits_64 _ (omega (arith, small.low)) in
    let hi : SFits w64 c.products-lo.result.1 = fits_64 _ (omega (arith, small.high)) in
    simp to_z-of_z (contains_times_whole 40 part.lo part.hi c.args.n c.products-lo.result.0 c.products-lo.result.1 x h ends.low ends.high)

pub returns-clause-narrow : goal.returns-clause-narrow
returns-clause-narrow c e h =
    let part = c.args.part in
    let n : SFits w64 c.args.n = c.ranges.n in
    let from : SFits w128 c.lo.result = record { sfits = c.lo.type_inv } in
    let to : SFits w128 c.hi.result = record { sfits = c.hi.type_inv } in
    let low_word : SFits w64 c.word.result = record { sfits = c.word.type_inv } in
    let high_word : SFits w64 c.word-2.result = record { sfits = c.word-2.type_inv } in
    let low : c.word.result ≡ part.lo = (simp to_z-of_z at c.word.ensures) ∙ c.lo.ensures in
    let high : c.word-2.result ≡ part.hi = (simp to_z-of_z at c.word-2.ensures) ∙ c.hi.ensures in
    let ends = rw (low, high) at (simp to_z-of_z at c.products-lo.ensures) in
    let small = multiples_small part.lo part.hi c.args.n c.products-lo.result.0 c.products-lo.result.1 c.requires.part c.requires.n ends in
    let lo : SFits w64 c.products-lo.result.0 = fits_64 _ (omega (arith, small.low)) in
    let hi : SFits w64 c.products-lo.result.1 = fits_64 _ (omega (arith, small.high)) in
    simp to_z-of_z (narrow-multiple (unsigned_abs c.args.n) (times_whole-width part.lo part.hi c.args.n c.products-lo.result.0 c.products-lo.result.1 part.ordered ends.low ends.high) h)

pub returns-clause-same : goal.returns-clause-same
returns-clause-same c k e f =
    let part = c.args.part in
    let n : SFits w64 c.args.n = c.ranges.n in
    let from : SFits w128 c.lo.result = record { sfits = c.lo.type_inv } in
    let to : SFits w128 c.hi.result = record { sfits = c.hi.type_inv } in
    let low_word : SFits w64 c.word.result = record { sfits = c.word.type_inv } in
    let high_word : SFits w64 c.word-2.result = record { sfits = c.word-2.type_inv } in
    let low : c.word.result ≡ part.lo = (simp to_z-of_z at c.word.ensures) ∙ c.lo.ensures in
    let high : c.word-2.result ≡ part.hi = (simp to_z-of_z at c.word-2.ensures) ∙ c.hi.ensures in
    let ends = rw (low, high) at (simp to_z-of_z at c.products-lo.ensures) in
    let small = multiples_small part.lo part.hi c.args.n c.products-lo.result.0 c.products-lo.result.1 c.requires.part c.requires.n ends in
    let lo : SFits w64 c.products-lo.result.0 = fits_64 _ (omega (arith, small.low)) in
    let hi : SFits w64 c.products-lo.result.1 = fits_64 _ (omega (arith, small.high)) in
    simp to_z-of_z (multiple_same part.lo part.hi c.args.n k c.products-lo.result.0 c.products-lo.result.1 ends e f)
