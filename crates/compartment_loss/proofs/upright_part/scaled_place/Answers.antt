use Rattle.std.proofs.Common.{suc, ◌+◌, ◌*◌, ◌^◌, unsigned_abs, arith}
use Rattle.std.proofs.lemmas.Int.{to_z-of_z}
use Rattle.std.specs.Int.{w128}
use mir.Val.{SFits}
use Rattle.exact_algebra.proofs.Fraction.{◌⊕◌, ◌⊗◌}
use Rattle.outward_interval.specs.Widths.{units, IsNarrow}
use Rattle.outward_interval.proofs.Narrow.{narrow-multiple, narrow-scaled}
use Rattle.flux_moments.proofs.ProductEnds.{less, product_ends, at_most_less, multiple_fits, multiple_ends}
use Rattle.compartment_loss.proofs.UprightColumns.{most_less}
use Rattle.compartment_loss.proofs.upright_part.scaled_place.Goals as goal

pub times_whole-requires : goal.times_whole-requires
times_whole-requires c =
    let x : SFits w128 c.args.x = c.ranges.x in
    let scaled = product_ends (2 ^ 41) (2 ^ 57) (2 ^ 78) (2 ^ 20) (omega arith) (less 41 c.requires.mean) c.requires.factor c.scaled_by.ensures.ends in
    (omega arith, simp to_z-of_z (multiple_fits (suc (2 ^ 78)) (2 ^ 19) c.args.x (omega arith) (at_most_less (2 ^ 78) scaled) c.requires.x))

pub returns-clause-ends : goal.returns-clause-ends
returns-clause-ends c =
    let x : SFits w128 c.args.x = c.ranges.x in
    let scaled = product_ends (2 ^ 41) (2 ^ 57) (2 ^ 78) (2 ^ 20) (omega arith) (less 41 c.requires.mean) c.requires.factor c.scaled_by.ensures.ends in
    most_less (suc (2 ^ 78) * 2 ^ 19) (2 ^ 97 + 2 ^ 19) (omega arith)
    (multiple_ends (suc (2 ^ 78)) (2 ^ 19) c.args.x (at_most_less (2 ^ 78) scaled) c.requires.x (simp to_z-of_z at c.times_whole.ensures.ends))

pub returns-clause-contains : goal.returns-clause-contains
returns-clause-contains c m a h k =
    let x : SFits w128 c.args.x = c.ranges.x in
    (simp to_z-of_z at c.times_whole.ensures.contains) _ (c.scaled_by.ensures.contains m a h k)

pub returns-clause-narrow : goal.returns-clause-narrow
returns-clause-narrow c w m v n wide near wide' near' =
    let x : SFits w128 c.args.x = c.ranges.x in
    let scaled : IsNarrow 20 ((m ⊗ v ⊕ n ⊗ w) ⊕ units 20 2) c.scaled_by.result.lo c.scaled_by.result.hi =
    narrow-scaled {F = 20} {G = 20} c.args.mean.ordered c.args.factor.ordered (omega arith) c.scaled_by.ensures.width wide near wide' near' in
    narrow-multiple (unsigned_abs c.args.x) (simp to_z-of_z at c.times_whole.ensures.width) scaled
