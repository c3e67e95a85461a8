use Rattle.std.proofs.Common.{ℤ, ◌^◌, ◌<◌, ◌≤ℤ◌, ◌≡◌, ◌∙◌, sym, subst, pos, unsigned_abs, arith}
use Rattle.std.proofs.lemmas.Int.{ints, to_z-of_z}
use Rattle.std.specs.Int.{w64, w128}
use mir.Val.{SFits}
use Rattle.outward_interval.proofs.Narrow.{narrow-multiple}
use Rattle.flux_moments.proofs.Heights.{place_fits}
use Rattle.flux_moments.proofs.ProductEnds.{less, multiple_fits, multiple_ends}
use Rattle.compartment_loss.proofs.upright_column.at_place.Goals as goal

small : (z : ℤ) → pos 0 ≤ℤ z → z ≤ℤ pos 524287 → unsigned_abs z < 2 ^ 19
small z h k = omega (arith, ints, h, k)

pub times_whole-requires : goal.times_whole-requires
times_whole-requires c =
    let fits : SFits w64 c.args.node.x = place_fits c.args.node c.requires.node in
    let wide : SFits w128 c.from.result = record { sfits = c.from.type_inv } in
    let same : c.from.result ≡ c.args.node.x = c.from.ensures ∙ to_z-of_z w64 c.args.node.x fits in (
      omega arith,
      simp to_z-of_z (multiple_fits (2 ^ 41) (2 ^ 19) c.from.result (omega arith) (less 41 c.requires.mean)
          (subst (λ (z : ℤ). unsigned_abs z < 2 ^ 19) (sym same) (small c.args.node.x c.requires.node.place.0 c.requires.node.place.1))),
    )

pub returns-clause-ends : goal.returns-clause-ends
returns-clause-ends c =
    let fits : SFits w64 c.args.node.x = place_fits c.args.node c.requires.node in
    let wide : SFits w128 c.from.result = record { sfits = c.from.type_inv } in
    let same : c.from.result ≡ c.args.node.x = c.from.ensures ∙ to_z-of_z w64 c.args.node.x fits in
    multiple_ends (2 ^ 41) (2 ^ 19) c.from.result (less 41 c.requires.mean)
    (subst (λ (z : ℤ). unsigned_abs z < 2 ^ 19) (sym same) (small c.args.node.x c.requires.node.place.0 c.requires.node.place.1)) (simp to_z-of_z at c.times_whole.ensures.ends)

pub returns-clause-contains : goal.returns-clause-contains
returns-clause-contains c m h =
    let fits : SFits w64 c.args.node.x = place_fits c.args.node c.requires.node in
    let wide : SFits w128 c.from.result = record { sfits = c.from.type_inv } in
    let same : c.from.result ≡ c.args.node.x = c.from.ensures ∙ to_z-of_z w64 c.args.node.x fits in
    (rw same at (simp to_z-of_z at c.times_whole.ensures.contains)) m h

pub returns-clause-narrow : goal.returns-clause-narrow
returns-clause-narrow c w h =
    let fits : SFits w64 c.args.node.x = place_fits c.args.node c.requires.node in
    let wide : SFits w128 c.from.result = record { sfits = c.from.type_inv } in
    let same : c.from.result ≡ c.args.node.x = c.from.ensures ∙ to_z-of_z w64 c.args.node.x fits in
    narrow-multiple (unsigned_abs c.args.node.x) (rw same at (simp to_z-of_z at c.times_whole.ensures.width)) h
