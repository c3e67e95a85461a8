use Rattle.std.proofs.Common.{rules, sym}
use mathlib.Core.Path.{subst}
use Rattle.std.proofs.lemmas.Int.{to_z-of_z}
use Rattle.std.specs.Int.{w64, w128}
use mir.Val.{SFits}
use Rattle.exact_fraction.specs.Bounds.{MagnitudeBelow}
use Rattle.hull_polyhedron.specs.TotalsModel.{AreAtMost}
use Rattle.hull_polyhedron.proofs.RunningTotals.{pair_value, at_most-doubled, places_small, heights_small}
use Rattle.hull_polyhedron.proofs.totals.Totals.of_pair.Goals as goal

pub doubled-requires-clause-x : goal.doubled-requires-clause-x
doubled-requires-clause-x c =
    let x-fits : SFits w64 c.sum_of_four-x.result = record { sfits = c.sum_of_four-x.type_inv } in
    let ax-fits : SFits w64 c.args.a.x = search rules in
    let bx-fits : SFits w64 c.args.b.x = search rules in
    let cx-fits : SFits w64 c.args.c.x = search rules in
    let dx-fits : SFits w64 c.args.d.x = search rules in
    let x = simp to_z-of_z at c.sum_of_four-x.ensures in
    simp to_z-of_z (subst (MagnitudeBelow 21) (sym x) (places_small c.args.a c.args.b c.args.c c.args.d c.requires.a c.requires.b c.requires.c c.requires.d))

pub doubled-requires-clause-z : goal.doubled-requires-clause-z
doubled-requires-clause-z c =
    let z-fits : SFits w64 c.sum_of_four-z.result = record { sfits = c.sum_of_four-z.type_inv } in
    let az-fits : SFits w64 c.args.a.z = search rules in
    let bz-fits : SFits w64 c.args.b.z = search rules in
    let cz-fits : SFits w64 c.args.c.z = search rules in
    let dz-fits : SFits w64 c.args.d.z = search rules in
    let z = simp to_z-of_z at c.sum_of_four-z.ensures in
    simp to_z-of_z (subst (MagnitudeBelow 18) (sym z) (heights_small c.args.a c.args.b c.args.c c.args.d c.requires.a c.requires.b c.requires.c c.requires.d))

pub returns-clause-value : goal.returns-clause-value
returns-clause-value c =
    let six-fits : SFits w128 c.six_within_limits.result = record { sfits = c.six_within_limits.type_inv } in
    let x-fits : SFits w64 c.sum_of_four-x.result = record { sfits = c.sum_of_four-x.type_inv } in
    let z-fits : SFits w64 c.sum_of_four-z.result = record { sfits = c.sum_of_four-z.type_inv } in
    let ax-fits : SFits w64 c.args.a.x = search rules in
    let bx-fits : SFits w64 c.args.b.x = search rules in
    let cx-fits : SFits w64 c.args.c.x = search rules in
    let dx-fits : SFits w64 c.args.d.x = search rules in
    let az-fits : SFits w64 c.args.a.z = search rules in
    let bz-fits : SFits w64 c.args.b.z = search rules in
    let cz-fits : SFits w64 c.args.c.z = search rules in
    let dz-fits : SFits w64 c.args.d.z = search rules in
    let x = simp to_z-of_z at c.sum_of_four-x.ensures in
    let z = simp to_z-of_z at c.sum_of_four-z.ensures in
    let value = simp to_z-of_z at c.doubled.ensures in
    pair_value c.args.a c.args.b c.args.c c.args.d value c.six_within_limits.ensures.value x z

pub returns-clause-size : goal.returns-clause-size
returns-clause-size c =
    let six-fits : SFits w128 c.six_within_limits.result = record { sfits = c.six_within_limits.type_inv } in
    let x-fits : SFits w64 c.sum_of_four-x.result = record { sfits = c.sum_of_four-x.type_inv } in
    let z-fits : SFits w64 c.sum_of_four-z.result = record { sfits = c.sum_of_four-z.type_inv } in
    let ax-fits : SFits w64 c.args.a.x = search rules in
    let bx-fits : SFits w64 c.args.b.x = search rules in
    let cx-fits : SFits w64 c.args.c.x = search rules in
    let dx-fits : SFits w64 c.args.d.x = search rules in
    let az-fits : SFits w64 c.args.a.z = search rules in
    let bz-fits : SFits w64 c.args.b.z = search rules in
    let cz-fits : SFits w64 c.args.c.z = search rules in
    let dz-fits : SFits w64 c.args.d.z = search rules in
    let x = simp to_z-of_z at c.sum_of_four-x.ensures in
    let z = simp to_z-of_z at c.sum_of_four-z.ensures in
    let value = simp to_z-of_z at c.doubled.ensures in
    subst (AreAtMost 1) (sym value)
    (at_most-doubled c.six_within_limits.result c.sum_of_four-x.result c.sum_of_four-z.result c.six_within_limits.ensures.size
    (subst (MagnitudeBelow 21) (sym x) (places_small c.args.a c.args.b c.args.c c.args.d c.requires.a c.requires.b c.requires.c c.requires.d))
    (subst (MagnitudeBelow 18) (sym z) (heights_small c.args.a c.args.b c.args.c c.args.d c.requires.a c.requires.b c.requires.c c.requires.d)))
