use Rattle.std.proofs.Common.{refl, sym, ℤ}
use mathlib.Core.Path.{subst}
use Rattle.std.proofs.lemmas.Int.{to_z-of_z}
use Rattle.std.specs.Int.{w128}
use mir.Val.{SFits}
use Rattle.exact_fraction.specs.Bounds.{MagnitudeBelow}
use Rattle.hull_model.specs.TetrahedronCut.{tetrahedron}
use Rattle.hull_polyhedron.proofs.RunningTotals.{six_small}
use Rattle.hull_polyhedron.proofs.totals.six_within_limits.Goals as goal

pub returns-clause-value : goal.returns-clause-value
returns-clause-value c =
    let fits : SFits w128 c.six_of.result = record { sfits = c.six_of.type_inv } in
    simp to_z-of_z (c.six_of.ensures (tetrahedron c.args.a c.args.b c.args.c c.args.d) refl)

pub returns-clause-size : goal.returns-clause-size
returns-clause-size c =
    let fits : SFits w128 c.six_of.result = record { sfits = c.six_of.type_inv } in
    simp to_z-of_z (subst (λ (n : ℤ). MagnitudeBelow 55 n) (sym (c.six_of.ensures (tetrahedron c.args.a c.args.b c.args.c c.args.d) refl))
    (six_small c.args.a c.args.b c.args.c c.args.d c.requires.a c.requires.b c.requires.c c.requires.d))
