use Rattle.std.proofs.Common.{sym, List}
use mathlib.Core.Path.{subst}
use Rattle.std.specs.List.{AllByRecursion}
use Rattle.hull_polyhedron.specs.declared.totals.Totals.{Totals}
use Rattle.hull_polyhedron.specs.TotalsModel.{AreAtMost, GrowByStrips}
use Rattle.hull_polyhedron.proofs.LastStrips.{all_totals}
use Rattle.hull_polyhedron.proofs.StripSizes.{sizes_of, steps_of}
use Rattle.hull_polyhedron.proofs.strips.running_totals.Goals as goal

pub returns-clause-value : goal.returns-clause-value
returns-clause-value c = all_totals c.loop-rest.all.items c.loop-rest.sum c.loop-rest.rest.now c.in_default.len_below c.loop-rest.invariant.value

pub returns-clause-size : goal.returns-clause-size
returns-clause-size c =
    let value = all_totals c.loop-rest.all.items c.loop-rest.sum c.loop-rest.rest.now c.in_default.len_below c.loop-rest.invariant.value in
    subst (λ (all : List Totals). AllByRecursion (AreAtMost 12288) all) (sym value) (sizes_of c.args.stations.now c.requires.limits c.requires.few)

pub returns-clause-steps : goal.returns-clause-steps
returns-clause-steps c =
    let value = all_totals c.loop-rest.all.items c.loop-rest.sum c.loop-rest.rest.now c.in_default.len_below c.loop-rest.invariant.value in
    subst GrowByStrips (sym value) (steps_of c.args.stations.now c.requires.limits)
