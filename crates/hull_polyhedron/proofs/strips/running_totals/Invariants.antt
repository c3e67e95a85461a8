use Rattle.std.proofs.Common.{◌≡◌, ◌++◌, ◌∷◌, ◌-◌, ◌*◌, ◌≤◌, length}
use Rattle.std.specs.List.{AllByRecursion}
use Rattle.hull_model.specs.Body.{IsStation}
use Rattle.hull_polyhedron.specs.Strips.{strips_of}
use Rattle.hull_polyhedron.specs.TotalsModel.{none, running_from, AreAtMost}
use Rattle.hull_polyhedron.proofs.strips.running_totals.Given as goal

abbrev pub invariant-loop-rest : goal.invariant-loop-rest
invariant-loop-rest l = record {
  each : AllByRecursion IsStation l.rest;
  few : length l.rest ≤ 64;
  value : l.all.items ++ running_from l.sum (strips_of l.rest) ≡ none ∷ running_from none (strips_of l.stations);
  sum : AreAtMost ((64 - length l.rest) * 192) l.sum;
}

abbrev pub decreases-loop-rest : goal.decreases-loop-rest
decreases-loop-rest l = length l.rest
