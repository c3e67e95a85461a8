use Rattle.std.proofs.Common.{◌∙◌}
use Rattle.std.proofs.lemmas.Int.{to_z-of_z}
use Rattle.std.specs.Int.{w128}
use mir.Val.{SFits}
use Rattle.hydro_tables.proofs.CentreCut.{cut_contains}
use Rattle.hydro_tables.proofs.centre.aboard.Goals as goal

pub returns-clause-contains : goal.returns-clause-contains
returns-clause-contains c q some most h =
    let low : SFits w128 c.lo.result = record { sfits = c.lo.type_inv } in
    let high : SFits w128 c.hi.result = record { sfits = c.hi.type_inv } in
    let least : SFits w128 c.nearest.result = record { sfits = c.nearest.type_inv } in
    let greatest : SFits w128 c.nearest-2.result = record { sfits = c.nearest-2.type_inv } in
    let first = rw c.lo.ensures at (simp to_z-of_z at c.nearest.ensures) in
    let second = rw c.hi.ensures at (simp to_z-of_z at c.nearest-2.ensures) in
    let from = simp to_z-of_z at c.in-Some.ensures.ends.0 in
    let to = simp to_z-of_z at c.in-Some.ensures.ends.1 in
    cut_contains c.args.x.lo c.args.x.hi c.in-Some.places.lo c.in-Some.places.hi q (from ∙ first) (to ∙ second) some most h
