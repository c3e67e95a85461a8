use Rattle.std.proofs.Common.{rules, ap, ◌∙◌}
use Rattle.std.proofs.lemmas.Int.{to_z-of_z}
use Rattle.std.specs.Int.{w64}
use mir.Val.{SFits}
use Rattle.hull_model.specs.declared.station.Station.{Station}
use Rattle.hull_polyhedron.proofs.Extents.{last_x_at}
use Rattle.hull_polyhedron.proofs.calls.last_x_of.Goals as goal

pub returns-in-len1-up : goal.returns-in-len1-up
returns-in-len1-up c =
    let fits : SFits w64 c.last-item.result.x = search rules in
    simp to_z-of_z (ap (λ (s : Station). s.x) c.last-item.is ∙ last_x_at c.args.stations.now c.last-item.result c.in-len1-up.len_at_least)
