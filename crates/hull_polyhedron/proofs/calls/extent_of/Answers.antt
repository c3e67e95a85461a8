use Rattle.std.proofs.Common.{sym, ◌∙◌, ap, List, get_or}
use mathlib.Core.Path.{subst}
use Rattle.hull_model.specs.declared.point.Point.{Point}
use Rattle.hull_polyhedron.specs.declared.extent.Extent.{Extent}
use Rattle.hull_polyhedron.specs.Extent.{IsLeast, IsGreatest}
use Rattle.hull_polyhedron.specs.Widening.{at, with_stations}
use Rattle.hull_polyhedron.proofs.Extents.{least_height, greatest_height, greatest_breadth}
use Rattle.hull_polyhedron.proofs.calls.extent_of.Goals as goal

pub returns-clause-low_z : goal.returns-clause-low_z
returns-clause-low_z c = subst (λ (e : Extent). IsLeast (λ p. p.z) c.args.stations.now e.low_z)
    (sym (c.with_stations.ensures ∙ ap (λ (e : Extent). with_stations e c.args.stations.now) (c.at.ensures ∙ ap (λ (points : List Point). at (get_or points 0 _)) c.as_slice.ensures)))
    (least_height c.args.stations.now c.requires c.index-stations-0.result _)

pub returns-clause-high_z : goal.returns-clause-high_z
returns-clause-high_z c = subst (λ (e : Extent). IsGreatest (λ p. p.z) c.args.stations.now e.high_z)
    (sym (c.with_stations.ensures ∙ ap (λ (e : Extent). with_stations e c.args.stations.now) (c.at.ensures ∙ ap (λ (points : List Point). at (get_or points 0 _)) c.as_slice.ensures)))
    (greatest_height c.args.stations.now c.requires c.index-stations-0.result _)

pub returns-clause-half_breadth : goal.returns-clause-half_breadth
returns-clause-half_breadth c = subst (λ (e : Extent). IsGreatest (λ p. p.y) c.args.stations.now e.half_breadth)
    (sym (c.with_stations.ensures ∙ ap (λ (e : Extent). with_stations e c.args.stations.now) (c.at.ensures ∙ ap (λ (points : List Point). at (get_or points 0 _)) c.as_slice.ensures)))
    (greatest_breadth c.args.stations.now c.requires c.index-stations-0.result _)
