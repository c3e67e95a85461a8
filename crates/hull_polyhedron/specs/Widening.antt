-- A model of the private type `Extent`: an extent that is widened by one point after another.
use Rattle.std.specs.Prelude.{List, [], ◌∷◌}
use Rattle.std.specs.Int.{int_min, int_max}
use Rattle.hull_model.specs.declared.point.Point.{Point}
use Rattle.hull_model.specs.declared.station.Station.{Station}
use Rattle.hull_polyhedron.specs.declared.extent.Extent.{Extent}

abbrev pub at : Point → Extent
at p = record { low_z = p.z; high_z = p.z; half_breadth = p.y }

abbrev pub with_point : Extent → Point → Extent
with_point e p = record { low_z = int_min e.low_z p.z; high_z = int_max e.high_z p.z; half_breadth = int_max e.half_breadth p.y }

abbrev pub with_points : Extent → List Point → Extent
with_points e [] = e
with_points e (p ∷ points) = with_points (with_point e p) points

abbrev pub with_stations : Extent → List Station → Extent
with_stations e [] = e
with_stations e (s ∷ stations) = with_stations (with_points e s.points) stations
