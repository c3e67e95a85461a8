-- The signs of the hull's tetrahedra, which are defined by the turn of the strip triangles, are those of their determinants.
use Rattle.std.specs.Prelude.{List}
use Rattle.std.specs.List.{AllByRecursion}
use Rattle.hull_model.specs.declared.station.Station.{Station}
use Rattle.hull_model.specs.Body.{IsHull}
use Rattle.hull_model.specs.SignedFaces.{signed_tetrahedra}
use Rattle.hull_polyhedron.specs.CentralLaw.{PointsOutwards}

abbrev pub SignsAreRight : Type 0
SignsAreRight = (stations : List Station) → IsHull stations → AllByRecursion PointsOutwards (signed_tetrahedra stations)
