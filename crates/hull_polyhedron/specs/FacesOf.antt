-- The boundary of a hull.
use Rattle.std.specs.Prelude.{ℕ, ◌≡◌, ◌≤◌, ◌<◌, List, map, length}
use Rattle.hull_model.specs.declared.station.Station.{Station}
use Rattle.hull_model.specs.Boundary.{IsBoundary}
use Rattle.hull_model.specs.Faces.{triangle_of}
use Rattle.hull_model.specs.SignedFaces.{signed_faces}
use Rattle.hull_model.specs.Submerged.{first_x, last_x}
use Rattle.hull_polyhedron.specs.declared.faces.Faces.{Faces}
use Rattle.hull_polyhedron.specs.Extent.{IsLeast, IsGreatest}
use Rattle.hull_polyhedron.specs.Strips.{strips_of, strip_at, station_nodes, faces_in, tetrahedra_between}
use Rattle.hull_polyhedron.specs.StripsOf.{strip_count, strip_faces, strip_nodes, total}
use Rattle.hull_polyhedron.specs.Totals.{totals_of}

-- the signed faces of the hull's tetrahedra after opposite ones cancel, between what the hull lies, and its strips
pub record AreFacesOf (stations : List Station) (faces : Faces) : Type 0 where
  pub boundary : IsBoundary (map triangle_of faces.list) (signed_faces stations)
  pub first_x : faces.first_x ≡ first_x stations
  pub last_x : faces.last_x ≡ last_x stations
  pub low_z : IsLeast (λ p. p.z) stations faces.low_z
  pub high_z : IsGreatest (λ p. p.z) stations faces.high_z
  pub half_breadth : IsGreatest (λ p. p.y) stations faces.half_breadth
  pub strips : strip_count faces ≡ length (strips_of stations)
  pub strip_faces : (n : ℕ) → n < strip_count faces → strip_faces faces n ≡ faces_in (strip_at stations n) faces.list
  pub strip_nodes : (n : ℕ) → n < strip_count faces → strip_nodes faces n ≡ station_nodes (strip_at stations n)
  pub totals : (from to : ℕ) → from ≤ to → to ≤ strip_count faces → total faces from to ≡ totals_of (tetrahedra_between stations from to)
