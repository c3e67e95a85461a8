-- What the corners of parts of a face hold.
use Rattle.std.specs.Prelude.{◌≡◌}
use Rattle.exact_algebra.proofs.Fraction.{Fraction, ◌⊗◌}
use Rattle.exact_algebra.proofs.Span.{ContainsFraction}
use Rattle.exact_algebra.proofs.Whole.{whole}
use Rattle.hull_model.specs.FaceParts.{area_y, area_z}
use Rattle.hull_model.specs.declared.face.Face.{Face}
use Rattle.hull_model.specs.Faces.{triangle_of}
use Rattle.hull_model.specs.TriangleCut.{Triangle}
use Rattle.hull_model.specs.Waterplane.{Position}
use Rattle.hull_polyhedron.specs.Columns.{triangle_at}
use Rattle.plane_clip.specs.declared.corner.PartCorner.{PartCorner}
use Rattle.plane_clip.specs.declared.part.Part.{Part}

-- the position is at this x exactly, and within the spans
pub record HoldsCorner (c : PartCorner) (p : Position) : Type 0 where
  pub x : p.x ≡ whole c.x
  pub y : ContainsFraction 20 c.y.lo c.y.hi p.y
  pub z : ContainsFraction 20 c.z.lo c.z.hi p.z

-- the triangle has corners and areas that the part holds
pub record HoldsPart (part : Part) (t : Triangle Position) : Type 0 where
  pub a : HoldsCorner part.a t.a
  pub b : HoldsCorner part.b t.b
  pub c : HoldsCorner part.c t.c
  pub ay : ContainsFraction 20 part.ay.lo part.ay.hi (area_y t)
  pub az : ContainsFraction 20 part.az.lo part.az.hi (area_z t)

-- the part has the corners of the triangle, and so much of its areas
pub record HoldsShare (part : Part) (share : Fraction) (t : Triangle Position) : Type 0 where
  pub a : HoldsCorner part.a t.a
  pub b : HoldsCorner part.b t.b
  pub c : HoldsCorner part.c t.c
  pub ay : ContainsFraction 20 part.ay.lo part.ay.hi (area_y t ⊗ share)
  pub az : ContainsFraction 20 part.az.lo part.az.hi (area_z t ⊗ share)

-- a face among the positions
abbrev pub face_at : Face → Triangle Position
face_at f = triangle_at (triangle_of f)
