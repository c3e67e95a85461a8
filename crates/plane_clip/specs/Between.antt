-- What a face is clipped to between two places along the ship, and parts that hold it.
use Rattle.std.specs.Prelude.{◌≤ℤ◌, ℤ, Bool, true, false, ◌&&◌, List, []}
use Rattle.std.specs.Ordering.{int_eq}
use Rattle.hull_model.specs.declared.face.Face.{Face}
use Rattle.hull_model.specs.Faces.{triangle_of}
use Rattle.hull_model.specs.TriangleCut.{Triangle}
use Rattle.hull_model.specs.Waterplane.{Position}
use Rattle.plane_clip.specs.declared.part.Part.{Part}
use Rattle.plane_clip.specs.Clipped.{clipped}
use Rattle.plane_clip.specs.Enclosure.{Each}
use Rattle.plane_clip.specs.Parts.{HoldsPart, face_at}

-- in a plane of constant x
abbrev pub is_flat : Face → Bool
is_flat f = int_eq (triangle_of f).b.x (triangle_of f).a.x && int_eq (triangle_of f).c.x (triangle_of f).a.x

abbrev pub unless_flat : Bool → List (Triangle Position) → List (Triangle Position)
unless_flat true ts = []
unless_flat false ts = ts

-- the triangles of a face from one place to another: none of a face in a plane of constant x
abbrev pub clipped_face : ℤ → ℤ → Face → List (Triangle Position)
clipped_face aft fore f = unless_flat (is_flat f) (clipped aft fore (face_at f))

-- each part holds its triangle
abbrev pub HoldParts : List Part → List (Triangle Position) → Type 0
HoldParts = Each HoldsPart

-- the corners of a part lie from one place to another
abbrev pub IsPlaced : ℤ → ℤ → ℤ → Type 0
IsPlaced first last x = (first ≤ℤ x) × (x ≤ℤ last)

pub record IsPartWithin (first last : ℤ) (p : Part) : Type 0 where
  pub a : IsPlaced first last p.a.x
  pub b : IsPlaced first last p.b.x
  pub c : IsPlaced first last p.c.x
