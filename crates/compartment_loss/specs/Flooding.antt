-- The parts of a hull's boundary that are lost where slabs flood.
use Rattle.std.specs.Prelude.{◌≤◌, ◌+◌, ℕ, ℤ, pos, List, [], ◌∷◌, ◌++◌, length}
use Rattle.std.specs.Int.RustNames.{unsigned_abs}
use Rattle.std.specs.List.{AllByRecursion}
use Rattle.exact_algebra.proofs.Fraction.{Fraction}
use Rattle.hull_model.specs.declared.face.Face.{Face}
use Rattle.hull_model.specs.declared.slab.Slab.{Slab}
use Rattle.hull_model.specs.Flooded.{flooded_share}
use Rattle.hull_model.specs.TriangleCut.{Triangle}
use Rattle.hull_model.specs.Waterplane.{Position}
use Rattle.hull_polyhedron.specs.declared.faces.Faces.{Faces}
use Rattle.hull_polyhedron.specs.Between.{IsBetween, IsInside}
use Rattle.plane_clip.specs.declared.part.Part.{Part}
use Rattle.plane_clip.specs.Between.{clipped_face, IsPartWithin}
use Rattle.plane_clip.specs.Extents.{IsPartExtent}
use Rattle.flux_moments.specs.Shared.{Shared, HoldShares}

-- triangles of which this share counts
abbrev pub shared : Fraction → List (Triangle Position) → List Shared
shared share [] = []
shared share (t ∷ ts) = record { share = share; at = t } ∷ shared share ts

-- of a face in a slab, of all faces, and in all slabs
abbrev pub face_in : Slab → Face → List Shared
face_in s f = shared (flooded_share s) (clipped_face s.aft s.fore f)

abbrev pub faces_in : List Face → Slab → List Shared
faces_in [] s = []
faces_in (f ∷ fs) s = face_in s f ++ faces_in fs s

abbrev pub flooded_parts : List Face → List Slab → List Shared
flooded_parts faces [] = []
flooded_parts faces (s ∷ slabs) = faces_in faces s ++ flooded_parts faces slabs

-- between which places along the ship, how far from the centreplane and how high
pub record Room : Type 0 where
  pub first : ℤ
  pub last : ℤ
  pub half_breadth : ℕ
  pub height : ℕ

-- of the boundary of a hull
abbrev pub room_of : Faces → Room
room_of faces = record { first = faces.first_x; last = faces.last_x; half_breadth = unsigned_abs faces.half_breadth; height = unsigned_abs faces.high_z }

-- the corners of a face lie there, and those of every face
abbrev pub IsFaceIn : Room → Face → Type 0
IsFaceIn r f = AllByRecursion (IsBetween r.first r.last) f.p × AllByRecursion (IsInside (pos r.half_breadth) (pos r.height)) f.p

abbrev pub LieIn : Room → List Face → Type 0
LieIn r = AllByRecursion (IsFaceIn r)

-- so does a part, by spans that are at most so many units wide
abbrev pub IsPartIn : Room → ℕ → Part → Type 0
IsPartIn r units p = IsPartWithin r.first r.last p × IsPartExtent r.half_breadth r.height units p

-- parts with others added: what they hold, where they lie, and how many they are at most
pub record Grows (r : Room) (before after : List Part) (added : List Shared) (most : ℕ) : Type 0 where
  pub held : (ts : List Shared) → HoldShares before ts → HoldShares after (ts ++ added)
  pub placed : AllByRecursion (IsPartIn r 3) before → AllByRecursion (IsPartIn r 3) after
  pub few : length after ≤ length before + most
