-- The parts of triangles between two places along the ship, and areas of triangles.
use Rattle.std.specs.Prelude.{ℤ, List}
use Rattle.std.specs.List.{flat_map}
use Rattle.exact_algebra.proofs.Fraction.{Fraction, ◌⊗◌, ◌⊖◌}
use Rattle.hull_model.specs.Flooded.{cut_by, forward_of, aft_of}
use Rattle.hull_model.specs.TriangleCut.{Triangle, kept_pieces}
use Rattle.hull_model.specs.Waterplane.{Position}

-- cut first at the aft plane and then at the fore plane. A triangle in a plane of constant x has a part only where that plane lies strictly
-- between the two
unfoldable pub parts_between : ℤ → ℤ → Triangle Position → List (Triangle Position)
parts_between aft fore t = flat_map (kept_pieces (cut_by (aft_of fore))) (kept_pieces (cut_by (forward_of aft)) t)

-- twice the area of a triangle seen along y, and along z, by the turn of its corners
abbrev pub area_y : Triangle Position → Fraction
area_y t = (t.b.z ⊖ t.a.z) ⊗ (t.c.x ⊖ t.a.x) ⊖ (t.b.x ⊖ t.a.x) ⊗ (t.c.z ⊖ t.a.z)

abbrev pub area_z : Triangle Position → Fraction
area_z t = (t.b.x ⊖ t.a.x) ⊗ (t.c.y ⊖ t.a.y) ⊖ (t.b.y ⊖ t.a.y) ⊗ (t.c.x ⊖ t.a.x)
