-- A triangle clipped to the side of a plane of constant x, and between two such planes: the corner that lies alone on its side comes first.
use Rattle.std.specs.Prelude.{Bool, true, false, ℤ, List, [], ◌∷◌}
use Rattle.std.specs.List.{flat_map}
use Rattle.exact_algebra.proofs.Fraction.{Fraction, sign}
use Rattle.exact_algebra.proofs.Whole.{whole}
use Rattle.hull_model.specs.Flooded.{forward_of, aft_of}
use Rattle.hull_model.specs.TriangleCut.{Triangle, triangle, is_above}
use Rattle.hull_model.specs.TriangleSums.{on}
use Rattle.hull_model.specs.Waterplane.{Position}
use Rattle.plane_clip.specs.Ways.{part_to}

-- the point at a place on the way from p to q
abbrev pub meets : ℤ → Position → Position → Position
meets at p q = on (part_to p.x q.x (whole at)) p q

-- the part at the corner a, and what is left without it
abbrev pub tip_at : ℤ → Position → Position → Position → List (Triangle Position)
tip_at at a b c = triangle a (meets at a b) (meets at a c) ∷ []

abbrev pub without_tip : ℤ → Position → Position → Position → List (Triangle Position)
without_tip at a b c = triangle (meets at a b) b c ∷ triangle (meets at a b) c (meets at a c) ∷ []

-- where the first corner lies alone, on the side that is kept or on the other
abbrev pub lone_by : Bool → ℤ → Position → Position → Position → List (Triangle Position)
lone_by true at a b c = tip_at at a b c
lone_by false at a b c = without_tip at a b c

-- by which corners are on the side that is kept
abbrev pub clip_by : Bool → Bool → Bool → ℤ → Position → Position → Position → List (Triangle Position)
clip_by true true true at a b c = triangle a b c ∷ []
clip_by true true false at a b c = without_tip at c a b
clip_by true false true at a b c = without_tip at b c a
clip_by false true true at a b c = without_tip at a b c
clip_by true false false at a b c = tip_at at a b c
clip_by false true false at a b c = tip_at at b c a
clip_by false false true at a b c = tip_at at c a b
clip_by false false false at a b c = []

-- the part of a triangle forward of a place, and aft of it
abbrev pub clip_with : (Position → Fraction) → ℤ → Triangle Position → List (Triangle Position)
clip_with d at t = clip_by (is_above (sign (d t.a))) (is_above (sign (d t.b))) (is_above (sign (d t.c))) at t.a t.b t.c

abbrev pub clip_forward : ℤ → Triangle Position → List (Triangle Position)
clip_forward at t = clip_with (forward_of at) at t

abbrev pub clip_aft : ℤ → Triangle Position → List (Triangle Position)
clip_aft at t = clip_with (aft_of at) at t

-- the part from one place along the ship to another
unfoldable pub clipped : ℤ → ℤ → Triangle Position → List (Triangle Position)
clipped aft fore t = flat_map (clip_aft fore) (clip_forward aft t)
