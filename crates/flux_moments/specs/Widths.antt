-- How wide the spans of `measure` and `lid` may be.
use Rattle.std.specs.Prelude.{◌^◌, ◌-ℤ◌, ◌+ℤ◌, ℤ, pos, List, length, max}
use Rattle.std.specs.Int.{int_max}
use Rattle.std.specs.Int.RustNames.{unsigned_abs}
use Rattle.exact_algebra.proofs.Fraction.{Fraction, ◌⊕◌, ◌⊗◌, ◌⊖◌, inverse}
use Rattle.exact_algebra.proofs.Whole.{whole}
use Rattle.hull_model.specs.declared.face.Face.{Face}
use Rattle.hull_model.specs.Faces.{triangle_of}
use Rattle.hull_model.specs.Fractions.{sum_over}
use Rattle.hull_model.specs.Waterplane.{upright}
use Rattle.hull_model.specs.WetMean.{wet_share}
use Rattle.hull_polyhedron.specs.declared.faces.Faces.{Faces}
use Rattle.outward_interval.specs.Widths.{unit_of}
use Rattle.plane_clip.specs.Enclosure.{in_unit}
use Rattle.flux_moments.specs.Columns.{depth_of}
use Rattle.flux_moments.specs.Sizes.{BoxSize, spread, doubled_area}
use Rattle.flux_moments.specs.declared.plane_box.PlaneBox.{PlaneBox}

-- ---- the integrals below the planes of a box
-- the sizes of a box
abbrev pub size_of : PlaneBox → BoxSize
size_of b = record {
  rise = in_unit 10 (int_max (b.a2 -ℤ b.a1) (b.f2 -ℤ b.f1));
  turn = in_unit 40 (int_max (b.bracket.c.hi -ℤ b.bracket.c.lo) (b.bracket.s.hi -ℤ b.bracket.s.lo));
  level = in_unit 10 (pos (max (max (unsigned_abs b.a1) (unsigned_abs b.a2)) (max (unsigned_abs b.f1) (unsigned_abs b.f2))));
}

-- the greatest magnitude of a level, the greatest height and the greatest half-breadth, together
abbrev pub reach_of : Faces → PlaneBox → Fraction
reach_of faces b = (size_of b).level ⊕ whole (faces.high_z +ℤ faces.half_breadth)

-- half the doubled areas
abbrev pub half_areas : List Face → Fraction
half_areas faces = sum_over (λ f. doubled_area f ⊗ inverse (whole (pos 2))) faces

-- how wide the volume may be, in mm³
unfoldable pub volume_bound : Faces → PlaneBox → Fraction
volume_bound faces b = (whole (pos 8) ⊗ (half_areas faces.list ⊕ whole (pos (2 ^ 17)))) ⊗ (spread (size_of b) (reach_of faces b) ⊕ unit_of 16)

-- ---- the lid
-- the share of a face that is wet at an upright level plane
abbrev pub share_at : (first last : ℤ) → Fraction → Face → Fraction
share_at first last at f = wet_share (depth_of (upright at) first last (triangle_of f).a) (depth_of (upright at) first last (triangle_of f).b)
    (depth_of (upright at) first last (triangle_of f).c)

-- how far it rises from one level to another, in grid units
abbrev pub share_rise : (first last d1 d2 : ℤ) → Face → Fraction
share_rise first last d1 d2 f = share_at first last (in_unit 10 d2) f ⊖ share_at first last (in_unit 10 d1) f

-- the magnitude of a face's doubled area as it is seen from above
abbrev pub area_above : Face → Fraction
area_above f = whole (pos (unsigned_abs f.az))

-- how wide the lid's area may be, in mm²
unfoldable pub lid_bound : Faces → (d1 d2 : ℤ) → Fraction
lid_bound faces d1 d2 = sum_over (λ f. (area_above f ⊗ inverse (whole (pos 2))) ⊗ (share_rise faces.first_x faces.last_x d1 d2 f ⊕ unit_of 32))
    faces.list ⊕ whole (pos (length faces.list)) ⊗ unit_of 18
