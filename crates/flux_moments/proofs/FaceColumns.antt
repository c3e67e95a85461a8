-- The columns of a face from what is known of its corners.
use Rattle.std.proofs.Common.{pos, ℤ, ◌≡◌, ◌∙◌, refl, sym, ap, ap₂, [], ◌∷◌}
use Rattle.exact_algebra.specs.Expression.{var, unit, ◌:*◌}
use Rattle.exact_algebra.proofs.Fraction.{Fraction, one, ◌⊕◌, ◌⊗◌, negative, fraction_ring}
use Rattle.exact_algebra.proofs.Ring.{ring}
use Rattle.exact_algebra.proofs.Span.{ContainsFraction}
use Rattle.exact_algebra.proofs.Whole.{whole}
use Rattle.hull_model.specs.FaceParts.{area_y, area_z}
use Rattle.hull_model.specs.declared.face.Face.{Face}
use Rattle.hull_model.specs.Faces.{IsFace, triangle_of}
use Rattle.hull_model.specs.Waterplane.{Waterplane, Position}
use Rattle.hull_model.specs.WetMean.{wet_depth}
use Rattle.hull_polyhedron.specs.Columns.{middle}
use Rattle.hull_polyhedron.proofs.WholeHull.{area_y-node, area_z-node}
use Rattle.outward_interval.specs.declared.span.Span.{Span}
use Rattle.plane_clip.specs.Enclosure.{CornerDepths, mean_at}
use Rattle.flux_moments.specs.Columns.{face_at, column_volume, column_integral, moment_at}
use Rattle.flux_moments.specs.Planes.{cosine, sine}
use Rattle.flux_moments.proofs.TriangleColumns.{depths_at, doubled_share, raised, volume_shared, moment_shared, height_shared}

-- ---- a face's column by the areas and the means that the code has: that of its triangle, the whole of it
module _ (plane : Waterplane) (first last : ℤ) (f : Face) (is : IsFace f) where
  -- twice the area that is seen
  abbrev pub doubled_seen : Fraction
  doubled_seen = negative (sine plane ⊗ whole f.ay ⊕ cosine plane ⊗ whole f.az)

  abbrev pub depths : CornerDepths
  depths = depths_at plane first last (face_at f)

  whole_of : (x : Fraction) → x ≡ x ⊗ one
  whole_of x = ring fraction_ring (x ∷ []) (var 0) (var 0 :* unit) refl

  -- the area vector of the face is that of its corners
  side : whole f.ay ≡ area_y (face_at f) ⊗ one
  side = ap (λ (g : Face). whole g.ay) is.area ∙ sym (area_y-node (triangle_of f)) ∙ whole_of (area_y (face_at f))

  top : whole f.az ≡ area_z (face_at f) ⊗ one
  top = ap (λ (g : Face). whole g.az) is.area ∙ sym (area_z-node (triangle_of f)) ∙ whole_of (area_z (face_at f))

  seen : doubled_seen ≡ doubled_share plane (face_at f) one
  seen = ap₂ (λ y z. negative (sine plane ⊗ y ⊕ cosine plane ⊗ z)) side top

  alone : (x n : Fraction) → (x ⊗ one) ⊗ n ≡ x ⊗ n
  alone x n = ring fraction_ring (x ∷ n ∷ []) ((var 0 :* unit) :* var 1) (var 0 :* var 1) refl

  pub volume_doubled : mean_at wet_depth depths ⊗ doubled_seen ≡ column_volume plane first last f ⊗ whole (pos 2)
  volume_doubled = ap (λ a. mean_at wet_depth depths ⊗ a) seen ∙ volume_shared plane first last (face_at f) one ∙ alone (column_volume plane first last f) (whole (pos 2))

  pub moment_doubled : (g : Position → Fraction) → moment_at depths doubled_seen (g (face_at f).a) (g (face_at f).b) (g (face_at f).c) ≡ column_integral plane first last g f ⊗ whole (pos 2)
  moment_doubled g = ap (λ a. moment_at depths a (g (face_at f).a) (g (face_at f).b) (g (face_at f).c)) seen
      ∙ moment_shared plane first last (face_at f) one g ∙ alone (column_integral plane first last g f) (whole (pos 2))

  pub height_moment : moment_at depths doubled_seen (raised plane first last (face_at f).a) (raised plane first last (face_at f).b) (raised plane first last (face_at f).c)
      ≡ column_integral plane first last (middle plane first last) f ⊗ whole (pos 4)
  height_moment = ap (λ a. moment_at depths a (raised plane first last (face_at f).a) (raised plane first last (face_at f).b) (raised plane first last (face_at f).c)) seen
      ∙ height_shared plane first last (face_at f) one ∙ alone (column_integral plane first last (middle plane first last) f) (whole (pos 4))

-- the corners' places under other names
pub renamed_places : (d : CornerDepths) (a : Fraction) {x y z x' y' z' : ℤ} → x ≡ x' → y ≡ y' → z ≡ z' → moment_at d a (whole x) (whole y) (whole z) ≡ moment_at d a (whole x') (whole y') (whole z')
renamed_places d a {x} {y} {z} {x'} {y'} {z'} e f g = ap (λ w. moment_at d a (whole w) (whole y) (whole z)) e ∙ ap (λ w. moment_at d a (whole x') (whole w) (whole z)) f ∙ ap (λ w. moment_at d a (whole x') (whole y') (whole w)) g

-- a corner's spans under other names
pub renamed : {s t : Span 20} {x : Fraction} → s ≡ t → ContainsFraction 20 t.lo t.hi x → ContainsFraction 20 s.lo s.hi x
renamed e h = rw e h
