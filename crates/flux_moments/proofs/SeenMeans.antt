-- What is seen of the wet part of a face from above, by the means that the code has.
use Rattle.std.proofs.Common.{ℕ, pos, ℤ, neg_ℤ, ◌*ℤ◌, ◌≡◌, ◌∙◌, refl, sym, ap, subst, [], ◌∷◌, arith}
use Rattle.exact_algebra.specs.Expression.{var, unit, number, opposite, ◌:+◌, ◌:*◌}
use Rattle.exact_algebra.proofs.Bounds as Bounds
use Rattle.exact_algebra.proofs.Fraction.{Fraction, one, ◌⊕◌, ◌⊗◌, negative, inverse, fractions, fraction_ring}
use Rattle.exact_algebra.proofs.Ring.{ring, ring_from, given, none}
use Rattle.exact_algebra.proofs.Span.{ContainsFraction}
use Rattle.exact_algebra.proofs.Whole.{whole, whole-nought, whole-mul, whole-negative, positive-whole}
use Rattle.hull_model.specs.declared.face.Face.{Face}
use Rattle.hull_model.specs.Faces.{IsFace, triangle_of, doubled_area}
use Rattle.hull_model.specs.TriangleCut.{Triangle}
use Rattle.hull_model.specs.Waterplane.{Position, upright}
use Rattle.hull_model.specs.WetMean.{wet_share, wet_corner, wet_pair}
use Rattle.hull_polyhedron.specs.Columns.{depth, seen_area}
use Rattle.hull_polyhedron.proofs.ColumnMeans.{seen_parts_are_known_by_means}
use Rattle.hull_polyhedron.proofs.WholeHull.{seen_area-node}
use Rattle.plane_clip.specs.Enclosure.{CornerDepths, mean_at}
use Rattle.flux_moments.specs.Columns.{face_at, lid_part, linear_at, square_at}

-- ---- the square of a function by products of whole numbers
pub square_sum : (d : CornerDepths) (u v w : ℤ) {uu vv ww uv uw vw : ℤ} → uu ≡ u *ℤ u → vv ≡ v *ℤ v → ww ≡ w *ℤ w → uv ≡ u *ℤ v → uw ≡ u *ℤ w → vw ≡ v *ℤ w
    → ((mean_at (wet_pair 0 0) d ⊗ whole uu ⊕ mean_at (wet_pair 1 1) d ⊗ whole vv) ⊕ mean_at (wet_pair 2 2) d ⊗ whole ww)
    ⊕ ((mean_at (wet_pair 0 1) d ⊗ whole uv ⊕ mean_at (wet_pair 0 2) d ⊗ whole uw) ⊕ mean_at (wet_pair 1 2) d ⊗ whole vw) ⊗ whole (pos 2)
    ≡ square_at d (whole u) (whole v) (whole w)
square_sum d u v w e f g h k l = λ i.
    ((mean_at (wet_pair 0 0) d ⊗ product u u e i ⊕ mean_at (wet_pair 1 1) d ⊗ product v v f i) ⊕ mean_at (wet_pair 2 2) d ⊗ product w w g i)
    ⊕ ((mean_at (wet_pair 0 1) d ⊗ product u v h i ⊕ mean_at (wet_pair 0 2) d ⊗ product u w k i) ⊕ mean_at (wet_pair 1 2) d ⊗ product v w l i) ⊗ whole (pos 2)
  where
    product : (x y : ℤ) {z : ℤ} → z ≡ x *ℤ y → whole z ≡ whole x ⊗ whole y
    product x y e = ap whole e ∙ whole-mul x y

-- ---- a face, at an upright level plane
module _ (at : Fraction) (first last : ℤ) (f : Face) (is : IsFace f) where
  abbrev t : Triangle Position
  t = face_at f

  abbrev H : Fraction
  H = inverse (whole (pos 2))

  abbrev pub lid_depths : CornerDepths
  lid_depths = record { first = depth (upright at) first last t.a; second = depth (upright at) first last t.b; third = depth (upright at) first last t.c }

  half : whole (pos 2) ⊗ H ≡ one
  half = Bounds.mul-inverse_positive fractions (positive-whole 2 (omega arith))

  one_inverse : whole (pos 1) ⊗ inverse (whole (pos 1)) ≡ one
  one_inverse = Bounds.mul-inverse_positive fractions (positive-whole 1 (omega arith))

  -- from above, twice the area that is seen is that of the face with the other sign
  seen_above : seen_area (upright at) t ≡ whole (neg_ℤ f.az)
  seen_above = subst (λ (g : Face). seen_area (upright at) t ≡ whole (neg_ℤ g.az)) (sym is.area)
      (seen_area-node (upright at) (triangle_of f) ∙ straight (whole y) (whole z) ∙ sym (whole-negative z))
    where
      y : ℤ
      y = (doubled_area (triangle_of f)).y

      z : ℤ
      z = (doubled_area (triangle_of f)).z

      straight : (y z : Fraction) → negative (whole (pos 0) ⊗ y ⊕ whole (pos 1) ⊗ z) ⊗ inverse (whole (pos 1)) ≡ negative z
      straight y z = ring_from fraction_ring (y ∷ z ∷ whole (pos 0) ∷ whole (pos 1) ∷ inverse (whole (pos 1)) ∷ [])
          ((opposite (var 0 :* var 4), var 2, number 0) ∷ (opposite (var 1), var 3 :* var 4, unit) ∷ []) (given whole-nought (given one_inverse none))
          (opposite (var 2 :* var 0 :+ var 3 :* var 1) :* var 4) (opposite (var 1)) refl

  -- an area times a half, times a mean, and twice that
  doubled : (part mean : Fraction) → part ≡ seen_area (upright at) t ⊗ H ⊗ mean → mean ⊗ whole (neg_ℤ f.az) ≡ part ⊗ whole (pos 2)
  doubled part mean e = ring_from fraction_ring (part ∷ mean ∷ seen_area (upright at) t ∷ H ∷ whole (neg_ℤ f.az) ∷ whole (pos 2) ∷ [])
      ((opposite (var 5), var 0, var 2 :* var 3 :* var 1) ∷ (opposite (var 1), var 2, var 4) ∷ (opposite (var 1 :* var 2), var 5 :* var 3, unit) ∷ [])
      (given e (given seen_above (given half none))) (var 1 :* var 4) (var 0 :* var 5) refl

  area_doubled : mean_at wet_share lid_depths ⊗ whole (neg_ℤ f.az) ≡ lid_part at first last (λ p. one) (λ p. one) f ⊗ whole (pos 2)
  area_doubled = doubled _ _ (seen_parts_are_known_by_means (upright at) first last t).constant

  linear_doubled : (g : Position → Fraction) → linear_at lid_depths (g t.a) (g t.b) (g t.c) ⊗ whole (neg_ℤ f.az) ≡ lid_part at first last g (λ p. one) f ⊗ whole (pos 2)
  linear_doubled g = doubled _ _ ((seen_parts_are_known_by_means (upright at) first last t).linear g ∙ ap (λ m. seen_area (upright at) t ⊗ H ⊗ m) order)
    where
      m : ℕ → Fraction
      m n = mean_at (wet_corner n) lid_depths

      order : (g t.a ⊗ m 0 ⊕ g t.b ⊗ m 1) ⊕ g t.c ⊗ m 2 ≡ linear_at lid_depths (g t.a) (g t.b) (g t.c)
      order = ring fraction_ring (m 0 ∷ m 1 ∷ m 2 ∷ g t.a ∷ g t.b ∷ g t.c ∷ []) ((var 3 :* var 0 :+ var 4 :* var 1) :+ var 5 :* var 2) ((var 0 :* var 3 :+ var 1 :* var 4) :+ var 2 :* var 5) refl

  square_doubled : (g : Position → Fraction) → square_at lid_depths (g t.a) (g t.b) (g t.c) ⊗ whole (neg_ℤ f.az) ≡ lid_part at first last g g f ⊗ whole (pos 2)
  square_doubled g = doubled _ _ ((seen_parts_are_known_by_means (upright at) first last t).square g ∙ ap (λ m. seen_area (upright at) t ⊗ H ⊗ m) order)
    where
      m : ℕ → ℕ → Fraction
      m i j = mean_at (wet_pair i j) lid_depths

      order : ((g t.a ⊗ g t.a) ⊗ m 0 0 ⊕ (g t.a ⊗ g t.b ⊗ whole (pos 2)) ⊗ m 0 1 ⊕ (g t.a ⊗ g t.c ⊗ whole (pos 2)) ⊗ m 0 2
          ⊕ (g t.b ⊗ g t.b) ⊗ m 1 1 ⊕ (g t.b ⊗ g t.c ⊗ whole (pos 2)) ⊗ m 1 2 ⊕ (g t.c ⊗ g t.c) ⊗ m 2 2) ≡ square_at lid_depths (g t.a) (g t.b) (g t.c)
      order = ring fraction_ring (m 0 0 ∷ m 0 1 ∷ m 0 2 ∷ m 1 1 ∷ m 1 2 ∷ m 2 2 ∷ g t.a ∷ g t.b ∷ g t.c ∷ whole (pos 2) ∷ [])
          ((((((var 6 :* var 6) :* var 0 :+ ((var 6 :* var 7) :* var 9) :* var 1) :+ ((var 6 :* var 8) :* var 9) :* var 2) :+ (var 7 :* var 7) :* var 3) :+ ((var 7 :* var 8) :* var 9) :* var 4) :+ (var 8 :* var 8) :* var 5)
          (((var 0 :* (var 6 :* var 6) :+ var 3 :* (var 7 :* var 7)) :+ var 5 :* (var 8 :* var 8)) :+ ((var 1 :* (var 6 :* var 7) :+ var 2 :* (var 6 :* var 8)) :+ var 4 :* (var 7 :* var 8)) :* var 9) refl

  -- a span that contains the mean times the area contains what is seen, twice
  seen_within : (mean part : Fraction) → mean ⊗ whole (neg_ℤ f.az) ≡ part ⊗ whole (pos 2) → {lo hi area : ℤ} → area ≡ neg_ℤ f.az → ContainsFraction 20 lo hi (mean ⊗ whole area) → ContainsFraction 20 lo hi (part ⊗ whole (pos 2))
  seen_within mean part e {lo} {hi} same c = subst (λ (x : Fraction). ContainsFraction 20 lo hi x) (ap (λ (z : ℤ). mean ⊗ whole z) same ∙ e) c

  pub area_within : {lo hi area : ℤ} → area ≡ neg_ℤ f.az → ContainsFraction 20 lo hi (mean_at wet_share lid_depths ⊗ whole area) → ContainsFraction 20 lo hi (lid_part at first last (λ p. one) (λ p. one) f ⊗ whole (pos 2))
  area_within = seen_within _ _ area_doubled

  pub linear_within : (g : Position → Fraction) → {lo hi area : ℤ} → area ≡ neg_ℤ f.az → ContainsFraction 20 lo hi (linear_at lid_depths (g t.a) (g t.b) (g t.c) ⊗ whole area)
      → ContainsFraction 20 lo hi (lid_part at first last g (λ p. one) f ⊗ whole (pos 2))
  linear_within g = seen_within _ _ (linear_doubled g)

  pub square_within : (g : Position → Fraction) → {lo hi area : ℤ} → area ≡ neg_ℤ f.az → ContainsFraction 20 lo hi (square_at lid_depths (g t.a) (g t.b) (g t.c) ⊗ whole area)
      → ContainsFraction 20 lo hi (lid_part at first last g g f ⊗ whole (pos 2))
  square_within g = seen_within _ _ (square_doubled g)
