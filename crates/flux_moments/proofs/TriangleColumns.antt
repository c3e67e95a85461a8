-- The column of a triangle, or so much of it, from what is known of its corners and of its areas.
use Rattle.std.proofs.Common.{ℕ, pos, ℤ, ◌≡◌, ◌∙◌, refl, sym, ap, [], ◌∷◌, arith}
use Rattle.exact_algebra.specs.Expression.{Expression, var, unit, opposite, ◌:+◌, ◌:-◌, ◌:*◌}
use Rattle.exact_algebra.proofs.Bounds as Bounds
use Rattle.exact_algebra.proofs.Fraction.{Fraction, one, ◌⊕◌, ◌⊗◌, negative, inverse, fractions, fraction_ring}
use Rattle.exact_algebra.proofs.Ring.{ring, ring_from, given, none}
use Rattle.exact_algebra.proofs.Whole.{whole, whole-one, whole-add, whole-mul, positive-whole}
use Rattle.hull_model.specs.FaceParts.{area_y, area_z}
use Rattle.hull_model.specs.TriangleCut.{Triangle}
use Rattle.hull_model.specs.Waterplane.{Waterplane, Position, height, level_at}
use Rattle.hull_model.specs.WetMean.{wet_depth, weighted_depth}
use Rattle.hull_polyhedron.specs.Columns.{depth, middle, seen_area, column}
use Rattle.hull_polyhedron.proofs.ColumnMeans.{columns_are_known_by_means}
use Rattle.plane_clip.specs.Enclosure.{CornerDepths, mean_at}
use Rattle.flux_moments.specs.Columns.{moment_at}
use Rattle.flux_moments.specs.Planes.{cosine, sine}

-- twice so much of the area of a triangle as is seen
abbrev pub doubled_share : Waterplane → Triangle Position → Fraction → Fraction
doubled_share plane t share = negative (sine plane ⊗ (area_y t ⊗ share) ⊕ cosine plane ⊗ (area_z t ⊗ share))

abbrev pub depths_at : Waterplane → (first last : ℤ) → Triangle Position → CornerDepths
depths_at plane first last t = record { first = depth plane first last t.a; second = depth plane first last t.b; third = depth plane first last t.c }

-- the level and the height of a position
abbrev pub raised : Waterplane → (first last : ℤ) → Position → Fraction
raised plane first last p = level_at plane first last p.x ⊕ height plane p

module _ (plane : Waterplane) (first last : ℤ) (t : Triangle Position) (share : Fraction) where
  abbrev S : Fraction
  S = whole (pos plane.s)

  abbrev C : Fraction
  C = whole (pos plane.c)

  abbrev R : Fraction
  R = inverse (whole (pos plane.r))

  abbrev H : Fraction
  H = inverse (whole (pos 2))

  abbrev depths : CornerDepths
  depths = depths_at plane first last t

  abbrev area : Fraction
  area = doubled_share plane t share

  half : whole (pos 2) ⊗ H ≡ one
  half = Bounds.mul-inverse_positive fractions (positive-whole 2 (omega arith))

  seen : seen_area plane t ≡ negative (S ⊗ area_y t ⊕ C ⊗ area_z t) ⊗ R
  unfolding seen_area
  seen = refl

  pub volume_shared : mean_at wet_depth depths ⊗ area ≡ (column plane first last (λ p. one) t ⊗ share) ⊗ whole (pos 2)
  volume_shared = ring_from fraction_ring (S ∷ C ∷ R ∷ H ∷ area_y t ∷ area_z t ∷ mean_at wet_depth depths ∷ whole (pos 2) ∷ column plane first last (λ p. one) t ∷ seen_area plane t ∷ share ∷ [])
      ((opposite (var 7) :* var 10, var 8, var 9 :* var 3 :* var 6) ∷ (opposite (var 7 :* var 3 :* var 6) :* var 10, var 9, opposite (var 0 :* var 4 :+ var 1 :* var 5) :* var 2) ∷ (var 6 :* (var 0 :* var 4 :+ var 1 :* var 5) :* var 2 :* var 10, var 7 :* var 3, unit) ∷ [])
      (given (columns_are_known_by_means plane first last t).constant (given seen (given half none)))
      (var 6 :* opposite ((var 0 :* var 2) :* (var 4 :* var 10) :+ (var 1 :* var 2) :* (var 5 :* var 10))) ((var 8 :* var 10) :* var 7) refl

  pub moment_shared : (g : Position → Fraction) → moment_at depths area (g t.a) (g t.b) (g t.c) ≡ (column plane first last g t ⊗ share) ⊗ whole (pos 2)
  moment_shared g = ring_from fraction_ring (S ∷ C ∷ R ∷ H ∷ area_y t ∷ area_z t ∷ m 0 ∷ m 1 ∷ m 2 ∷ g t.a ∷ g t.b ∷ g t.c ∷ whole (pos 2) ∷ column plane first last g t ∷ seen_area plane t ∷ share ∷ [])
      ((opposite (var 12) :* var 15, var 13, var 14 :* var 3 :* sum) ∷ (opposite (var 12 :* var 3 :* sum) :* var 15, var 14, opposite (var 0 :* var 4 :+ var 1 :* var 5) :* var 2) ∷ (sum :* (var 0 :* var 4 :+ var 1 :* var 5) :* var 2 :* var 15, var 12 :* var 3, unit) ∷ [])
      (given ((columns_are_known_by_means plane first last t).linear g) (given seen (given half none)))
      (((var 6 :* part) :* var 9 :+ (var 7 :* part) :* var 10) :+ (var 8 :* part) :* var 11) ((var 13 :* var 15) :* var 12) refl
    where
      m : ℕ → Fraction
      m n = mean_at (weighted_depth n) depths

      sum : Expression
      sum = (var 9 :* var 6 :+ var 10 :* var 7) :+ var 11 :* var 8

      part : Expression
      part = opposite ((var 0 :* var 2) :* (var 4 :* var 15) :+ (var 1 :* var 2) :* (var 5 :* var 15))

  two : one ⊕ one ≡ whole (pos 2)
  two = sym (whole-add (pos 1) (pos 1) ∙ ap (λ x. x ⊕ x) whole-one)

  -- twice the height of the middle is the level and the height
  middle_doubled : (p : Position) → raised plane first last p ≡ middle plane first last p ⊗ whole (pos 2)
  middle_doubled p = ring_from fraction_ring (level_at plane first last p.x ∷ height plane p ∷ H ∷ whole (pos 2) ∷ []) ((opposite (var 0 :- var 1), var 3 :* var 2, unit) ∷ (var 1, unit :+ unit, var 3) ∷ [])
      (given half (given two none)) (var 0 :+ var 1) ((var 1 :+ (var 0 :- var 1) :* var 2) :* var 3) refl

  multiplied : (d : CornerDepths) (a u v w k : Fraction) → moment_at d a (u ⊗ k) (v ⊗ k) (w ⊗ k) ≡ moment_at d a u v w ⊗ k
  multiplied d a u v w k = ring fraction_ring (mean_at (weighted_depth 0) d ∷ mean_at (weighted_depth 1) d ∷ mean_at (weighted_depth 2) d ∷ a ∷ u ∷ v ∷ w ∷ k ∷ [])
      (((var 0 :* var 3) :* (var 4 :* var 7) :+ (var 1 :* var 3) :* (var 5 :* var 7)) :+ (var 2 :* var 3) :* (var 6 :* var 7))
      ((((var 0 :* var 3) :* var 4 :+ (var 1 :* var 3) :* var 5) :+ (var 2 :* var 3) :* var 6) :* var 7) refl

  pub height_shared : moment_at depths area (raised plane first last t.a) (raised plane first last t.b) (raised plane first last t.c)
      ≡ (column plane first last (middle plane first last) t ⊗ share) ⊗ whole (pos 4)
  height_shared = rw (middle_doubled t.a, middle_doubled t.b, middle_doubled t.c) (multiplied depths area (mid t.a) (mid t.b) (mid t.c) (whole (pos 2))
      ∙ ap (λ x. x ⊗ whole (pos 2)) (moment_shared mid) ∙ four (column plane first last mid t ⊗ share))
    where
      mid : Position → Fraction
      mid = middle plane first last

      four : (x : Fraction) → (x ⊗ whole (pos 2)) ⊗ whole (pos 2) ≡ x ⊗ whole (pos 4)
      four x = ring_from fraction_ring (x ∷ whole (pos 2) ∷ whole (pos 4) ∷ []) ((opposite (var 0), var 2, var 1 :* var 1) ∷ []) (given (whole-mul (pos 2) (pos 2)) none) ((var 0 :* var 1) :* var 1) (var 0 :* var 2) refl
