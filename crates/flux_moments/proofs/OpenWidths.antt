-- How wide the integrals are by the faces of the strips that aren't clear.
use Rattle.std.proofs.Common.{◌≡◌, ◌≢◌, refl, List, [], ◌∷◌, ℕ, zero, suc, ◌*◌, ◌^◌, ◌≤◌, Bool, true, false, ℤ, pos, ◌+ℤ◌, ◌-ℤ◌, ◌*ℤ◌, ◌≤ℤ◌, unsigned_abs, ◌+◌, arith}
use Rattle.std.proofs.lemmas.Int.{ints}
use Rattle.std.specs.Prelude.{cond}
use Rattle.exact_algebra.specs.Expression.{var, unit, number, ◌:+◌, ◌:-◌, ◌:*◌, opposite}
use Rattle.exact_algebra.specs.OrderedField.{below}
use Rattle.exact_algebra.specs.Ring.{number_value}
use Rattle.exact_algebra.proofs.Bounds as Bounds
use Rattle.exact_algebra.proofs.Fraction.{Fraction, nought, one, ◌⊕◌, ◌⊗◌, ◌⊖◌, inverse, sign, fractions, fraction_ring, ◌≼◌}
use Rattle.exact_algebra.proofs.Order as Order
use Rattle.exact_algebra.proofs.Order.{order_from, no_more, at_most, scaled, equal}
use Rattle.exact_algebra.proofs.Ring.{ring, ring_from, given, none}
use Rattle.exact_algebra.proofs.Span.{positive-unit}
use Rattle.exact_algebra.proofs.Whole.{whole, whole-mul, whole-≼, positive-whole, nonnegative-whole}
use Rattle.hull_model.specs.declared.face.Face.{Face}
use Rattle.hull_model.specs.Fractions.{sum_over}
use Rattle.hull_polyhedron.specs.declared.faces.Faces.{Faces}
use Rattle.hull_polyhedron.specs.StripsOf.{strip_count, strip_faces}
use Rattle.outward_interval.specs.Widths.{unit_of, units, IsNarrow}
use Rattle.outward_interval.proofs.Narrow.{whole-number, unit-in, nonnegative-unit_of, narrow-wider, narrow-over}
use Rattle.flux_moments.specs.Clear.{open_to, open_area, open_bound}
use Rattle.flux_moments.specs.Sizes.{spread, doubled_area, volume_part, length_part}
use Rattle.flux_moments.specs.StripSizes.{width_of}
use Rattle.flux_moments.specs.Widths.{size_of, reach_of}
use Rattle.flux_moments.specs.declared.plane_box.PlaneBox.{PlaneBox}
use Rattle.flux_moments.proofs.LidTotals.{some_length}
use Rattle.flux_moments.proofs.StripWidths.{spread_is}
use Rattle.flux_moments.proofs.TotalWidths.{sixteen}

-- 2^-10 is 1024 units of 2^-20
thousand : unit_of 10 ≡ units 20 1024
thousand = Order.mul_cancel fractions (Order.not_nought fractions (positive-unit 20))
    (ring_from fraction_ring (unit_of 10 ∷ unit_of 20 ∷ whole (pos (2 ^ 10)) ∷ whole (pos (2 ^ 20)) ∷ whole (pos 1024) ∷ [])
    ((var 0, var 3, var 2 :* var 4) ∷ (var 4, var 0 :* var 2, unit) ∷ (unit, var 4, number 1024) ∷ (opposite (number 1024), var 1 :* var 3, unit) ∷ [])
    (given (whole-mul (pos (2 ^ 10)) (pos 1024)) (given (unit-in 10) (given (whole-number 1024) (given (unit-in 20) none)))) (var 0 :* var 3)
    ((number 1024 :* var 1) :* var 3) refl)

u : sign (unit_of 20) ≢ below
u = nonnegative-unit_of 20

n : (k : ℕ) → sign (number_value fraction_ring.operations k) ≢ below
n k = Order.nonnegative-number fractions k

half : whole (pos 2) ⊗ inverse (whole (pos 2)) ≡ one
half = Bounds.mul-inverse_positive fractions (positive-whole 2 (omega arith))

-- what a strip that is open adds is at most this, times half its area and 16 mm² for each face
abbrev rate : Fraction → Fraction
rate s = number_value fraction_ring.operations 16 ⊗ (s ⊕ unit_of 16)

module _ (s : Fraction) (is : sign s ≢ below) where
  moment_by : (f : Face) → doubled_area f ⊗ ((s ⊕ s) ⊕ units 20 64) ⊕ units 20 6 ≼ rate s ⊗ open_area f
  moment_by f = order_from fractions (doubled_area f ∷ s ∷ unit_of 20 ∷ unit_of 16 ∷ inverse (whole (pos 2)) ∷ whole (pos 2) ∷ whole (pos 16) ∷ [])
      ((opposite (number 16 :* (var 0 :* var 4 :+ var 6)), var 3, number 16 :* var 2)
      ∷ (opposite (number 16 :* (var 1 :+ number 16 :* var 2)), var 6, number 16)
      ∷ (opposite (number 8 :* var 0 :* (var 1 :+ number 16 :* var 2)), var 5 :* var 4, unit)
      ∷ (number 8 :* var 0 :* var 4 :* (var 1 :+ number 16 :* var 2), var 5, number 2)
      ∷ (number 6 :* var 0 :+ number 256, number 0, var 1) ∷ (number 64 :* var 0 :+ number 4090, number 0, var 2) ∷ [])
      (equal sixteen (equal (whole-number 16) (equal half (equal (whole-number 2)
      (scaled (Order.nonnegative-add fractions (Order.nonnegative-mul fractions (n 6) area) (n 256)) (Order.nought-≼ fractions is)
      (scaled (Order.nonnegative-add fractions (Order.nonnegative-mul fractions (n 64) area) (n 4090)) (Order.nought-≼ fractions u) no_more))))))
      (var 0 :* ((var 1 :+ var 1) :+ number 64 :* var 2) :+ number 6 :* var 2) ((number 16 :* (var 1 :+ var 3)) :* (var 0 :* var 4 :+ var 6)) refl
    where
      area : sign (doubled_area f) ≢ below
      area = nonnegative-whole (unsigned_abs f.ay + unsigned_abs f.az)

  volume_by : (f : Face) → volume_part s (doubled_area f) ≼ rate s ⊗ open_area f
  volume_by f = Order.≼_trans fractions (order_from fractions (doubled_area f ∷ s ∷ unit_of 20 ∷ []) ((number 40 :* var 0 :+ number 4, number 0, var 2) ∷ [])
      (scaled (Order.nonnegative-add fractions (Order.nonnegative-mul fractions (n 40) (nonnegative-whole (unsigned_abs f.ay + unsigned_abs f.az))) (n 4)) (Order.nought-≼ fractions u) no_more)
      (var 0 :* ((var 1 :+ var 1) :+ number 24 :* var 2) :+ number 2 :* var 2) (var 0 :* ((var 1 :+ var 1) :+ number 64 :* var 2) :+ number 6 :* var 2) refl) (moment_by f)

  length_by : (x : Fraction) → sign x ≢ below → (f : Face) → length_part x s (doubled_area f) ≼ (x ⊗ rate s) ⊗ open_area f
  length_by x far f = order_from fractions (x ∷ (doubled_area f ⊗ ((s ⊕ s) ⊕ units 20 64) ⊕ units 20 6) ∷ rate s ∷ open_area f ∷ []) ((var 0, var 1, var 2 :* var 3) ∷ [])
      (scaled far (moment_by f) no_more) (var 0 :* var 1) ((var 0 :* var 2) :* var 3) refl

-- a bound for each face bounds the sums
module _ (g area : Face → Fraction) (c : Fraction) (each : (f : Face) → g f ≼ c ⊗ area f) where
  sum_by : (fs : List Face) → sum_over g fs ≼ c ⊗ sum_over area fs
  unfolding sum_over
  sum_by [] = Order.≼_same fractions (ring fraction_ring (c ∷ []) (number 0) (var 0 :* number 0) refl)
  sum_by (f ∷ fs) = order_from fractions (g f ∷ sum_over g fs ∷ c ∷ area f ∷ sum_over area fs ∷ []) ((unit, var 0, var 2 :* var 3) ∷ (unit, var 1, var 2 :* var 4) ∷ [])
      (at_most (each f) (at_most (sum_by fs) no_more)) (var 0 :+ var 1) (var 2 :* (var 3 :+ var 4)) refl

  open_by : (faces : Faces) (chosen : ℕ → Bool) (k : ℕ) → open_to faces chosen g k ≼ c ⊗ open_to faces chosen area k
  open_by faces chosen zero = Order.≼_same fractions (ring fraction_ring (c ∷ []) (number 0) (var 0 :* number 0) refl)
  open_by faces chosen (suc k) = order_from fractions (open_to faces chosen g k ∷ cond (chosen k) nought (sum_over g (strip_faces faces k)) ∷ c ∷ open_to faces chosen area k
      ∷ cond (chosen k) nought (sum_over area (strip_faces faces k)) ∷ [])
      ((unit, var 0, var 2 :* var 3) ∷ (unit, var 1, var 2 :* var 4) ∷ []) (at_most (open_by faces chosen k) (at_most (go (chosen k)) no_more)) (var 0 :+ var 1) (var 2 :* (var 3 :+ var 4)) refl
    where
      go : (x : Bool) → cond x nought (sum_over g (strip_faces faces k)) ≼ c ⊗ cond x nought (sum_over area (strip_faces faces k))
      go true = Order.≼_same fractions (ring fraction_ring (c ∷ []) (number 0) (var 0 :* number 0) refl)
      go false = sum_by (strip_faces faces k)

module _ (faces : Faces) (planes : PlaneBox) (chosen : ℕ → Bool) (few : strip_count faces ≤ 63) where
  abbrev s : Fraction
  s = spread (size_of planes) (reach_of faces planes)

  abbrev A : Fraction
  A = open_to faces chosen open_area (strip_count faces)

  abbrev B : Fraction
  B = open_bound faces planes chosen

  enough : (g O : Fraction) → one ≼ g → O ≼ (g ⊗ rate s) ⊗ A → O ⊕ whole (pos (strip_count faces)) ⊗ units 20 3 ≼ (g ⊗ B ⊖ units 20 2) ⊗ whole (pos 2)
  unfolding open_bound
  enough g O some less = order_from fractions (g ∷ A ∷ s ∷ unit_of 20 ∷ unit_of 16 ∷ unit_of 10 ∷ whole (pos 8) ∷ whole (pos 2) ∷ whole (pos (strip_count faces)) ∷ whole (pos 63) ∷ O ∷ [])
      ((unit, var 10, (var 0 :* (number 16 :* (var 2 :+ var 4))) :* var 1) ∷ (number 3 :* var 3, var 8, var 9) ∷ (number 3 :* var 3, var 9, number 63)
      ∷ (opposite (var 0 :* ((var 6 :* var 1) :* (var 2 :+ var 4) :+ var 5) :- number 2 :* var 3), var 7, number 2)
      ∷ (opposite (number 2 :* var 0 :* var 1 :* (var 2 :+ var 4)), var 6, number 8) ∷ (opposite (number 2 :* var 0), var 5, number 1024 :* var 3)
      ∷ (number 193 :* var 3, unit, var 0) ∷ (number 1855 :* var 0, number 0, var 3) ∷ [])
      (at_most less (scaled (Order.nonnegative-mul fractions (n 3) u) (whole-≼ (fewer (strip_count faces) few)) (equal (whole-number 63)
      (equal (whole-number 2) (equal (whole-number 8) (equal thousand (scaled (Order.nonnegative-mul fractions (n 193) u) some
      (scaled (Order.nonnegative-mul fractions (n 1855) far) (Order.nought-≼ fractions u) no_more))))))))
      (var 10 :+ var 8 :* (number 3 :* var 3)) ((var 0 :* ((var 6 :* var 1) :* (var 2 :+ var 4) :+ var 5) :- number 2 :* var 3) :* var 7) refl
    where
      far : sign g ≢ below
      far = Order.nonnegative_from fractions (Order.≼_trans fractions (Order.nought-≼ fractions (Order.nonnegative-one fractions)) some)

      fewer : (m : ℕ) → m ≤ 63 → pos m ≤ℤ pos 63
      fewer m h = omega (arith, ints, h)

  over_two : (g O : Fraction) {low high lo hi : ℤ} → one ≼ g → O ≼ (g ⊗ rate s) ⊗ A → IsNarrow 20 (O ⊕ whole (pos (strip_count faces)) ⊗ units 20 3) low high
      → ((hi -ℤ lo) *ℤ pos 2) ≤ℤ ((high -ℤ low) +ℤ pos (2 * 2)) → IsNarrow 20 (g ⊗ B) lo hi
  over_two g O some less narrow quotient = narrow-wider (Order.≼_same fractions (ring fraction_ring (g ∷ B ∷ unit_of 20 ∷ [])
      ((var 0 :* var 1 :- number 2 :* var 2) :+ number 2 :* var 2) (var 0 :* var 1) refl))
      (narrow-over (g ⊗ B ⊖ units 20 2) 2 (omega arith) quotient narrow (enough g O some less))

  pub sharp-volume : {low high lo hi : ℤ} → IsNarrow 20 (width_of (λ g. open_to faces chosen g (strip_count faces)) (strip_count faces) (λ f. volume_part s (doubled_area f))) low high
      → ((hi -ℤ lo) *ℤ pos 2) ≤ℤ ((high -ℤ low) +ℤ pos (2 * 2)) → IsNarrow 20 B lo hi
  sharp-volume narrow quotient = narrow-wider (Order.≼_same fractions (ring fraction_ring (B ∷ []) (unit :* var 0) (var 0) refl))
      (over_two one (open_to faces chosen (λ f. volume_part s (doubled_area f)) (strip_count faces)) (Order.≼_refl fractions one)
      (Order.≼_trans fractions (open_by (λ f. volume_part s (doubled_area f)) open_area (rate s) (volume_by s (spread_is faces planes)) faces chosen (strip_count faces))
      (Order.≼_same fractions (ring fraction_ring (rate s ∷ A ∷ []) (var 0 :* var 1) ((unit :* var 0) :* var 1) refl))) narrow quotient)

  pub sharp-length : {low high lo hi : ℤ} → IsNarrow 20 (width_of (λ g. open_to faces chosen g (strip_count faces)) (strip_count faces) (λ f. length_part (whole faces.last_x) s (doubled_area f))) low high
      → ((hi -ℤ lo) *ℤ pos 2) ≤ℤ ((high -ℤ low) +ℤ pos (2 * 2)) → IsNarrow 20 (whole faces.last_x ⊗ B) lo hi
  sharp-length narrow quotient = over_two (whole faces.last_x) (open_to faces chosen (λ f. length_part (whole faces.last_x) s (doubled_area f)) (strip_count faces)) some
      (open_by (λ f. length_part (whole faces.last_x) s (doubled_area f)) open_area (whole faces.last_x ⊗ rate s) (length_by s (spread_is faces planes) (whole faces.last_x) far) faces chosen (strip_count faces))
      narrow quotient
    where
      some : one ≼ whole faces.last_x
      some = some_length faces (pos 0) (pos 0)

      far : sign (whole faces.last_x) ≢ below
      far = Order.nonnegative_from fractions (Order.≼_trans fractions (Order.nought-≼ fractions (Order.nonnegative-one fractions)) some)
