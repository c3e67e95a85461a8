-- How wide the sums over strips are: of a strip that is wholly under water, of a dry one and of a cut one, and strip by strip.
use Rattle.std.proofs.Common.{◌≡◌, ◌≢◌, refl, sym, ◌∙◌, ap, subst, List, [], ◌∷◌, ℕ, suc, ◌+◌, ◌*◌, ◌^◌, ◌<◌, ◌≤◌, ℤ, pos, ◌+ℤ◌, ◌≤ℤ◌, unsigned_abs, arith, Bool, true, false}
use Rattle.std.specs.Prelude.{cond}
use Rattle.std.proofs.lemmas.Int.{ints}
use Rattle.std.proofs.Math.Nat.{mul-le-mul}
use Rattle.exact_algebra.specs.Expression.{var, unit, number, ◌:+◌, ◌:-◌, ◌:*◌, opposite}
use Rattle.exact_algebra.specs.OrderedField.{below}
use Rattle.exact_algebra.proofs.Fraction.{nought, Fraction, one, ◌⊕◌, ◌⊗◌, sign, fractions, fraction_ring, ◌≼◌}
use Rattle.exact_algebra.proofs.Order as Order
use Rattle.exact_algebra.proofs.Order.{order_from, no_more, at_most, equal, scaled}
use Rattle.exact_algebra.proofs.Ring.{ring_from, given, none}
use Rattle.exact_algebra.proofs.Whole.{whole, whole-nought, whole-one, whole-add, whole-mul, whole-≼, nonnegative-whole}
use Rattle.hull_model.specs.declared.face.Face.{Face}
use Rattle.hull_model.specs.Fractions.{sum_over}
use Rattle.hull_polyhedron.specs.declared.faces.Faces.{Faces}
use Rattle.hull_polyhedron.specs.SideAreas.{seen_from_side}
use Rattle.hull_polyhedron.specs.StripsOf.{strip_count, strip_faces, sum_to, AreApart}
use Rattle.outward_interval.specs.Ends.{AreEnds}
use Rattle.outward_interval.specs.Widths.{unit_of, units, IsNarrow}
use Rattle.outward_interval.proofs.Narrow.{whole-number, nonnegative-unit_of, narrow-wider, narrow-sum}
use Rattle.flux_moments.specs.Clear.{open_to}
use Rattle.flux_moments.specs.Limits.{EndsAtMost}
use Rattle.flux_moments.specs.Sizes.{doubled_area, spread, volume_part, length_part, height_part}
use Rattle.flux_moments.specs.StripSizes.{width_of, AreStripWidths}
use Rattle.flux_moments.specs.Wets.{IsSum}
use Rattle.flux_moments.specs.Widths.{size_of, reach_of}
use Rattle.flux_moments.specs.declared.plane_box.PlaneBox.{PlaneBox}
use Rattle.flux_moments.specs.declared.wet.Wet.{Wet}
use Rattle.flux_moments.proofs.BoxWidths.{nonnegative_rise, nonnegative_turn, nonnegative_level}
use Rattle.flux_moments.proofs.TotalWidths.{size_is, some_reach}

u : sign (unit_of 20) ≢ below
u = nonnegative-unit_of 20

-- ---- the parts of faces aren't below 0
pub nonnegative_sum : (g : Face → Fraction) → ((f : Face) → sign (g f) ≢ below) → (fs : List Face) → sign (sum_over g fs) ≢ below
unfolding sum_over
nonnegative_sum g each [] = Order.nonnegative-nought fractions
nonnegative_sum g each (f ∷ fs) = Order.nonnegative-add fractions (each f) (nonnegative_sum g each fs)

some_units : (k : ℕ) → sign (units 20 k) ≢ below
some_units k = Order.nonnegative-mul fractions (Order.nonnegative-number fractions k) u

twice : (x : Fraction) → sign x ≢ below → sign (x ⊕ x) ≢ below
twice x h = Order.nonnegative-add fractions h h

module _ (s : Fraction) (is : sign s ≢ below) where
  pub nonnegative_volume : (f : Face) → sign (volume_part s (doubled_area f)) ≢ below
  nonnegative_volume f = Order.nonnegative-add fractions (Order.nonnegative-mul fractions (nonnegative-whole (unsigned_abs f.ay + unsigned_abs f.az))
      (Order.nonnegative-add fractions (twice s is) (some_units 24))) (some_units 2)

  pub nonnegative_length : (x : Fraction) → sign x ≢ below → (f : Face) → sign (length_part x s (doubled_area f)) ≢ below
  nonnegative_length x far f = Order.nonnegative-mul fractions far (Order.nonnegative-add fractions (Order.nonnegative-mul fractions
      (nonnegative-whole (unsigned_abs f.ay + unsigned_abs f.az)) (Order.nonnegative-add fractions (twice s is) (some_units 64))) (some_units 6))

  pub nonnegative_height : (h : Fraction) → sign h ≢ below → (f : Face) → sign (height_part h s (doubled_area f)) ≢ below
  nonnegative_height h far f = Order.nonnegative-mul fractions far (Order.nonnegative-add fractions (Order.nonnegative-add fractions
      (Order.nonnegative-mul fractions (nonnegative-whole (unsigned_abs f.ay + unsigned_abs f.az)) (Order.nonnegative-add fractions (twice (s ⊕ s) (twice s is)) (some_units 64))) is) (some_units 16))

-- ---- of one strip: by its totals, dry, and by its columns
module _ (x : Fraction) (is : sign x ≢ below) where
  pub two_units : units 20 2 ≼ x ⊕ whole (pos 1) ⊗ units 20 3
  two_units = order_from fractions (x ∷ unit_of 20 ∷ whole (pos 1) ∷ []) ((unit, number 0, var 0) ∷ (unit, number 0, var 1) ∷ (opposite (number 3 :* var 1), var 2, unit) ∷ [])
      (at_most (Order.nought-≼ fractions is) (at_most (Order.nought-≼ fractions u) (equal whole-one no_more))) (number 2 :* var 1) (var 0 :+ var 2 :* (number 3 :* var 1)) refl

  pub no_width : {lo hi : ℤ} → (lo ≡ pos 0) × (hi ≡ pos 0) → IsNarrow 20 (x ⊕ whole (pos 1) ⊗ units 20 3) lo hi
  no_width {lo} {hi} e = record {
    width = order_from fractions (x ∷ unit_of 20 ∷ whole (pos 1) ∷ whole lo ∷ whole hi ∷ whole (pos (2 ^ 20)) ∷ [])
        ((var 5, number 0, var 0) ∷ ((number 3 :* var 2) :* var 5, number 0, var 1) ∷ (opposite unit, var 3, var 4) ∷ [])
        (scaled (nonnegative-whole (2 ^ 20)) (Order.nought-≼ fractions is) (scaled (Order.nonnegative-mul fractions (Order.nonnegative-mul fractions
        (Order.nonnegative-number fractions 3) (nonnegative-whole 1)) (nonnegative-whole (2 ^ 20))) (Order.nought-≼ fractions u) (equal (ap whole (e.0 ∙ sym e.1)) no_more)))
        (var 4 :- var 3) ((var 0 :+ var 2 :* (number 3 :* var 1)) :* var 5) refl;
  }

pub three_units : (w x : Fraction) → w ≼ x → w ⊕ units 20 3 ≼ x ⊕ whole (pos 1) ⊗ units 20 3
three_units w x h = order_from fractions (w ∷ x ∷ unit_of 20 ∷ whole (pos 1) ∷ []) ((unit, var 0, var 1) ∷ (opposite (number 3 :* var 2), var 3, unit) ∷ [])
    (at_most h (equal whole-one no_more)) (var 0 :+ number 3 :* var 2) (var 1 :+ var 3 :* (number 3 :* var 2)) refl

pub as_narrow : (x : Fraction) {lo hi : ℤ} → IsNarrow 20 x lo hi → IsNarrow 20 (x ⊕ whole (pos 1) ⊗ units 20 3) lo hi
as_narrow x h = narrow-wider (order_from fractions (x ∷ unit_of 20 ∷ whole (pos 1) ∷ []) ((number 3 :* var 2, number 0, var 1) ∷ [])
    (scaled (Order.nonnegative-mul fractions (Order.nonnegative-number fractions 3) (nonnegative-whole 1)) (Order.nought-≼ fractions u) no_more)
    (var 0) (var 0 :+ var 2 :* (number 3 :* var 1)) refl) h

-- ---- of a strip that is wholly under water, sideways and upwards: by what is seen of its faces from the side
module _ (h s : Fraction) (far : sign h ≢ below) (is : sign s ≢ below) where
  abbrev seen : List Face → Fraction
  seen fs = whole (pos (seen_from_side fs))

  seen_heights : (fs : List Face) → (seen fs ⊕ seen fs) ⊗ (s ⊗ h) ≼ sum_over (λ f. height_part h s (doubled_area f)) fs
  unfolding sum_over
  seen_heights [] = Order.≼_same fractions (ring_from fraction_ring (whole (pos 0) ∷ s ∷ h ∷ []) (((number 2 :* var 1) :* var 2, var 0, number 0) ∷ [])
      (given whole-nought none) ((var 0 :+ var 0) :* (var 1 :* var 2)) (number 0) refl)
  seen_heights (f ∷ fs) = order_from fractions (whole (pos (unsigned_abs f.ay)) ∷ seen fs ∷ seen (f ∷ fs) ∷ doubled_area f ∷ s ∷ h ∷ unit_of 20
      ∷ sum_over (λ f. height_part h s (doubled_area f)) fs ∷ [])
      ((unit, (var 1 :+ var 1) :* (var 4 :* var 5), var 7) ∷ (number 2 :* var 4 :* var 5, var 2, var 0 :+ var 1) ∷ (number 2 :* var 4 :* var 5, var 0, var 3)
      ∷ (number 2 :* var 5 :* var 3 :+ var 5, number 0, var 4) ∷ (number 64 :* var 5 :* var 3 :+ number 16 :* var 5, number 0, var 6) ∷ [])
      (at_most (seen_heights fs) (equal (whole-add (pos (unsigned_abs f.ay)) (pos (seen_from_side fs)))
      (scaled (Order.nonnegative-mul fractions (Order.nonnegative-mul fractions (Order.nonnegative-number fractions 2) is) far) (whole-≼ (part (unsigned_abs f.ay) (unsigned_abs f.az)))
      (scaled (Order.nonnegative-add fractions (Order.nonnegative-mul fractions (Order.nonnegative-mul fractions (Order.nonnegative-number fractions 2) far) area) far) (Order.nought-≼ fractions is)
      (scaled (Order.nonnegative-add fractions (Order.nonnegative-mul fractions (Order.nonnegative-mul fractions (Order.nonnegative-number fractions 64) far) area)
      (Order.nonnegative-mul fractions (Order.nonnegative-number fractions 16) far)) (Order.nought-≼ fractions u) no_more)))))
      ((var 2 :+ var 2) :* (var 4 :* var 5))
      (var 5 :* ((var 3 :* (((var 4 :+ var 4) :+ (var 4 :+ var 4)) :+ number 64 :* var 6) :+ var 4) :+ number 16 :* var 6) :+ var 7) refl
    where
      area : sign (doubled_area f) ≢ below
      area = nonnegative-whole (unsigned_abs f.ay + unsigned_abs f.az)

      part : (m n : ℕ) → pos m ≤ℤ pos (m + n)
      part m n = omega (arith, ints)

  -- times a number of which e times it is at most s times h
  module _ (e : Fraction) (m : ℕ) (fs : List Face) (low : e ⊗ whole (pos m) ≼ s ⊗ h) where
    pub seen_twice : e ⊗ whole (pos (2 * (seen_from_side fs * m))) ≼ sum_over (λ f. height_part h s (doubled_area f)) fs
    seen_twice = Order.≼_trans fractions (order_from fractions (e ∷ whole (pos m) ∷ seen fs ∷ whole (pos (seen_from_side fs * m)) ∷ whole (pos (2 * (seen_from_side fs * m))) ∷ whole (pos 2) ∷ s ∷ h ∷ [])
        ((var 2 :+ var 2, var 0 :* var 1, var 6 :* var 7) ∷ (number 2 :* var 0, var 3, var 2 :* var 1) ∷ (var 0, var 4, var 5 :* var 3) ∷ (var 0 :* var 3, var 5, number 2) ∷ [])
        (scaled (Order.nonnegative-add fractions (nonnegative-whole (seen_from_side fs)) (nonnegative-whole (seen_from_side fs))) low
        (equal (whole-mul (pos (seen_from_side fs)) (pos m)) (equal (whole-mul (pos 2) (pos (seen_from_side fs * m))) (equal (whole-number 2) no_more))))
        (var 0 :* var 4) ((var 2 :+ var 2) :* (var 6 :* var 7)) refl) (seen_heights fs)

    pub seen_once : e ⊗ whole (pos (seen_from_side fs * m)) ≼ sum_over (λ f. height_part h s (doubled_area f)) fs
    seen_once = Order.≼_trans fractions (order_from fractions (e ∷ whole (pos m) ∷ seen fs ∷ whole (pos (seen_from_side fs * m)) ∷ s ∷ h ∷ [])
        ((var 2, var 0 :* var 1, var 4 :* var 5) ∷ (var 0, var 3, var 2 :* var 1) ∷ (var 2 :* var 5, number 0, var 4) ∷ [])
        (scaled (nonnegative-whole (seen_from_side fs)) low (equal (whole-mul (pos (seen_from_side fs)) (pos m))
        (scaled (Order.nonnegative-mul fractions (nonnegative-whole (seen_from_side fs)) far) (Order.nought-≼ fractions is) no_more)))
        (var 0 :* var 3) ((var 2 :+ var 2) :* (var 4 :* var 5)) refl) (seen_heights fs)

-- ---- the sizes of a box and of a boundary
module _ (faces : Faces) (planes : PlaneBox) where
  abbrev h : Fraction
  h = reach_of faces planes

  abbrev s : Fraction
  s = spread (size_of planes) h

  pub reach_is : sign h ≢ below
  reach_is = Order.nonnegative_from fractions (Order.≼_trans fractions (Order.nought-≼ fractions (Order.nonnegative-one fractions)) (some_reach faces planes))

  pub spread_is : sign s ≢ below
  spread_is = Order.nonnegative-add fractions (nonnegative_rise planes (size_of planes) (size_is planes))
      (Order.nonnegative-mul fractions (nonnegative_turn planes (size_of planes) (size_is planes)) reach_is)

  -- the width of cosine and sine times the half-breadth and the height
  pub low_product : (size_of planes).turn ⊗ whole (pos (unsigned_abs faces.half_breadth * unsigned_abs faces.high_z)) ≼ s ⊗ h
  low_product = order_from fractions ((size_of planes).turn ∷ (size_of planes).rise ∷ (size_of planes).level ∷ whole faces.half_breadth ∷ whole faces.high_z ∷ whole (faces.high_z +ℤ faces.half_breadth)
      ∷ whole (pos (unsigned_abs faces.half_breadth)) ∷ whole (pos (unsigned_abs faces.high_z)) ∷ whole (pos (unsigned_abs faces.half_breadth * unsigned_abs faces.high_z)) ∷ [])
      ((var 0, var 8, var 6 :* var 7) ∷ (var 0 :* var 7, var 6, var 3) ∷ (var 0 :* var 3, var 7, var 4) ∷ (opposite (var 0 :* (var 2 :+ var 5 :+ var 3)), var 5, var 4 :+ var 3)
      ∷ (var 2 :+ var 5, number 0, var 1) ∷ (var 0 :* (var 2 :+ var 5 :+ var 3), number 0, var 2) ∷ (var 0 :* (var 2 :+ var 5), number 0, var 4) ∷ (var 0 :* var 3, number 0, var 3) ∷ [])
      (equal (whole-mul (pos (unsigned_abs faces.half_breadth)) (pos (unsigned_abs faces.high_z)))
      (equal (ap whole (plain faces.half_breadth (broad faces.half_breadth faces.reach.broad))) (equal (ap whole (plain faces.high_z faces.reach.above_base))
      (equal (whole-add faces.high_z faces.half_breadth)
      (scaled reach_is (Order.nought-≼ fractions (nonnegative_rise planes (size_of planes) (size_is planes)))
      (scaled (Order.nonnegative-mul fractions turn (Order.nonnegative-add fractions reach_is breadth)) (Order.nought-≼ fractions (nonnegative_level planes (size_of planes) (size_is planes)))
      (scaled (Order.nonnegative-mul fractions turn reach_is) (Order.nought-≼ fractions height)
      (scaled (Order.nonnegative-mul fractions turn breadth) (Order.nought-≼ fractions breadth) no_more))))))))
      (var 0 :* var 8) ((var 1 :+ var 0 :* (var 2 :+ var 5)) :* (var 2 :+ var 5)) refl
    where
      plain : (z : ℤ) → pos 0 ≤ℤ z → pos (unsigned_abs z) ≡ z
      plain z h = omega (arith, ints, h)

      broad : (z : ℤ) → pos 1 ≤ℤ z → pos 0 ≤ℤ z
      broad z h = omega (arith, ints, h)

      turn : sign (size_of planes).turn ≢ below
      turn = nonnegative_turn planes (size_of planes) (size_is planes)

      is_whole : (z : ℤ) → pos 0 ≤ℤ z → sign (whole z) ≢ below
      is_whole z h = Order.nonnegative_from fractions (Order.≼_trans fractions (Order.≼_same fractions (sym whole-nought)) (whole-≼ h))

      breadth : sign (whole faces.half_breadth) ≢ below
      breadth = is_whole faces.half_breadth (broad faces.half_breadth faces.reach.broad)

      height : sign (whole faces.high_z) ≢ below
      height = is_whole faces.high_z faces.reach.above_base

-- ---- strip by strip
joined : (x y : Fraction) (k : ℕ) → (x ⊕ whole (pos k) ⊗ units 20 3) ⊕ (y ⊕ whole (pos 1) ⊗ units 20 3) ≡ (x ⊕ y) ⊕ whole (pos (suc k)) ⊗ units 20 3
joined x y k = ring_from fraction_ring (x ∷ y ∷ whole (pos k) ∷ whole (pos 1) ∷ whole (pos (suc k)) ∷ unit_of 20 ∷ [])
    ((opposite (number 3 :* var 5), var 4, var 2 :+ var 3) ∷ [])
    (given (ap (λ n. whole (pos n)) (next k) ∙ whole-add (pos k) (pos 1)) none)
    ((var 0 :+ var 2 :* (number 3 :* var 5)) :+ (var 1 :+ var 3 :* (number 3 :* var 5))) ((var 0 :+ var 1) :+ var 4 :* (number 3 :* var 5)) refl
  where
    next : (k : ℕ) → suc k ≡ k + 1
    next k = omega arith

module _ (faces : Faces) (k : ℕ) where
  after : (k : ℕ) → suc k ≡ k + 1
  after k = omega arith

  pub narrow-strip : (g : Face → Fraction) {a b c d lo hi : ℤ} → AreEnds (a +ℤ c) (b +ℤ d) lo hi → IsNarrow 20 (width_of (λ g. sum_to faces g k) k g) a b
      → IsNarrow 20 (width_of (λ g. sum_over g (strip_faces faces k)) 1 g) c d → IsNarrow 20 (width_of (λ g. sum_to faces g (k + 1)) (k + 1) g) lo hi
  narrow-strip g {a} {b} {c} {d} {lo} {hi} ends before one = subst (λ (n : ℕ). IsNarrow 20 (width_of (λ g. sum_to faces g n) n g) lo hi) (after k)
      (subst (λ (w : Fraction). IsNarrow 20 w lo hi) (joined (sum_to faces g k) (sum_over g (strip_faces faces k)) k) (narrow-sum ends before one))

  -- where a strip is left out it adds its units alone
  pub open-strip : (chosen : ℕ → Bool) (g : Face → Fraction) {a b c d lo hi : ℤ} → AreEnds (a +ℤ c) (b +ℤ d) lo hi → IsNarrow 20 (width_of (λ g. open_to faces chosen g k) k g) a b
      → (chosen k ≡ true → IsNarrow 20 (units 20 3) c d) → IsNarrow 20 (width_of (λ g. sum_over g (strip_faces faces k)) 1 g) c d
      → IsNarrow 20 (width_of (λ g. open_to faces chosen g (k + 1)) (k + 1) g) lo hi
  open-strip chosen g {a} {b} {c} {d} {lo} {hi} ends before clear strip = subst (λ (n : ℕ). IsNarrow 20 (width_of (λ g. open_to faces chosen g n) n g) lo hi) (after k)
      (subst (λ (w : Fraction). IsNarrow 20 w lo hi) (joined (open_to faces chosen g k) (cond (chosen k) nought (sum_over g (strip_faces faces k))) k) (narrow-sum ends before (go (chosen k) refl)))
    where
      alone : units 20 3 ≼ nought ⊕ whole (pos 1) ⊗ units 20 3
      alone = Order.≼_same fractions (ring_from fraction_ring (unit_of 20 ∷ whole (pos 1) ∷ []) ((opposite (number 3 :* var 0), var 1, unit) ∷ [])
          (given whole-one none) (number 3 :* var 0) (number 0 :+ var 1 :* (number 3 :* var 0)) refl)

      go : (x : Bool) → chosen k ≡ x → IsNarrow 20 (cond x nought (sum_over g (strip_faces faces k)) ⊕ whole (pos 1) ⊗ units 20 3) c d
      go true e = narrow-wider alone (clear e)
      go false e = strip

  pub widths-strip : (x h s : Fraction) (sums strip result : Wet) → AreStripWidths (λ g. sum_to faces g k) k x h s sums
      → AreStripWidths (λ g. sum_over g (strip_faces faces k)) 1 x h s strip → IsSum sums strip result → AreStripWidths (λ g. sum_to faces g (k + 1)) (k + 1) x h s result
  widths-strip x h s sums strip result before one are = record {
    volume = narrow-strip (λ f. volume_part s (doubled_area f)) are.volume before.volume one.volume;
    mx = narrow-strip (λ f. length_part x s (doubled_area f)) are.mx before.mx one.mx;
    mv = narrow-strip (λ f. height_part h s (doubled_area f)) are.mv before.mv one.mv;
    mu = narrow-strip (λ f. height_part h s (doubled_area f)) are.mu before.mu one.mu;
  }

module _ (faces : Faces) where
  pub no-strips : (g : Face → Fraction) {lo hi : ℤ} → (lo ≡ pos 0) × (hi ≡ pos 0) → IsNarrow 20 (width_of (λ g. sum_to faces g 0) 0 g) lo hi
  no-strips g {lo} {hi} e = record {
    width = order_from fractions (whole (pos 0) ∷ unit_of 20 ∷ whole lo ∷ whole hi ∷ whole (pos (2 ^ 20)) ∷ [])
        ((opposite ((number 3 :* var 1) :* var 4), var 0, number 0) ∷ (opposite unit, var 2, var 3) ∷ [])
        (equal whole-nought (equal (ap whole (e.0 ∙ sym e.1)) no_more)) (var 3 :- var 2) ((number 0 :+ var 0 :* (number 3 :* var 1)) :* var 4) refl;
  }

  -- all strips, by all faces
  pub all-strips : AreApart faces → strip_count faces ≤ 63 → (g : Face → Fraction) → ((f : Face) → sign (g f) ≢ below)
      → width_of (λ g. sum_to faces g (strip_count faces)) (strip_count faces) g ≼ sum_over g faces.list ⊕ units 20 189
  all-strips apart few g some = order_from fractions (sum_to faces g (strip_count faces) ∷ sum_over g faces.list ∷ whole (pos (strip_count faces)) ∷ whole (pos 63) ∷ unit_of 20 ∷ [])
      ((unit, var 0, var 1) ∷ (number 3 :* var 4, var 2, var 3) ∷ (number 3 :* var 4, var 3, number 63) ∷ [])
      (at_most (apart.sums g (λ f. Order.nought-≼ fractions (some f))) (scaled (some_units 3) (whole-≼ (fewer (strip_count faces) few)) (equal (whole-number 63) no_more)))
      (var 0 :+ var 2 :* (number 3 :* var 4)) (var 1 :+ number 189 :* var 4) refl
    where
      fewer : (n : ℕ) → n ≤ 63 → pos n ≤ℤ pos 63
      fewer n h = omega (arith, ints, h)

  -- the same of all four integrals
  module _ (planes : PlaneBox) (apart : AreApart faces) (few : strip_count faces ≤ 63) (w : Wet)
      (widths : AreStripWidths (λ g. sum_to faces g (strip_count faces)) (strip_count faces) (whole faces.last_x) (h faces planes) (s faces planes) w) where
    far : sign (whole faces.last_x) ≢ below
    far = Order.nonnegative_from fractions (Order.≼_trans fractions (Order.≼_same fractions (sym whole-nought)) (whole-≼ faces.ends.last_within.0))

    pub volume-width : IsNarrow 20 (sum_over (λ f. volume_part (s faces planes) (doubled_area f)) faces.list ⊕ units 20 189) w.volume.lo w.volume.hi
    volume-width = narrow-wider (all-strips apart few _ (nonnegative_volume (s faces planes) (spread_is faces planes))) widths.volume

    pub mx-width : IsNarrow 20 (sum_over (λ f. length_part (whole faces.last_x) (s faces planes) (doubled_area f)) faces.list ⊕ units 20 189) w.mx.lo w.mx.hi
    mx-width = narrow-wider (all-strips apart few _ (nonnegative_length (s faces planes) (spread_is faces planes) (whole faces.last_x) far)) widths.mx

    pub mv-width : IsNarrow 20 (sum_over (λ f. height_part (h faces planes) (s faces planes) (doubled_area f)) faces.list ⊕ units 20 189) w.mv.lo w.mv.hi
    mv-width = narrow-wider (all-strips apart few _ (nonnegative_height (s faces planes) (spread_is faces planes) (h faces planes) (reach_is faces planes))) widths.mv

    pub mu-width : IsNarrow 20 (sum_over (λ f. height_part (h faces planes) (s faces planes) (doubled_area f)) faces.list ⊕ units 20 189) w.mu.lo w.mu.hi
    mu-width = narrow-wider (all-strips apart few _ (nonnegative_height (s faces planes) (spread_is faces planes) (h faces planes) (reach_is faces planes))) widths.mu

  pub volume-alone : (planes : PlaneBox) → AreApart faces → strip_count faces ≤ 63 → {lo hi : ℤ}
      → IsNarrow 20 (width_of (λ g. sum_to faces g (strip_count faces)) (strip_count faces) (λ f. volume_part (s faces planes) (doubled_area f))) lo hi
      → IsNarrow 20 (sum_over (λ f. volume_part (s faces planes) (doubled_area f)) faces.list ⊕ units 20 189) lo hi
  volume-alone planes apart few width = narrow-wider (all-strips apart few _ (nonnegative_volume (s faces planes) (spread_is faces planes))) width

-- ---- the ends, with no more faces than a boundary has and no more strips than a hull
pub strips-far : (most extra faces list strips : ℕ) {lo hi : ℤ} → faces ≤ list → list < 2 ^ 14 → strips ≤ 63 → EndsAtMost (faces * most + strips * extra) lo hi → EndsAtMost (16383 * most + 63 * extra) lo hi
strips-far most extra faces list strips {lo} {hi} h k few e = record { low = within e.low; high = within e.high }
  where
    fewer : faces ≤ 16383
    fewer = omega (arith, h, k)

    same : (n : ℕ) → n ≤ n
    same n = omega arith

    within : {n : ℕ} → n ≤ faces * most + strips * extra → n ≤ 16383 * most + 63 * extra
    within i = omega (arith, i, mul-le-mul fewer (same most), mul-le-mul few (same extra))

-- where each strip adds one
pub strips-far_one : (most faces list strips : ℕ) {lo hi : ℤ} → faces ≤ list → list < 2 ^ 14 → strips ≤ 63 → EndsAtMost (faces * most + strips) lo hi → EndsAtMost (16383 * most + 63) lo hi
strips-far_one most faces list strips {lo} {hi} h k few e = record { low = within e.low; high = within e.high }
  where
    fewer : faces ≤ 16383
    fewer = omega (arith, h, k)

    same : (n : ℕ) → n ≤ n
    same n = omega arith

    within : {n : ℕ} → n ≤ faces * most + strips → n ≤ 16383 * most + 63
    within i = omega (arith, i, few, mul-le-mul fewer (same most))
