-- The section of a station, one strip after another from the lowest point.
use Prim.Native.Nat.{ℕ, ◌<◌}
use native.Mathlib.Omega.{arith}
use mathlib.Core.Path.{◌≡◌, refl, sym, ◌∙◌, ap, ap₂}
use mathlib.Core.List.{List, [], ◌∷◌, ◌++◌}
use lib.IntN.{ℤ, pos}
use lib.Signed.{◌≤ℤ◌, ◌<ℤ◌}
use borrow.Author.Differences.{ints}
use Rattle.std.specs.Prelude.{length}
use Rattle.exact_algebra.specs.Expression.{var, number, ◌:+◌, ◌:*◌}
use Rattle.exact_algebra.proofs.Ring.{ring}
use Rattle.exact_algebra.proofs.Fraction.{Fraction, nought, ◌⊕◌, ◌⊗◌, fractions, fraction_ring}
use Rattle.exact_algebra.proofs.Whole.{whole, whole-≼, whole-≺}
use Rattle.hull_model.specs.declared.point.Point.{Point}
use Rattle.hull_model.specs.Lists.{Rises}
use Rattle.hull_model.specs.Fractions.{sum_over}
use Rattle.hull_model.specs.TriangleCut.{Triangle}
use Rattle.hull_model.specs.Section.{Offset, wet_triangles, area_of, moment_of, section_area, section_moment}
use Rattle.hull_model.proofs.Strip.{NonNegative, wet_strip, wet_strip-above, breadth_at}
use Rattle.hull_model.proofs.Trapezium.{natural, trapezium_area, trapezium_moment, strip_area-below, strip_moment-below, strip_area-cut, strip_moment-cut}

pub sum_over-append : {A : Type 0} (f : A → Fraction) (xs ys : List A) → sum_over f (xs ++ ys) ≡ sum_over f xs ⊕ sum_over f ys
unfolding sum_over
sum_over-append f [] ys = ring fraction_ring (sum_over f ys ∷ []) (var 0) (number 0 :+ var 0) refl
sum_over-append f (x ∷ xs) ys = ap (λ s. f x ⊕ s) (sum_over-append f xs ys) ∙ sym (fractions.laws.ring.add_assoc (f x) (sum_over f xs) (sum_over f ys))

-- twice a sum over the kept triangles
abbrev doubled : (Triangle Offset → Fraction) → ℕ → List Point → Fraction
doubled f draft points = natural 2 ⊗ sum_over f (wet_triangles (natural draft) points)

abbrev strip : ℕ → Point → Point → List (Triangle Offset)
strip draft p q = wet_strip (natural draft) (whole p.y) (whole p.z) (whole q.y) (whole q.z)

doubled-strip : (f : Triangle Offset → Fraction) (draft : ℕ) (p q : Point) (rest : List Point) → doubled f draft (p ∷ q ∷ rest) ≡ natural 2 ⊗ sum_over f (strip draft p q) ⊕ doubled f draft (q ∷ rest)
unfolding wet_triangles
doubled-strip f draft p q rest = ap (λ s. natural 2 ⊗ s) (sum_over-append f (strip draft p q) (wet_triangles (natural draft) (q ∷ rest)))
    ∙ fractions.laws.ring.mul_add (natural 2) (sum_over f (strip draft p q)) (sum_over f (wet_triangles (natural draft) (q ∷ rest)))

-- ---- above the draft
wet_triangles-above : (draft : ℕ) (p : Point) (rest : List Point) → Rises (λ p. p.z) (p ∷ rest) → pos draft ≤ℤ p.z → wet_triangles (natural draft) (p ∷ rest) ≡ []
unfolding wet_triangles
wet_triangles-above draft p [] rises dry = refl
wet_triangles-above draft p (q ∷ rest) rises dry = ap₂ ◌++◌
    (wet_strip-above (natural draft) (whole p.y) (whole p.z) (whole q.y) (whole q.z) (whole-≼ dry) (whole-≺ (later rises.0 dry)))
    (wet_triangles-above draft q rest rises.1 (later_weak rises.0 dry))
  where
    later : {a b : ℤ} {d : ℕ} → a <ℤ b → pos d ≤ℤ a → pos d <ℤ b
    later h k = omega (arith, ints)

    later_weak : {a b : ℤ} {d : ℕ} → a <ℤ b → pos d ≤ℤ a → pos d ≤ℤ b
    later_weak h k = omega (arith, ints)

wet_triangles-short : (draft : Fraction) (points : List Point) → length points < 2 → wet_triangles draft points ≡ []
unfolding wet_triangles
wet_triangles-short draft [] h = refl
wet_triangles-short draft (p ∷ []) h = refl
wet_triangles-short draft (p ∷ q ∷ rest) h = absurd (omega arith)

doubled-none : (f : Triangle Offset → Fraction) (draft : ℕ) (points : List Point) → wet_triangles (natural draft) points ≡ [] → doubled f draft points ≡ nought
unfolding sum_over
doubled-none f draft points e = ap (λ ts. natural 2 ⊗ sum_over f ts) e ∙ ring fraction_ring (natural 2 ∷ []) (var 0 :* number 0) (number 0) refl

pub section_area-above : (draft : ℕ) (p : Point) (rest : List Point) → Rises (λ p. p.z) (p ∷ rest) → pos draft ≤ℤ p.z → section_area (p ∷ rest) draft ≡ nought
unfolding section_area
section_area-above draft p rest rises dry = doubled-none area_of draft (p ∷ rest) (wet_triangles-above draft p rest rises dry)

pub section_moment-above : (draft : ℕ) (p : Point) (rest : List Point) → Rises (λ p. p.z) (p ∷ rest) → pos draft ≤ℤ p.z → section_moment (p ∷ rest) draft ≡ nought
unfolding section_moment
section_moment-above draft p rest rises dry = doubled-none moment_of draft (p ∷ rest) (wet_triangles-above draft p rest rises dry)

pub section_area-short : (draft : ℕ) (points : List Point) → length points < 2 → section_area points draft ≡ nought
unfolding section_area
section_area-short draft points h = doubled-none area_of draft points (wet_triangles-short (natural draft) points h)

pub section_moment-short : (draft : ℕ) (points : List Point) → length points < 2 → section_moment points draft ≡ nought
unfolding section_moment
section_moment-short draft points h = doubled-none moment_of draft points (wet_triangles-short (natural draft) points h)

-- ---- with a strip below the draft
module _ (draft : ℕ) (p q : Point) (rest : List Point) (p-positive : NonNegative (whole p.y)) (q-positive : NonNegative (whole q.y)) where
  pub section_area-below : p.z <ℤ q.z → p.z <ℤ pos draft → q.z ≤ℤ pos draft
      → section_area (p ∷ q ∷ rest) draft ≡ trapezium_area (whole p.y) (whole p.z) (whole q.y) (whole q.z) ⊕ section_area (q ∷ rest) draft
  unfolding section_area
  section_area-below rises under over = doubled-strip area_of draft p q rest
      ∙ ap (λ s. s ⊕ doubled area_of draft (q ∷ rest)) (strip_area-below (natural draft) (whole p.y) (whole p.z) (whole q.y) (whole q.z) p-positive q-positive (whole-≺ rises) (whole-≺ under) (whole-≼ over))

  pub section_moment-below : p.z <ℤ q.z → p.z <ℤ pos draft → q.z ≤ℤ pos draft
      → natural 3 ⊗ section_moment (p ∷ q ∷ rest) draft ≡ trapezium_moment (whole p.y) (whole p.z) (whole q.y) (whole q.z) ⊕ natural 3 ⊗ section_moment (q ∷ rest) draft
  unfolding section_moment
  section_moment-below rises under over = ap (λ s. natural 3 ⊗ s) (doubled-strip moment_of draft p q rest)
      ∙ fractions.laws.ring.mul_add (natural 3) (natural 2 ⊗ sum_over moment_of (strip draft p q)) (doubled moment_of draft (q ∷ rest))
      ∙ ap (λ s. s ⊕ natural 3 ⊗ doubled moment_of draft (q ∷ rest)) (strip_moment-below (natural draft) (whole p.y) (whole p.z) (whole q.y) (whole q.z) p-positive q-positive (whole-≺ rises) (whole-≺ under) (whole-≼ over))

  -- ---- with a strip on both sides of the draft, and those after it above
  abbrev pub breadth_between : Fraction
  breadth_between = breadth_at (natural draft) (whole p.y) (whole p.z) (whole q.y) (whole q.z)

  weak : {a b : ℤ} → a <ℤ b → a ≤ℤ b
  weak h = omega (arith, ints)

  pub section_area-cut : Rises (λ p. p.z) (q ∷ rest) → p.z <ℤ pos draft → pos draft <ℤ q.z
      → section_area (p ∷ q ∷ rest) draft ≡ trapezium_area (whole p.y) (whole p.z) breadth_between (natural draft)
  unfolding section_area
  section_area-cut rises under over = doubled-strip area_of draft p q rest
      ∙ ap₂ ◌⊕◌ (strip_area-cut (natural draft) (whole p.y) (whole p.z) (whole q.y) (whole q.z) p-positive q-positive (whole-≺ under) (whole-≺ over)) (section_area-above draft q rest rises (weak over))
      ∙ fractions.laws.ring.add_nought (trapezium_area (whole p.y) (whole p.z) breadth_between (natural draft))

  pub section_moment-cut : Rises (λ p. p.z) (q ∷ rest) → p.z <ℤ pos draft → pos draft <ℤ q.z
      → natural 3 ⊗ section_moment (p ∷ q ∷ rest) draft ≡ trapezium_moment (whole p.y) (whole p.z) breadth_between (natural draft)
  unfolding section_moment
  section_moment-cut rises under over = ap (λ s. natural 3 ⊗ s) (doubled-strip moment_of draft p q rest
      ∙ ap (λ s. natural 2 ⊗ sum_over moment_of (strip draft p q) ⊕ s) (section_moment-above draft q rest rises (weak over))
      ∙ fractions.laws.ring.add_nought (natural 2 ⊗ sum_over moment_of (strip draft p q)))
      ∙ strip_moment-cut (natural draft) (whole p.y) (whole p.z) (whole q.y) (whole q.z) p-positive q-positive (whole-≺ under) (whole-≺ over)
