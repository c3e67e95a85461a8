-- What spans of means enclose, and how wide they may be.
use Rattle.std.specs.Prelude.{ℕ, ◌^◌, ℤ, pos, List, [], ◌∷◌}
use Rattle.exact_algebra.proofs.Fraction.{Fraction, nought, ◌⊕◌, ◌⊗◌, ◌⊖◌, inverse, ◌≼◌}
use Rattle.exact_algebra.proofs.Whole.{whole}
use Rattle.exact_algebra.proofs.Span.{ContainsFraction}
use Rattle.outward_interval.specs.declared.span.Span.{Span}
use Rattle.hull_model.specs.WetMean.{wet_corner, wet_pair, weighted_depth}

-- the depths of the three corners of a triangle, in mm
pub record CornerDepths : Type 0 where
  pub first : Fraction
  pub second : Fraction
  pub third : Fraction

-- a mean over the wet part, by the depths of the corners
abbrev pub Mean : Type 0
Mean = Fraction → Fraction → Fraction → Fraction

abbrev pub mean_at : Mean → CornerDepths → Fraction
mean_at mean d = mean d.first d.second d.third

-- each depth lies within its span
abbrev pub AreWithin : List (Span 20) → CornerDepths → Type 0
AreWithin (x ∷ y ∷ z ∷ []) d = ContainsFraction 20 x.lo x.hi d.first × ContainsFraction 20 y.lo y.hi d.second × ContainsFraction 20 z.lo z.hi d.third
AreWithin _ d = ⊥

-- z units of 2^-F
unfoldable pub in_unit : ℕ → ℤ → Fraction
in_unit F z = whole z ⊗ inverse (whole (pos (2 ^ F)))

-- the least and the greatest depths within three spans
abbrev pub least_depths : List (Span 20) → CornerDepths
least_depths (x ∷ y ∷ z ∷ []) = record { first = in_unit 20 x.lo; second = in_unit 20 y.lo; third = in_unit 20 z.lo }
least_depths _ = record { first = nought; second = nought; third = nought }

abbrev pub greatest_depths : List (Span 20) → CornerDepths
greatest_depths (x ∷ y ∷ z ∷ []) = record { first = in_unit 20 x.hi; second = in_unit 20 y.hi; third = in_unit 20 z.hi }
greatest_depths _ = record { first = nought; second = nought; third = nought }

-- the span contains the mean at all depths within the spans h
abbrev pub EnclosesMean : (F : ℕ) → List (Span 20) → Span F → Mean → Type 0
EnclosesMean F h span mean = (d : CornerDepths) → AreWithin h d → ContainsFraction F span.lo span.hi (mean_at mean d)

-- the span is no wider than the mean at the greatest depths less that at the least, and so many units
abbrev pub IsNoWider : (F extra : ℕ) → List (Span 20) → Span F → Mean → Type 0
IsNoWider F extra h span mean =
    (whole span.hi ⊖ whole span.lo) ≼ (((mean_at mean (greatest_depths h) ⊖ mean_at mean (least_depths h)) ⊗ whole (pos (2 ^ F))) ⊕ whole (pos extra))

-- each element of a list and the one at its place in another, which is as long, are so related
abbrev pub Each : {A B : Type 0} → (A → B → Type 0) → List A → List B → Type 0
Each R [] [] = Unit {0}
Each R (x ∷ xs) (y ∷ ys) = R x y × Each R xs ys
Each R _ _ = ⊥

abbrev pub corner_means : List Mean
corner_means = wet_corner 0 ∷ wet_corner 1 ∷ wet_corner 2 ∷ []

abbrev pub pair_means : List Mean
pair_means = wet_pair 0 0 ∷ wet_pair 0 1 ∷ wet_pair 0 2 ∷ wet_pair 1 1 ∷ wet_pair 1 2 ∷ wet_pair 2 2 ∷ []

abbrev pub weighted_means : List Mean
weighted_means = weighted_depth 0 ∷ weighted_depth 1 ∷ weighted_depth 2 ∷ []
