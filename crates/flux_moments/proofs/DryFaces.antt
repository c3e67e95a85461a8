-- A face that is dry, or of which nothing is seen, adds nothing to a sum over a boundary.
use Rattle.std.proofs.Common.{◌≡◌, ◌≢◌, ◌∙◌, refl, sym, ap, [], ◌∷◌, ◌⊎◌, inl, inr, ℕ, ◌^◌, ℤ, pos, ◌≤ℤ◌, List, arith}
use Rattle.std.proofs.lemmas.Int.{ints}
use Rattle.std.specs.List.{AllByRecursion}
use Rattle.exact_algebra.specs.Expression.{var, unit, number, ◌:+◌, ◌:-◌, ◌:*◌}
use Rattle.exact_algebra.specs.OrderedField.{below, above}
use Rattle.exact_algebra.proofs.Fraction.{Fraction, nought, ◌⊕◌, ◌⊗◌, sign, fractions, fraction_ring}
use Rattle.exact_algebra.proofs.Order as Order
use Rattle.exact_algebra.proofs.Order.{order_from, no_more, at_most}
use Rattle.exact_algebra.proofs.Ring.{ring, ring_from, given, none}
use Rattle.exact_algebra.proofs.Span.{ContainsFraction, in_units, positive-unit, contains_whole}
use Rattle.exact_algebra.proofs.Whole.{whole, whole-nought, whole-≼}
use Rattle.exact_algebra.proofs.WetForm as Form
use Rattle.hull_model.specs.declared.face.Face.{Face}
use Rattle.hull_model.specs.Faces.{IsFace}
use Rattle.hull_model.specs.Waterplane.{Waterplane, Position}
use Rattle.hull_model.proofs.MeanKinds.{Kind, depth_kind, weighted_kind, first_place, second_place, third_place, value, mean_at, kind_form}
use Rattle.hull_model.proofs.TriangleLaws.{by_twelve}
use Rattle.hull_model.proofs.WetSum.{N12}
use Rattle.hull_polyhedron.specs.Columns.{middle}
use Rattle.outward_interval.specs.declared.span.Span.{Span}
use Rattle.outward_interval.specs.Widths.{units, IsNarrow}
use Rattle.outward_interval.proofs.Narrow.{nonnegative-units}
use Rattle.plane_clip.specs.Enclosure.{CornerDepths, AreWithin}
use Rattle.flux_moments.specs.Columns.{face_at, column_volume, column_integral, moment_at}
use Rattle.flux_moments.specs.ColumnSizes.{AreColumnWidths}
use Rattle.flux_moments.specs.Limits.{EndsAtMost}
use Rattle.flux_moments.specs.Sizes.{AreSizes, volume_part, length_part, height_part}
use Rattle.flux_moments.specs.Wets.{AllFields, AreColumnEnds}
use Rattle.flux_moments.specs.declared.wet.Wet.{Wet}
use Rattle.flux_moments.proofs.FaceColumns.{depths, doubled_seen, volume_doubled, moment_doubled, height_moment}
use Rattle.flux_moments.proofs.TriangleColumns.{raised}

-- ---- dry corners
abbrev pub AreDryDepths : CornerDepths → Type 0
AreDryDepths d = (sign d.first ≢ above) × (sign d.second ≢ above) × (sign d.third ≢ above)

not_above : {lo hi : ℤ} {x : Fraction} → hi ≤ℤ pos 0 → ContainsFraction 20 lo hi x → sign x ≢ above
not_above {lo} {hi} {x} h c e = Order.≺-not_≼ fractions (Order.positive_same fractions (ring fraction_ring (x ∷ []) (var 0 :- number 0) (var 0) refl) e)
    (Order.≼_cancel fractions (positive-unit 20) (Order.≼_trans fractions c.to (Order.≼_trans fractions (whole-≼ h)
    (Order.≼_same fractions (whole-nought ∙ ring fraction_ring (whole (pos (2 ^ 20)) ∷ []) (number 0) (number 0 :* var 0) refl)))))

pub dry_within : (h : List (Span 20)) (d : CornerDepths) → AllByRecursion (λ s. s.hi ≤ℤ pos 0) h → AreWithin h d → AreDryDepths d
dry_within (x ∷ y ∷ z ∷ []) d all within = (not_above all.0 within.0, not_above all.1.0 within.1, not_above all.1.1.0 within.2)
dry_within [] d all within = elim within [ ]
dry_within (x ∷ []) d all within = elim within [ ]
dry_within (x ∷ (y ∷ [])) d all within = elim within [ ]
dry_within (x ∷ (y ∷ (z ∷ (_ ∷ _)))) d all within = elim within [ ]

-- a mean over the wet part is 0 where there is none
pub dry_mean : (κ : Kind) (d : CornerDepths) → AreDryDepths d → mean_at κ d.first d.second d.third ≡ nought
dry_mean κ d dry = by_twelve _ _ (kind_form κ d.first d.second d.third
    ∙ Form.form_dry fractions (value κ (first_place d.first)) (value κ (second_place d.second)) (value κ (third_place d.third)) dry.0 dry.1 dry.2
    ∙ ring fraction_ring (N12 ∷ []) (number 0) (number 0 :* var 0) refl)

-- ---- spans of 0 alone
abbrev pub IsNone : (lo hi : ℤ) → Type 0
IsNone lo hi = (lo ≡ pos 0) × (hi ≡ pos 0)

pub none_contained : {lo hi : ℤ} {x : Fraction} → IsNone lo hi → x ≡ nought → ContainsFraction 20 lo hi x
none_contained e same = rw (e.0, e.1, same, ← whole-nought) (contains_whole 20 (pos 0))

pub none_within : {lo hi : ℤ} {x : Fraction} → IsNone lo hi → ContainsFraction 40 lo hi x → x ≡ nought
none_within {lo} {hi} {x} e c = Order.mul_cancel fractions (Order.not_nought fractions (positive-unit 40))
    (Order.≼_antisym fractions (Order.≼_trans fractions c.to (Order.≼_same fractions (ap whole e.1 ∙ whole-nought)))
    (Order.≼_trans fractions (Order.≼_same fractions (sym (ap whole e.0 ∙ whole-nought))) c.from)
    ∙ ring fraction_ring (whole (pos (2 ^ 40)) ∷ []) (number 0) (number 0 :* var 0) refl)

pub none_at_most : (n : ℕ) {lo hi : ℤ} → IsNone lo hi → EndsAtMost n lo hi
none_at_most n e = record { low = omega (arith, ints, e.0); high = omega (arith, ints, e.1) }

pub none_narrow : (w : Fraction) {lo hi : ℤ} → sign w ≢ below → IsNone lo hi → IsNarrow 20 w lo hi
none_narrow w some e = rw (e.0, e.1) (record {
  width = order_from fractions (whole (pos 0) ∷ in_units 20 w ∷ []) ((unit, number 0, var 1) ∷ [])
      (at_most (Order.nought-≼ fractions (Order.nonnegative-mul fractions some (Order.nonnegative_positive fractions (positive-unit 20)))) no_more) (var 0 :- var 0) (var 1) refl;
})

-- ---- columns
module _ (plane : Waterplane) (first last : ℤ) (f : Face) (is : IsFace f) where
  abbrev D : CornerDepths
  D = depths plane first last f is

  abbrev S : Fraction
  S = doubled_seen plane first last f is

  -- dry, or seen edgewise
  abbrev pub IsLeftOut : Type 0
  IsLeftOut = AreDryDepths D ⊎ (S ≡ nought)

  no_product : (κ : Kind) → IsLeftOut → mean_at κ D.first D.second D.third ⊗ S ≡ nought
  no_product κ (inl dry) = ap (λ x. x ⊗ S) (dry_mean κ D dry) ∙ ring fraction_ring (S ∷ []) (number 0 :* var 0) (number 0) refl
  no_product κ (inr e) = ap (λ x. mean_at κ D.first D.second D.third ⊗ x) e
      ∙ ring fraction_ring (mean_at κ D.first D.second D.third ∷ []) (var 0 :* number 0) (number 0) refl

  no_moment : IsLeftOut → (u v w : Fraction) → moment_at D S u v w ≡ nought
  no_moment out u v w = ring_from fraction_ring (m 0 ∷ m 1 ∷ m 2 ∷ u ∷ v ∷ w ∷ []) ((var 3, var 0, number 0) ∷ (var 4, var 1, number 0) ∷ (var 5, var 2, number 0) ∷ [])
      (given (no_product (weighted_kind 0) out) (given (no_product (weighted_kind 1) out) (given (no_product (weighted_kind 2) out) none)))
      ((var 0 :* var 3 :+ var 1 :* var 4) :+ var 2 :* var 5) (number 0) refl
    where
      m : ℕ → Fraction
      m n = mean_at (weighted_kind n) D.first D.second D.third ⊗ S

  pub no_volume : IsLeftOut → {lo hi : ℤ} → IsNone lo hi → ContainsFraction 20 lo hi (column_volume plane first last f ⊗ whole (pos 2))
  no_volume out e = none_contained e (sym (volume_doubled plane first last f is) ∙ no_product depth_kind out)

  pub no_integral : (g : Position → Fraction) → IsLeftOut → {lo hi : ℤ} → IsNone lo hi → ContainsFraction 20 lo hi (column_integral plane first last g f ⊗ whole (pos 2))
  no_integral g out e = none_contained e (sym (moment_doubled plane first last f is g) ∙ no_moment out (g (face_at f).a) (g (face_at f).b) (g (face_at f).c))

  pub no_height : IsLeftOut → {lo hi : ℤ} → IsNone lo hi → ContainsFraction 20 lo hi (column_integral plane first last (middle plane first last) f ⊗ whole (pos 4))
  no_height out e = none_contained e (sym (height_moment plane first last f is)
      ∙ no_moment out (raised plane first last (face_at f).a) (raised plane first last (face_at f).b) (raised plane first last (face_at f).c))

pub no_column_ends : (w : Wet) → AllFields (λ s. IsNone s.lo s.hi) w → AreColumnEnds 1 w
no_column_ends w e = record {
  volume = none_at_most _ e.0;
  mx = none_at_most _ e.1;
  mv = none_at_most _ e.2;
  mu = none_at_most _ e.3;
}

module _ {s h a e : Fraction} (is : AreSizes s h a e) where
  reach : sign h ≢ below
  reach = Order.nonnegative_from fractions (Order.≼_trans fractions (Order.nought-≼ fractions (Order.nonnegative-one fractions)) is.some)

  twice : sign (s ⊕ s) ≢ below
  twice = Order.nonnegative-add fractions is.spread is.spread

  n : (k : ℕ) → sign (units 20 k) ≢ below
  n = nonnegative-units 20

  pub no_volume-narrow : {lo hi : ℤ} → IsNone lo hi → IsNarrow 20 (volume_part s a) lo hi
  no_volume-narrow = none_narrow (volume_part s a) (Order.nonnegative-add fractions
      (Order.nonnegative-mul fractions is.area (Order.nonnegative-add fractions twice (n 24))) (n 2))

  pub no_columns_narrow : (x : Fraction) → sign x ≢ below → (w : Wet) → AllFields (λ s. IsNone s.lo s.hi) w → AreColumnWidths x h s a w
  no_columns_narrow x far w e = record {
    volume = no_volume-narrow e.0;
    mx = none_narrow (length_part x s a) (Order.nonnegative-mul fractions far (Order.nonnegative-add fractions
        (Order.nonnegative-mul fractions is.area (Order.nonnegative-add fractions twice (n 64))) (n 6))) e.1;
    mv = none_narrow (height_part h s a) high e.2;
    mu = none_narrow (height_part h s a) high e.3;
  }
    where
      high : sign (height_part h s a) ≢ below
      high = Order.nonnegative-mul fractions reach (Order.nonnegative-add fractions (Order.nonnegative-add fractions
          (Order.nonnegative-mul fractions is.area (Order.nonnegative-add fractions (Order.nonnegative-add fractions twice twice) (n 64))) is.spread) (n 16))
