-- A part that is dry, or seen edgewise from above, has no column at an upright plane.
use Rattle.std.proofs.Common.{◌≡◌, ◌≢◌, ◌∙◌, refl, sym, ap, [], ◌∷◌, ◌⊎◌, inl, inr, ℕ, ◌^◌, ℤ, pos}
use Rattle.exact_algebra.specs.Expression.{var, number, ◌:+◌, ◌:*◌, opposite}
use Rattle.exact_algebra.specs.OrderedField.{below}
use Rattle.exact_algebra.proofs.Fraction.{Fraction, nought, one, ◌⊕◌, ◌⊗◌, negative, sign, fractions, fraction_ring, ◌≼◌}
use Rattle.exact_algebra.proofs.Order as Order
use Rattle.exact_algebra.proofs.Ring.{ring, ring_from, given, none}
use Rattle.exact_algebra.proofs.Span.{ContainsFraction, positive-unit}
use Rattle.exact_algebra.proofs.Whole.{whole, whole-nought}
use Rattle.hull_model.specs.FaceParts.{area_z}
use Rattle.hull_model.specs.TriangleCut.{Triangle}
use Rattle.hull_model.specs.Waterplane.{Waterplane, Position}
use Rattle.hull_model.proofs.MeanKinds.{Kind, depth_kind, weighted_kind, mean_at}
use Rattle.hull_polyhedron.specs.Columns.{column}
use Rattle.outward_interval.specs.Widths.{units, IsNarrow}
use Rattle.outward_interval.proofs.Narrow.{nonnegative-units}
use Rattle.plane_clip.specs.declared.part.Part.{Part}
use Rattle.plane_clip.specs.Enclosure.{CornerDepths}
use Rattle.plane_clip.specs.Parts.{HoldsShare}
use Rattle.flux_moments.specs.Columns.{moment_at}
use Rattle.flux_moments.specs.PartSizes.{part_volume, part_length}
use Rattle.flux_moments.specs.Planes.{IsIn}
use Rattle.flux_moments.specs.declared.plane_box.PlaneBox.{PlaneBox}
use Rattle.flux_moments.proofs.DryFaces.{AreDryDepths, dry_mean, IsNone, none_contained, none_narrow}
use Rattle.flux_moments.proofs.TriangleColumns.{depths_at}
use Rattle.compartment_loss.specs.Upright.{IsUpright}
use Rattle.compartment_loss.proofs.UprightParts.{part_volume_is, part_mx_is}

-- what a span of 0 alone contains is 0
only_nought : (F : ℕ) {lo hi : ℤ} {x : Fraction} → IsNone lo hi → ContainsFraction F lo hi x → x ≡ nought
only_nought F e c = Order.mul_cancel fractions (Order.not_nought fractions (positive-unit F))
    (Order.≼_antisym fractions (Order.≼_trans fractions c.to (Order.≼_same fractions (ap whole e.1 ∙ whole-nought)))
    (Order.≼_trans fractions (Order.≼_same fractions (sym (ap whole e.0 ∙ whole-nought))) c.from)
    ∙ ring fraction_ring (whole (pos (2 ^ F)) ∷ []) (number 0) (number 0 :* var 0) refl)

module _ (planes : PlaneBox) (upright : IsUpright planes) (plane : Waterplane) (is : IsIn planes plane) (first last : ℤ) (t : Triangle Position) (share : Fraction)
    (part : Part) (holds : HoldsShare part share t) where
  abbrev d : CornerDepths
  d = depths_at plane first last t

  abbrev a : Fraction
  a = negative (area_z t ⊗ share)

  -- dry, or of no area as it is seen from above
  abbrev pub IsLeftOut : Type 0
  IsLeftOut = AreDryDepths d ⊎ IsNone part.az.lo part.az.hi

  no_product : (κ : Kind) → IsLeftOut → mean_at κ d.first d.second d.third ⊗ a ≡ nought
  no_product κ (inl dry) = ap (λ x. x ⊗ a) (dry_mean κ d dry) ∙ ring fraction_ring (a ∷ []) (number 0 :* var 0) (number 0) refl
  no_product κ (inr e) = ap (λ x. mean_at κ d.first d.second d.third ⊗ negative x) (only_nought 20 e holds.az)
      ∙ ring fraction_ring (mean_at κ d.first d.second d.third ∷ []) (var 0 :* opposite (number 0)) (number 0) refl

  no_moment : IsLeftOut → (u v w : Fraction) → moment_at d a u v w ≡ nought
  no_moment out u v w = ring_from fraction_ring (m 0 ∷ m 1 ∷ m 2 ∷ u ∷ v ∷ w ∷ []) ((var 3, var 0, number 0) ∷ (var 4, var 1, number 0) ∷ (var 5, var 2, number 0) ∷ [])
      (given (no_product (weighted_kind 0) out) (given (no_product (weighted_kind 1) out) (given (no_product (weighted_kind 2) out) none)))
      ((var 0 :* var 3 :+ var 1 :* var 4) :+ var 2 :* var 5) (number 0) refl
    where
      m : ℕ → Fraction
      m n = mean_at (weighted_kind n) d.first d.second d.third ⊗ a

  pub no_part_volume : IsLeftOut → {lo hi : ℤ} → IsNone lo hi → ContainsFraction 20 lo hi ((column plane first last (λ p. one) t ⊗ share) ⊗ whole (pos 2))
  no_part_volume out e = none_contained e (sym (part_volume_is planes upright plane is first last t share) ∙ no_product depth_kind out)

  pub no_part_mx : IsLeftOut → {lo hi : ℤ} → IsNone lo hi → ContainsFraction 20 lo hi ((column plane first last (λ p. p.x) t ⊗ share) ⊗ whole (pos 2))
  no_part_mx out e = none_contained e (sym (part_mx_is planes upright plane is first last t share part holds) ∙ no_moment out (whole part.a.x) (whole part.b.x) (whole part.c.x))

-- ---- how wide nothing is
pub nonnegative_reach : (h : Fraction) → one ≼ h → sign h ≢ below
nonnegative_reach h some = Order.nonnegative_from fractions (Order.≼_trans fractions (Order.nought-≼ fractions (Order.nonnegative-one fractions)) some)

module _ (s h a : Fraction) (spread_above : sign s ≢ below) (reach : sign h ≢ below) (area : sign a ≢ below) where
  nonnegative_base : (k : ℕ) → sign ((a ⊕ one) ⊗ ((s ⊕ s) ⊕ units 20 k) ⊕ units 20 16 ⊗ h) ≢ below
  nonnegative_base k = Order.nonnegative-add fractions
      (Order.nonnegative-mul fractions (Order.nonnegative-add fractions area (Order.nonnegative-one fractions))
      (Order.nonnegative-add fractions (Order.nonnegative-add fractions spread_above spread_above) (nonnegative-units 20 k)))
      (Order.nonnegative-mul fractions (nonnegative-units 20 16) reach)

  pub no_part_volume-narrow : {lo hi : ℤ} → IsNone lo hi → IsNarrow 20 (part_volume h s a) lo hi
  no_part_volume-narrow = none_narrow (part_volume h s a) (Order.nonnegative-add fractions (nonnegative_base 40) (nonnegative-units 20 2))

  pub no_part_length-narrow : (x : Fraction) → sign x ≢ below → {lo hi : ℤ} → IsNone lo hi → IsNarrow 20 (part_length x h s a) lo hi
  no_part_length-narrow x far = none_narrow (part_length x h s a)
      (Order.nonnegative-mul fractions far (Order.nonnegative-add fractions (nonnegative_base 80) (nonnegative-units 20 6)))
