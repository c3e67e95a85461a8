-- A face that is dry, or of which nothing is seen from above, adds nothing to the lid.
use Rattle.std.proofs.Common.{◌≡◌, ◌≢◌, ◌∙◌, refl, sym, ap, [], ◌∷◌, ◌⊎◌, inl, inr, ℕ, ℤ, pos, neg_ℤ, ◌≤ℤ◌, unsigned_abs}
use Rattle.exact_algebra.specs.Expression.{var, unit, number, opposite, ◌:+◌, ◌:-◌, ◌:*◌}
use Rattle.exact_algebra.specs.OrderedField.{below}
use Rattle.exact_algebra.proofs.Fraction.{Fraction, nought, one, ◌⊗◌, sign, fractions, fraction_ring, ◌≼◌}
use Rattle.exact_algebra.proofs.Order as Order
use Rattle.exact_algebra.proofs.Order.{order_from, no_more, at_most, equal}
use Rattle.exact_algebra.proofs.Ring.{ring, ring_from, given, none}
use Rattle.exact_algebra.proofs.Span.{ContainsFraction, positive-unit}
use Rattle.exact_algebra.proofs.Whole.{whole, whole-nought, whole-≼, nonnegative-whole}
use Rattle.hull_model.specs.declared.face.Face.{Face}
use Rattle.hull_model.specs.declared.node.Node.{Node}
use Rattle.hull_model.specs.Faces.{IsFace, triangle_of}
use Rattle.hull_model.specs.Waterplane.{Position, upright}
use Rattle.hull_model.specs.WetMean.{wet_share, wet_corner, wet_pair}
use Rattle.hull_model.proofs.MeanKinds.{share_kind, corner_kind, pair_kind, kind_rises}
use Rattle.outward_interval.specs.Widths.{IsNarrow}
use Rattle.outward_interval.proofs.Narrow.{nonnegative-unit_of, nonnegative-units}
use Rattle.plane_clip.specs.Enclosure.{in_unit, mean_at}
use Rattle.flux_moments.specs.Columns.{face_at, depth_of, lid_part, linear_at, square_at}
use Rattle.flux_moments.specs.LidWidths.{IsNoLid, seen_part_bound, AreSeenWidths}
use Rattle.flux_moments.specs.Widths.{share_rise}
use Rattle.flux_moments.specs.declared.lid_sums.LidSums.{LidSums}
use Rattle.flux_moments.proofs.DryFaces.{AreDryDepths, IsNone, dry_mean, none_contained, none_narrow}
use Rattle.flux_moments.proofs.MeanWidths.{in_unit-in}
use Rattle.flux_moments.proofs.SeenMeans.{lid_depths, area_within, linear_within, square_within}
use Rattle.flux_moments.proofs.SeenWidths.{level_depth}

-- ---- what is seen of it
module _ (at : Fraction) (first last : ℤ) (f : Face) (is : IsFace f) where
  -- dry, or seen edgewise from above
  abbrev pub IsUnseen : Type 0
  IsUnseen = AreDryDepths (lid_depths at first last f is) ⊎ (f.az ≡ pos 0)

  unseen : (x : Fraction) → (x ≡ nought) ⊎ (f.az ≡ pos 0) → {lo hi : ℤ} → IsNone lo hi → ContainsFraction 20 lo hi (x ⊗ whole (neg_ℤ f.az))
  unseen x (inl e) n = none_contained n (ap (λ y. y ⊗ whole (neg_ℤ f.az)) e ∙ ring fraction_ring (whole (neg_ℤ f.az) ∷ []) (number 0 :* var 0) (number 0) refl)
  unseen x (inr e) n = none_contained n (ap (λ z. x ⊗ whole (neg_ℤ z)) e ∙ ap (λ y. x ⊗ y) whole-nought ∙ ring fraction_ring (x ∷ []) (var 0 :* number 0) (number 0) refl)

  if_dry : {A : Type 0} → (AreDryDepths (lid_depths at first last f is) → A) → IsUnseen → A ⊎ (f.az ≡ pos 0)
  if_dry g (inl dry) = inl (g dry)
  if_dry g (inr e) = inr e

  no_linear : (u v w : Fraction) → AreDryDepths (lid_depths at first last f is) → linear_at (lid_depths at first last f is) u v w ≡ nought
  no_linear u v w dry = ring_from fraction_ring (m 0 ∷ m 1 ∷ m 2 ∷ u ∷ v ∷ w ∷ []) ((var 3, var 0, number 0) ∷ (var 4, var 1, number 0) ∷ (var 5, var 2, number 0) ∷ [])
      (given (dry_mean (corner_kind 0) _ dry) (given (dry_mean (corner_kind 1) _ dry) (given (dry_mean (corner_kind 2) _ dry) none)))
      ((var 0 :* var 3 :+ var 1 :* var 4) :+ var 2 :* var 5) (number 0) refl
    where
      m : ℕ → Fraction
      m n = mean_at (wet_corner n) (lid_depths at first last f is)

  no_square : (u v w : Fraction) → AreDryDepths (lid_depths at first last f is) → square_at (lid_depths at first last f is) u v w ≡ nought
  no_square u v w dry = ring_from fraction_ring (m 0 0 ∷ m 1 1 ∷ m 2 2 ∷ m 0 1 ∷ m 0 2 ∷ m 1 2 ∷ u ∷ v ∷ w ∷ whole (pos 2) ∷ [])
      ((var 6 :* var 6, var 0, number 0) ∷ (var 7 :* var 7, var 1, number 0) ∷ (var 8 :* var 8, var 2, number 0)
      ∷ (var 6 :* var 7 :* var 9, var 3, number 0) ∷ (var 6 :* var 8 :* var 9, var 4, number 0) ∷ (var 7 :* var 8 :* var 9, var 5, number 0) ∷ [])
      (given (dry_mean (pair_kind 0 0) _ dry) (given (dry_mean (pair_kind 1 1) _ dry) (given (dry_mean (pair_kind 2 2) _ dry)
      (given (dry_mean (pair_kind 0 1) _ dry) (given (dry_mean (pair_kind 0 2) _ dry) (given (dry_mean (pair_kind 1 2) _ dry) none))))))
      (((var 0 :* (var 6 :* var 6) :+ var 1 :* (var 7 :* var 7)) :+ var 2 :* (var 8 :* var 8))
      :+ ((var 3 :* (var 6 :* var 7) :+ var 4 :* (var 6 :* var 8)) :+ var 5 :* (var 7 :* var 8)) :* var 9) (number 0) refl
    where
      m : ℕ → ℕ → Fraction
      m i j = mean_at (wet_pair i j) (lid_depths at first last f is)

  pub no_area : IsUnseen → {lo hi : ℤ} → IsNone lo hi → ContainsFraction 20 lo hi (lid_part at first last (λ p. one) (λ p. one) f ⊗ whole (pos 2))
  no_area out n = area_within at first last f is refl
      (unseen (mean_at wet_share (lid_depths at first last f is)) (if_dry (dry_mean share_kind (lid_depths at first last f is)) out) n)

  pub no_lever : (g : Position → Fraction) → IsUnseen → {lo hi : ℤ} → IsNone lo hi → ContainsFraction 20 lo hi (lid_part at first last g (λ p. one) f ⊗ whole (pos 2))
  no_lever g out n = linear_within at first last f is g refl (unseen _ (if_dry (no_linear (g (face_at f).a) (g (face_at f).b) (g (face_at f).c)) out) n)

  pub no_second : (g : Position → Fraction) → IsUnseen → {lo hi : ℤ} → IsNone lo hi → ContainsFraction 20 lo hi (lid_part at first last g g f ⊗ whole (pos 2))
  no_second g out n = square_within at first last f is g refl (unseen _ (if_dry (no_square (g (face_at f).a) (g (face_at f).b) (g (face_at f).c)) out) n)

-- ---- widths
module _ (first last d1 d2 : ℤ) (order : d1 ≤ℤ d2) (f : Face) where
  higher : in_unit 10 d1 ≼ in_unit 10 d2
  higher = Order.≼_cancel fractions (positive-unit 10) (Order.≼_trans fractions (Order.≼_same fractions (in_unit-in 10 d1))
      (Order.≼_trans fractions (whole-≼ order) (Order.≼_same fractions (sym (in_unit-in 10 d2)))))

  deeper : (n : Node) → depth_of (upright (in_unit 10 d1)) first last n ≼ depth_of (upright (in_unit 10 d2)) first last n
  deeper n = order_from fractions (D d1 ∷ D d2 ∷ in_unit 10 d1 ∷ in_unit 10 d2 ∷ whole n.z ∷ []) ((unit, var 0, var 2 :- var 4) ∷ (opposite unit, var 1, var 3 :- var 4) ∷ (unit, var 2, var 3) ∷ [])
      (equal (level_depth (in_unit 10 d1) first last n) (equal (level_depth (in_unit 10 d2) first last n) (at_most higher no_more))) (var 0) (var 1) refl
    where
      D : ℤ → Fraction
      D d = depth_of (upright (in_unit 10 d)) first last n

  rise : sign (share_rise first last d1 d2 f) ≢ below
  rise = kind_rises share_kind _ _ _ _ _ _ (deeper (triangle_of f).a) (deeper (triangle_of f).b) (deeper (triangle_of f).c)

  pub nonnegative_seen : (g : Fraction) → sign g ≢ below → sign (seen_part_bound first last d1 d2 g f) ≢ below
  nonnegative_seen g some = Order.nonnegative-add fractions (Order.nonnegative-mul fractions some
      (Order.nonnegative-mul fractions (nonnegative-whole (unsigned_abs f.az)) (Order.nonnegative-add fractions rise (nonnegative-unit_of 32)))) (nonnegative-units 20 2)

  none_seen : (g : Fraction) → sign g ≢ below → {lo hi : ℤ} → IsNone lo hi → IsNarrow 20 (seen_part_bound first last d1 d2 g f) lo hi
  none_seen g some = none_narrow (seen_part_bound first last d1 d2 g f) (nonnegative_seen g some)

  pub no_lid_narrow : (x y : Fraction) → sign x ≢ below → (l : LidSums) → IsNoLid l → AreSeenWidths first last d1 d2 x y f l
  no_lid_narrow x y some l e = record {
    area = none_seen one (Order.nonnegative-one fractions) e.0;
    sx = none_seen x some e.1;
    syy = none_seen (y ⊗ y) (Order.nonnegative_square fractions y) e.2;
    sxx = none_seen (x ⊗ x) (Order.nonnegative_square fractions x) e.3;
  }
