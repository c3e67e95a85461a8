-- The two sides.
use Rattle.std.proofs.Common.{List, ◌≡◌, refl, ◌∙◌, ap, ap₂, ℕ, ◌*◌, ◌^◌, ℤ, pos, [], ◌∷◌}
use Rattle.exact_algebra.specs.Expression.{var, unit, number, opposite, ◌:+◌, ◌:-◌, ◌:*◌}
use Rattle.exact_algebra.proofs.Ring.{ring, ring_from, given, none}
use Rattle.exact_algebra.proofs.Fraction.{Fraction, nought, ◌⊗◌, inverse, negative, fraction_ring}
use Rattle.exact_algebra.proofs.Whole.{whole, whole-nought, whole-negative}
use Rattle.hull_model.specs.declared.water.Water.{Water}
use Rattle.hull_model.specs.Submerged as submerged
use Rattle.loading_sheet.specs.Centre.{y_g, z_g}
use Rattle.loading_sheet.specs.declared.loading.Loading.{Loading}
use Rattle.dynamic_lever.specs.Levers.{over_volume, SidesAreEqual, AreMirrored, SidesAreMirrorImages}
use Rattle.outward_interval.specs.declared.span.Span.{Span}
use Rattle.dynamic_lever.specs.Sides.{OnBoth}

in_the_middle : (loading : Loading) → loading.my ≡ pos 0 → y_g loading ≡ nought
in_the_middle loading e = ap (λ (z : ℤ). whole z ⊗ inverse (whole (pos loading.mass))) e
    ∙ (ap (λ x. x ⊗ inverse (whole (pos loading.mass))) whole-nought ∙ ring fraction_ring (inverse (whole (pos loading.mass)) ∷ []) (number 0 :* var 0) (number 0) refl)

pub sides_are_equal : SidesAreEqual
sides_are_equal = record {
  gz = λ loading water plane stations e. ring_from fraction_ring
      (over_volume loading water (submerged.mv plane stations) ∷ whole (pos plane.s) ∷ z_g loading ∷ whole (pos plane.c) ∷ y_g loading ∷ inverse (whole (pos plane.r)) ∷ [])
      ((number 2 :* (var 3 :* var 5), var 4, number 0) ∷ []) (given (in_the_middle loading e) none)
      (var 0 :- (var 1 :* var 2 :- unit :* (var 3 :* var 4)) :* var 5) (var 0 :- (var 1 :* var 2 :- opposite unit :* (var 3 :* var 4)) :* var 5) refl;
  separation = λ loading water plane stations e. ring_from fraction_ring
      (over_volume loading water (submerged.mu plane stations) ∷ whole (pos plane.s) ∷ z_g loading ∷ whole (pos plane.c) ∷ y_g loading ∷ inverse (whole (pos plane.r)) ∷ [])
      ((number 2 :* (var 1 :* var 5), var 4, number 0) ∷ []) (given (in_the_middle loading e) none)
      ((var 3 :* var 2 :+ unit :* (var 1 :* var 4)) :* var 5 :- var 0) ((var 3 :* var 2 :+ opposite unit :* (var 1 :* var 4)) :* var 5 :- var 0) refl;
}

-- ---- mirrored
same_volume : (one other : Loading) (water : Water) (m : Fraction) → AreMirrored one other → over_volume one water m ≡ over_volume other water m
same_volume one other water m h = ap (λ (n : ℕ). m ⊗ inverse (whole (pos (n * 10 ^ 9)) ⊗ inverse (whole (pos water.density)))) h.mass

same_height : (one other : Loading) → AreMirrored one other → z_g one ≡ z_g other
same_height one other h = ap₂ (λ (z m : ℕ). whole (pos z) ⊗ inverse (whole (pos m))) h.mz h.mass

turned_over : (one other : Loading) → AreMirrored one other → y_g one ≡ negative (y_g other)
turned_over one other h = ap₂ (λ (y : ℤ) (m : ℕ). whole y ⊗ inverse (whole (pos m))) h.my h.mass
    ∙ (ap (λ y. y ⊗ inverse (whole (pos other.mass))) (whole-negative other.my) ∙ ring fraction_ring (whole other.my ∷ inverse (whole (pos other.mass)) ∷ []) (opposite (var 0) :* var 1) (opposite (var 0 :* var 1)) refl)

pub sides_are_mirror_images : SidesAreMirrorImages
sides_are_mirror_images = record {
  gz = λ one other water plane stations h. ring_from fraction_ring
      (over_volume one water (submerged.mv plane stations) ∷ over_volume other water (submerged.mv plane stations) ∷ whole (pos plane.s) ∷ z_g one ∷ z_g other ∷ whole (pos plane.c) ∷ y_g one ∷ y_g other ∷ inverse (whole (pos plane.r)) ∷ [])
      ((unit, var 0, var 1) ∷ (opposite (var 2 :* var 8), var 3, var 4) ∷ (opposite (var 5 :* var 8), var 6, opposite (var 7)) ∷ [])
      (given (same_volume one other water (submerged.mv plane stations) h) (given (same_height one other h) (given (turned_over one other h) none)))
      (var 0 :- (var 2 :* var 3 :- opposite unit :* (var 5 :* var 6)) :* var 8) (var 1 :- (var 2 :* var 4 :- unit :* (var 5 :* var 7)) :* var 8) refl;
  separation = λ one other water plane stations h. ring_from fraction_ring
      (over_volume one water (submerged.mu plane stations) ∷ over_volume other water (submerged.mu plane stations) ∷ whole (pos plane.s) ∷ z_g one ∷ z_g other ∷ whole (pos plane.c) ∷ y_g one ∷ y_g other ∷ inverse (whole (pos plane.r)) ∷ [])
      ((opposite unit, var 0, var 1) ∷ (var 5 :* var 8, var 3, var 4) ∷ (opposite (var 2 :* var 8), var 6, opposite (var 7)) ∷ [])
      (given (same_volume one other water (submerged.mu plane stations) h) (given (same_height one other h) (given (turned_over one other h) none)))
      ((var 5 :* var 3 :+ opposite unit :* (var 2 :* var 6)) :* var 8 :- var 0) ((var 5 :* var 4 :+ unit :* (var 2 :* var 7)) :* var 8 :- var 1) refl;
}

-- what holds of each of two spans
pub on_both : (P Q : Span 20 → Type 0) → ((s : Span 20) → P s → Q s) → (spans : List (Span 20)) → OnBoth P spans → OnBoth Q spans
on_both P Q f [] h = absurd h
on_both P Q f (p ∷ []) h = absurd h
on_both P Q f (p ∷ s ∷ []) h = (f p h.0, f s h.1)
on_both P Q f (p ∷ s ∷ t ∷ rest) h = absurd h
