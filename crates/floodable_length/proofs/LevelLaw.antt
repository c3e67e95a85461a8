-- Levels in mm by levels in grid units along the ship.
use Rattle.std.proofs.Common.{◌≡◌, ◌∙◌, refl, sym, ap, ap₂, true, false, Bool, ℤ, pos, ◌+ℤ◌, ◌-ℤ◌, ◌*ℤ◌, ◌<ℤ◌, [], ◌∷◌, arith}
use Rattle.std.proofs.lemmas.Int.{ints}
use Rattle.std.specs.Prelude.{int_lt}
use Rattle.exact_algebra.specs.Expression.{var, unit, ◌:+◌, ◌:-◌, ◌:*◌}
use Rattle.exact_algebra.specs.OrderedField.{above}
use Rattle.exact_algebra.proofs.Bounds as Bounds
use Rattle.exact_algebra.proofs.Fraction.{Fraction, ◌⊕◌, ◌⊗◌, ◌⊖◌, inverse, sign, fractions, fraction_ring}
use Rattle.exact_algebra.proofs.Order as Order
use Rattle.exact_algebra.proofs.Ring.{ring_from, given, none}
use Rattle.exact_algebra.proofs.Whole.{whole, whole-add, whole-sub, whole-mul, positive-whole, positive-whole_above, ≺_scaled, ≺_scaled_out}
use Rattle.hull_model.specs.Waterplane.{level_at}
use Rattle.plane_clip.specs.Enclosure.{in_unit}
use Rattle.damage_box.specs.Planes.{plane_at}
use Rattle.floodable_length.specs.MarginLaw.{UnderByLevels}
use Rattle.floodable_length.specs.MarginLine.{top_of, margin_point, level_along}

less : (a b : ℤ) → int_lt a b ≡ true → a <ℤ b
less a b e = omega (arith, ints)

less_test : (a b : ℤ) → a <ℤ b → int_lt a b ≡ true
less_test a b h = go (int_lt a b) refl
  where
    go : (t : Bool) → int_lt a b ≡ t → t ≡ true
    go true e = refl
    go false e = absurd (omega (arith, ints))

module _ (first last : ℤ) (order : first <ℤ last) where
  abbrev length : Fraction
  length = whole last ⊖ whole first

  positive-length : sign length ≡ above
  positive-length = ap sign (sym (whole-sub last first)) ∙ positive-whole_above (apart order)
    where
      apart : {a b : ℤ} → a <ℤ b → pos 0 <ℤ (b -ℤ a)
      apart h = omega (arith, ints)

  -- grid units in a mm, times the length
  abbrev factor : Fraction
  factor = whole (pos 1024) ⊗ length

  positive-factor : sign factor ≡ above
  positive-factor = Order.positive-mul fractions (positive-whole 1024 (omega arith)) positive-length

  along : (a f x : ℤ) → level_at (plane_at a f) first last (whole x) ⊗ factor ≡ whole ((a *ℤ (last -ℤ x)) +ℤ (f *ℤ (x -ℤ first)))
  unfolding level_at in_unit
  along a f x = ring_from fraction_ring
      (whole a ∷ whole f ∷ whole x ∷ whole first ∷ whole last ∷ whole (pos 1024) ∷ inverse (whole (pos 1024)) ∷ inverse length ∷ [])
      ((var 0 :* (var 4 :- var 3) :- var 0 :* (var 2 :- var 3) :* var 7 :* (var 4 :- var 3) :+ var 1 :* (var 2 :- var 3) :* var 7 :* (var 4 :- var 3), var 5 :* var 6, unit)
      ∷ ((var 1 :- var 0) :* (var 2 :- var 3), (var 4 :- var 3) :* var 7, unit) ∷ [])
      (given (Bounds.mul-inverse_positive fractions (positive-whole 1024 (omega arith))) (given (Bounds.mul-inverse_positive fractions positive-length) none))
      (((unit :- (var 2 :- var 3) :* var 7) :* (var 0 :* var 6) :+ (var 2 :- var 3) :* var 7 :* (var 1 :* var 6)) :* (var 5 :* (var 4 :- var 3)))
      (var 0 :* (var 4 :- var 2) :+ var 1 :* (var 2 :- var 3)) refl
      ∙ sym (whole-add (a *ℤ (last -ℤ x)) (f *ℤ (x -ℤ first))
      ∙ ap₂ ◌⊕◌ (whole-mul a (last -ℤ x) ∙ ap (λ t. whole a ⊗ t) (whole-sub last x)) (whole-mul f (x -ℤ first) ∙ ap (λ t. whole f ⊗ t) (whole-sub x first)))

  point : (p : ℤ) → whole p ⊗ factor ≡ whole ((pos 1024 *ℤ p) *ℤ (last -ℤ first))
  point p = ring_from fraction_ring (whole p ∷ whole (pos 1024) ∷ length ∷ []) [] none (var 0 :* (var 1 :* var 2)) ((var 1 :* var 0) :* var 2) refl
      ∙ sym (whole-mul (pos 1024 *ℤ p) (last -ℤ first) ∙ ap₂ ◌⊗◌ (whole-mul (pos 1024) p) (whole-sub last first))

pub under_by_levels : UnderByLevels
under_by_levels margin first last a f order s = (
  λ e. ≺_scaled (whole top) level (factor first last order) in_points in_levels (positive-factor first last order) (point first last order top) (along first last order a f s.x) (less in_points in_levels e),
  λ h. less_test in_points in_levels (≺_scaled_out (whole top) level (factor first last order) in_points in_levels (positive-factor first last order) (point first last order top) (along first last order a f s.x) h),
)
  where
    top : ℤ
    top = top_of s.points -ℤ pos margin

    level : Fraction
    level = level_at (plane_at a f) first last (whole s.x)

    in_points : ℤ
    in_points = margin_point margin s *ℤ (last -ℤ first)

    in_levels : ℤ
    in_levels = level_along margin first last a f s
