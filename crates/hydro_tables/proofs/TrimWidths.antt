-- How wide the moment to change trim is: no wider than the products of the displacement and the metacentre lie apart.
use Rattle.std.proofs.Common.{◌≡◌, ◌≢◌, refl, sym, ◌∙◌, ap, [], ◌∷◌, ℕ, ◌*◌, ◌^◌, ◌<◌, ◌≤◌, ℤ, pos, ◌-ℤ◌, ◌*ℤ◌, ◌≤ℤ◌, arith}
use Rattle.std.proofs.lemmas.Int.{ints, clamps}
use Rattle.exact_algebra.specs.Expression.{var, unit, ◌:+◌, ◌:-◌, ◌:*◌, opposite}
use Rattle.exact_algebra.specs.OrderedField.{below, above}
use Rattle.exact_algebra.proofs.Bounds as Bounds
use Rattle.exact_algebra.proofs.Fraction.{Fraction, one, ◌⊗◌, ◌⊖◌, inverse, sign, fractions, ◌≼◌}
use Rattle.exact_algebra.proofs.Order as Order
use Rattle.exact_algebra.proofs.Order.{order_from, no_more, at_most, scaled, equal}
use Rattle.exact_algebra.proofs.Products.{least_of, greatest_of}
use Rattle.exact_algebra.proofs.Whole.{whole, whole-sub, whole-mul, whole-≼, positive-whole}
use Rattle.outward_interval.specs.Ends.{least_product, greatest_product}
use Rattle.outward_interval.specs.Widths.{unit_of}
use Rattle.outward_interval.specs.declared.span.Span.{Span}
use Rattle.outward_interval.proofs.Narrow.{unit-in, nonnegative-unit_of, narrow-wider}
use Rattle.hydro_tables.specs.Row.{Holds}
use Rattle.hydro_tables.specs.Widths.{lower, upper, width_of, product_range, IsWithin}
use Rattle.hydro_tables.proofs.Inverses.{inverse-whole}
use Rattle.hydro_tables.proofs.RowWidths.{in_unit-in, upper_by_width}

-- ---- the least and the greatest of four
least-1 : (p q r s : ℤ) → least_of p q r s ≤ℤ p
least-1 p q r s = omega (arith, ints, clamps)

least-2 : (p q r s : ℤ) → least_of p q r s ≤ℤ q
least-2 p q r s = omega (arith, ints, clamps)

least-3 : (p q r s : ℤ) → least_of p q r s ≤ℤ r
least-3 p q r s = omega (arith, ints, clamps)

least-4 : (p q r s : ℤ) → least_of p q r s ≤ℤ s
least-4 p q r s = omega (arith, ints, clamps)

greatest-1 : (p q r s : ℤ) → p ≤ℤ greatest_of p q r s
greatest-1 p q r s = omega (arith, ints, clamps)

greatest-2 : (p q r s : ℤ) → q ≤ℤ greatest_of p q r s
greatest-2 p q r s = omega (arith, ints, clamps)

greatest-3 : (p q r s : ℤ) → r ≤ℤ greatest_of p q r s
greatest-3 p q r s = omega (arith, ints, clamps)

greatest-4 : (p q r s : ℤ) → s ≤ℤ greatest_of p q r s
greatest-4 p q r s = omega (arith, ints, clamps)

module _ (a b : Span 20) where
  abbrev p : Fraction
  p = whole (pos (2 ^ 20))

  above_least : {x y : Fraction} → Holds a x → Holds b y → whole (least_product a.lo a.hi b.lo b.hi) ≼ (x ⊗ p) ⊗ (y ⊗ p)
  above_least h k = Bounds.product_above fractions h.from h.to k.from k.to
      (at a.lo b.lo (least-1 (a.lo *ℤ b.lo) (a.lo *ℤ b.hi) (a.hi *ℤ b.lo) (a.hi *ℤ b.hi))) (at a.lo b.hi (least-2 (a.lo *ℤ b.lo) (a.lo *ℤ b.hi) (a.hi *ℤ b.lo) (a.hi *ℤ b.hi)))
      (at a.hi b.lo (least-3 (a.lo *ℤ b.lo) (a.lo *ℤ b.hi) (a.hi *ℤ b.lo) (a.hi *ℤ b.hi))) (at a.hi b.hi (least-4 (a.lo *ℤ b.lo) (a.lo *ℤ b.hi) (a.hi *ℤ b.lo) (a.hi *ℤ b.hi)))
    where
      at : (i j : ℤ) → least_product a.lo a.hi b.lo b.hi ≤ℤ (i *ℤ j) → whole (least_product a.lo a.hi b.lo b.hi) ≼ whole i ⊗ whole j
      at i j h = Order.≼_trans fractions (whole-≼ h) (Order.≼_same fractions (whole-mul i j))

  below_greatest : {x y : Fraction} → Holds a x → Holds b y → (x ⊗ p) ⊗ (y ⊗ p) ≼ whole (greatest_product a.lo a.hi b.lo b.hi)
  below_greatest h k = Bounds.product_below fractions h.from h.to k.from k.to
      (at a.lo b.lo (greatest-1 (a.lo *ℤ b.lo) (a.lo *ℤ b.hi) (a.hi *ℤ b.lo) (a.hi *ℤ b.hi))) (at a.lo b.hi (greatest-2 (a.lo *ℤ b.lo) (a.lo *ℤ b.hi) (a.hi *ℤ b.lo) (a.hi *ℤ b.hi)))
      (at a.hi b.lo (greatest-3 (a.lo *ℤ b.lo) (a.lo *ℤ b.hi) (a.hi *ℤ b.lo) (a.hi *ℤ b.hi))) (at a.hi b.hi (greatest-4 (a.lo *ℤ b.lo) (a.lo *ℤ b.hi) (a.hi *ℤ b.lo) (a.hi *ℤ b.hi)))
    where
      at : (i j : ℤ) → (i *ℤ j) ≤ℤ greatest_product a.lo a.hi b.lo b.hi → whole i ⊗ whole j ≼ whole (greatest_product a.lo a.hi b.lo b.hi)
      at i j h = Order.≼_trans fractions (Order.≼_same fractions (sym (whole-mul i j))) (whole-≼ h)

  pub products_apart : (x y u v : Fraction) → Holds a x → Holds b y → Holds a u → Holds b v → x ⊗ y ⊖ u ⊗ v ≼ product_range a b
  products_apart x y u v hx hy hu hv = order_from fractions (x ∷ y ∷ u ∷ v ∷ p ∷ whole (greatest_product a.lo a.hi b.lo b.hi) ∷ whole (least_product a.lo a.hi b.lo b.hi)
      ∷ whole (greatest_product a.lo a.hi b.lo b.hi -ℤ least_product a.lo a.hi b.lo b.hi) ∷ unit_of 40 ∷ [])
      ((var 8, (var 0 :* var 4) :* (var 1 :* var 4), var 5) ∷ (var 8, var 6, (var 2 :* var 4) :* (var 3 :* var 4)) ∷ (opposite (var 8), var 7, var 5 :- var 6) ∷ (opposite (var 0 :* var 1 :- var 2 :* var 3), var 8 :* (var 4 :* var 4), unit) ∷ [])
      (scaled (nonnegative-unit_of 40) (below_greatest hx hy) (scaled (nonnegative-unit_of 40) (above_least hu hv) (equal (whole-sub (greatest_product a.lo a.hi b.lo b.hi) (least_product a.lo a.hi b.lo b.hi)) (equal forty no_more))))
      (var 0 :* var 1 :- var 2 :* var 3) (var 7 :* var 8) refl
    where
      forty : unit_of 40 ⊗ (p ⊗ p) ≡ one
      forty = ap (λ x. unit_of 40 ⊗ x) (sym (whole-mul (pos (2 ^ 20)) (pos (2 ^ 20)))) ∙ unit-in 40

ends_held : (s : Span 20) → Holds s (lower s) × Holds s (upper s)
ends_held s = (
  record { from = Order.≼_same fractions (sym (in_unit-in 20 s.lo)); to = Order.≼_trans fractions (Order.≼_same fractions (in_unit-in 20 s.lo)) (whole-≼ s.ordered) },
  record { from = Order.≼_trans fractions (whole-≼ s.ordered) (Order.≼_same fractions (sym (in_unit-in 20 s.hi))); to = Order.≼_same fractions (in_unit-in 20 s.hi) },
)

-- the moment is the inertia times the density; the displacement is the volume times it, and the metacentre the inertia over the volume
pub trim_narrow : (displacement bml inertia mct : Span 20) (v : Fraction) (density length : ℕ) → 1 ≤ length → sign v ≡ above
    → Holds displacement (v ⊗ whole (pos density) ⊗ inverse (whole (pos (10 ^ 12)))) → ((x : Fraction) → Holds inertia x → Holds bml (x ⊗ inverse v))
    → IsWithin (width_of inertia ⊗ (whole (pos density) ⊗ inverse (whole (pos (10 ^ 14 * length))))) mct → IsWithin (product_range displacement bml ⊗ inverse (whole (pos (100 * length)))) mct
trim_narrow displacement bml inertia mct v density length some positive in_displacement in_bml narrow = narrow-wider
    (order_from fractions (width_of inertia ∷ whole (pos density) ∷ inverse (whole (pos (10 ^ 12))) ∷ inverse (whole (pos (100 * length))) ∷ v ∷ inverse v ∷ upper inertia ∷ lower inertia
    ∷ product_range displacement bml ∷ inverse (whole (pos (10 ^ 14 * length))) ∷ unit_of 16 ∷ [])
    ((var 3, ((var 4 :* var 1) :* var 2) :* (var 6 :* var 5) :- ((var 4 :* var 1) :* var 2) :* (var 7 :* var 5), var 8)
    ∷ (opposite (((var 3 :* var 1) :* var 2) :* (var 6 :- var 7)), var 4 :* var 5, unit) ∷ (opposite ((var 3 :* var 1) :* var 2), var 6, var 7 :+ var 0) ∷ (var 0 :* var 1, var 9, var 2 :* var 3) ∷ [])
    (scaled nonnegative (products_apart displacement bml d (upper inertia ⊗ inverse v) d (lower inertia ⊗ inverse v) in_displacement (in_bml (upper inertia) (ends_held inertia).1) in_displacement (in_bml (lower inertia) (ends_held inertia).0))
    (equal (Bounds.mul-inverse_positive fractions positive) (equal (upper_by_width inertia) (equal together no_more))))
    (var 0 :* (var 1 :* var 9) :+ var 10) (var 8 :* var 3 :+ var 10) refl) narrow
  where
    d : Fraction
    d = v ⊗ whole (pos density) ⊗ inverse (whole (pos (10 ^ 12)))

    hundred : 0 < 100 * length
    hundred = omega (arith, some)

    nonnegative : sign (inverse (whole (pos (100 * length)))) ≢ below
    nonnegative = Order.nonnegative_positive fractions (Bounds.positive-inverse fractions (positive-whole (100 * length) hundred))

    together : inverse (whole (pos (10 ^ 14 * length))) ≡ inverse (whole (pos (10 ^ 12))) ⊗ inverse (whole (pos (100 * length)))
    together = ap (λ n. inverse (whole (pos n))) same ∙ inverse-whole (10 ^ 12) (100 * length) (omega arith) hundred
      where
        same : 10 ^ 14 * length ≡ 10 ^ 12 * (100 * length)
        same = omega arith
