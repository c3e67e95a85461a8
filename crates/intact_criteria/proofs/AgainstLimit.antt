-- What an interval says of the fraction that it contains.
use Rattle.std.proofs.Common.{◌≡◌, refl, sym, [], ◌∷◌, ℕ, ◌^◌, pos, ◌≤ℤ◌, ◌<ℤ◌}
use Rattle.exact_algebra.specs.Expression.{var, number, ◌:-◌, ◌:*◌}
use Rattle.exact_algebra.proofs.Fraction.{Fraction, fractions, fraction_ring, nought, ◌≼◌, ◌≺◌}
use Rattle.exact_algebra.proofs.Order as Order
use Rattle.exact_algebra.proofs.Ring.{ring}
use Rattle.exact_algebra.proofs.Span.{in_units, positive-unit, positive_from_span}
use Rattle.exact_algebra.proofs.Whole.{whole, whole-mul, whole-≼, whole-≺, whole-≺_out, whole-nought}
use Rattle.intact_criteria.specs.Limit.{Contains, Reaches, StaysBelow}
use Rattle.intact_criteria.specs.Limit as limit
use Rattle.intact_criteria.specs.Readings.{Ends}

-- a limit in units
limit_in_units : (n : ℕ) → in_units 20 (whole (pos n)) ≡ whole (limit.in_units n)
limit_in_units n = sym (whole-mul (pos n) (pos (2 ^ 20)))

-- all that a reaching interval contains reaches the limit
pub reaches_limit : (n : ℕ) (ends : Ends) (x : Fraction) → Contains ends x → Reaches (limit.in_units n) ends → whole (pos n) ≼ x
reaches_limit n ends x c h = Order.≼_cancel fractions (positive-unit 20)
    (Order.≼_trans fractions (Order.≼_same fractions (limit_in_units n)) (Order.≼_trans fractions (whole-≼ h) c.from))

-- nothing that an interval below the limit contains reaches it
pub below_limit : (n : ℕ) (ends : Ends) (x : Fraction) → Contains ends x → StaysBelow (limit.in_units n) ends → whole (pos n) ≼ x → ⊥
below_limit n ends x c h reached = Order.≺-not_≼ fractions (whole-≺ h)
    (Order.≼_trans fractions (Order.≼_same fractions (sym (limit_in_units n)))
    (Order.≼_trans fractions (Order.≼-mul fractions (Order.nonnegative_positive fractions (positive-unit 20)) reached) c.to))

-- what an interval above 0 contains is above 0, and an interval that contains something above 0 reaches above 0
pub lies_above : (ends : Ends) (x : Fraction) → Contains ends x → pos 0 <ℤ ends.lo → nought ≺ x
lies_above ends x c h = Order.positive_same fractions (ring fraction_ring (x ∷ []) (var 0 :- number 0) (var 0) refl) (positive_from_span h c)

pub may_lie_above : (ends : Ends) (x : Fraction) → Contains ends x → nought ≺ x → pos 0 <ℤ ends.hi
may_lie_above ends x c h = whole-≺_out (pos 0) ends.hi (Order.≼-≺_trans fractions (Order.≼_same fractions whole-nought) (Order.≺-≼_trans fractions (scaled h) c.to))
  where
    scaled : nought ≺ x → nought ≺ in_units 20 x
    scaled h = Order.positive_same fractions (ring fraction_ring (x ∷ whole (pos (2 ^ 20)) ∷ []) (var 0 :* var 1 :- number 0) ((var 0 :- number 0) :* var 1) refl)
        (Order.positive-mul fractions h (positive-unit 20))

-- ---- two intervals
-- the fraction of an interval that lies up to the beginning of another is at most that of the other
pub contained_order : (a b : Ends) (x y : Fraction) → Contains a x → Contains b y → a.hi ≤ℤ b.lo → x ≼ y
contained_order a b x y c d h = Order.≼_cancel fractions (positive-unit 20) (Order.≼_trans fractions c.to (Order.≼_trans fractions (whole-≼ h) d.from))

-- the fraction of an interval that begins past the end of another isn't at most that of the other
pub separated : (a b : Ends) (x y : Fraction) → Contains a x → Contains b y → a.hi <ℤ b.lo → y ≼ x → ⊥
separated a b x y c d h k = Order.≺-not_≼ fractions (whole-≺ h)
    (Order.≼_trans fractions d.from (Order.≼_trans fractions (Order.≼-mul fractions (Order.nonnegative_positive fractions (positive-unit 20)) k) c.to))
