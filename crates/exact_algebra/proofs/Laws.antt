-- Laws of fractions: that they are an ordered field, and that equality, order, spans and least spans are by cross products.
-- Each is a statement that the contract of a crate above can name, with its proof.
use Prim.Native.Nat.{ℕ, ◌<◌}
use mathlib.Core.Path.{◌≡◌, refl}
use mathlib.Core.Logic.{◌↔◌}
use lib.IntN.{ℤ, pos, ◌*ℤ◌}
use lib.Signed.{◌≤ℤ◌}
use Rattle.exact_algebra.specs.Ring.{NormalFormIsSound}
use Rattle.exact_algebra.specs.OrderedField.{IsOrderedField}
use Rattle.exact_algebra.specs.Span.{ContainsRatio, IsLeastSpan}
use Rattle.exact_algebra.proofs.NormalForm.{normal_form_sound}
use Rattle.exact_algebra.proofs.Fraction.{Fraction, over, fractions, fraction_ring, ◌≼◌}
use Rattle.exact_algebra.proofs.Whole.{whole, whole-≼, whole-≼_out, over_same, over_same_out, over-≼, over-≼_out, fraction_ind}
use Rattle.exact_algebra.proofs.Span.{ContainsFraction, IsLeastSpanOf, contains_over, contains_over_out, least_span_over, least_span_over_out}

-- fractions are an ordered field
abbrev pub FractionsAreAnOrderedField : Type 0
FractionsAreAnOrderedField = IsOrderedField fractions.operations

pub fraction_laws : FractionsAreAnOrderedField
fraction_laws = fractions.laws

-- expressions whose difference has the normal form zero are equal at all fractions
abbrev pub NormalFormIsSoundAtFractions : Type 0
NormalFormIsSoundAtFractions = NormalFormIsSound fraction_ring.operations

pub normal_form_sound_at_fractions : NormalFormIsSoundAtFractions
normal_form_sound_at_fractions = normal_form_sound fraction_ring

-- every fraction is a whole number over a denominator above 0
abbrev pub EveryFractionIsARatio : Type 0
EveryFractionIsARatio = (x : Fraction) → ∥ ((n : ℤ) × (d : ℕ) × (h : 0 < d) × (x ≡ over n d h)) ∥₁

pub every_fraction_is_a_ratio : EveryFractionIsARatio
every_fraction_is_a_ratio = fraction_ind (λ x. hlevel) (λ n d h. ∣ (n, d, h, refl) ∣₁)

-- two fractions are equal exactly where their cross products are
abbrev pub EqualByCrossProducts : Type 0
EqualByCrossProducts = (n m : ℤ) (d e : ℕ) (h : 0 < d) (k : 0 < e) → (over n d h ≡ over m e k) ↔ (n *ℤ pos e ≡ m *ℤ pos d)

pub equal_by_cross_products : EqualByCrossProducts
equal_by_cross_products n m d e h k = (over_same_out n m d e h k, over_same n m d e h k)

-- a fraction is at most another exactly where their cross products are in this order
abbrev pub OrderByCrossProducts : Type 0
OrderByCrossProducts = (n m : ℤ) (d e : ℕ) (h : 0 < d) (k : 0 < e) → (over n d h ≼ over m e k) ↔ ((n *ℤ pos e) ≤ℤ (m *ℤ pos d))

pub order_by_cross_products : OrderByCrossProducts
order_by_cross_products n m d e h k = (over-≼_out n m d e h k, over-≼ n m d e h k)

-- whole numbers are in the same order as the fractions that they are
abbrev pub WholeNumbersKeepTheirOrder : Type 0
WholeNumbersKeepTheirOrder = (a b : ℤ) → (whole a ≼ whole b) ↔ (a ≤ℤ b)

pub whole_numbers_keep_their_order : WholeNumbersKeepTheirOrder
whole_numbers_keep_their_order a b = (whole-≼_out a b, whole-≼)

-- a span contains a fraction exactly where it does by cross products
abbrev pub ContainsByCrossProducts : Type 0
ContainsByCrossProducts = (F : ℕ) (lo hi n : ℤ) (d : ℕ) (h : 0 < d) → ContainsFraction F lo hi (over n d h) ↔ ContainsRatio F lo hi n d

pub contains_by_cross_products : ContainsByCrossProducts
contains_by_cross_products F lo hi n d h = (contains_over_out n d h, contains_over n d h)

-- a span is a fraction's least one exactly where it is so by cross products
abbrev pub LeastSpanByCrossProducts : Type 0
LeastSpanByCrossProducts = (F : ℕ) (lo hi n : ℤ) (d : ℕ) (h : 0 < d) → IsLeastSpanOf F lo hi (over n d h) ↔ IsLeastSpan F lo hi n d

pub least_span_by_cross_products : LeastSpanByCrossProducts
least_span_by_cross_products F lo hi n d h = (least_span_over_out n d h, least_span_over n d h)
