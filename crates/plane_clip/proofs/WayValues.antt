-- Parts of an edge, their rests and products: values and sizes.
use mathlib.Core.Path.{◌≡◌, refl}
use mathlib.Core.List.{[], ◌∷◌}
use mir.Val.{SFits}
use Rattle.std.proofs.Common.{ℤ, pos, negsuc, ◌^◌, ◌-ℤ◌, ◌*ℤ◌, ◌≤ℤ◌, arith}
use Rattle.std.proofs.lemmas.Int.{ints}
use Rattle.std.proofs.lemmas.Nat.{mul-le}
use Rattle.std.specs.Int.{w128}
use Rattle.exact_algebra.specs.Expression.{var, unit, opposite, ◌:-◌, ◌:*◌}
use Rattle.exact_algebra.proofs.Ring.{ring_from, none, given}
use Rattle.exact_algebra.proofs.Fraction.{one, ◌⊗◌, ◌⊖◌, inverse, fraction_ring}
use Rattle.exact_algebra.proofs.Whole.{whole, whole-sub, whole-mul}
use Rattle.hull_model.proofs.Magnitudes.{fits_128}
use Rattle.plane_clip.specs.Ways.{quotient_of}
use Rattle.plane_clip.proofs.Portions.{whole_positive}

pub way_part_fits : (n d : ℤ) → pos 0 ≤ℤ n → n ≤ℤ d → d ≤ℤ pos (2 ^ 20) → SFits w128 n
way_part_fits n d h k l = fits_128 n (omega (arith, ints, h, k, l))

pub rest_fits : (d : ℤ) → pos 1 ≤ℤ d → d ≤ℤ pos (2 ^ 20) → SFits w128 d
rest_fits d h k = fits_128 d (omega (arith, ints, h, k))

pub rest-value : (n d : ℤ) → pos 1 ≤ℤ d → quotient_of (d -ℤ n) d ≡ one ⊖ quotient_of n d
rest-value n d h = ring_from fraction_ring (whole n ∷ whole d ∷ inverse (whole d) ∷ whole (d -ℤ n) ∷ []) ((var 2, var 3, var 1 :- var 0) ∷ (unit, var 1 :* var 2, unit) ∷ [])
    (given (whole-sub d n) (given (whole_positive d h) none)) (var 3 :* var 2) (unit :- var 0 :* var 2) refl

-- ---- products of numbers that aren't below 0
natural_product : (n m d e : ℤ) → pos 0 ≤ℤ n → n ≤ℤ d → pos 0 ≤ℤ m → m ≤ℤ e → (pos 0 ≤ℤ (n *ℤ m)) × ((n *ℤ m) ≤ℤ (d *ℤ e))
natural_product (pos n) (pos m) (pos d) (pos e) h k l o = (omega (arith, ints), omega (arith, ints, mul-le n m d e (omega (arith, ints, k)) (omega (arith, ints, o))))
natural_product (negsuc n) m d e h k l o = absurd (omega (arith, ints, h))
natural_product (pos n) (negsuc m) d e h k l o = absurd (omega (arith, ints, l))
natural_product (pos n) (pos m) (negsuc d) e h k l o = absurd (omega (arith, ints, k))
natural_product (pos n) (pos m) (pos d) (negsuc e) h k l o = absurd (omega (arith, ints, o))

abbrev IsPart : ℤ → ℤ → Type 0
IsPart n d = (pos 0 ≤ℤ n) × (n ≤ℤ d)

abbrev IsShort : ℤ → Type 0
IsShort d = (pos 1 ≤ℤ d) × (d ≤ℤ pos (2 ^ 20))

pub product_part : (n m d e : ℤ) → IsPart n d → IsPart m e → IsPart (n *ℤ m) (d *ℤ e)
product_part n m d e h k = natural_product n m d e h.0 h.1 k.0 k.1

pub product_whole : (d e : ℤ) → IsShort d → IsShort e → (pos 1 ≤ℤ (d *ℤ e)) × ((d *ℤ e) ≤ℤ pos (2 ^ 40))
product_whole d e h k = ((natural_product (pos 1) (pos 1) d e (omega (arith, ints)) h.0 (omega (arith, ints)) k.0).1, (natural_product d e (pos (2 ^ 20)) (pos (2 ^ 20)) (omega (arith, ints, h.0)) h.1 (omega (arith, ints, k.0)) k.1).1)

pub product_fits : (n m d e : ℤ) → IsPart n d → IsPart m e → IsShort d → IsShort e → SFits w128 (n *ℤ m)
product_fits n m d e h k l o = fits_128 (n *ℤ m) (omega (arith, ints, (product_part n m d e h k).0, (product_part n m d e h k).1, (product_whole d e l o).1))

pub product-value : (n m d e : ℤ) → pos 1 ≤ℤ d → pos 1 ≤ℤ e → quotient_of (n *ℤ m) (d *ℤ e) ≡ quotient_of n d ⊗ quotient_of m e
product-value n m d e h k = ring_from fraction_ring
    (whole n ∷ whole m ∷ whole d ∷ whole e ∷ inverse (whole d) ∷ inverse (whole e) ∷ whole (n *ℤ m) ∷ whole (d *ℤ e) ∷ inverse (whole (d *ℤ e)) ∷ [])
    ((var 8, var 6, var 0 :* var 1) ∷ (var 0 :* var 1 :* var 4 :* var 5, var 7 :* var 8, unit) ∷ (opposite (var 0 :* var 1 :* var 4 :* var 5 :* var 8), var 7, var 2 :* var 3)
    ∷ (opposite (var 0 :* var 1 :* var 8 :* var 3 :* var 5), var 2 :* var 4, unit) ∷ (opposite (var 0 :* var 1 :* var 8), var 3 :* var 5, unit) ∷ [])
    (given (whole-mul n m) (given (whole_positive (d *ℤ e) some) (given (whole-mul d e) (given (whole_positive d h) (given (whole_positive e k) none)))))
    (var 6 :* var 8) ((var 0 :* var 4) :* (var 1 :* var 5)) refl
  where
    some : pos 1 ≤ℤ (d *ℤ e)
    some = (natural_product (pos 1) (pos 1) d e (omega (arith, ints)) h (omega (arith, ints)) k).1

pub share_part_fits : (n d : ℤ) → pos 0 ≤ℤ n → n ≤ℤ d → d ≤ℤ pos (2 ^ 40) → SFits w128 n
share_part_fits n d h k l = fits_128 n (omega (arith, ints, h, k, l))

pub share_fits : (d : ℤ) → pos 1 ≤ℤ d → d ≤ℤ pos (2 ^ 40) → SFits w128 d
share_fits d h k = fits_128 d (omega (arith, ints, h, k))
