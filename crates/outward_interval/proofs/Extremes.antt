-- The least and the greatest of the four products of the ends of two ranges, by the signs of these ends.
use Rattle.std.proofs.Common.{◌≡◌, refl, [], ◌∷◌, true, false, ℤ, pos, negsuc, neg_ℤ, ◌*ℤ◌, ◌≤ℤ◌, arith}
use Rattle.std.proofs.lemmas.Int.{ints, clamps}
use Rattle.std.specs.Int.{int_min, int_max}
use lib.Signed.{le_z}
use Rattle.exact_algebra.specs.Expression.{var, ◌:*◌, opposite}
use Rattle.exact_algebra.proofs.Ring.{ring}
use Rattle.exact_algebra.proofs.WholeNumbers.{integers}
use Rattle.exact_algebra.proofs.Products.{least_of, greatest_of}
use Rattle.outward_interval.specs.Ends.{least_product, greatest_product}
use Rattle.outward_interval.proofs.Quotients.{le-times}
use Rattle.outward_interval.proofs.Signed.{≤ℤ_trans}

-- ---- which way a product goes as one factor rises
rises : (k a b : ℤ) → pos 0 ≤ℤ k → a ≤ℤ b → (a *ℤ k) ≤ℤ (b *ℤ k)
rises (pos n) a b sign h = le-times n a b h
rises (negsuc n) a b sign h = absurd (omega (arith, ints))

falls : (k a b : ℤ) → k ≤ℤ pos 0 → a ≤ℤ b → (b *ℤ k) ≤ℤ (a *ℤ k)
falls k a b sign h = turned (a *ℤ k) (b *ℤ k) (a *ℤ neg_ℤ k) (b *ℤ neg_ℤ k)
    (ring integers (a ∷ k ∷ []) (var 0 :* opposite (var 1)) (opposite (var 0 :* var 1)) refl)
    (ring integers (b ∷ k ∷ []) (var 0 :* opposite (var 1)) (opposite (var 0 :* var 1)) refl)
    (rises (neg_ℤ k) a b (above k sign) h)
  where
    above : (k : ℤ) → k ≤ℤ pos 0 → pos 0 ≤ℤ neg_ℤ k
    above k h = omega (arith, ints)

    turned : (x y p q : ℤ) → p ≡ neg_ℤ x → q ≡ neg_ℤ y → p ≤ℤ q → y ≤ℤ x
    turned x y p q e f h = omega (arith, ints)

swapped : (a b c d : ℤ) → (c *ℤ a) ≤ℤ (d *ℤ b) → (a *ℤ c) ≤ℤ (b *ℤ d)
swapped a b c d h = rw (ring integers (a ∷ c ∷ []) (var 0 :* var 1) (var 1 :* var 0) refl, ring integers (b ∷ d ∷ []) (var 0 :* var 1) (var 1 :* var 0) refl) h

-- the same of the other factor
rises_right : (k c d : ℤ) → pos 0 ≤ℤ k → c ≤ℤ d → (k *ℤ c) ≤ℤ (k *ℤ d)
rises_right k c d sign h = swapped k k c d (rises k c d sign h)

falls_right : (k c d : ℤ) → k ≤ℤ pos 0 → c ≤ℤ d → (k *ℤ d) ≤ℤ (k *ℤ c)
falls_right k c d sign h = swapped k k d c (falls k c d sign h)

-- ---- the least product

pub least-above_above : (a b c d : ℤ) → a ≤ℤ b → c ≤ℤ d → pos 0 ≤ℤ a → pos 0 ≤ℤ c → a *ℤ c ≡ least_product a b c d
least-above_above a b c d ab cd sa sc = go (a *ℤ c) (a *ℤ d) (b *ℤ c) (b *ℤ d) (rises_right a c d sa cd) (rises c a b sc ab) (rises_right b c d (≤ℤ_trans sa ab) cd)
  where
    go : (p q r s : ℤ) → p ≤ℤ q → p ≤ℤ r → r ≤ℤ s → p ≡ least_of p q r s
    go p q r s x y z = omega (arith, ints, clamps)

pub least-lower_above : (a b c d : ℤ) → a ≤ℤ b → c ≤ℤ d → a ≤ℤ pos 0 → pos 0 ≤ℤ c → a *ℤ d ≡ least_product a b c d
least-lower_above a b c d ab cd sa sc = go (a *ℤ c) (a *ℤ d) (b *ℤ c) (b *ℤ d) (falls_right a c d sa cd) (rises c a b sc ab) (rises d a b (≤ℤ_trans sc cd) ab)
  where
    go : (p q r s : ℤ) → q ≤ℤ p → p ≤ℤ r → q ≤ℤ s → q ≡ least_of p q r s
    go p q r s x y z = omega (arith, ints, clamps)

pub least-upper_below : (a b c d : ℤ) → a ≤ℤ b → c ≤ℤ d → pos 0 ≤ℤ b → d ≤ℤ pos 0 → b *ℤ c ≡ least_product a b c d
least-upper_below a b c d ab cd sb sd = go (a *ℤ c) (a *ℤ d) (b *ℤ c) (b *ℤ d) (falls c a b (≤ℤ_trans cd sd) ab) (rises_right b c d sb cd) (falls d a b sd ab)
  where
    go : (p q r s : ℤ) → r ≤ℤ p → r ≤ℤ s → s ≤ℤ q → r ≡ least_of p q r s
    go p q r s x y z = omega (arith, ints, clamps)

pub least-below_below : (a b c d : ℤ) → a ≤ℤ b → c ≤ℤ d → b ≤ℤ pos 0 → d ≤ℤ pos 0 → b *ℤ d ≡ least_product a b c d
least-below_below a b c d ab cd sb sd = go (a *ℤ c) (a *ℤ d) (b *ℤ c) (b *ℤ d) (falls_right b c d sb cd) (falls d a b sd ab) (falls c a b (≤ℤ_trans cd sd) ab)
  where
    go : (p q r s : ℤ) → s ≤ℤ r → s ≤ℤ q → r ≤ℤ p → s ≡ least_of p q r s
    go p q r s x y z = omega (arith, ints, clamps)

pub least-above_across : (a b c d : ℤ) → a ≤ℤ b → c ≤ℤ d → pos 0 ≤ℤ a → c ≤ℤ pos 0 → pos 0 ≤ℤ d → b *ℤ c ≡ least_product a b c d
least-above_across a b c d ab cd sa sc sd = go (a *ℤ c) (a *ℤ d) (b *ℤ c) (b *ℤ d) (falls c a b sc ab) (rises_right b c d (≤ℤ_trans sa ab) cd) (rises_right a c d sa cd)
  where
    go : (p q r s : ℤ) → r ≤ℤ p → r ≤ℤ s → p ≤ℤ q → r ≡ least_of p q r s
    go p q r s x y z = omega (arith, ints, clamps)

pub least-below_across : (a b c d : ℤ) → a ≤ℤ b → c ≤ℤ d → b ≤ℤ pos 0 → c ≤ℤ pos 0 → pos 0 ≤ℤ d → a *ℤ d ≡ least_product a b c d
least-below_across a b c d ab cd sb sc sd = go (a *ℤ c) (a *ℤ d) (b *ℤ c) (b *ℤ d) (falls_right a c d (≤ℤ_trans ab sb) cd) (rises d a b sd ab) (falls_right b c d sb cd)
  where
    go : (p q r s : ℤ) → q ≤ℤ p → q ≤ℤ s → s ≤ℤ r → q ≡ least_of p q r s
    go p q r s x y z = omega (arith, ints, clamps)

pub least-across_across : (a b c d : ℤ) → a ≤ℤ b → c ≤ℤ d → a ≤ℤ pos 0 → pos 0 ≤ℤ b → int_min (a *ℤ d) (b *ℤ c) ≡ least_product a b c d
least-across_across a b c d ab cd sa sb = go (a *ℤ c) (a *ℤ d) (b *ℤ c) (b *ℤ d) (falls_right a c d sa cd) (rises_right b c d sb cd)
  where
    go : (p q r s : ℤ) → q ≤ℤ p → r ≤ℤ s → int_min q r ≡ least_of p q r s
    go p q r s x y = omega (arith, ints, clamps)

-- ---- the greatest product

pub greatest-upper_above : (a b c d : ℤ) → a ≤ℤ b → c ≤ℤ d → pos 0 ≤ℤ b → pos 0 ≤ℤ c → b *ℤ d ≡ greatest_product a b c d
greatest-upper_above a b c d ab cd sb sc = go (a *ℤ c) (a *ℤ d) (b *ℤ c) (b *ℤ d) (rises_right b c d sb cd) (rises d a b (≤ℤ_trans sc cd) ab) (rises c a b sc ab)
  where
    go : (p q r s : ℤ) → r ≤ℤ s → q ≤ℤ s → p ≤ℤ r → s ≡ greatest_of p q r s
    go p q r s x y z = omega (arith, ints, clamps)

pub greatest-below_above : (a b c d : ℤ) → a ≤ℤ b → c ≤ℤ d → b ≤ℤ pos 0 → pos 0 ≤ℤ c → b *ℤ c ≡ greatest_product a b c d
greatest-below_above a b c d ab cd sb sc = go (a *ℤ c) (a *ℤ d) (b *ℤ c) (b *ℤ d) (falls_right b c d sb cd) (rises c a b sc ab) (rises d a b (≤ℤ_trans sc cd) ab)
  where
    go : (p q r s : ℤ) → s ≤ℤ r → p ≤ℤ r → q ≤ℤ s → r ≡ greatest_of p q r s
    go p q r s x y z = omega (arith, ints, clamps)

pub greatest-above_below : (a b c d : ℤ) → a ≤ℤ b → c ≤ℤ d → pos 0 ≤ℤ a → d ≤ℤ pos 0 → a *ℤ d ≡ greatest_product a b c d
greatest-above_below a b c d ab cd sa sd = go (a *ℤ c) (a *ℤ d) (b *ℤ c) (b *ℤ d) (rises_right a c d sa cd) (falls d a b sd ab) (falls c a b (≤ℤ_trans cd sd) ab)
  where
    go : (p q r s : ℤ) → p ≤ℤ q → s ≤ℤ q → r ≤ℤ p → q ≡ greatest_of p q r s
    go p q r s x y z = omega (arith, ints, clamps)

pub greatest-lower_below : (a b c d : ℤ) → a ≤ℤ b → c ≤ℤ d → a ≤ℤ pos 0 → d ≤ℤ pos 0 → a *ℤ c ≡ greatest_product a b c d
greatest-lower_below a b c d ab cd sa sd = go (a *ℤ c) (a *ℤ d) (b *ℤ c) (b *ℤ d) (falls_right a c d sa cd) (falls c a b (≤ℤ_trans cd sd) ab) (falls d a b sd ab)
  where
    go : (p q r s : ℤ) → q ≤ℤ p → r ≤ℤ p → s ≤ℤ q → p ≡ greatest_of p q r s
    go p q r s x y z = omega (arith, ints, clamps)

pub greatest-above_across : (a b c d : ℤ) → a ≤ℤ b → c ≤ℤ d → pos 0 ≤ℤ a → c ≤ℤ pos 0 → pos 0 ≤ℤ d → b *ℤ d ≡ greatest_product a b c d
greatest-above_across a b c d ab cd sa sc sd = go (a *ℤ c) (a *ℤ d) (b *ℤ c) (b *ℤ d) (rises d a b sd ab) (rises_right b c d (≤ℤ_trans sa ab) cd) (rises_right a c d sa cd)
  where
    go : (p q r s : ℤ) → q ≤ℤ s → r ≤ℤ s → p ≤ℤ q → s ≡ greatest_of p q r s
    go p q r s x y z = omega (arith, ints, clamps)

pub greatest-below_across : (a b c d : ℤ) → a ≤ℤ b → c ≤ℤ d → b ≤ℤ pos 0 → c ≤ℤ pos 0 → pos 0 ≤ℤ d → a *ℤ c ≡ greatest_product a b c d
greatest-below_across a b c d ab cd sb sc sd = go (a *ℤ c) (a *ℤ d) (b *ℤ c) (b *ℤ d) (falls_right a c d (≤ℤ_trans ab sb) cd) (falls c a b sc ab) (falls_right b c d sb cd)
  where
    go : (p q r s : ℤ) → q ≤ℤ p → r ≤ℤ p → s ≤ℤ r → p ≡ greatest_of p q r s
    go p q r s x y z = omega (arith, ints, clamps)

pub greatest-across_across : (a b c d : ℤ) → a ≤ℤ b → c ≤ℤ d → a ≤ℤ pos 0 → pos 0 ≤ℤ b → int_max (a *ℤ c) (b *ℤ d) ≡ greatest_product a b c d
greatest-across_across a b c d ab cd sa sb = go (a *ℤ c) (a *ℤ d) (b *ℤ c) (b *ℤ d) (falls_right a c d sa cd) (rises_right b c d sb cd)
  where
    go : (p q r s : ℤ) → q ≤ℤ p → r ≤ℤ s → int_max p s ≡ greatest_of p q r s
    go p q r s x y = omega (arith, ints, clamps)

-- the least isn't above the greatest
pub extremes_ordered : (a b c d : ℤ) → least_product a b c d ≤ℤ greatest_product a b c d
extremes_ordered a b c d = go (a *ℤ c) (a *ℤ d) (b *ℤ c) (b *ℤ d)
  where
    go : (p q r s : ℤ) → least_of p q r s ≤ℤ greatest_of p q r s
    go p q r s = omega (arith, ints, clamps)

-- ---- a test of signs
pub at_least : {x y : ℤ} → le_z x y ≡ true → x ≤ℤ y
at_least h = omega (arith, ints, h)

pub at_most : {x y : ℤ} → le_z x y ≡ false → y ≤ℤ x
at_most h = omega (arith, ints, h)
