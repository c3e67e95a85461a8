-- Functions of three positions that change their sign with the turn of the corners, and what adds up where an edge is split; points of an
-- edge, and where it crosses depth 0.
use mathlib.Core.Path.{◌≡◌, refl, sym, ◌∙◌, ap, ap₂}
use mathlib.Core.List.{[], ◌∷◌}
use Rattle.exact_algebra.specs.Expression.{var, unit, number, ◌:+◌, ◌:-◌, ◌:*◌, opposite}
use Rattle.exact_algebra.proofs.Ring.{ring, ring_from, none, given}
use Rattle.exact_algebra.proofs.Fraction.{Fraction, nought, one, ◌⊕◌, ◌⊗◌, ◌⊖◌, negative, inverse, fractions, fraction_ring}
use Rattle.exact_algebra.proofs.Order as Order
use Rattle.exact_algebra.proofs.Bounds as Bounds
use Rattle.hull_model.specs.Fractions.{interpolated}
use Rattle.hull_model.specs.TriangleSums.{on, Function, IsAlternating, Splits}
use Rattle.hull_model.specs.Waterplane.{Position}
use Rattle.hull_model.proofs.CutInduction.{IsInside}

-- ---- points of an edge
-- a function of positions that is linear
abbrev pub IsLinearFunction : (Position → Fraction) → Type 0
IsLinearFunction d = (t : Fraction) (p q : Position) → d (on t p q) ≡ interpolated t (d p) (d q)

pub on-turned : (t : Fraction) (p q : Position) → on (one ⊖ t) q p ≡ on t p q
on-turned t p q = λ i. record { x = along p.x q.x i; y = along p.y q.y i; z = along p.z q.z i }
  where
    along : (x y : Fraction) → interpolated (one ⊖ t) y x ≡ interpolated t x y
    along x y = ring fraction_ring (t ∷ x ∷ y ∷ []) ((unit :- (unit :- var 0)) :* var 2 :+ (unit :- var 0) :* var 1) ((unit :- var 0) :* var 1 :+ var 0 :* var 2) refl

pub on-first : (t : Fraction) (p q : Position) → t ≡ nought → on t p q ≡ p
on-first t p q e = λ i. record { x = along p.x q.x i; y = along p.y q.y i; z = along p.z q.z i }
  where
    along : (x y : Fraction) → interpolated t x y ≡ x
    along x y = ring_from fraction_ring (t ∷ x ∷ y ∷ []) ((var 2 :- var 1, var 0, number 0) ∷ []) (given e none) ((unit :- var 0) :* var 1 :+ var 0 :* var 2) (var 1) refl

pub on-last : (t : Fraction) (p q : Position) → t ≡ one → on t p q ≡ q
on-last t p q e = λ i. record { x = along p.x q.x i; y = along p.y q.y i; z = along p.z q.z i }
  where
    along : (x y : Fraction) → interpolated t x y ≡ y
    along x y = ring_from fraction_ring (t ∷ x ∷ y ∷ []) ((var 2 :- var 1, var 0, unit) ∷ []) (given e none) ((unit :- var 0) :* var 1 :+ var 0 :* var 2) (var 2) refl

-- a point of the part before another point
pub on-before : (s t l : Fraction) (p q : Position) → s ⊗ l ≡ t → on s p (on l p q) ≡ on t p q
on-before s t l p q e = λ i. record { x = along p.x q.x i; y = along p.y q.y i; z = along p.z q.z i }
  where
    along : (x y : Fraction) → interpolated s x (interpolated l x y) ≡ interpolated t x y
    along x y = ring_from fraction_ring (s ∷ t ∷ l ∷ x ∷ y ∷ []) ((var 4 :- var 3, var 0 :* var 2, var 1) ∷ []) (given e none)
        ((unit :- var 0) :* var 3 :+ var 0 :* ((unit :- var 2) :* var 3 :+ var 2 :* var 4)) ((unit :- var 1) :* var 3 :+ var 1 :* var 4) refl

-- a point of the line from c to the point t of the edge from a to b, between points of the lines from c to a and from c to b
pub on-fan : (n t s α β : Fraction) (c a b : Position) → (one ⊖ s) ⊗ α ≡ n ⊗ (one ⊖ t) → s ⊗ β ≡ n ⊗ t → on s (on α c a) (on β c b) ≡ on n c (on t a b)
on-fan n t s α β c a b e f = λ i. record { x = along c.x a.x b.x i; y = along c.y a.y b.y i; z = along c.z a.z b.z i }
  where
    along : (z x y : Fraction) → interpolated s (interpolated α z x) (interpolated β z y) ≡ interpolated n z (interpolated t x y)
    along z x y = ring_from fraction_ring (n ∷ t ∷ s ∷ α ∷ β ∷ z ∷ x ∷ y ∷ [])
        ((var 6 :- var 5, (unit :- var 2) :* var 3, var 0 :* (unit :- var 1)) ∷ (var 7 :- var 5, var 2 :* var 4, var 0 :* var 1) ∷ []) (given e (given f none))
        ((unit :- var 2) :* ((unit :- var 3) :* var 5 :+ var 3 :* var 6) :+ var 2 :* ((unit :- var 4) :* var 5 :+ var 4 :* var 7))
        ((unit :- var 0) :* var 5 :+ var 0 :* ((unit :- var 1) :* var 6 :+ var 1 :* var 7)) refl

-- a point of the line from the point t of the edge from a to b on to c, between points of the edges from a to b and from a to c
pub on-across : (m t s l n : Fraction) (a b c : Position) → (one ⊖ s) ⊗ l ≡ (one ⊖ m) ⊗ t → s ⊗ n ≡ m → on s (on l a b) (on n a c) ≡ on m (on t a b) c
on-across m t s l n a b c e f = λ i. record { x = along a.x b.x c.x i; y = along a.y b.y c.y i; z = along a.z b.z c.z i }
  where
    along : (x y z : Fraction) → interpolated s (interpolated l x y) (interpolated n x z) ≡ interpolated m (interpolated t x y) z
    along x y z = ring_from fraction_ring (m ∷ t ∷ s ∷ l ∷ n ∷ x ∷ y ∷ z ∷ [])
        ((var 6 :- var 5, (unit :- var 2) :* var 3, (unit :- var 0) :* var 1) ∷ (var 7 :- var 5, var 2 :* var 4, var 0) ∷ []) (given e (given f none))
        ((unit :- var 2) :* ((unit :- var 3) :* var 5 :+ var 3 :* var 6) :+ var 2 :* ((unit :- var 4) :* var 5 :+ var 4 :* var 7))
        ((unit :- var 0) :* ((unit :- var 1) :* var 5 :+ var 1 :* var 6) :+ var 0 :* var 7) refl

-- ---- alternating functions
-- a function adds up at each point strictly inside an edge
abbrev pub AddsUpInside : Function → Type 0
AddsUpInside k = (t : Fraction) → IsInside t → (a b : Position) → Splits k (on t a b) a b

module _ (k : Function) (alternating : IsAlternating k) where
  open alternating use {swap, roll}

  pub swap_last : (a b c : Position) → k a c b ≡ negative (k a b c)
  swap_last a b c = sym (roll a c b) ∙ swap b c a ∙ ap negative (roll a b c)

  abbrev two : Fraction
  two = one ⊕ (one ⊕ nought)

  two_halves : two ⊗ inverse two ≡ one
  two_halves = Bounds.mul-inverse_positive fractions (Order.positive-number fractions 1)

  opposite_to_itself : (x : Fraction) → x ≡ negative x → x ≡ nought
  opposite_to_itself x e = ring_from fraction_ring (x ∷ inverse two ∷ []) ((var 1, var 0, opposite (var 0)) ∷ (opposite (var 0), number 2 :* var 1, unit) ∷ [])
      (given e (given two_halves none)) (var 0) (number 0) refl

  -- no area
  pub same_first : (a c : Position) → k a a c ≡ nought
  same_first a c = opposite_to_itself (k a a c) (swap a a c)

  pub same_ends : (a c : Position) → k a c a ≡ nought
  same_ends a c = roll a a c ∙ same_first a c

  pub splits_turned : (m a b : Position) → Splits k m a b → Splits k m b a
  splits_turned m a b s c = ring_from fraction_ring (k b a c ∷ k a b c ∷ k a m c ∷ k m b c ∷ k b m c ∷ k m a c ∷ [])
      ((unit, var 0, opposite (var 1)) ∷ (opposite unit, var 1, var 2 :+ var 3) ∷ (opposite unit, var 4, opposite (var 3)) ∷ (opposite unit, var 5, opposite (var 2)) ∷ [])
      (given (swap a b c) (given (s c) (given (swap m b c) (given (swap a m c) none)))) (var 0) (var 4 :+ var 5) refl

  -- the split of another edge
  pub split_middle : (m a c : Position) → Splits k m a c → (b : Position) → k a b c ≡ k a b m ⊕ k m b c
  split_middle m a c s b = ring_from fraction_ring (k a b c ∷ k a c b ∷ k a m b ∷ k m c b ∷ k a b m ∷ k m b c ∷ [])
      ((unit, var 1, opposite (var 0)) ∷ (opposite unit, var 1, var 2 :+ var 3) ∷ (opposite unit, var 2, opposite (var 4)) ∷ (opposite unit, var 3, opposite (var 5)) ∷ [])
      (given (swap_last a b c) (given (s b) (given (swap_last a b m) (given (swap_last m b c) none)))) (var 0) (var 4 :+ var 5) refl

  pub split_last : (m b c : Position) → Splits k m b c → (a : Position) → k a b c ≡ k a b m ⊕ k a m c
  split_last m b c s a = sym (roll a b c) ∙ s a ∙ ap₂ ◌⊕◌ (roll a b m) (roll a m c)
