-- Where the edges of a triangle cross depth 0, for a depth that is linear: the crossing points of the parts of a split edge, and of the lines to
-- a point of an edge.
use mathlib.Core.Path.{◌≡◌, refl, ◌∙◌, ap, subst}
use mathlib.Core.List.{List, [], ◌∷◌}
use mathlib.Core.Logic.{◌≢◌}
use Rattle.exact_algebra.specs.Expression.{Expression, var, unit, number, ◌:+◌, ◌:-◌, ◌:*◌, opposite}
use Rattle.exact_algebra.proofs.Ring.{ring_from, none, given}
use Rattle.exact_algebra.proofs.Fraction.{Fraction, nought, one, ◌⊗◌, ◌⊖◌, inverse, fractions, fraction_ring}
use Rattle.exact_algebra.proofs.WetForm as Form
use Rattle.hull_model.specs.Waterplane.{Position}
use Rattle.hull_model.specs.TriangleSums.{on}
use Rattle.hull_model.proofs.EdgeSplits.{on-turned, on-first, on-last, on-before, on-fan, on-across, IsLinearFunction}

module _ (d : Position → Fraction) where
  abbrev pub Differ : Position → Position → Type 0
  Differ p q = d p ⊖ d q ≢ nought

  -- the part of the way from p to q at which the depth is 0, and the point there
  abbrev pub part : Position → Position → Fraction
  part p q = d p ⊗ inverse (d p ⊖ d q)

  abbrev pub cross : Position → Position → Position
  cross p q = on (part p q) p q

  pub is_part : (p q : Position) → Differ p q → part p q ⊗ (d p ⊖ d q) ≡ d p
  is_part p q n = Form.is_part fractions (d p) (d q) n

  inverted : (p q : Position) → Differ p q → (d p ⊖ d q) ⊗ inverse (d p ⊖ d q) ≡ one
  inverted p q n = fractions.laws.mul-inverse (d p ⊖ d q) n

  pub differ_turned : (p q : Position) → Differ p q → Differ q p
  differ_turned p q n = λ z. n (ring_from fraction_ring (d p ∷ d q ∷ []) ((opposite unit, var 1 :- var 0, number 0) ∷ []) (given z none) (var 0 :- var 1) (number 0) refl)

  pub cross-turned : (a b : Position) → Differ a b → cross b a ≡ cross a b
  cross-turned a b n = ap (λ (t : Fraction). on t b a) (ring_from fraction_ring (d a ∷ d b ∷ part a b ∷ part b a ∷ inverse (d a ⊖ d b) ∷ [])
      ((var 4, var 2 :* (var 0 :- var 1), var 0) ∷ (opposite (var 4), var 3 :* (var 1 :- var 0), var 1) ∷ (opposite (var 3 :- (unit :- var 2)), (var 0 :- var 1) :* var 4, unit) ∷ [])
      (given (is_part a b n) (given (is_part b a (differ_turned a b n)) (given (inverted a b n) none))) (var 3) (unit :- var 2) refl)
      ∙ on-turned (part a b) a b

  -- a corner at depth 0
  pub cross-first : (a b : Position) → d a ≡ nought → cross a b ≡ a
  cross-first a b e = on-first (part a b) a b (ring_from fraction_ring (d a ∷ inverse (d a ⊖ d b) ∷ []) ((var 1, var 0, number 0) ∷ []) (given e none) (var 0 :* var 1) (number 0) refl)

  pub cross-last : (a b : Position) → Differ a b → d b ≡ nought → cross a b ≡ b
  cross-last a b n e = on-last (part a b) a b (ring_from fraction_ring (d a ∷ d b ∷ part a b ∷ inverse (d a ⊖ d b) ∷ [])
      ((var 3, var 2 :* (var 0 :- var 1), var 0) ∷ (var 3, var 1, number 0) ∷ (opposite (var 2 :- unit), (var 0 :- var 1) :* var 3, unit) ∷ [])
      (given (is_part a b n) (given e (given (inverted a b n) none))) (var 2) unit refl)

  -- ---- a point of the edge from a to b
  -- its depth, with the depths of a and b as variables 0 and 1, the part of the edge as variable 2 and the depth of the point as variable 3
  abbrev at_m : Expression × Expression
  at_m = (var 3, (unit :- var 2) :* var 0 :+ var 2 :* var 1)

  pub cross-along : IsLinearFunction d → (t : Fraction) (a b : Position) → Differ a b → Differ a (on t a b) → cross a (on t a b) ≡ cross a b
  cross-along d_linear t a b n k = on-before (part a (on t a b)) (part a b) t a b (ring_from fraction_ring (d a ∷ d b ∷ t ∷ d (on t a b) ∷ part a b ∷ part a (on t a b) ∷ inverse (d a ⊖ d b) ∷ [])
      ((opposite (var 6), var 4 :* (var 0 :- var 1), var 0) ∷ (var 6, var 5 :* (var 0 :- var 3), var 0) ∷ (var 6 :* var 5, at_m.0, at_m.1) ∷ (opposite (var 5 :* var 2 :- var 4), (var 0 :- var 1) :* var 6, unit) ∷ [])
      (given (is_part a b n) (given (is_part a (on t a b) k) (given (d_linear t a b) (given (inverted a b n) none)))) (var 5 :* var 2) (var 4) refl)

  module _ (d_linear : IsLinearFunction d) (t : Fraction) (a b : Position) where
    abbrev m : Position
    m = on t a b

    pub along_turned : Differ b a → Differ b m → cross b m ≡ cross b a
    along_turned n k = subst (λ (p : Position). Differ b p → cross b p ≡ cross b a) (on-turned t a b) (cross-along d_linear (one ⊖ t) b a n) k

    pub cross-behind : Differ a b → Differ m b → cross m b ≡ cross a b
    cross-behind n k = cross-turned b m (differ_turned m b k) ∙ along_turned (differ_turned a b n) (differ_turned m b k) ∙ cross-turned a b n

    -- where m lies before the crossing point
    abbrev pub before : Fraction
    before = t ⊗ (d a ⊖ d b) ⊗ inverse (d a)

    pub on-edge : Differ a b → d a ≢ nought → on before a (cross a b) ≡ m
    on-edge n k = on-before before t (part a b) a b (ring_from fraction_ring (d a ∷ d b ∷ t ∷ part a b ∷ inverse (d a) ∷ [])
        ((var 2 :* var 4, var 3 :* (var 0 :- var 1), var 0) ∷ (var 2, var 0 :* var 4, unit) ∷ [])
        (given (is_part a b n) (given (fractions.laws.mul-inverse (d a) k) none)) (((var 2 :* (var 0 :- var 1)) :* var 4) :* var 3) (var 2) refl)

    module _ (c : Position) where
      -- the crossing points of the lines from c lie on a line
      abbrev pub fan_part : Fraction
      fan_part = t ⊗ (d c ⊖ d b) ⊗ inverse (d c ⊖ d m)

      -- with the depth of c as variable 4, the parts of the lines from c to a, b and m as variables 5, 6 and 7, and the inverse as variable 8
      abbrev fan_values : List Fraction
      fan_values = d a ∷ d b ∷ t ∷ d m ∷ d c ∷ part c a ∷ part c b ∷ part c m ∷ inverse (d c ⊖ d m) ∷ []

      abbrev fan_at : Expression
      fan_at = (var 2 :* (var 4 :- var 1)) :* var 8

      pub cross-fan : Differ c a → Differ c b → Differ c m → on fan_part (cross c a) (cross c b) ≡ cross c m
      cross-fan n k l = on-fan (part c m) t fan_part (part c a) (part c b) c a b
          (ring_from fraction_ring fan_values
          ((var 8 :* (unit :- var 2), var 5 :* (var 4 :- var 0), var 4) ∷ (opposite (var 5 :* var 8), at_m.0, at_m.1) ∷ ((unit :- var 2) :* var 7 :- var 5, (var 4 :- var 3) :* var 8, unit) ∷ (opposite ((unit :- var 2) :* var 8), var 7 :* (var 4 :- var 3), var 4) ∷ [])
          (given (is_part c a n) (given (d_linear t a b) (given (inverted c m l) (given (is_part c m l) none))))
          ((unit :- fan_at) :* var 5) (var 7 :* (unit :- var 2)) refl)
          (ring_from fraction_ring fan_values
          ((var 2 :* var 8, var 6 :* (var 4 :- var 1), var 4) ∷ (opposite (var 2 :* var 8), var 7 :* (var 4 :- var 3), var 4) ∷ (var 2 :* var 7, (var 4 :- var 3) :* var 8, unit) ∷ [])
          (given (is_part c b k) (given (is_part c m l) (given (inverted c m l) none)))
          (fan_at :* var 6) (var 7 :* var 2) refl)

      -- the crossing points of the edges from a and of the line from m to c lie on a line
      abbrev pub across_part : Fraction
      across_part = part m c ⊗ (d a ⊖ d c) ⊗ inverse (d a)

      abbrev across_values : List Fraction
      across_values = d a ∷ d b ∷ t ∷ d m ∷ d c ∷ part a b ∷ part a c ∷ part m c ∷ inverse (d a ⊖ d b) ∷ inverse (d a) ∷ []

      abbrev across_at : Expression
      across_at = (var 7 :* (var 0 :- var 4)) :* var 9

      pub cross-across : Differ a b → Differ a c → Differ m c → d a ≢ nought → on across_part (cross a b) (cross a c) ≡ cross m c
      cross-across n k l o = on-across (part m c) t across_part (part a b) (part a c) a b c
          (ring_from fraction_ring across_values
          ((opposite (var 8 :* var 7 :* (var 0 :- var 4)), var 0 :* var 9, unit) ∷ (var 8 :* (unit :- across_at), var 5 :* (var 0 :- var 1), var 0) ∷ (opposite (var 8), var 7 :* (var 3 :- var 4), var 3)
          ∷ (opposite (var 8 :* (unit :- var 7)), at_m.0, at_m.1) ∷ (opposite ((unit :- across_at) :* var 5 :- (unit :- var 7) :* var 2), (var 0 :- var 1) :* var 8, unit) ∷ [])
          (given (fractions.laws.mul-inverse (d a) o) (given (is_part a b n) (given (is_part m c l) (given (d_linear t a b) (given (inverted a b n) none)))))
          ((unit :- across_at) :* var 5) ((unit :- var 7) :* var 2) refl)
          (ring_from fraction_ring across_values
          ((var 7 :* var 9, var 6 :* (var 0 :- var 4), var 0) ∷ (var 7, var 0 :* var 9, unit) ∷ [])
          (given (is_part a c k) (given (fractions.laws.mul-inverse (d a) o) none))
          (across_at :* var 6) (var 7) refl)
