-- Shares of the parts of a triangle that is split at a point of an edge, and sums over lists.
use mathlib.Core.Path.{◌≡◌, refl, sym, ◌∙◌, ap, ap₂}
use mathlib.Core.List.{List, [], ◌∷◌, ◌++◌}
use mathlib.Core.Logic.{◌≢◌}
use Rattle.exact_algebra.specs.Expression.{Expression, var, unit, number, ◌:+◌, ◌:-◌, ◌:*◌, opposite}
use Rattle.exact_algebra.specs.OrderedField.{Sign, below, level, above, turned, sign_product}
use Rattle.exact_algebra.proofs.Ring.{ring, ring_from, none, given}
use Rattle.exact_algebra.proofs.Fraction.{Fraction, nought, one, ◌⊕◌, ◌⊗◌, ◌⊖◌, negative, sign, fractions, fraction_ring, sign-one, sign-nought}
use Rattle.exact_algebra.proofs.Order as Order
use Rattle.hull_model.specs.Fractions.{magnitude, magnitude_by, sum_over}
use Rattle.hull_model.specs.TriangleCut.{Triangle, triangle}
use Rattle.hull_model.specs.WetMean.{Place, places, with_depths, turned_share, share_of}

pub sum_over-append : {A : Type 0} (f : A → Fraction) (xs ys : List A) → sum_over f (xs ++ ys) ≡ sum_over f xs ⊕ sum_over f ys
unfolding sum_over
sum_over-append f [] ys = ring fraction_ring (sum_over f ys ∷ []) (var 0) (number 0 :+ var 0) refl
sum_over-append f (x ∷ xs) ys = ap (λ t. f x ⊕ t) (sum_over-append f xs ys) ∙ sym (fractions.laws.ring.add_assoc (f x) (sum_over f xs) (sum_over f ys))

pub sum_over-one : {A : Type 0} (f : A → Fraction) (x : A) → sum_over f (x ∷ []) ≡ f x
unfolding sum_over
sum_over-one f x = fractions.laws.ring.add_nought (f x)

pub sum_over-none : {A : Type 0} (f : A → Fraction) → sum_over f [] ≡ nought
unfolding sum_over
sum_over-none f = refl

-- the magnitude of a product by a number that isn't below nought
pub magnitude-mul : (t x : Fraction) → sign t ≢ below → magnitude (t ⊗ x) ≡ t ⊗ magnitude x
unfolding magnitude
magnitude-mul t x n = by_first (sign t) refl
  where
    go : sign t ≡ above → (s : Sign) → sign x ≡ s → magnitude_by (sign (t ⊗ x)) (t ⊗ x) ≡ t ⊗ magnitude_by s x
    go p above e = ap (λ s. magnitude_by s (t ⊗ x)) (Order.positive-mul fractions p e)
    go p level e = ap (λ s. magnitude_by s (t ⊗ x)) (Order.sign-product fractions t x ∙ ap₂ sign_product p e)
    go p below e = ap (λ s. magnitude_by s (t ⊗ x)) (Order.sign-product fractions t x ∙ ap₂ sign_product p e) ∙ ring fraction_ring (t ∷ x ∷ []) (opposite (var 0 :* var 1)) (var 0 :* opposite (var 1)) refl

    by_first : (s : Sign) → sign t ≡ s → magnitude_by (sign (t ⊗ x)) (t ⊗ x) ≡ t ⊗ magnitude_by (sign x) x
    by_first above p = go p (sign x) refl
    by_first below p = absurd (n p)
    by_first level p = ap (λ y. magnitude_by (sign y) y) none_left ∙ ap (λ s. magnitude_by s nought) sign-nought ∙ sym left
      where
        t_none : t ≡ nought
        t_none = fractions.laws.nought_from_sign t p

        none_left : t ⊗ x ≡ nought
        none_left = ring_from fraction_ring (t ∷ x ∷ []) ((var 1, var 0, number 0) ∷ []) (given t_none none) (var 0 :* var 1) (number 0) refl

        left : t ⊗ magnitude_by (sign x) x ≡ nought
        left = ring_from fraction_ring (t ∷ magnitude_by (sign x) x ∷ []) ((var 1, var 0, number 0) ∷ []) (given t_none none) (var 0 :* var 1) (number 0) refl

-- ---- shares of the parts
abbrev between : Expression → Expression → Expression
between p q = (unit :- var 0) :* p :+ var 0 :* q

abbrev determinant_of : (p q r : Expression × Expression × Expression) → Expression
determinant_of p q r = p.0 :* (q.1 :* r.2 :- q.2 :* r.1) :- p.1 :* (q.0 :* r.2 :- q.2 :* r.0) :+ p.2 :* (q.0 :* r.1 :- q.1 :* r.0)

abbrev A : Expression × Expression × Expression
A = (var 1, var 2, var 3)

abbrev B : Expression × Expression × Expression
B = (var 4, var 5, var 6)

abbrev C : Expression × Expression × Expression
C = (var 7, var 8, var 9)

abbrev X : (p q : Expression × Expression × Expression) → Expression × Expression × Expression
X p q = (between p.0 q.0, between p.1 q.1, between p.2 q.2)

module _ (t : Fraction) (a b c : Place) (low : sign t ≢ below) (high : sign (one ⊖ t) ≢ below) where
  values : List Fraction
  values = t ∷ a.first ∷ a.second ∷ a.third ∷ b.first ∷ b.second ∷ b.third ∷ c.first ∷ c.second ∷ c.third ∷ []

  T : Triangle Place
  T = triangle a b c

  before : (p : Triangle Place) → turned_share p ≡ t ⊗ turned_share T → share_of p ≡ t ⊗ share_of T
  before p e = ap magnitude e ∙ magnitude-mul t (turned_share T) low

  behind : (p : Triangle Place) → turned_share p ≡ (one ⊖ t) ⊗ turned_share T → share_of p ≡ (one ⊖ t) ⊗ share_of T
  behind p e = ap magnitude e ∙ magnitude-mul (one ⊖ t) (turned_share T) high

  pub share_first : (share_of (triangle a (places.between t a b) c) ≡ t ⊗ share_of (triangle a b c)) × (share_of (triangle (places.between t a b) b c) ≡ (one ⊖ t) ⊗ share_of (triangle a b c))
  unfolding values T
  share_first = (
    before (triangle a (places.between t a b) c) (ring fraction_ring values (determinant_of A (X A B) C) (var 0 :* determinant_of A B C) refl),
    behind (triangle (places.between t a b) b c) (ring fraction_ring values (determinant_of (X A B) B C) ((unit :- var 0) :* determinant_of A B C) refl),
  )

  pub share_middle : (share_of (triangle a b (places.between t a c)) ≡ t ⊗ share_of (triangle a b c)) × (share_of (triangle (places.between t a c) b c) ≡ (one ⊖ t) ⊗ share_of (triangle a b c))
  unfolding values T
  share_middle = (
    before (triangle a b (places.between t a c)) (ring fraction_ring values (determinant_of A B (X A C)) (var 0 :* determinant_of A B C) refl),
    behind (triangle (places.between t a c) b c) (ring fraction_ring values (determinant_of (X A C) B C) ((unit :- var 0) :* determinant_of A B C) refl),
  )

  pub share_last : (share_of (triangle a b (places.between t b c)) ≡ t ⊗ share_of (triangle a b c)) × (share_of (triangle a (places.between t b c) c) ≡ (one ⊖ t) ⊗ share_of (triangle a b c))
  unfolding values T
  share_last = (
    before (triangle a b (places.between t b c)) (ring fraction_ring values (determinant_of A B (X B C)) (var 0 :* determinant_of A B C) refl),
    behind (triangle a (places.between t b c) c) (ring fraction_ring values (determinant_of A (X B C) C) ((unit :- var 0) :* determinant_of A B C) refl),
  )

-- ---- the order of the corners, and the whole triangle
pub magnitude-negative : (x : Fraction) → magnitude (negative x) ≡ magnitude x
unfolding magnitude
magnitude-negative x = go (sign x) refl
  where
    go : (s : Sign) → sign x ≡ s → magnitude_by (sign (negative x)) (negative x) ≡ magnitude_by s x
    go above e = ap (λ s. magnitude_by s (negative x)) (fractions.laws.sign-negative x ∙ ap turned e) ∙ ring fraction_ring (x ∷ []) (opposite (opposite (var 0))) (var 0) refl
    go below e = ap (λ s. magnitude_by s (negative x)) (fractions.laws.sign-negative x ∙ ap turned e)
    go level e = ap (λ s. magnitude_by s (negative x)) (fractions.laws.sign-negative x ∙ ap turned e) ∙ ring_from fraction_ring (x ∷ []) ((number 2 :* opposite unit, var 0, number 0) ∷ []) (given (fractions.laws.nought_from_sign x e) none) (opposite (var 0)) (var 0) refl

corners : Place → Place → Place → List Fraction
corners a b c = nought ∷ a.first ∷ a.second ∷ a.third ∷ b.first ∷ b.second ∷ b.third ∷ c.first ∷ c.second ∷ c.third ∷ []

pub share-swapped : (a b c : Place) → share_of (triangle a b c) ≡ share_of (triangle b a c)
unfolding corners
share-swapped a b c = ap magnitude (ring fraction_ring (corners a b c) (determinant_of A B C) (opposite (determinant_of B A C)) refl) ∙ magnitude-negative (turned_share (triangle b a c))

pub share-turned : (a b c : Place) → share_of (triangle a b c) ≡ share_of (triangle a c b)
unfolding corners
share-turned a b c = ap magnitude (ring fraction_ring (corners a b c) (determinant_of A B C) (opposite (determinant_of A C B)) refl) ∙ magnitude-negative (turned_share (triangle a c b))

pub share-whole : (h k l : Fraction) → share_of (with_depths h k l) ≡ one
unfolding magnitude
share-whole h k l = ap (λ x. magnitude_by (sign x) x) (ring fraction_ring [] (determinant_of (unit, number 0, number 0) (number 0, unit, number 0) (number 0, number 0, unit)) unit refl) ∙ ap (λ s. magnitude_by s one) sign-one
