-- Faces that cancel: the balance of faces is alternating, and lists that are balanced have equal sums of each alternating function.
use Rattle.std.proofs.Common.{ℕ, zero, suc, ◌≤◌, ◌≡◌, refl, sym, ◌∙◌, ap, ap₂, List, [], ◌∷◌, ◌++◌, map, length, Bool, true, false, ℤ, pos, ◌+ℤ◌, ◌-ℤ◌, ◌*ℤ◌, neg_ℤ, ◌<ℤ◌, ◌≤ℤ◌, arith}
use mathlib.Core.Logic.{◌⊎◌, inl, inr, ◌≢◌}
use mathlib.Core.Path.{subst}
use Rattle.std.proofs.lemmas.Int.{ints}
use Rattle.std.specs.Prelude.{cond, ◌&&◌}
use Rattle.std.specs.Ordering.{int_eq}
use Rattle.exact_algebra.specs.Expression.{Expression, var, unit, number, ◌:+◌, ◌:-◌, ◌:*◌, opposite}
use Rattle.exact_algebra.specs.Ring.{Operations, CommutativeRing, whole_numbers}
use Rattle.exact_algebra.proofs.Ring.{ring, ring_from, none, given}
use Rattle.exact_algebra.proofs.WholeNumbers.{integers}
use Rattle.hull_model.specs.declared.node.Node.{Node}
use Rattle.hull_model.specs.declared.vector.Vector.{Vector}
use Rattle.hull_model.specs.TriangleCut.{Triangle, triangle}
use Rattle.hull_model.specs.Faces.{doubled_area}
use Rattle.hull_model.specs.SignedFaces.{turned}
use Rattle.hull_model.specs.Boundary.{no_area, HasArea, same_node, in_order, is_face, sum_of, IsAlternating, sum_in, BalancedListsHaveEqualSums}

-- ---- whether nodes and triangles are the same
same_by : (p q : Node) → (p ≡ q) × (same_node p q ≡ pos 1) ⊎ (same_node p q ≡ pos 0)
unfolding same_node
same_by p q = go (int_eq p.x q.x && (int_eq p.y q.y && int_eq p.z q.z)) refl
  where
    parts : (p q : Node) → (int_eq p.x q.x && (int_eq p.y q.y && int_eq p.z q.z)) ≡ true → (p.x ≡ q.x) × (p.y ≡ q.y) × (p.z ≡ q.z)
    parts p q e = grind arith

    go : (b : Bool) → (int_eq p.x q.x && (int_eq p.y q.y && int_eq p.z q.z)) ≡ b → (p ≡ q) × (cond b (pos 1) (pos 0) ≡ pos 1) ⊎ (cond b (pos 1) (pos 0) ≡ pos 0)
    go true e = inl ((λ i. record { x = (parts p q e).0 i; y = (parts p q e).1 i; z = (parts p q e).2 i }), refl)
    go false e = inr refl

same_self : (p : Node) → same_node p p ≡ pos 1
unfolding same_node
same_self p = grind arith

-- the corners of f are p, q and r in this order, or its measure is 0
order_by : (f : Triangle Node) (p q r : Node) → (f ≡ triangle p q r) × (in_order f p q r ≡ pos 1) ⊎ (in_order f p q r ≡ pos 0)
order_by f p q r = go (same_by f.a p) (same_by f.b q) (same_by f.c r)
  where
    go : (f.a ≡ p) × (same_node f.a p ≡ pos 1) ⊎ (same_node f.a p ≡ pos 0) → (f.b ≡ q) × (same_node f.b q ≡ pos 1) ⊎ (same_node f.b q ≡ pos 0) → (f.c ≡ r) × (same_node f.c r ≡ pos 1) ⊎ (same_node f.c r ≡ pos 0)
        → (f ≡ triangle p q r) × (in_order f p q r ≡ pos 1) ⊎ (in_order f p q r ≡ pos 0)
    go (inl d) (inl e) (inl h) = inl ((λ i. triangle (d.0 i) (e.0 i) (h.0 i)), λ i. (d.1 i *ℤ e.1 i) *ℤ h.1 i)
    go (inr d) _ _ = inr (ap (λ n. (n *ℤ same_node f.b q) *ℤ same_node f.c r) d ∙ ring integers (same_node f.b q ∷ same_node f.c r ∷ []) ((number 0 :* var 0) :* var 1) (number 0) refl)
    go (inl d) (inr e) _ = inr (ap (λ n. (same_node f.a p *ℤ n) *ℤ same_node f.c r) e ∙ ring integers (same_node f.a p ∷ same_node f.c r ∷ []) ((var 0 :* number 0) :* var 1) (number 0) refl)
    go (inl d) (inl e) (inr h) = inr (ap (λ n. (same_node f.a p *ℤ same_node f.b q) *ℤ n) h ∙ ring integers (same_node f.a p ∷ same_node f.b q ∷ []) ((var 0 :* var 1) :* number 0) (number 0) refl)

in_own_order : (f : Triangle Node) → in_order f f.a f.b f.c ≡ pos 1
in_own_order f = λ i. (same_self f.a i *ℤ same_self f.b i) *ℤ same_self f.c i

-- ---- areas
-- the difference of coordinates, in the order of the variables: the coordinates of a, of b and of c
minor_of : ℕ → ℕ → ℕ → ℕ → ℕ → ℕ → Expression
minor_of ai bi ci aj bj cj = (var bi :- var ai) :* (var cj :- var aj) :- (var bj :- var aj) :* (var ci :- var ai)

abbrev coordinates : Triangle Node → List ℤ
coordinates t = t.a.x ∷ t.a.y ∷ t.a.z ∷ t.b.x ∷ t.b.y ∷ t.b.z ∷ t.c.x ∷ t.c.y ∷ t.c.z ∷ []

pub area_rotated : (t : Triangle Node) → doubled_area (triangle t.b t.c t.a) ≡ doubled_area t
unfolding minor_of
area_rotated t = λ i. record {
  x = (ring integers (coordinates t) (minor_of 4 7 1 5 8 2) (minor_of 1 4 7 2 5 8) refl) i;
  y = (ring integers (coordinates t) (minor_of 5 8 2 3 6 0) (minor_of 2 5 8 0 3 6) refl) i;
  z = (ring integers (coordinates t) (minor_of 3 6 0 4 7 1) (minor_of 0 3 6 1 4 7) refl) i;
}

pub area_turned : (t : Triangle Node) → doubled_area (turned t) ≡ record { x = neg_ℤ (doubled_area t).x; y = neg_ℤ (doubled_area t).y; z = neg_ℤ (doubled_area t).z }
unfolding minor_of
area_turned t = λ i. record {
  x = (ring integers (coordinates t) (minor_of 4 1 7 5 2 8) (opposite (minor_of 1 4 7 2 5 8)) refl) i;
  y = (ring integers (coordinates t) (minor_of 5 2 8 3 0 6) (opposite (minor_of 2 5 8 0 3 6)) refl) i;
  z = (ring integers (coordinates t) (minor_of 3 0 6 4 1 7) (opposite (minor_of 0 3 6 1 4 7)) refl) i;
}

turned_flat : (t : Triangle Node) → doubled_area t ≡ no_area → doubled_area (turned t) ≡ no_area
turned_flat t e = area_turned t ∙ ap (λ (v : Vector). record { x = neg_ℤ v.x; y = neg_ℤ v.y; z = neg_ℤ v.z }) e

-- ---- the balance that one face gives to another
unfoldable pub against : Triangle Node → Triangle Node → ℤ
against t f = is_face t f -ℤ is_face (turned t) f

-- the nine equalities of corners, as variables
abbrev equalities : Triangle Node → Triangle Node → List ℤ
equalities f t = same_node f.a t.a ∷ same_node f.a t.b ∷ same_node f.a t.c ∷ same_node f.b t.a ∷ same_node f.b t.b ∷ same_node f.b t.c ∷ same_node f.c t.a ∷ same_node f.c t.b ∷ same_node f.c t.c ∷ []

ordered : ℕ → ℕ → ℕ → Expression
ordered i j k = (var i :* var j) :* var k

against-turned : (t f : Triangle Node) → against t (turned f) ≡ neg_ℤ (against t f)
unfolding against ordered
against-turned t f = ring integers (equalities f t)
    (((ordered 3 1 8 :+ ordered 4 2 6) :+ ordered 5 0 7) :- ((ordered 4 0 8 :+ ordered 3 2 7) :+ ordered 5 1 6))
    (opposite (((ordered 0 4 8 :+ ordered 1 5 6) :+ ordered 2 3 7) :- ((ordered 1 3 8 :+ ordered 0 5 7) :+ ordered 2 4 6))) refl

against-rotated : (t f : Triangle Node) → against t (triangle f.b f.c f.a) ≡ against t f
unfolding against ordered
against-rotated t f = ring integers (equalities f t)
    (((ordered 3 7 2 :+ ordered 4 8 0) :+ ordered 5 6 1) :- ((ordered 4 6 2 :+ ordered 3 8 1) :+ ordered 5 7 0))
    (((ordered 0 4 8 :+ ordered 1 5 6) :+ ordered 2 3 7) :- ((ordered 1 3 8 :+ ordered 0 5 7) :+ ordered 2 4 6)) refl

-- a face of no area isn't one of some area
no_order : (f : Triangle Node) (p q r : Node) → doubled_area f ≡ no_area → doubled_area (triangle p q r) ≢ no_area → in_order f p q r ≡ pos 0
no_order f p q r flat area = go (order_by f p q r)
  where
    go : (f ≡ triangle p q r) × (in_order f p q r ≡ pos 1) ⊎ (in_order f p q r ≡ pos 0) → in_order f p q r ≡ pos 0
    go (inl e) = absurd (area (ap doubled_area (sym e.0) ∙ flat))
    go (inr e) = e

against-flat : (t : Triangle Node) → HasArea t → (f : Triangle Node) → doubled_area f ≡ no_area → against t f ≡ pos 0
unfolding against
against-flat t area f flat = λ i. ((no t.a t.b t.c area i +ℤ no t.b t.c t.a once i) +ℤ no t.c t.a t.b twice i)
    -ℤ ((no t.b t.a t.c back i +ℤ no t.a t.c t.b back_once i) +ℤ no t.c t.b t.a back_twice i)
  where
    no : (p q r : Node) → doubled_area (triangle p q r) ≢ no_area → in_order f p q r ≡ pos 0
    no p q r h = no_order f p q r flat h

    once : doubled_area (triangle t.b t.c t.a) ≢ no_area
    once e = area (sym (area_rotated t) ∙ e)

    twice : doubled_area (triangle t.c t.a t.b) ≢ no_area
    twice e = area (area_rotated (triangle t.c t.a t.b) ∙ e)

    back : doubled_area (triangle t.b t.a t.c) ≢ no_area
    back e = area (turned_flat (triangle t.b t.a t.c) e)

    back_once : doubled_area (triangle t.a t.c t.b) ≢ no_area
    back_once e = back (sym (area_rotated (triangle t.b t.a t.c)) ∙ e)

    back_twice : doubled_area (triangle t.c t.b t.a) ≢ no_area
    back_twice e = back (area_rotated (triangle t.c t.b t.a) ∙ e)

-- the balance with a triangle of some area is alternating
pub against-alternating : (t : Triangle Node) → HasArea t → IsAlternating whole_numbers (against t)
against-alternating t area = record { turned = against-turned t; rotated = against-rotated t; flat = against-flat t area }

-- ---- opposite faces
abbrev pub IsOpposite : Triangle Node → Triangle Node → Type 0
IsOpposite f h = (h ≡ triangle f.b f.a f.c) ⊎ ((h ≡ triangle f.a f.c f.b) ⊎ (h ≡ triangle f.c f.b f.a))

-- a face that isn't opposite to f isn't f the other way round
pub not_opposite : (f h : Triangle Node) → (IsOpposite f h → ⊥) → is_face (turned f) h ≡ pos 0
not_opposite f h differ = λ i. (no (order_by h f.b f.a f.c) (λ e. differ (inl e)) i +ℤ no (order_by h f.a f.c f.b) (λ e. differ (inr (inl e))) i) +ℤ no (order_by h f.c f.b f.a) (λ e. differ (inr (inr e))) i
  where
    no : {p q r : Node} → (h ≡ triangle p q r) × (in_order h p q r ≡ pos 1) ⊎ (in_order h p q r ≡ pos 0) → (h ≡ triangle p q r → ⊥) → in_order h p q r ≡ pos 0
    no (inl e) differ = absurd (differ e.0)
    no (inr e) differ = e

in_order-nonnegative : (f : Triangle Node) (p q r : Node) → pos 0 ≤ℤ in_order f p q r
in_order-nonnegative f p q r = go (in_order f p q r) (order_by f p q r)
  where
    go : (n : ℤ) → (f ≡ triangle p q r) × (n ≡ pos 1) ⊎ (n ≡ pos 0) → pos 0 ≤ℤ n
    go n (inl e) = at_one e.1
      where
        at_one : {n : ℤ} → n ≡ pos 1 → pos 0 ≤ℤ n
        at_one e = omega (arith, ints)
    go n (inr e) = omega (arith, ints)

-- a face is opposite to f, or its balance isn't below 0
look : (f h : Triangle Node) → IsOpposite f h ⊎ (pos 0 ≤ℤ against f h)
unfolding against
look f h = go (order_by h f.b f.a f.c) (order_by h f.a f.c f.b) (order_by h f.c f.b f.a)
  where
    linear : {l m n i j k : ℤ} → pos 0 ≤ℤ l → pos 0 ≤ℤ m → pos 0 ≤ℤ n → i ≡ pos 0 → j ≡ pos 0 → k ≡ pos 0 → pos 0 ≤ℤ (((l +ℤ m) +ℤ n) -ℤ ((i +ℤ j) +ℤ k))
    linear a b c d e f = omega (arith, ints)

    go : (h ≡ triangle f.b f.a f.c) × (in_order h f.b f.a f.c ≡ pos 1) ⊎ (in_order h f.b f.a f.c ≡ pos 0)
        → (h ≡ triangle f.a f.c f.b) × (in_order h f.a f.c f.b ≡ pos 1) ⊎ (in_order h f.a f.c f.b ≡ pos 0)
        → (h ≡ triangle f.c f.b f.a) × (in_order h f.c f.b f.a ≡ pos 1) ⊎ (in_order h f.c f.b f.a ≡ pos 0)
        → IsOpposite f h ⊎ (pos 0 ≤ℤ (is_face f h -ℤ is_face (turned f) h))
    go (inl d) _ _ = inl (inl d.0)
    go (inr d) (inl e) _ = inl (inr (inl e.0))
    go (inr d) (inr e) (inl k) = inl (inr (inr k.0))
    go (inr d) (inr e) (inr k) = inr (linear (in_order-nonnegative h f.a f.b f.c) (in_order-nonnegative h f.b f.c f.a) (in_order-nonnegative h f.c f.a f.b) d e k)

-- where the balance of a list is below 0, an opposite face is in it
pub record Found (f : Triangle Node) (rest : List (Triangle Node)) : Type 0 where
  pub before : List (Triangle Node)
  pub face : Triangle Node
  pub after : List (Triangle Node)
  pub is : rest ≡ before ++ face ∷ after
  pub opposite : IsOpposite f face

find : (f : Triangle Node) (rest : List (Triangle Node)) → sum_of (against f) rest <ℤ pos 0 → Found f rest
find f [] less = absurd (omega (arith, ints))
find f (h ∷ rest) less = go (look f h) (λ less. find f rest less)
  where
    later : {m n : ℤ} → pos 0 ≤ℤ m → (m +ℤ n) <ℤ pos 0 → n <ℤ pos 0
    later h k = omega (arith, ints)

    after_head : Found f rest → Found f (h ∷ rest)
    after_head found = record { before = h ∷ found.before; face = found.face; after = found.after; is = ap (λ ts. h ∷ ts) found.is; opposite = found.opposite }

    go : IsOpposite f h ⊎ (pos 0 ≤ℤ against f h) → (sum_of (against f) rest <ℤ pos 0 → Found f rest) → Found f (h ∷ rest)
    go (inl o) found = record { before = []; face = h; after = rest; is = refl; opposite = o }
    go (inr n) found = after_head (found (later n less))

-- two corners that are the same leave no area
same_corners : (a b : Node) → doubled_area (triangle a a b) ≡ no_area
unfolding minor_of
same_corners a b = λ i. record {
  x = (ring integers (a.x ∷ a.y ∷ a.z ∷ b.x ∷ b.y ∷ b.z ∷ []) (minor_of 1 1 4 2 2 5) (number 0) refl) i;
  y = (ring integers (a.x ∷ a.y ∷ a.z ∷ b.x ∷ b.y ∷ b.z ∷ []) (minor_of 2 2 5 0 0 3) (number 0) refl) i;
  z = (ring integers (a.x ∷ a.y ∷ a.z ∷ b.x ∷ b.y ∷ b.z ∷ []) (minor_of 0 0 3 1 1 4) (number 0) refl) i;
}

-- of some area, a face is itself in one order alone
own_balance : (f : Triangle Node) → HasArea f → against f f ≡ pos 1
unfolding against
own_balance f area = (λ i. ((in_own_order f i +ℤ no f.b f.c f.a (λ e. ab (ap (λ (t : Triangle Node). t.a) e)) i) +ℤ no f.c f.a f.b (λ e. ca (ap (λ (t : Triangle Node). t.a) e)) i)
    -ℤ ((no f.b f.a f.c (λ e. ab (ap (λ (t : Triangle Node). t.a) e)) i +ℤ no f.a f.c f.b (λ e. bc (ap (λ (t : Triangle Node). t.b) e)) i) +ℤ no f.c f.b f.a (λ e. ca (ap (λ (t : Triangle Node). t.a) e)) i))
  where
    ab : f.a ≡ f.b → ⊥
    ab e = area (ap (λ (n : Node). doubled_area (triangle n f.b f.c)) e ∙ same_corners f.b f.c)

    bc : f.b ≡ f.c → ⊥
    bc e = area (sym (area_rotated f) ∙ ap (λ (n : Node). doubled_area (triangle n f.c f.a)) e ∙ same_corners f.c f.a)

    ca : f.a ≡ f.c → ⊥
    ca e = area (ap (λ (n : Node). doubled_area (triangle n f.b f.c)) e ∙ flat)
      where
        flat : doubled_area (triangle f.c f.b f.c) ≡ no_area
        flat = sym (area_rotated (triangle f.c f.b f.c)) ∙ sym (area_rotated (triangle f.b f.c f.c)) ∙ same_corners f.c f.b

    no : (p q r : Node) → (f ≡ triangle p q r → ⊥) → in_order f p q r ≡ pos 0
    no p q r differ = go (order_by f p q r)
      where
        go : (f ≡ triangle p q r) × (in_order f p q r ≡ pos 1) ⊎ (in_order f p q r ≡ pos 0) → in_order f p q r ≡ pos 0
        go (inl e) = absurd (differ e.0)
        go (inr e) = e

-- a triangle has some area, or none
pub area_by : (t : Triangle Node) → HasArea t ⊎ (doubled_area t ≡ no_area)
area_by t = go (doubled_area t)
  where
    parts : (v : Vector) → (int_eq v.x (pos 0) && (int_eq v.y (pos 0) && int_eq v.z (pos 0))) ≡ true → (v.x ≡ pos 0) × (v.y ≡ pos 0) × (v.z ≡ pos 0)
    parts v e = grind arith

    no_parts : (v : Vector) → (int_eq v.x (pos 0) && (int_eq v.y (pos 0) && int_eq v.z (pos 0))) ≡ false → v.x ≡ pos 0 → v.y ≡ pos 0 → v.z ≡ pos 0 → ⊥
    no_parts v e f g h = grind arith

    by_test : (v : Vector) (b : Bool) → (int_eq v.x (pos 0) && (int_eq v.y (pos 0) && int_eq v.z (pos 0))) ≡ b → (v ≢ no_area) ⊎ (v ≡ no_area)
    by_test v true e = inr (λ i. record { x = (parts v e).0 i; y = (parts v e).1 i; z = (parts v e).2 i })
    by_test v false e = inl (λ f. no_parts v e (ap (λ (u : Vector). u.x) f) (ap (λ (u : Vector). u.y) f) (ap (λ (u : Vector). u.z) f))

    go : (v : Vector) → (v ≢ no_area) ⊎ (v ≡ no_area)
    go v = by_test v _ refl

-- the numbers that a sum adds up, with one of them moved to the front
sum_moved : (R : CommutativeRing) (k : Triangle Node → R.Carrier) (before after : List (Triangle Node)) (h : Triangle Node)
    → sum_in R.operations k (before ++ h ∷ after) ≡ R.operations.◌⊕◌ (k h) (sum_in R.operations k (before ++ after))
sum_moved R k [] after h = refl
sum_moved R k (f ∷ before) after h = ap (λ s. R.operations.◌⊕◌ (k f) s) (sum_moved R k before after h)
    ∙ ring R (k f ∷ k h ∷ sum_in R.operations k (before ++ after) ∷ []) (var 0 :+ (var 1 :+ var 2)) (var 1 :+ (var 0 :+ var 2)) refl

length_moved : (before after : List (Triangle Node)) (h : Triangle Node) → length (before ++ h ∷ after) ≡ suc (length (before ++ after))
length_moved [] after h = refl
length_moved (f ∷ before) after h = ap suc (length_moved before after h)

pub sum_whole : (k : Triangle Node → ℤ) (fs : List (Triangle Node)) → sum_of k fs ≡ sum_in whole_numbers k fs
sum_whole k [] = refl
sum_whole k (f ∷ fs) = ap (λ n. k f +ℤ n) (sum_whole k fs)

module _ (R : CommutativeRing) (g : Triangle Node → R.Carrier) (alternating : IsAlternating R.operations g) where
  open R.operations use {nought, ◌⊕◌, negative}

  infixl 6 ◌⊕◌
  total : List (Triangle Node) → R.Carrier
  total fs = sum_in R.operations g fs

  abbrev IsSettled : List (Triangle Node) → Type 0
  IsSettled fs = (t : Triangle Node) → HasArea t → sum_of (against t) fs ≡ pos 0

  -- where nothing is left after opposite faces cancel, the sum is 0: of a face of no area and the rest, and of two opposite ones and the rest
  flat_step : (f : Triangle Node) (rest : List (Triangle Node)) → doubled_area f ≡ no_area → total rest ≡ nought → total (f ∷ rest) ≡ nought
  unfolding total
  flat_step f rest flat e = ap₂ ◌⊕◌ (alternating.flat f flat) e ∙ ring R [] (number 0 :+ number 0) (number 0) refl

  flat_settled : (f : Triangle Node) (rest : List (Triangle Node)) → doubled_area f ≡ no_area → IsSettled (f ∷ rest) → IsSettled rest
  flat_settled f rest flat settled t area = linear (against-flat t area f flat) (settled t area)
    where
      linear : {m n : ℤ} → m ≡ pos 0 → m +ℤ n ≡ pos 0 → n ≡ pos 0
      linear e h = omega (arith, ints)

  -- a function's value at an opposite face
  opposite_value : {C : Type 0} (S : Operations C) (k : Triangle Node → C) → ((t : Triangle Node) → k (turned t) ≡ S.negative (k t)) → ((t : Triangle Node) → k (triangle t.b t.c t.a) ≡ k t)
      → (f h : Triangle Node) → IsOpposite f h → k h ≡ S.negative (k f)
  opposite_value S k turns rotates f h (inl e) = ap k e ∙ turns f
  opposite_value S k turns rotates f h (inr (inl e)) = ap k e ∙ rotates (triangle f.b f.a f.c) ∙ turns f
  opposite_value S k turns rotates f h (inr (inr e)) = ap k e ∙ rotates (triangle f.a f.c f.b) ∙ rotates (triangle f.b f.a f.c) ∙ turns f

  pair_step : (f h : Triangle Node) (before after : List (Triangle Node)) → IsOpposite f h → total (before ++ after) ≡ nought → total (f ∷ (before ++ h ∷ after)) ≡ nought
  unfolding total
  pair_step f h before after o e = ap (λ s. g f ⊕ s) (sum_moved R g before after h ∙ ap₂ ◌⊕◌ (opposite_value R.operations g alternating.turned alternating.rotated f h o) e)
      ∙ ring R (g f ∷ []) (var 0 :+ (opposite (var 0) :+ number 0)) (number 0) refl

  pair_settled : (f h : Triangle Node) (before after : List (Triangle Node)) → IsOpposite f h → IsSettled (f ∷ (before ++ h ∷ after)) → IsSettled (before ++ after)
  pair_settled f h before after o settled t area = linear (against t f) (opposite_value whole_numbers (against t) (against-turned t) (against-rotated t) f h o)
      (sum_whole (against t) (before ++ h ∷ after) ∙ sum_moved integers (against t) before after h ∙ ap (λ n. against t h +ℤ n) (sym (sum_whole (against t) (before ++ after)))) (settled t area)
    where
      linear : (k : ℤ) {l m n : ℤ} → l ≡ neg_ℤ k → n ≡ l +ℤ m → k +ℤ n ≡ pos 0 → m ≡ pos 0
      linear k d e h = omega (arith, ints)

  zero_total : (n : ℕ) (fs : List (Triangle Node)) → length fs ≤ n → IsSettled fs → total fs ≡ nought
  unfolding total
  zero_total n [] few settled = refl
  zero_total zero (f ∷ rest) few settled = absurd (omega arith)
  zero_total (suc n) (f ∷ rest) few settled = go (area_by f) (zero_total n)
    where
      less : {m k : ℤ} → m ≡ pos 1 → m +ℤ k ≡ pos 0 → k <ℤ pos 0
      less e h = omega (arith, ints)

      shorter : {k l : ℕ} → suc k ≤ suc n → k ≡ suc l → l ≤ n
      shorter h e = omega arith

      cancel : Found f rest → ((fs : List (Triangle Node)) → length fs ≤ n → IsSettled fs → total fs ≡ nought) → total (f ∷ rest) ≡ nought
      cancel found smaller =
          subst (λ (ts : List (Triangle Node)). total (f ∷ ts) ≡ nought) (sym found.is)
          (pair_step f found.face found.before found.after found.opposite
          (smaller (found.before ++ found.after) (shorter few (ap length found.is ∙ length_moved found.before found.after found.face))
          (pair_settled f found.face found.before found.after found.opposite (subst (λ (ts : List (Triangle Node)). IsSettled (f ∷ ts)) found.is settled))))

      go : HasArea f ⊎ (doubled_area f ≡ no_area) → ((fs : List (Triangle Node)) → length fs ≤ n → IsSettled fs → total fs ≡ nought) → total (f ∷ rest) ≡ nought
      go (inl area) smaller = cancel (find f rest (less (own_balance f area) (settled f area))) smaller
      go (inr flat) smaller = flat_step f rest flat (smaller rest (omega arith) (flat_settled f rest flat settled))

  total-append : (xs ys : List (Triangle Node)) → total (xs ++ ys) ≡ total xs ⊕ total ys
  unfolding total
  total-append [] ys = ring R (total ys ∷ []) (var 0) (number 0 :+ var 0) refl
  total-append (x ∷ xs) ys = ap (λ s. g x ⊕ s) (total-append xs ys) ∙ ring R (g x ∷ total xs ∷ total ys ∷ []) (var 0 :+ (var 1 :+ var 2)) ((var 0 :+ var 1) :+ var 2) refl

  total-turned : (xs : List (Triangle Node)) → total (map turned xs) ≡ negative (total xs)
  unfolding total
  total-turned [] = ring R [] (number 0) (opposite (number 0)) refl
  total-turned (x ∷ xs) = ap₂ ◌⊕◌ (alternating.turned x) (total-turned xs) ∙ ring R (g x ∷ total xs ∷ []) (opposite (var 0) :+ opposite (var 1)) (opposite (var 0 :+ var 1)) refl

sum_of-append : (k : Triangle Node → ℤ) (xs ys : List (Triangle Node)) → sum_of k (xs ++ ys) ≡ sum_of k xs +ℤ sum_of k ys
sum_of-append k [] ys = ring integers (sum_of k ys ∷ []) (var 0) (number 0 :+ var 0) refl
sum_of-append k (x ∷ xs) ys = ap (λ n. k x +ℤ n) (sum_of-append k xs ys) ∙ ring integers (k x ∷ sum_of k xs ∷ sum_of k ys ∷ []) (var 0 :+ (var 1 :+ var 2)) ((var 0 :+ var 1) :+ var 2) refl

sum_of-turned : (t : Triangle Node) (xs : List (Triangle Node)) → sum_of (against t) (map turned xs) ≡ neg_ℤ (sum_of (against t) xs)
sum_of-turned t [] = refl
sum_of-turned t (x ∷ xs) = ap₂ ◌+ℤ◌ (against-turned t x) (sum_of-turned t xs) ∙ ring integers (against t x ∷ sum_of (against t) xs ∷ []) (opposite (var 0) :+ opposite (var 1)) (opposite (var 0 :+ var 1)) refl

pub balanced_sums : (R : CommutativeRing) → BalancedListsHaveEqualSums R.operations
unfolding total against
balanced_sums R g alternating faces others balanced =
    ring_from R (total R g alternating faces ∷ total R g alternating others ∷ total R g alternating (map turned others) ∷ total R g alternating (faces ++ map turned others) ∷ [])
    ((unit, var 3, number 0) ∷ (opposite unit, var 3, var 0 :+ var 2) ∷ (opposite unit, var 2, opposite (var 1)) ∷ [])
    (given (zero_total R g alternating (length (faces ++ map turned others)) (faces ++ map turned others) (omega arith) settled)
    (given (total-append R g alternating faces (map turned others)) (given (total-turned R g alternating others) none)))
    (var 0) (var 1) refl
  where
    linear : {k l m n : ℤ} → k ≡ l → n ≡ neg_ℤ l → m ≡ k +ℤ n → m ≡ pos 0
    linear d e h = omega (arith, ints)

    settled : (t : Triangle Node) → HasArea t → sum_of (against t) (faces ++ map turned others) ≡ pos 0
    settled t area = linear (balanced t area) (sum_of-turned t others) (sum_of-append (against t) faces (map turned others))
