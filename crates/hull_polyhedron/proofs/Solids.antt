-- The signed faces of a strip triangle's tetrahedra and of their mirror images: what an alternating function sums to over them.
use Rattle.std.proofs.Common.{◌≡◌, refl, sym, ◌∙◌, ap, ap₂, List, [], ◌∷◌, map, Bool, true, false, ℤ, pos, ◌+ℤ◌, ◌-ℤ◌, neg_ℤ, arith}
use Rattle.std.specs.Prelude.{not, if◌then◌else◌}
use Rattle.std.specs.List.{flat_map}
use Rattle.exact_algebra.specs.Expression.{var, number, ◌:+◌, ◌:-◌, opposite}
use Rattle.exact_algebra.specs.Ring.{whole_numbers}
use Rattle.exact_algebra.proofs.Ring.{ring, ring_from, none, given}
use Rattle.exact_algebra.proofs.WholeNumbers.{integers}
use Rattle.hull_model.specs.declared.node.Node.{Node}
use Rattle.hull_model.specs.Nodes.{foot, mirrored}
use Rattle.hull_model.specs.TriangleCut.{Triangle, triangle}
use Rattle.hull_model.specs.TetrahedronCut.{Tetrahedron, tetrahedron}
use Rattle.hull_model.specs.SignedFaces.{turned, turns_back, faces_in_order, faces_by, Signed, signed, outward_faces, signed_solids, mirror_image}
use Rattle.hull_model.specs.Boundary.{sum_of, IsAlternating}
use Rattle.hull_polyhedron.proofs.Sums.{sum-flat_map}
use Rattle.hull_polyhedron.specs.Listed.{turned_unless, mirrored_triangle, is_on_centreplane, sides, wall}

-- a number, or its opposite
abbrev pub with_sign : Bool → ℤ → ℤ
with_sign true n = n
with_sign false n = neg_ℤ n

module _ (g : Triangle Node → ℤ) (alternating : IsAlternating whole_numbers g) where
  abbrev pub face : Node → Node → Node → ℤ
  face a b c = g (triangle a b c)

  swap : (a b c : Node) → face b a c ≡ neg_ℤ (face a b c)
  swap a b c = alternating.turned (triangle a b c)

  -- the last two corners change places
  swap_last : (a b c : Node) → face a c b ≡ neg_ℤ (face a b c)
  swap_last a b c = sym (alternating.rotated (triangle a c b)) ∙ swap b c a ∙ ap neg_ℤ (alternating.rotated (triangle a b c))

  pub sum_turned : (outwards : Bool) (t : Triangle Node) → g (turned_unless outwards t) ≡ with_sign outwards (g t)
  sum_turned true t = refl
  sum_turned false t = alternating.turned t

  -- the faces of a tetrahedron, with the signs of their order
  unfoldable pub around : Tetrahedron Node → ℤ
  around t = ((face t.b t.c t.d -ℤ face t.a t.c t.d) +ℤ face t.a t.b t.d) -ℤ face t.a t.b t.c

  around_outwards : (t : Tetrahedron Node) → sum_of g (faces_in_order t) ≡ around t
  unfolding around
  around_outwards t = ring_from integers (face t.b t.c t.d ∷ face t.a t.d t.c ∷ face t.a t.b t.d ∷ face t.a t.c t.b ∷ face t.a t.c t.d ∷ face t.a t.b t.c ∷ [])
      ((number 1, var 1, opposite (var 4)) ∷ (number 1, var 3, opposite (var 5)) ∷ []) (given (swap_last t.a t.c t.d) (given (swap_last t.a t.b t.c) none))
      (var 0 :+ (var 1 :+ (var 2 :+ (var 3 :+ number 0)))) (((var 0 :- var 4) :+ var 2) :- var 5) refl

  pub around_inwards : (t : Tetrahedron Node) → sum_of g (map turned (faces_in_order t)) ≡ neg_ℤ (sum_of g (faces_in_order t))
  around_inwards t = four (triangle t.b t.c t.d) (triangle t.a t.d t.c) (triangle t.a t.b t.d) (triangle t.a t.c t.b)
    where
      four : (a b c d : Triangle Node) → g (turned a) +ℤ (g (turned b) +ℤ (g (turned c) +ℤ (g (turned d) +ℤ pos 0))) ≡ neg_ℤ (g a +ℤ (g b +ℤ (g c +ℤ (g d +ℤ pos 0))))
      four a b c d = (λ i. alternating.turned a i +ℤ (alternating.turned b i +ℤ (alternating.turned c i +ℤ (alternating.turned d i +ℤ pos 0))))
          ∙ ring integers (g a ∷ g b ∷ g c ∷ g d ∷ []) (opposite (var 0) :+ (opposite (var 1) :+ (opposite (var 2) :+ (opposite (var 3) :+ number 0)))) (opposite (var 0 :+ (var 1 :+ (var 2 :+ (var 3 :+ number 0))))) refl

  around_by : (b : Bool) (t : Tetrahedron Node) → sum_of g (faces_by b t) ≡ with_sign b (around t)
  around_by true t = around_outwards t
  around_by false t = around_inwards t ∙ ap neg_ℤ (around_outwards t)

  -- the wall along an edge on one side
  unfoldable pub half_wall : Node → Node → ℤ
  half_wall p q = face (foot p) (foot q) q -ℤ face (foot p) p q

  -- what is left around the three tetrahedra of a strip triangle
  unfoldable pub left : Triangle Node → ℤ
  left t = ((g t -ℤ face (foot t.a) (foot t.b) (foot t.c)) +ℤ half_wall t.b t.c) -ℤ half_wall t.a t.c +ℤ half_wall t.a t.b

  three_left : (t : Triangle Node) → (around (tetrahedron (foot t.a) (foot t.b) (foot t.c) t.c) -ℤ around (tetrahedron (foot t.a) (foot t.b) t.b t.c)) +ℤ around (tetrahedron (foot t.a) t.a t.b t.c) ≡ left t
  unfolding around half_wall left
  three_left t =
      let a : Node = foot t.a in
      let b : Node = foot t.b in
      let c : Node = foot t.c in
      ring integers
      (face b c t.c ∷ face a c t.c ∷ face a b t.c ∷ face a b c ∷ face b t.b t.c ∷ face a t.b t.c ∷ face a b t.b ∷ face t.a t.b t.c ∷ face a t.a t.c ∷ face a t.a t.b ∷ [])
      (((((var 0 :- var 1) :+ var 2) :- var 3) :- (((var 4 :- var 5) :+ var 2) :- var 6)) :+ (((var 7 :- var 5) :+ var 8) :- var 9))
      ((((var 7 :- var 3) :+ (var 0 :- var 4)) :- (var 1 :- var 8)) :+ (var 6 :- var 9)) refl

  -- the three tetrahedra with their signs
  three_signed : (b : Bool) (t : Triangle Node) → List Signed
  three_signed b t =
      signed b (tetrahedron (foot t.a) (foot t.b) (foot t.c) t.c)
      ∷ signed (not b) (tetrahedron (foot t.a) (foot t.b) t.b t.c)
      ∷ signed b (tetrahedron (foot t.a) t.a t.b t.c)
      ∷ []

  solids_sum : (b : Bool) (t : Triangle Node) → sum_of g (flat_map outward_faces (three_signed b t)) ≡ with_sign b (left t)
  unfolding three_signed
  solids_sum b t = sum-flat_map g outward_faces (three_signed b t)
      ∙ (λ i. around_by b first i +ℤ (around_by (not b) second i +ℤ (around_by b third i +ℤ pos 0)))
      ∙ together b (around first) (around second) (around third) ∙ ap (with_sign b) (three_left t)
    where
      first : Tetrahedron Node
      first = tetrahedron (foot t.a) (foot t.b) (foot t.c) t.c

      second : Tetrahedron Node
      second = tetrahedron (foot t.a) (foot t.b) t.b t.c

      third : Tetrahedron Node
      third = tetrahedron (foot t.a) t.a t.b t.c

      together : (b : Bool) (l m n : ℤ) → with_sign b l +ℤ (with_sign (not b) m +ℤ (with_sign b n +ℤ pos 0)) ≡ with_sign b ((l -ℤ m) +ℤ n)
      together true l m n = ring integers (l ∷ m ∷ n ∷ []) (var 0 :+ (opposite (var 1) :+ (var 2 :+ number 0))) ((var 0 :- var 1) :+ var 2) refl
      together false l m n = ring integers (l ∷ m ∷ n ∷ []) (opposite (var 0) :+ (var 1 :+ (opposite (var 2) :+ number 0))) (opposite ((var 0 :- var 1) :+ var 2)) refl

  -- the wall along an edge from port to starboard
  unfoldable pub wall_across : Node → Node → ℤ
  wall_across p q = half_wall p q -ℤ half_wall (mirrored p) (mirrored q)

  -- the walls along the edges of a strip triangle
  abbrev pub edges : Triangle Node → ℤ
  edges t = (wall_across t.b t.c -ℤ wall_across t.a t.c) +ℤ wall_across t.a t.b

  unfoldable pub across : Triangle Node → ℤ
  across t = g t -ℤ g (mirrored_triangle t)

  both_left : (t : Triangle Node) → left t -ℤ left (mirrored_triangle t) ≡ across t +ℤ edges t
  unfolding left across wall_across
  both_left t = ring integers
      (g t ∷ face (foot t.a) (foot t.b) (foot t.c) ∷ half_wall t.b t.c ∷ half_wall t.a t.c ∷ half_wall t.a t.b
      ∷ g (mirrored_triangle t) ∷ half_wall (mirrored t.b) (mirrored t.c) ∷ half_wall (mirrored t.a) (mirrored t.c) ∷ half_wall (mirrored t.a) (mirrored t.b) ∷ [])
      (((((var 0 :- var 1) :+ var 2) :- var 3) :+ var 4) :- ((((var 5 :- var 1) :+ var 6) :- var 7) :+ var 8))
      ((var 0 :- var 5) :+ (((var 2 :- var 6) :- (var 3 :- var 7)) :+ (var 4 :- var 8))) refl

  -- a mirrored triangle on the centreplane is the triangle
  same_mirrored : (n : Node) → n.y ≡ pos 0 → mirrored n ≡ n
  same_mirrored n e = λ i. record { x = n.x; y = (ap neg_ℤ e ∙ sym e) i; z = n.z }

  on_centreplane : (t : Triangle Node) → is_on_centreplane t ≡ true → across t ≡ pos 0
  unfolding across
  on_centreplane t e = ap (λ n. g t -ℤ n) (λ i. g (triangle (same_mirrored t.a (y_of t.a t.b t.c e).0 i) (same_mirrored t.b (y_of t.a t.b t.c e).1 i) (same_mirrored t.c (y_of t.a t.b t.c e).2 i)))
      ∙ ring integers (g t ∷ []) (var 0 :- var 0) (number 0) refl
    where
      y_of : (a b c : Node) → is_on_centreplane (triangle a b c) ≡ true → (a.y ≡ pos 0) × (b.y ≡ pos 0) × (c.y ≡ pos 0)
      y_of a b c e = grind arith

  pub sides_sum : (t : Triangle Node) → sum_of g (sides t) ≡ with_sign (turns_back t) (across t)
  unfolding across
  sides_sum t = go (is_on_centreplane t) refl (turns_back t)
    where
      go : (on : Bool) → is_on_centreplane t ≡ on → (b : Bool)
          → sum_of g (if on then [] else turned_unless b t ∷ turned_unless (not b) (mirrored_triangle t) ∷ []) ≡ with_sign b (g t -ℤ g (mirrored_triangle t))
      go true e true = sym (on_centreplane t e)
      go true e false = sym (ap neg_ℤ (on_centreplane t e))
      go false e true = ap (λ n. g t +ℤ (n +ℤ pos 0)) (sum_turned false (mirrored_triangle t))
          ∙ ring integers (g t ∷ g (mirrored_triangle t) ∷ []) (var 0 :+ (opposite (var 1) :+ number 0)) (var 0 :- var 1) refl
      go false e false = ap (λ n. n +ℤ (g (mirrored_triangle t) +ℤ pos 0)) (sum_turned false t)
          ∙ ring integers (g t ∷ g (mirrored_triangle t) ∷ []) (opposite (var 0) :+ (var 1 :+ number 0)) (opposite (var 0 :- var 1)) refl

  pub wall_sum : (outwards : Bool) (p q : Node) → sum_of g (wall outwards p q) ≡ with_sign outwards (wall_across p q)
  unfolding wall wall_across half_wall
  wall_sum b p q =
      (λ i. sum_turned b (triangle (foot p) (foot q) q) i +ℤ (sum_turned (not b) (triangle (foot p) p q) i
      +ℤ (sum_turned (not b) (triangle (foot p) (foot q) (mirrored q)) i +ℤ (sum_turned b (triangle (foot p) (mirrored p) (mirrored q)) i +ℤ pos 0))))
      ∙ together b (face (foot p) (foot q) q) (face (foot p) p q) (face (foot p) (foot q) (mirrored q)) (face (foot p) (mirrored p) (mirrored q))
    where
      together : (b : Bool) (k l m n : ℤ) → with_sign b k +ℤ (with_sign (not b) l +ℤ (with_sign (not b) m +ℤ (with_sign b n +ℤ pos 0))) ≡ with_sign b ((k -ℤ l) -ℤ (m -ℤ n))
      together true k l m n = ring integers (k ∷ l ∷ m ∷ n ∷ []) (var 0 :+ (opposite (var 1) :+ (opposite (var 2) :+ (var 3 :+ number 0)))) ((var 0 :- var 1) :- (var 2 :- var 3)) refl
      together false k l m n = ring integers (k ∷ l ∷ m ∷ n ∷ []) (opposite (var 0) :+ (var 1 :+ (var 2 :+ (opposite (var 3) :+ number 0)))) (opposite ((var 0 :- var 1) :- (var 2 :- var 3))) refl

  -- the signed faces of a strip triangle's tetrahedra and of their mirror images: its two sides, and the walls along its edges
  pub solids_and_mirror_images : (t : Triangle Node)
      → sum_of g (flat_map outward_faces (signed_solids t)) +ℤ sum_of g (flat_map outward_faces (map mirror_image (signed_solids t)))
      ≡ sum_of g (sides t) +ℤ with_sign (turns_back t) (edges t)
  unfolding three_signed
  solids_and_mirror_images t = ap₂ ◌+ℤ◌ (solids_sum (turns_back t) t) (solids_sum (not (turns_back t)) (mirrored_triangle t))
      ∙ together (turns_back t) (left t) (left (mirrored_triangle t)) ∙ ap (with_sign (turns_back t)) (both_left t)
      ∙ apart (turns_back t) (across t) (edges t) ∙ ap (λ n. n +ℤ with_sign (turns_back t) (edges t)) (sym (sides_sum t))
    where
      together : (b : Bool) (m n : ℤ) → with_sign b m +ℤ with_sign (not b) n ≡ with_sign b (m -ℤ n)
      together true m n = refl
      together false m n = ring integers (m ∷ n ∷ []) (opposite (var 0) :+ var 1) (opposite (var 0 :- var 1)) refl

      apart : (b : Bool) (m n : ℤ) → with_sign b (m +ℤ n) ≡ with_sign b m +ℤ with_sign b n
      apart true m n = refl
      apart false m n = ring integers (m ∷ n ∷ []) (opposite (var 0 :+ var 1)) (opposite (var 0) :+ opposite (var 1)) refl
