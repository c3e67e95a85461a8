-- The sum of the determinants of the signed faces is six times the volume of the tetrahedra.
use Rattle.std.proofs.Common.{ℕ, zero, suc, ◌≡◌, refl, sym, ◌∙◌, ap, ap₂, List, [], ◌∷◌, ◌++◌, map, Bool, true, false, ℤ, pos, negsuc, ◌+ℤ◌, ◌-ℤ◌, ◌*ℤ◌, neg_ℤ, ◌≤ℤ◌, unsigned_abs, arith}
use Rattle.std.proofs.lemmas.Int.{ints}
use Rattle.std.proofs.lemmas.List.{map-append}
use Rattle.std.specs.Prelude.{not, int_lt}
use Rattle.std.specs.List.{flat_map, AllByRecursion}
use Rattle.exact_algebra.specs.Expression.{Expression, var, number, ◌:+◌, ◌:-◌, ◌:*◌, opposite}
use Rattle.exact_algebra.specs.Ring.{whole_numbers}
use Rattle.exact_algebra.proofs.Ring.{ring}
use Rattle.exact_algebra.proofs.WholeNumbers.{integers}
use Rattle.hull_model.specs.declared.node.Node.{Node}
use Rattle.hull_model.specs.declared.station.Station.{Station}
use Rattle.hull_model.specs.declared.vector.Vector.{Vector}
use Rattle.hull_model.specs.Lists.{Rises}
use Rattle.hull_model.specs.Body.{IsStation}
use Rattle.hull_model.specs.Nodes.{foot, mirrored}
use Rattle.hull_model.specs.TriangleCut.{Triangle, triangle}
use Rattle.hull_model.specs.TetrahedronCut.{Tetrahedron, tetrahedron, with_corners}
use Rattle.hull_model.specs.Tetrahedra.{to_centreplane, hull_tetrahedra, turned_six, six_times}
use Rattle.hull_model.specs.Faces.{determinant}
use Rattle.hull_model.specs.Zipper.{strip_triangles}
use Rattle.hull_model.specs.SignedFaces.{turned, turn, turns_back, Signed, signed, outward_faces, faces_in_order, faces_by, signed_solids, mirror_image, signed_half, signed_tetrahedra, signed_faces}
use Rattle.hull_model.specs.Boundary.{sum_of, AreBalanced, IsAlternating}
use Rattle.hull_model.proofs.Balance.{balanced_sums, sum_whole}
use Rattle.hull_polyhedron.proofs.Sums.{sum-flat_map, sum-map}
use Rattle.hull_polyhedron.proofs.Solids as Solids
use Rattle.hull_polyhedron.proofs.Solids.{with_sign}
use Rattle.hull_polyhedron.proofs.Proper.{IsProper, all_proper, all-append}

-- ---- the determinant is alternating
abbrev nine : Triangle Node → List ℤ
nine t = t.a.x ∷ t.a.y ∷ t.a.z ∷ t.b.x ∷ t.b.y ∷ t.b.z ∷ t.c.x ∷ t.c.y ∷ t.c.z ∷ []

-- the determinant of three nodes by the numbers of their coordinates, as the definition has it
of_nodes : ℕ × ℕ × ℕ → ℕ × ℕ × ℕ → ℕ × ℕ × ℕ → Expression
of_nodes a b c =
    (((var b.1 :- var a.1) :* (var c.2 :- var a.2) :- (var b.2 :- var a.2) :* (var c.1 :- var a.1)) :* (var a.0 :- number 0)
    :+ ((var b.2 :- var a.2) :* (var c.0 :- var a.0) :- (var b.0 :- var a.0) :* (var c.2 :- var a.2)) :* (var a.1 :- number 0))
    :+ ((var b.0 :- var a.0) :* (var c.1 :- var a.1) :- (var b.1 :- var a.1) :* (var c.0 :- var a.0)) :* (var a.2 :- number 0)

pub determinant-alternating : IsAlternating whole_numbers determinant
unfolding of_nodes
determinant-alternating = record {
  turned = λ t. ring integers (nine t) (of_nodes (3, 4, 5) (0, 1, 2) (6, 7, 8)) (opposite (of_nodes (0, 1, 2) (3, 4, 5) (6, 7, 8))) refl;
  rotated = λ t. ring integers (nine t) (of_nodes (3, 4, 5) (6, 7, 8) (0, 1, 2)) (of_nodes (0, 1, 2) (3, 4, 5) (6, 7, 8)) refl;
  flat = λ t e. ap (λ (v : Vector). ((v.x *ℤ (t.a.x -ℤ pos 0)) +ℤ (v.y *ℤ (t.a.y -ℤ pos 0))) +ℤ (v.z *ℤ (t.a.z -ℤ pos 0))) e
      ∙ ring integers (t.a.x ∷ t.a.y ∷ t.a.z ∷ []) ((number 0 :* (var 0 :- number 0) :+ number 0 :* (var 1 :- number 0)) :+ number 0 :* (var 2 :- number 0)) (number 0) refl;
}

-- the faces of a tetrahedron in order have its determinant as their sum
faces_six : (t : Tetrahedron Node) → sum_of determinant (faces_in_order t) ≡ turned_six t
unfolding of_nodes
faces_six t = ring integers (t.a.x ∷ t.a.y ∷ t.a.z ∷ t.b.x ∷ t.b.y ∷ t.b.z ∷ t.c.x ∷ t.c.y ∷ t.c.z ∷ t.d.x ∷ t.d.y ∷ t.d.z ∷ [])
    (of_nodes (3, 4, 5) (6, 7, 8) (9, 10, 11) :+ (of_nodes (0, 1, 2) (9, 10, 11) (6, 7, 8) :+ (of_nodes (0, 1, 2) (3, 4, 5) (9, 10, 11) :+ (of_nodes (0, 1, 2) (6, 7, 8) (3, 4, 5) :+ number 0))))
    ((((var 4 :- var 1) :* (var 8 :- var 2) :- (var 5 :- var 2) :* (var 7 :- var 1)) :* (var 9 :- var 0)
    :+ ((var 5 :- var 2) :* (var 6 :- var 0) :- (var 3 :- var 0) :* (var 8 :- var 2)) :* (var 10 :- var 1))
    :+ ((var 3 :- var 0) :* (var 7 :- var 1) :- (var 4 :- var 1) :* (var 6 :- var 0)) :* (var 11 :- var 2)) refl

turned_faces_six : (t : Tetrahedron Node) → sum_of determinant (map turned (faces_in_order t)) ≡ neg_ℤ (turned_six t)
turned_faces_six t = Solids.around_inwards determinant determinant-alternating t ∙ ap neg_ℤ (faces_six t)

faces_by_six : (b : Bool) (t : Tetrahedron Node) → sum_of determinant (faces_by b t) ≡ with_sign b (turned_six t)
faces_by_six true t = faces_six t
faces_by_six false t = turned_faces_six t

-- ---- the signs are right
magnitude_by : (b : Bool) (m : ℤ) → pos 0 ≤ℤ with_sign b m → pos (unsigned_abs m) ≡ with_sign b m
magnitude_by true (pos n) h = refl
magnitude_by true (negsuc n) h = absurd (omega (arith, ints))
magnitude_by false (pos zero) h = refl
magnitude_by false (pos (suc n)) h = absurd (omega (arith, ints))
magnitude_by false (negsuc n) h = refl

-- a solid whose sign is that of its determinant
abbrev pub IsRight : Signed → Type 0
IsRight s = pos 0 ≤ℤ with_sign s.outwards (turned_six s.solid)

solid_six : (s : Signed) → IsRight s → sum_of determinant (outward_faces s) ≡ pos (six_times s.solid)
solid_six s right = faces_by_six s.outwards s.solid ∙ sym (magnitude_by s.outwards (turned_six s.solid) right)

product_at_least : (m n : ℤ) → pos 0 ≤ℤ m → pos 0 ≤ℤ n → pos 0 ≤ℤ (m *ℤ n)
product_at_least (pos m) (pos n) h k = omega (arith, ints)
product_at_least (negsuc m) n h k = absurd (omega (arith, ints))
product_at_least (pos m) (negsuc n) h k = absurd (omega (arith, ints))

at_least_same : {m n : ℤ} → m ≡ n → pos 0 ≤ℤ n → pos 0 ≤ℤ m
at_least_same e h = omega (arith, ints)

-- the determinants of a strip triangle's tetrahedra: its turn times a half-breadth, with signs
module _ (t : Triangle Node) where
  abbrev turn_of : Expression
  turn_of = (var 3 :- var 0) :* (var 8 :- var 2) :- (var 5 :- var 2) :* (var 6 :- var 0)

  -- six times the volume of four nodes by their coordinates
  six_of_nodes : Expression × Expression × Expression → Expression × Expression × Expression → Expression × Expression × Expression → Expression × Expression × Expression → Expression
  six_of_nodes a b c d =
      (((b.1 :- a.1) :* (c.2 :- a.2) :- (b.2 :- a.2) :* (c.1 :- a.1)) :* (d.0 :- a.0)
      :+ ((b.2 :- a.2) :* (c.0 :- a.0) :- (b.0 :- a.0) :* (c.2 :- a.2)) :* (d.1 :- a.1))
      :+ ((b.0 :- a.0) :* (c.1 :- a.1) :- (b.1 :- a.1) :* (c.0 :- a.0)) :* (d.2 :- a.2)

  A : Expression × Expression × Expression
  A = (var 0, var 1, var 2)

  B : Expression × Expression × Expression
  B = (var 3, var 4, var 5)

  C : Expression × Expression × Expression
  C = (var 6, var 7, var 8)

  foot_of : Expression × Expression × Expression → Expression × Expression × Expression
  foot_of n = (n.0, number 0, n.2)

  pub first_six : turned_six (tetrahedron (foot t.a) (foot t.b) (foot t.c) t.c) ≡ neg_ℤ (turn t *ℤ t.c.y)
  unfolding six_of_nodes A B C foot_of
  first_six = ring integers (nine t) (six_of_nodes (foot_of A) (foot_of B) (foot_of C) C) (opposite (turn_of :* var 7)) refl

  pub second_six : turned_six (tetrahedron (foot t.a) (foot t.b) t.b t.c) ≡ turn t *ℤ t.b.y
  unfolding six_of_nodes A B C foot_of
  second_six = ring integers (nine t) (six_of_nodes (foot_of A) (foot_of B) B C) (turn_of :* var 4) refl

  pub third_six : turned_six (tetrahedron (foot t.a) t.a t.b t.c) ≡ neg_ℤ (turn t *ℤ t.a.y)
  unfolding six_of_nodes A B C foot_of
  third_six = ring integers (nine t) (six_of_nodes (foot_of A) A B C) (opposite (turn_of :* var 1)) refl

-- by the sign of its turn
right_by : (b : Bool) (k y : ℤ) → int_lt k (pos 0) ≡ b → pos 0 ≤ℤ y → pos 0 ≤ℤ with_sign b (neg_ℤ (k *ℤ y))
right_by true k y e h = at_least_same (ring integers (k ∷ y ∷ []) (opposite (var 0 :* var 1)) (opposite (var 0) :* var 1) refl) (product_at_least (neg_ℤ k) y (below k e) h)
  where
    below : (k : ℤ) → int_lt k (pos 0) ≡ true → pos 0 ≤ℤ neg_ℤ k
    below (pos n) e = absurd (grind arith)
    below (negsuc n) e = omega (arith, ints)
right_by false k y e h = at_least_same (ring integers (k ∷ y ∷ []) (opposite (opposite (var 0 :* var 1))) (var 0 :* var 1) refl) (product_at_least k y (above k e) h)
  where
    above : (k : ℤ) → int_lt k (pos 0) ≡ false → pos 0 ≤ℤ k
    above (pos n) e = omega (arith, ints)
    above (negsuc n) e = absurd (grind arith)

other_sign : (b : Bool) (n : ℤ) → with_sign (not b) n ≡ with_sign b (neg_ℤ n)
other_sign true n = refl
other_sign false n = ring integers (n ∷ []) (var 0) (opposite (opposite (var 0))) refl

-- the three tetrahedra of a proper triangle have the right signs
three_right : (t : Triangle Node) → IsProper t → AllByRecursion IsRight (signed_solids t)
three_right t proper =
    let first : IsRight (signed (turns_back t) (tetrahedron (foot t.a) (foot t.b) (foot t.c) t.c)) = at_least_same (ap (with_sign (turns_back t)) (first_six t)) (right_by (turns_back t) (turn t) t.c.y refl proper.c) in
    let second : IsRight (signed (not (turns_back t)) (tetrahedron (foot t.a) (foot t.b) t.b t.c)) =
    at_least_same (other_sign (turns_back t) (turned_six (tetrahedron (foot t.a) (foot t.b) t.b t.c)) ∙ ap (λ n. with_sign (turns_back t) (neg_ℤ n)) (second_six t)) (right_by (turns_back t) (turn t) t.b.y refl proper.b) in
    let third : IsRight (signed (turns_back t) (tetrahedron (foot t.a) t.a t.b t.c)) = at_least_same (ap (with_sign (turns_back t)) (third_six t)) (right_by (turns_back t) (turn t) t.a.y refl proper.a) in
    (first, (second, (third, tt)))

pub mirrored_six : (t : Tetrahedron Node) → turned_six (with_corners mirrored t) ≡ neg_ℤ (turned_six t)
unfolding six_of_nodes
mirrored_six t = ring integers (t.a.x ∷ t.a.y ∷ t.a.z ∷ t.b.x ∷ t.b.y ∷ t.b.z ∷ t.c.x ∷ t.c.y ∷ t.c.z ∷ t.d.x ∷ t.d.y ∷ t.d.z ∷ [])
    (six (var 0, opposite (var 1), var 2) (var 3, opposite (var 4), var 5) (var 6, opposite (var 7), var 8) (var 9, opposite (var 10), var 11))
    (opposite (six (var 0, var 1, var 2) (var 3, var 4, var 5) (var 6, var 7, var 8) (var 9, var 10, var 11))) refl
  where
    six : Expression × Expression × Expression → Expression × Expression × Expression → Expression × Expression × Expression → Expression × Expression × Expression → Expression
    six = six_of_nodes (triangle t.a t.b t.c)

mirror_right : (s : Signed) → IsRight s → IsRight (mirror_image s)
mirror_right s right = at_least_same (ap (with_sign (not s.outwards)) (mirrored_six s.solid) ∙ other_sign s.outwards (neg_ℤ (turned_six s.solid))
    ∙ ap (with_sign s.outwards) (ring integers (turned_six s.solid ∷ []) (opposite (opposite (var 0))) (var 0) refl)) right

half_right : (ts : List (Triangle Node)) → AllByRecursion IsProper ts → AllByRecursion IsRight (flat_map signed_solids ts)
half_right [] proper = tt
half_right (t ∷ ts) proper = all-append IsRight (signed_solids t) (flat_map signed_solids ts) (three_right t proper.0) (half_right ts proper.1)

images_right : (ss : List Signed) → AllByRecursion IsRight ss → AllByRecursion IsRight (map mirror_image ss)
images_right [] right = tt
images_right (s ∷ ss) right = (mirror_right s right.0, images_right ss right.1)

pub all_right : (stations : List Station) → AllByRecursion IsStation stations → Rises (λ s. s.x) stations → AllByRecursion IsRight (signed_tetrahedra stations)
all_right stations each rises =
    let right = half_right (strip_triangles stations) (all_proper stations each rises) in
    all-append IsRight (signed_half stations) (map mirror_image (signed_half stations)) right (images_right (signed_half stations) right)

-- ---- all tetrahedra
solids_six : (ss : List Signed) → AllByRecursion IsRight ss → sum_of (λ s. sum_of determinant (outward_faces s)) ss ≡ sum_of (λ s. pos (six_times s.solid)) ss
solids_six [] right = refl
solids_six (s ∷ ss) right = ap₂ ◌+ℤ◌ (solid_six s right.0) (solids_six ss right.1)

half_solids : (ts : List (Triangle Node)) → map (λ (s : Signed). s.solid) (flat_map signed_solids ts) ≡ flat_map to_centreplane ts
half_solids [] = refl
half_solids (t ∷ ts) = map-append (λ (s : Signed). s.solid) (signed_solids t) (flat_map signed_solids ts) ∙ ap (λ rest. to_centreplane t ++ rest) (half_solids ts)

image_solids : (ss : List Signed) → map (λ (s : Signed). s.solid) (map mirror_image ss) ≡ map (with_corners mirrored) (map (λ (s : Signed). s.solid) ss)
image_solids [] = refl
image_solids (s ∷ ss) = ap (λ rest. with_corners mirrored s.solid ∷ rest) (image_solids ss)

-- the signed tetrahedra are the hull's
pub solids_of_hull : (stations : List Station) → map (λ (s : Signed). s.solid) (signed_tetrahedra stations) ≡ hull_tetrahedra stations
solids_of_hull stations = map-append (λ (s : Signed). s.solid) (signed_half stations) (map mirror_image (signed_half stations))
    ∙ ap₂ ◌++◌ (half_solids (strip_triangles stations)) (image_solids (signed_half stations) ∙ ap (map (with_corners mirrored)) (half_solids (strip_triangles stations)))

pub signed_six : (stations : List Station) → AllByRecursion IsStation stations → Rises (λ s. s.x) stations → sum_of determinant (signed_faces stations) ≡ sum_of (λ t. pos (six_times t)) (hull_tetrahedra stations)
signed_six stations each rises = sum-flat_map determinant outward_faces (signed_tetrahedra stations)
    ∙ solids_six (signed_tetrahedra stations) (all_right stations each rises)
    ∙ sym (sum-map (λ t. pos (six_times t)) (λ (s : Signed). s.solid) (signed_tetrahedra stations)) ∙ ap (sum_of (λ t. pos (six_times t))) (solids_of_hull stations)

-- the faces of a list that is balanced against the signed faces
pub balanced_six : (faces : List (Triangle Node)) (stations : List Station) → AllByRecursion IsStation stations → Rises (λ s. s.x) stations → AreBalanced faces (signed_faces stations)
    → sum_of determinant faces ≡ sum_of (λ t. pos (six_times t)) (hull_tetrahedra stations)
balanced_six faces stations each rises balanced = sum_whole determinant faces ∙ balanced_sums integers determinant determinant-alternating faces (signed_faces stations) balanced
    ∙ sym (sum_whole determinant (signed_faces stations)) ∙ signed_six stations each rises
