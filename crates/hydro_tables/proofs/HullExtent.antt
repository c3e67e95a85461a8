-- The integrals over a hull's submerged body and its lid, by how far its corners lie from the origin.
use Rattle.std.proofs.Common.{◌≡◌, ◌≢◌, refl, sym, subst, ◌^◌, List, [], ◌∷◌, ℤ, pos, neg_ℤ, ◌≤ℤ◌, arith}
use Rattle.std.proofs.lemmas.Int.{ints}
use Rattle.std.specs.List.{AllByRecursion}
use Rattle.exact_algebra.specs.Expression.{var, unit, number, ◌:+◌, ◌:-◌, ◌:*◌, opposite}
use Rattle.exact_algebra.specs.OrderedField.{Sign, below, level, above}
use Rattle.exact_algebra.specs.Ring.{number_value}
use Rattle.exact_algebra.proofs.Bounds as Bounds
use Rattle.exact_algebra.proofs.Fraction.{Fraction, nought, one, ◌⊕◌, ◌⊗◌, ◌⊖◌, negative, inverse, sign, fractions, fraction_ring, ◌≼◌}
use Rattle.exact_algebra.proofs.Order as Order
use Rattle.exact_algebra.proofs.Order.{order_from, no_more, at_most, scaled, equal}
use Rattle.exact_algebra.proofs.Ring.{ring_from, none, given}
use Rattle.exact_algebra.proofs.Whole.{whole, whole-nought, whole-negative, whole-≼, positive-whole, nonnegative-whole}
use Rattle.hull_model.specs.declared.node.Node.{Node}
use Rattle.hull_model.specs.declared.station.Station.{Station}
use Rattle.hull_model.specs.Body.{IsHull}
use Rattle.hull_model.specs.Fractions.{sum_over}
use Rattle.hull_model.specs.Lid.{lid, lid_by, lid_of, level_area, first_moment, second_moment, at_corners, lid_area, lid_x, lid_yy, lid_xx}
use Rattle.hull_model.specs.Submerged as submerged
use Rattle.hull_model.specs.Submerged.{first_x, last_x, submerged_pieces, submerged_body, determinant, volume_of, mean_of, submerged_volume}
use Rattle.hull_model.specs.Tetrahedra.{hull_tetrahedra}
use Rattle.hull_model.specs.TetrahedronCut.{Tetrahedron, with_corners}
use Rattle.hull_model.specs.TriangleCut.{Triangle}
use Rattle.hull_model.specs.TriangleSums.{on}
use Rattle.hull_model.specs.Waterplane.{Position, position_of, height, upright, under}
use Rattle.hull_model.proofs.CutInduction as Cut
use Rattle.hull_model.proofs.TetrahedronRounds.{depth_linear}
use Rattle.hull_polyhedron.specs.Between.{IsInside}
use Rattle.hull_polyhedron.specs.Columns.{depth}
use Rattle.hull_polyhedron.specs.FacesOf.{AreFacesOf}
use Rattle.hull_polyhedron.specs.declared.faces.Faces.{Faces}
use Rattle.hull_polyhedron.proofs.AftParts.{all-implied}
use Rattle.hull_polyhedron.proofs.HullCorners.{hull_inside, hull_aboard}
use Rattle.hull_polyhedron.proofs.PartsAlong.{all-flat, all_of_kept}
use Rattle.hull_polyhedron.proofs.RisingPieces.{AtCorners, IsAboard, corners_parts}
use Rattle.outward_interval.proofs.Narrow.{whole-number, product-within}
use Rattle.hydro_tables.specs.Extent.{far, IsPart}
use Rattle.hydro_tables.proofs.RowWidths.{magnitude_is}

-- ---- positions of a hull
pub record IsNearby (p : Position) : Type 0 where
  pub forward : nought ≼ p.x
  pub within : p.x ≼ far
  pub port : negative far ≼ p.y
  pub starboard : p.y ≼ far
  pub base : nought ≼ p.z
  pub top : p.z ≼ far

between_from : (t x y m : Fraction) → Cut.IsInside t → m ≼ x → m ≼ y → m ≼ (one ⊖ t) ⊗ x ⊕ t ⊗ y
between_from t x y m i h k = order_from fractions (t ∷ x ∷ y ∷ m ∷ []) ((unit :- var 0, var 3, var 1) ∷ (var 0, var 3, var 2) ∷ [])
    (scaled (Order.nonnegative_positive fractions i.1) h (scaled (Order.nonnegative_positive fractions i.0) k no_more)) (var 3) ((unit :- var 0) :* var 1 :+ var 0 :* var 2) refl

between_to : (t x y m : Fraction) → Cut.IsInside t → x ≼ m → y ≼ m → (one ⊖ t) ⊗ x ⊕ t ⊗ y ≼ m
between_to t x y m i h k = order_from fractions (t ∷ x ∷ y ∷ m ∷ []) ((unit :- var 0, var 1, var 3) ∷ (var 0, var 2, var 3) ∷ [])
    (scaled (Order.nonnegative_positive fractions i.1) h (scaled (Order.nonnegative_positive fractions i.0) k no_more)) ((unit :- var 0) :* var 1 :+ var 0 :* var 2) (var 3) refl

nearby_between : (t : Fraction) → Cut.IsInside t → (p q : Position) → IsNearby p → IsNearby q → IsNearby (on t p q)
nearby_between t i p q h k = record {
  forward = between_from t p.x q.x nought i h.forward k.forward;
  within = between_to t p.x q.x far i h.within k.within;
  port = between_from t p.y q.y (negative far) i h.port k.port;
  starboard = between_to t p.y q.y far i h.starboard k.starboard;
  base = between_from t p.z q.z nought i h.base k.base;
  top = between_to t p.z q.z far i h.top k.top;
}

all_both : {A : Type 0} (P Q : A → Type 0) (xs : List A) → AllByRecursion P xs → AllByRecursion Q xs → AllByRecursion (λ x. P x × Q x) xs
all_both P Q [] h k = tt
all_both P Q (x ∷ xs) h k = ((h.0, k.0), all_both P Q xs h.1 k.1)

-- ---- sums of parts
sum_part : {A : Type 0} (f g : A → Fraction) (m : Fraction) (xs : List A) → AllByRecursion (λ x. IsPart m (g x) (f x)) xs → IsPart m (sum_over g xs) (sum_over f xs)
unfolding sum_over
sum_part f g m [] all = (Order.≼_refl fractions nought, order_from fractions (m ∷ []) [] no_more (number 0) (var 0 :* number 0) refl)
sum_part f g m (x ∷ xs) all =
    let rest = sum_part f g m xs all.1 in (
      order_from fractions (f x ∷ sum_over f xs ∷ []) ((unit, number 0, var 0) ∷ (unit, number 0, var 1) ∷ []) (at_most all.0.0 (at_most rest.0 no_more)) (number 0) (var 0 :+ var 1) refl,
      order_from fractions (f x ∷ sum_over f xs ∷ g x ∷ sum_over g xs ∷ m ∷ []) ((unit, var 0, var 4 :* var 2) ∷ (unit, var 1, var 4 :* var 3) ∷ []) (at_most all.0.1 (at_most rest.1 no_more)) (var 0 :+ var 1) (var 4 :* (var 2 :+ var 3)) refl,
    )

-- a part of a number that isn't below 0
part_of : (a k m : Fraction) → sign a ≢ below → nought ≼ k → k ≼ m → IsPart m a (a ⊗ k)
part_of a k m some h l = (
  Order.nought-≼ fractions (Order.nonnegative-mul fractions some (Order.nonnegative_from fractions h)),
  order_from fractions (a ∷ k ∷ m ∷ []) ((var 0, var 1, var 2) ∷ []) (scaled some l no_more) (var 0 :* var 1) (var 2 :* var 0) refl,
)

inverse-some : (n : ℤ) → sign (whole n) ≡ above → sign (inverse (whole n)) ≢ below
inverse-some n h = Order.nonnegative_positive fractions (Bounds.positive-inverse fractions h)

-- ---- pieces of the body
module _ (f : Position → Fraction) (within : (p : Position) → IsNearby p → (nought ≼ f p) × (f p ≼ far)) where
  piece_part : (t : Tetrahedron Position) → AtCorners IsNearby t → IsPart far (volume_of t) (volume_of t ⊗ mean_of f t)
  piece_part t h = part_of (volume_of t) (mean_of f t) far
      (Order.nonnegative-mul fractions (magnitude_is (determinant t)).some (inverse-some (pos 6) (positive-whole 6 (omega arith))))
      (order_from fractions (f t.a ∷ f t.b ∷ f t.c ∷ f t.d ∷ inverse (whole (pos 4)) ∷ []) ((var 4, number 0, var 0) ∷ (var 4, number 0, var 1) ∷ (var 4, number 0, var 2) ∷ (var 4, number 0, var 3) ∷ [])
      (scaled fourth (within t.a h.0).0 (scaled fourth (within t.b h.1).0 (scaled fourth (within t.c h.2).0 (scaled fourth (within t.d h.3).0 no_more)))) (number 0) ((((var 0 :+ var 1) :+ var 2) :+ var 3) :* var 4) refl)
      (order_from fractions (f t.a ∷ f t.b ∷ f t.c ∷ f t.d ∷ inverse (whole (pos 4)) ∷ far ∷ whole (pos 4) ∷ [])
      ((var 4, var 0, var 5) ∷ (var 4, var 1, var 5) ∷ (var 4, var 2, var 5) ∷ (var 4, var 3, var 5) ∷ (var 5, var 6 :* var 4, unit) ∷ (opposite (var 5 :* var 4), var 6, number 4) ∷ [])
      (scaled fourth (within t.a h.0).1 (scaled fourth (within t.b h.1).1 (scaled fourth (within t.c h.2).1 (scaled fourth (within t.d h.3).1
      (equal (Bounds.mul-inverse_positive fractions (positive-whole 4 (omega arith))) (equal (whole-number 4) no_more)))))) ((((var 0 :+ var 1) :+ var 2) :+ var 3) :* var 4) (var 5) refl)
    where
      fourth : sign (inverse (whole (pos 4))) ≢ below
      fourth = inverse-some (pos 4) (positive-whole 4 (omega arith))

  pieces_part : (ts : List (Tetrahedron Position)) → AllByRecursion (AtCorners IsNearby) ts → IsPart far (sum_over volume_of ts) (submerged.integral f ts)
  pieces_part ts all = sum_part (λ t. volume_of t ⊗ mean_of f t) volume_of far ts (all-implied (AtCorners IsNearby) (λ t. IsPart far (volume_of t) (volume_of t ⊗ mean_of f t)) piece_part ts all)

-- ---- triangles of the lid
abbrev OfCorners : Triangle Position → Type 0
OfCorners t = IsNearby t.a × IsNearby t.b × IsNearby t.c

lid_corners : (p q r s : Sign) (t : Tetrahedron Position) → AtCorners IsNearby t → AllByRecursion OfCorners (lid_by p q r s t.a t.b t.c t.d)
lid_corners above level level level t h = ((h.1, h.2, h.3), tt)
lid_corners level above level level t h = ((h.0, h.2, h.3), tt)
lid_corners level level above level t h = ((h.0, h.1, h.3), tt)
lid_corners level level level above t h = ((h.0, h.1, h.2), tt)
lid_corners above level level above t h = tt
lid_corners above level level below t h = tt
lid_corners above level above s t h = tt
lid_corners above level below s t h = tt
lid_corners above above r s t h = tt
lid_corners above below r s t h = tt
lid_corners level above level above t h = tt
lid_corners level above level below t h = tt
lid_corners level above above s t h = tt
lid_corners level above below s t h = tt
lid_corners level level above above t h = tt
lid_corners level level above below t h = tt
lid_corners level level level level t h = tt
lid_corners level level level below t h = tt
lid_corners level level below s t h = tt
lid_corners level below r s t h = tt
lid_corners below q r s t h = tt

area-some : (t : Triangle Position) → sign (level_area t) ≢ below
unfolding level_area
area-some t = Order.nonnegative-mul fractions (magnitude_is ((t.b.x ⊖ t.a.x) ⊗ (t.c.y ⊖ t.a.y) ⊖ (t.c.x ⊖ t.a.x) ⊗ (t.b.y ⊖ t.a.y))).some (inverse-some (pos 2) (positive-whole 2 (omega arith)))

first_part : (t : Triangle Position) → OfCorners t → IsPart far (level_area t) (first_moment (λ p. p.x) t)
first_part t h = subst (λ (x : Fraction). IsPart far (level_area t) x) together (part_of (level_area t) (at_corners (λ p. p.x) t ⊗ inverse (whole (pos 3))) far (area-some t)
    (order_from fractions (t.a.x ∷ t.b.x ∷ t.c.x ∷ inverse (whole (pos 3)) ∷ []) ((var 3, number 0, var 0) ∷ (var 3, number 0, var 1) ∷ (var 3, number 0, var 2) ∷ [])
    (scaled third h.0.forward (scaled third h.1.forward (scaled third h.2.forward no_more))) (number 0) (((var 0 :+ var 1) :+ var 2) :* var 3) refl)
    (order_from fractions (t.a.x ∷ t.b.x ∷ t.c.x ∷ inverse (whole (pos 3)) ∷ far ∷ whole (pos 3) ∷ []) ((var 3, var 0, var 4) ∷ (var 3, var 1, var 4) ∷ (var 3, var 2, var 4) ∷ (var 4, var 5 :* var 3, unit) ∷ (opposite (var 4 :* var 3), var 5, number 3) ∷ [])
    (scaled third h.0.within (scaled third h.1.within (scaled third h.2.within (equal (Bounds.mul-inverse_positive fractions (positive-whole 3 (omega arith))) (equal (whole-number 3) no_more))))) (((var 0 :+ var 1) :+ var 2) :* var 3) (var 4) refl))
  where
    third : sign (inverse (whole (pos 3))) ≢ below
    third = inverse-some (pos 3) (positive-whole 3 (omega arith))

    together : level_area t ⊗ (at_corners (λ p. p.x) t ⊗ inverse (whole (pos 3))) ≡ first_moment (λ p. p.x) t
    together = ring_from fraction_ring (level_area t ∷ at_corners (λ p. p.x) t ∷ inverse (whole (pos 3)) ∷ []) [] none (var 0 :* (var 1 :* var 2)) ((var 0 :* var 1) :* var 2) refl

second_part : (f : Position → Fraction) → ((p : Position) → IsNearby p → (negative far ≼ f p) × (f p ≼ far)) → (t : Triangle Position) → OfCorners t → IsPart (far ⊗ far) (level_area t) (second_moment f t)
second_part f within t h = subst (λ (x : Fraction). IsPart (far ⊗ far) (level_area t) x) together (part_of (level_area t) (squares ⊗ inverse (whole (pos 12))) (far ⊗ far) (area-some t)
    (Order.nought-≼ fractions (Order.nonnegative-mul fractions (Order.nonnegative-add fractions (Order.nonnegative-add fractions (Order.nonnegative-add fractions (Order.nonnegative_square fractions (f t.a)) (Order.nonnegative_square fractions (f t.b))) (Order.nonnegative_square fractions (f t.c))) (Order.nonnegative_square fractions sum)) twelfth))
    (order_from fractions ((f t.a ⊗ f t.a) ∷ (f t.b ⊗ f t.b) ∷ (f t.c ⊗ f t.c) ∷ (sum ⊗ sum) ∷ far ∷ inverse (whole (pos 12)) ∷ whole (pos 12) ∷ [])
    ((var 5, var 0, var 4 :* var 4) ∷ (var 5, var 1, var 4 :* var 4) ∷ (var 5, var 2, var 4 :* var 4) ∷ (var 5, var 3, (number 3 :* var 4) :* (number 3 :* var 4)) ∷ (var 4 :* var 4, var 6 :* var 5, unit) ∷ (opposite ((var 4 :* var 4) :* var 5), var 6, number 12) ∷ [])
    (scaled twelfth (square (f t.a) a) (scaled twelfth (square (f t.b) b) (scaled twelfth (square (f t.c) c) (scaled twelfth (product-within (three far) (three far) sum sum sum_from sum_to sum_from sum_to).1
    (equal (Bounds.mul-inverse_positive fractions (positive-whole 12 (omega arith))) (equal (whole-number 12) no_more)))))) ((((var 0 :+ var 1) :+ var 2) :+ var 3) :* var 5) (var 4 :* var 4) refl))
  where
    sum : Fraction
    sum = at_corners f t

    squares : Fraction
    squares = at_corners (λ p. f p ⊗ f p) t ⊕ sum ⊗ sum

    three : Fraction → Fraction
    three x = number_value fraction_ring.operations 3 ⊗ x

    a : (negative far ≼ f t.a) × (f t.a ≼ far)
    a = within t.a h.0

    b : (negative far ≼ f t.b) × (f t.b ≼ far)
    b = within t.b h.1

    c : (negative far ≼ f t.c) × (f t.c ≼ far)
    c = within t.c h.2

    square : (x : Fraction) → (negative far ≼ x) × (x ≼ far) → x ⊗ x ≼ far ⊗ far
    square x h = (product-within far far x x h.0 h.1 h.0 h.1).1

    sum_to : sum ≼ three far
    sum_to = order_from fractions (f t.a ∷ f t.b ∷ f t.c ∷ far ∷ []) ((unit, var 0, var 3) ∷ (unit, var 1, var 3) ∷ (unit, var 2, var 3) ∷ []) (at_most a.1 (at_most b.1 (at_most c.1 no_more))) ((var 0 :+ var 1) :+ var 2) (number 3 :* var 3) refl

    sum_from : negative (three far) ≼ sum
    sum_from = order_from fractions (f t.a ∷ f t.b ∷ f t.c ∷ far ∷ []) ((unit, opposite (var 3), var 0) ∷ (unit, opposite (var 3), var 1) ∷ (unit, opposite (var 3), var 2) ∷ [])
        (at_most a.0 (at_most b.0 (at_most c.0 no_more))) (opposite (number 3 :* var 3)) ((var 0 :+ var 1) :+ var 2) refl

    twelfth : sign (inverse (whole (pos 12))) ≢ below
    twelfth = inverse-some (pos 12) (positive-whole 12 (omega arith))

    together : level_area t ⊗ (squares ⊗ inverse (whole (pos 12))) ≡ second_moment f t
    together = ring_from fraction_ring (level_area t ∷ squares ∷ inverse (whole (pos 12)) ∷ []) [] none (var 0 :* (var 1 :* var 2)) ((var 0 :* var 1) :* var 2) refl

-- ---- the whole body
module _ (stations : List Station) (hull : IsHull stations) (faces : Faces) (are : AreFacesOf stations faces) (at : Fraction) where
  node_nearby : (n : Node) → IsInside faces.half_breadth faces.high_z n → IsAboard (first_x stations) (last_x stations) (position_of n) → IsNearby (position_of n)
  node_nearby n inside aboard = record {
    forward = Order.≼_trans fractions (Order.≼_trans fractions (Order.≼_same fractions (sym whole-nought)) (whole-≼ first)) aboard.from_first;
    within = Order.≼_trans fractions aboard.to_last (whole-≼ last);
    port = Order.≼_trans fractions (Order.≼_same fractions (sym (whole-negative (pos (2 ^ 20))))) (whole-≼ (port n.y faces.half_breadth inside.port faces.reach.breadth_limit));
    starboard = whole-≼ (most n.y faces.half_breadth inside.starboard faces.reach.breadth_limit);
    base = Order.≼_trans fractions (Order.≼_same fractions (sym whole-nought)) (whole-≼ inside.base);
    top = whole-≼ (most n.z faces.high_z inside.top faces.reach.height_limit);
  }
    where
      first : pos 0 ≤ℤ first_x stations
      first = subst (λ (z : ℤ). pos 0 ≤ℤ z) are.first_x faces.ends.first_within.0

      last : last_x stations ≤ℤ pos (2 ^ 20)
      last = subst (λ (z : ℤ). z ≤ℤ pos (2 ^ 20)) are.last_x (more faces.last_x faces.ends.last_within.1)
        where
          more : (z : ℤ) → z ≤ℤ pos 524287 → z ≤ℤ pos (2 ^ 20)
          more z h = omega (arith, ints)

      most : (z m : ℤ) → z ≤ℤ m → m ≤ℤ pos 65535 → z ≤ℤ pos (2 ^ 20)
      most z m h k = omega (arith, ints)

      port : (z m : ℤ) → neg_ℤ m ≤ℤ z → m ≤ℤ pos 65535 → neg_ℤ (pos (2 ^ 20)) ≤ℤ z
      port z m h k = omega (arith, ints)

  corners : AllByRecursion (λ t. AtCorners IsNearby (with_corners position_of t)) (hull_tetrahedra stations)
  corners = all-implied (λ t. In t × At t) (λ t. AtCorners IsNearby (with_corners position_of t))
      (λ t h. (node_nearby t.a h.0.0 h.1.0, node_nearby t.b h.0.1 h.1.1, node_nearby t.c h.0.2 h.1.2, node_nearby t.d h.0.3 h.1.3)) (hull_tetrahedra stations)
      (all_both In At (hull_tetrahedra stations) (hull_inside faces.half_breadth faces.high_z stations hull are.half_breadth are.high_z) (hull_aboard stations hull))
    where
      In : Tetrahedron Node → Type 0
      In t = IsInside faces.half_breadth faces.high_z t.a × IsInside faces.half_breadth faces.high_z t.b × IsInside faces.half_breadth faces.high_z t.c × IsInside faces.half_breadth faces.high_z t.d

      At : Tetrahedron Node → Type 0
      At t = AtCorners (IsAboard (first_x stations) (last_x stations)) (with_corners position_of t)

  body_nearby : AllByRecursion (AtCorners IsNearby) (submerged_body (upright at) stations)
  unfolding submerged_pieces
  body_nearby = all-flat (AtCorners IsNearby) _ (hull_tetrahedra stations)
      (all-implied (λ t. AtCorners IsNearby (with_corners position_of t)) _
      (λ t h. all_of_kept (AtCorners IsNearby) (corners_parts IsNearby nearby_between) (depth (upright at) (first_x stations) (last_x stations)) (depth_linear (upright at) (first_x stations) (last_x stations)) (with_corners position_of t) h)
      (hull_tetrahedra stations) corners)

  lid_nearby : AllByRecursion OfCorners (lid at stations)
  unfolding lid
  lid_nearby = all-flat OfCorners (lid_of (under (upright at) (first_x stations) (last_x stations))) (submerged_body (upright at) stations)
      (all-implied (AtCorners IsNearby) _ (λ t h. lid_corners _ _ _ _ t h) (submerged_body (upright at) stations) body_nearby)

  upright_height : (p : Position) → height (upright at) p ≡ p.z
  unfolding height
  upright_height p = ring_from fraction_ring (p.y ∷ p.z ∷ whole (pos 0) ∷ whole (pos 1) ∷ inverse (whole (pos 1)) ∷ [])
      ((var 0 :* var 4, var 2, number 0) ∷ (var 1, var 3 :* var 4, unit) ∷ []) (given whole-nought (given (Bounds.mul-inverse_positive fractions (positive-whole 1 (omega arith))) none))
      ((var 3 :* var 1 :+ var 2 :* var 0) :* var 4) (var 1) refl

  pub mx_part : IsPart far (submerged_volume (upright at) stations) (submerged.mx (upright at) stations)
  unfolding submerged_volume submerged.mx
  mx_part = pieces_part (λ p. p.x) (λ p h. (h.forward, h.within)) (submerged_body (upright at) stations) body_nearby

  pub mu_part : IsPart far (submerged_volume (upright at) stations) (submerged.mu (upright at) stations)
  unfolding submerged_volume submerged.mu
  mu_part = pieces_part (height (upright at)) (λ p h. (Order.≼_trans fractions h.base (Order.≼_same fractions (sym (upright_height p))), Order.≼_trans fractions (Order.≼_same fractions (upright_height p)) h.top))
      (submerged_body (upright at) stations) body_nearby

  pub area_some : nought ≼ lid_area at stations
  unfolding lid_area
  area_some = (sum_part level_area level_area one (lid at stations) (all-implied OfCorners _ (λ t h. (Order.nought-≼ fractions (area-some t), order_from fractions (level_area t ∷ []) [] no_more (var 0) (unit :* var 0) refl)) (lid at stations) lid_nearby)).0

  pub x_part : IsPart far (lid_area at stations) (lid_x at stations)
  unfolding lid_area lid_x
  x_part = sum_part (first_moment (λ p. p.x)) level_area far (lid at stations) (all-implied OfCorners _ first_part (lid at stations) lid_nearby)

  pub yy_part : IsPart (far ⊗ far) (lid_area at stations) (lid_yy at stations)
  unfolding lid_area lid_yy
  yy_part = sum_part (second_moment (λ p. p.y)) level_area (far ⊗ far) (lid at stations) (all-implied OfCorners _ (second_part (λ p. p.y) (λ p h. (h.port, h.starboard))) (lid at stations) lid_nearby)

  pub xx_part : IsPart (far ⊗ far) (lid_area at stations) (lid_xx at stations)
  unfolding lid_area lid_xx
  xx_part = sum_part (second_moment (λ p. p.x)) level_area (far ⊗ far) (lid at stations) (all-implied OfCorners _ (second_part (λ p. p.x) (λ p h. (below_nought p.x h.forward, h.within))) (lid at stations) lid_nearby)
    where
      below_nought : (x : Fraction) → nought ≼ x → negative far ≼ x
      below_nought x h = order_from fractions (x ∷ far ∷ []) ((unit, number 0, var 0) ∷ (unit, number 0, var 1) ∷ [])
          (at_most h (at_most (Order.nought-≼ fractions (nonnegative-whole (2 ^ 20))) no_more)) (opposite (var 1)) (var 0) refl
