-- Tetrahedra between two places along the ship: each part of a cut is one too. Under two waterplanes of one direction, of which the second has
-- both levels at least as high, the integral over such a tetrahedron of a weight that is linear in x and isn't below 0 there rises.
use mathlib.Core.Path.{◌≡◌, refl, sym, ◌∙◌, ap}
use mathlib.Core.List.{List, [], ◌∷◌}
use mathlib.Core.Logic.{◌≢◌, ◌⊎◌, inl, inr}
use mathlib.Core.Bool.{Bool, true, false}
use lib.IntN.{ℤ, pos}
use Rattle.std.specs.Prelude.{ℕ, ◌*◌, ◌<ℤ◌}
use Rattle.std.specs.List.{AllByRecursion}
use Rattle.exact_algebra.specs.Expression.{Expression, var, unit, number, ◌:+◌, ◌:-◌, ◌:*◌, opposite}
use Rattle.exact_algebra.specs.OrderedField.{below, above}
use Rattle.exact_algebra.proofs.Ring.{ring, ring_from, none, given}
use Rattle.exact_algebra.proofs.Fraction.{Fraction, nought, ◌⊕◌, ◌⊗◌, ◌⊖◌, ◌≼◌, inverse, sign, fractions, fraction_ring}
use Rattle.exact_algebra.proofs.Order as Order
use Rattle.exact_algebra.proofs.Order.{order_from, no_more, at_most, scaled, equal}
use Rattle.exact_algebra.proofs.Whole.{whole, whole-mul, whole-≺, positive-whole}
use Rattle.exact_algebra.proofs.Bounds as Bounds
use native.Mathlib.Omega.{arith}
use Rattle.hull_model.specs.Fractions.{magnitude, sum_over}
use Rattle.hull_model.specs.TriangleCut.{crossing, side}
use Rattle.hull_model.specs.TetrahedronCut.{Tetrahedron, are_parted, uncut, split, pieces, is_kept, kept_pieces}
use Rattle.hull_model.specs.Waterplane.{Waterplane, Position, height, side_distance, level_at, under}
use Rattle.hull_model.specs.Submerged.{determinant}
use Rattle.hull_model.specs.Flooded.{cut_by}
use Rattle.hull_model.proofs.CutInduction.{IsInside, inside, crossing_parameter}
use Rattle.hull_model.proofs.TetrahedronRounds.{depth_linear, four_rounds_settle}
use Rattle.hull_polyhedron.specs.Columns.{depth, seen_sum}
use Rattle.hull_polyhedron.specs.CentralLaw.{faces_turned, PointOutwards}
use Rattle.hull_polyhedron.specs.RisingLaw.{IsRaised, weight}
use Rattle.hull_polyhedron.proofs.Flux.{ar, A, B, C}
use Rattle.hull_polyhedron.proofs.Flux.{D}
use Rattle.hull_polyhedron.proofs.Pieces.{AtEdges, kept_none_below, sides_none_below, sides_none_above, all_kept, sum_kept, whole_side, all_pieces, sum_pieces}
use Rattle.hull_model.proofs.EdgeSplits.{IsLinearFunction}
use Rattle.hull_polyhedron.proofs.Placed.{flow, sum_four, six_by, flow_wet, flow_dry}
use Rattle.hull_polyhedron.proofs.Determinants.{with_sign, with_sign-mul, IsRight, right_parts, six_determinant}
use Rattle.hull_polyhedron.proofs.OneTetrahedron.{IsFlat, flat_along, column_law}
use Rattle.hull_model.specs.TriangleSums.{on, Function}
use Rattle.hull_polyhedron.proofs.FacePieces.{over_faces}
use Rattle.hull_polyhedron.proofs.AftParts.{faces_add_up, all-implied}
use Rattle.hull_polyhedron.proofs.SeenForm.{N24, cancel_24, column_sum-seen, turned-flow}
use Rattle.hull_polyhedron.proofs.SlabOfTetrahedron.{sum_signed, faces-sum, seen, seen-alternating, seen-adds}
use Rattle.hull_polyhedron.proofs.PartsAlong.{by_faces}

-- ---- what holds of the corners of both parts of a split, where it holds of those of the whole
abbrev pub AtCorners : (Position → Type 0) → Tetrahedron Position → Type 0
AtCorners P t = P t.a × P t.b × P t.c × P t.d

module _ (P : Position → Type 0) (convex : (t : Fraction) → IsInside t → (p q : Position) → P p → P q → P (on t p q)) where
  module _ (depth : Position → Fraction) (linear : IsLinearFunction depth) where
    crossed : (p q : Position) → are_parted (cut_by depth) p q ≡ true → P p → P q → P (on (crossing_parameter (cut_by depth) linear p q) p q)
    crossed p q e = convex (crossing_parameter (cut_by depth) linear p q) (inside (cut_by depth) linear p q e) p q

    pub corners_parts : AtEdges (cut_by depth) (λ t p q. AtCorners P t → AtCorners P p × AtCorners P q)
    unfolding crossing
    corners_parts = record {
      ab = λ a b c d e h. ((crossed a b e h.0 h.1, h.1, h.2, h.3), (h.0, crossed a b e h.0 h.1, h.2, h.3));
      ac = λ a b c d e h. ((crossed a c e h.0 h.2, h.1, h.2, h.3), (h.0, h.1, crossed a c e h.0 h.2, h.3));
      ad = λ a b c d e h. ((crossed a d e h.0 h.3, h.1, h.2, h.3), (h.0, h.1, h.2, crossed a d e h.0 h.3));
      bc = λ a b c d e h. ((h.0, crossed b c e h.1 h.2, h.2, h.3), (h.0, h.1, crossed b c e h.1 h.2, h.3));
      bd = λ a b c d e h. ((h.0, crossed b d e h.1 h.3, h.2, h.3), (h.0, h.1, h.2, crossed b d e h.1 h.3));
      cd = λ a b c d e h. ((h.0, h.1, crossed c d e h.2 h.3, h.3), (h.0, h.1, h.2, crossed c d e h.2 h.3));
    }

-- ---- between the ends of the ship
module _ (first last : ℤ) where
  pub record IsAboard (p : Position) : Type 0 where
    pub from_first : whole first ≼ p.x
    pub to_last : p.x ≼ whole last

  aboard_between : (t : Fraction) → IsInside t → (p q : Position) → IsAboard p → IsAboard q → IsAboard (on t p q)
  aboard_between t i p q h k = record {
    from_first = order_from fractions (t ∷ p.x ∷ q.x ∷ whole first ∷ []) ((unit :- var 0, var 3, var 1) ∷ (var 0, var 3, var 2) ∷ [])
        (scaled (Order.nonnegative_positive fractions i.1) h.from_first (scaled (Order.nonnegative_positive fractions i.0) k.from_first no_more)) (var 3) ((unit :- var 0) :* var 1 :+ var 0 :* var 2) refl;
    to_last = order_from fractions (t ∷ p.x ∷ q.x ∷ whole last ∷ []) ((unit :- var 0, var 1, var 3) ∷ (var 0, var 2, var 3) ∷ [])
        (scaled (Order.nonnegative_positive fractions i.1) h.to_last (scaled (Order.nonnegative_positive fractions i.0) k.to_last no_more)) ((unit :- var 0) :* var 1 :+ var 0 :* var 2) (var 3) refl;
  }

  -- a tetrahedron of the ship, and whether its faces point outwards in their order
  pub record IsSolidAboard (b : Bool) (t : Tetrahedron Position) : Type 0 where
    pub right : IsRight b t
    pub corners : AtCorners IsAboard t

  both_solids : (b : Bool) (t p q : Tetrahedron Position) → (IsRight b t → IsRight b p × IsRight b q) → (AtCorners IsAboard t → AtCorners IsAboard p × AtCorners IsAboard q)
      → IsSolidAboard b t → IsSolidAboard b p × IsSolidAboard b q
  both_solids b t p q r c h = (record { right = (r h.right).0; corners = (c h.corners).0 }, record { right = (r h.right).1; corners = (c h.corners).1 })

  module _ (b : Bool) (depth : Position → Fraction) (linear : IsLinearFunction depth) where
    rights : AtEdges (cut_by depth) (λ t p q. IsRight b t → IsRight b p × IsRight b q)
    rights = right_parts depth linear b

    places : AtEdges (cut_by depth) (λ t p q. AtCorners IsAboard t → AtCorners IsAboard p × AtCorners IsAboard q)
    places = corners_parts IsAboard aboard_between depth linear

    pub solid_parts : AtEdges (cut_by depth) (λ t p q. IsSolidAboard b t → IsSolidAboard b p × IsSolidAboard b q)
    solid_parts = record {
      ab = λ x y z w e. both_solids b _ _ _ (rights.ab x y z w e) (places.ab x y z w e);
      ac = λ x y z w e. both_solids b _ _ _ (rights.ac x y z w e) (places.ac x y z w e);
      ad = λ x y z w e. both_solids b _ _ _ (rights.ad x y z w e) (places.ad x y z w e);
      bc = λ x y z w e. both_solids b _ _ _ (rights.bc x y z w e) (places.bc x y z w e);
      bd = λ x y z w e. both_solids b _ _ _ (rights.bd x y z w e) (places.bd x y z w e);
      cd = λ x y z w e. both_solids b _ _ _ (rights.cd x y z w e) (places.cd x y z w e);
    }

    pub kept_solids : (t : Tetrahedron Position) → IsSolidAboard b t → AllByRecursion (λ p. (is_kept (cut_by depth) p ≡ true) × IsSolidAboard b p) (kept_pieces (cut_by depth) t)
    kept_solids t h = all_kept (cut_by depth) (IsSolidAboard b) solid_parts t h

-- ---- sums that rise
pub sum_over-rises : {A : Type 0} (f g : A → Fraction) (xs : List A) → AllByRecursion (λ x. f x ≼ g x) xs → sum_over f xs ≼ sum_over g xs
unfolding sum_over
sum_over-rises f g [] all = Order.≼_refl fractions nought
sum_over-rises f g (x ∷ xs) all = Order.≼-add fractions all.0 (sum_over-rises f g xs all.1)

sum_over-not_below : {A : Type 0} (f : A → Fraction) (xs : List A) → AllByRecursion (λ x. nought ≼ f x) xs → nought ≼ sum_over f xs
unfolding sum_over
sum_over-not_below f [] all = Order.≼_refl fractions nought
sum_over-not_below f (x ∷ xs) all = Order.nought-≼ fractions (Order.nonnegative-add fractions (Order.nonnegative_from fractions all.0) (Order.nonnegative_from fractions (sum_over-not_below f xs all.1)))

signed_nought : (b : Bool) → with_sign b nought ≡ nought
signed_nought true = refl
signed_nought false = ring fraction_ring [] (opposite (number 0)) (number 0) refl

-- ---- the weight
module _ (start slope : Fraction) where
  pub weight_linear : IsLinearFunction (weight start slope)
  weight_linear t p q = ring fraction_ring (t ∷ p.x ∷ q.x ∷ start ∷ slope ∷ []) (var 3 :+ var 4 :* ((unit :- var 0) :* var 1 :+ var 0 :* var 2)) ((unit :- var 0) :* (var 3 :+ var 4 :* var 1) :+ var 0 :* (var 3 :+ var 4 :* var 2)) refl

  pub weight_flat : (plane : Waterplane) (first last : ℤ) → IsFlat plane first last (weight start slope)
  unfolding six_by
  weight_flat plane first last t = ring fraction_ring
      (start ∷ t.a.x ∷ v t.a ∷ t.b.x ∷ v t.b ∷ t.c.x ∷ v t.c ∷ t.d.x ∷ v t.d ∷ slope ∷ [])
      ((at (var 7) :- at (var 1)) :* ar A B C :- (at (var 5) :- at (var 1)) :* ar A B D :+ (at (var 3) :- at (var 1)) :* ar A C D) (number 0) refl
    where
      v : Position → Fraction
      v = side_distance plane

      at : Expression → Expression
      at x = var 0 :+ var 9 :* x

  -- its integral over the kept pieces is what is seen of the outward faces
  pub weight_seen : (plane : Waterplane) (first last : ℤ) (term : Tetrahedron Position → Fraction) → ((p : Tetrahedron Position) → term p ⊗ N24 ≡ magnitude (determinant p) ⊗ sum_four (weight start slope) p)
      → (b : Bool) (t : Tetrahedron Position) → PointOutwards b t → sum_over term (kept_pieces (under plane first last) t) ≡ seen_sum plane first last (weight start slope) (depth plane first last) (faces_turned b t)
  weight_seen plane first last term is_term b t out = column_law plane first last (weight start slope) (weight start slope) weight_linear (flat_along plane first last (weight start slope) (weight_flat plane first last)) term is_term b t out
      ∙ column_sum-seen plane first last (weight start slope) (faces_turned b t)

module _ (first last : ℤ) (apart : first <ℤ last) (start slope : Fraction)
    (low_end : nought ≼ start ⊕ slope ⊗ whole first) (high_end : nought ≼ start ⊕ slope ⊗ whole last) (b : Bool) where
  abbrev w : Position → Fraction
  w = weight start slope

  room : sign (whole last ⊖ whole first) ≡ above
  room = whole-≺ apart

  -- the weight isn't below nought aboard: last - first times it is the mean of its values at the ends
  weight_aboard : (p : Position) → IsAboard first last p → sign (w p) ≢ below
  weight_aboard p h = Order.nonnegative_factor fractions room (Order.nonnegative_same fractions
      (ring fraction_ring (p.x ∷ start ∷ slope ∷ whole first ∷ whole last ∷ [])
      ((var 1 :+ var 2 :* var 0) :* (var 4 :- var 3)) ((var 4 :- var 0) :* (var 1 :+ var 2 :* var 3) :+ (var 0 :- var 3) :* (var 1 :+ var 2 :* var 4)) refl)
      (Order.nonnegative-add fractions (Order.nonnegative-mul fractions h.to_last (Order.nonnegative_from fractions low_end)) (Order.nonnegative-mul fractions h.from_first (Order.nonnegative_from fractions high_end))))

  sum_aboard : (t : Tetrahedron Position) → IsSolidAboard first last b t → sign (sum_four w t) ≢ below
  sum_aboard t h = Order.nonnegative-add fractions (Order.nonnegative-add fractions (Order.nonnegative-add fractions (weight_aboard t.a h.corners.0) (weight_aboard t.b h.corners.1)) (weight_aboard t.c h.corners.2)) (weight_aboard t.d h.corners.3)

  -- what is seen of the faces of a tetrahedron, each in its order
  flow_of : Waterplane → Tetrahedron Position → Fraction
  flow_of plane t = over_faces (seen plane first last w (depth plane first last)) t

  module _ (plane : Waterplane) where
    abbrev h : Position → Fraction
    h = depth plane first last

    linear : IsLinearFunction h
    linear = depth_linear plane first last

    abbrev face : Function
    face = seen plane first last w h

    flow-form : (t : Tetrahedron Position) → flow_of plane t ⊗ N24 ≡ flow plane first last w h t
    unfolding flow_of
    flow-form t = ap (λ x. x ⊗ N24) (sym (faces-sum face (seen-alternating plane first last w h) true t)) ∙ turned-flow plane first last w h true t

    -- a tetrahedron with no corner below, and with none above
    all_wet : (t : Tetrahedron Position) → sides_none_below (cut_by h) t → flow_of plane t ⊗ N24 ≡ determinant t ⊗ sum_four w t
    all_wet t n = flow-form t ∙ flow_wet plane first last w t n ∙ flat_along plane first last w (weight_flat start slope plane first last) t ∙ ap (λ x. x ⊗ sum_four w t) (six_determinant plane first last t)

    all_dry : (t : Tetrahedron Position) → sides_none_above (cut_by h) t → flow_of plane t ≡ nought
    all_dry t n = cancel_24 (flow-form t ∙ flow_dry plane first last w h t n ∙ ring fraction_ring (N24 ∷ []) (number 0) (number 0 :* var 0) refl)

    flow_at_splits : (other : Position → Fraction) (other_linear : IsLinearFunction other) → AtEdges (cut_by other) (λ t p q. flow_of plane t ≡ flow_of plane p ⊕ flow_of plane q)
    unfolding flow_of
    flow_at_splits other other_linear = faces_add_up other other_linear face (seen-alternating plane first last w h) (λ t i. seen-adds plane first last w h (weight_linear start slope) linear t)

    -- a kept piece, and so every tetrahedron aboard, has an integral that isn't below nought
    wet_signed : (t : Tetrahedron Position) → (is_kept (cut_by h) t ≡ true) × IsSolidAboard first last b t → nought ≼ with_sign b (flow_of plane t)
    wet_signed t k = Order.nought-≼ fractions (Order.nonnegative_factor fractions (positive-whole 24 (omega arith)) (Order.nonnegative_same fractions
        (with_sign-mul b (flow_of plane t) N24 ∙ ap (with_sign b) (all_wet t (kept_none_below (side (cut_by h) t.a) (side (cut_by h) t.b) (side (cut_by h) t.c) (side (cut_by h) t.d) k.0)) ∙ sym (with_sign-mul b (determinant t) (sum_four w t)))
        (Order.nonnegative-mul fractions k.1.right (sum_aboard t k.1))))

    not_below : (t : Tetrahedron Position) → IsSolidAboard first last b t → nought ≼ with_sign b (flow_of plane t)
    not_below t whole_t = Order.≼_trans fractions
        (sum_over-not_below (λ p. with_sign b (flow_of plane p)) (kept_pieces (cut_by h) t)
        (all-implied (λ p. (is_kept (cut_by h) p ≡ true) × IsSolidAboard first last b p) (λ p. nought ≼ with_sign b (flow_of plane p)) wet_signed _ (kept_solids first last b h linear t whole_t)))
        (Order.≼_same fractions (sum_signed b (flow_of plane) (kept_pieces (cut_by h) t) ∙ ap (with_sign b) (sum_kept (cut_by h) linear (flow_of plane) (flow_at_splits h linear) all_dry t)))

  -- ---- two waterplanes
  module _ (low high : Waterplane) (raised : IsRaised low high) where
    same_height : (p : Position) → height low p ≡ height high p
    unfolding height
    same_height p = ring_from fraction_ring
        (p.z ∷ p.y ∷ whole (pos low.c) ∷ whole (pos low.s) ∷ whole (pos low.r) ∷ whole (pos high.c) ∷ whole (pos high.s) ∷ whole (pos high.r) ∷ inverse (whole (pos low.r)) ∷ inverse (whole (pos high.r)) ∷ [])
        ((var 0 :* var 8 :* var 9, var 2 :* var 7, var 5 :* var 4) ∷ (var 1 :* var 8 :* var 9, var 3 :* var 7, var 6 :* var 4)
        ∷ ((var 0 :* var 5 :+ var 1 :* var 6) :* var 9, var 4 :* var 8, unit) ∷ (opposite ((var 0 :* var 2 :+ var 1 :* var 3) :* var 8), var 7 :* var 9, unit) ∷ [])
        (given (crossed low.c high.r high.c low.r raised.c) (given (crossed low.s high.r high.s low.r raised.s) (given (Bounds.mul-inverse_positive fractions (positive-whole low.r low.positive)) (given (Bounds.mul-inverse_positive fractions (positive-whole high.r high.positive)) none))))
        ((var 2 :* var 0 :+ var 3 :* var 1) :* var 8) ((var 5 :* var 0 :+ var 6 :* var 1) :* var 9) refl
      where
        crossed : (m n k l : ℕ) → m * n ≡ k * l → whole (pos m) ⊗ whole (pos n) ≡ whole (pos k) ⊗ whole (pos l)
        crossed m n k l e = sym (whole-mul (pos m) (pos n)) ∙ ap (λ (q : ℕ). whole (pos q)) e ∙ whole-mul (pos k) (pos l)

    deeper : (p : Position) → IsAboard first last p → depth low first last p ≼ depth high first last p
    unfolding level_at
    deeper p k = order_from fractions (x ∷ whole first ∷ whole last ∷ g ∷ low.a ∷ low.f ∷ high.a ∷ high.f ∷ height low p ∷ height high p ∷ [])
        (((var 2 :- var 0) :* var 3, var 4, var 6) ∷ ((var 0 :- var 1) :* var 3, var 5, var 7) ∷ (unit, var 9, var 8) ∷ (var 6 :- var 4, (var 2 :- var 1) :* var 3, unit) ∷ [])
        (scaled (Order.nonnegative-mul fractions k.to_last g_up) raised.first (scaled (Order.nonnegative-mul fractions k.from_first g_up) raised.last
        (equal (sym (same_height p)) (equal (Bounds.mul-inverse_positive fractions room) no_more))))
        (level (var 4) (var 5) :- var 8) (level (var 6) (var 7) :- var 9) refl
      where
        x : Fraction
        x = p.x

        g : Fraction
        g = inverse (whole last ⊖ whole first)

        g_up : sign g ≢ below
        g_up = Order.nonnegative_positive fractions (Bounds.positive-inverse fractions room)

        level : Expression → Expression → Expression
        level a f = (unit :- (var 0 :- var 1) :* var 3) :* a :+ ((var 0 :- var 1) :* var 3) :* f

    still_wet : (p : Position) → IsAboard first last p → sign (depth low first last p) ≢ below → sign (depth high first last p) ≢ below
    still_wet p k n = Order.nonnegative_from fractions (Order.≼_trans fractions (Order.nought-≼ fractions n) (deeper p k))

    -- a piece that is wet or dry as a whole at the lower levels
    piece_rises : (t : Tetrahedron Position) → split (cut_by (depth low first last)) t ≡ uncut → IsSolidAboard first last b t → with_sign b (flow_of low t) ≼ with_sign b (flow_of high t)
    piece_rises t e k = go (whole_side (cut_by (depth low first last)) t e)
      where
        go : sides_none_below (cut_by (depth low first last)) t ⊎ sides_none_above (cut_by (depth low first last)) t → with_sign b (flow_of low t) ≼ with_sign b (flow_of high t)
        go (inl n) = Order.≼_same fractions (ap (with_sign b) (cancel_24 (all_wet low t n
            ∙ sym (all_wet high t (still_wet t.a k.corners.0 n.0, still_wet t.b k.corners.1 n.1, still_wet t.c k.corners.2 n.2, still_wet t.d k.corners.3 n.3)))))
        go (inr n) = Order.≼_trans fractions (Order.≼_same fractions (ap (with_sign b) (all_dry low t n) ∙ signed_nought b)) (not_below high t k)

    both : (P Q : Tetrahedron Position → Type 0) (ts : List (Tetrahedron Position)) → AllByRecursion P ts → AllByRecursion Q ts → AllByRecursion (λ t. P t × Q t) ts
    both P Q [] h k = tt
    both P Q (t ∷ ts) h k = ((h.0, k.0), both P Q ts h.1 k.1)

    -- the lower waterplane cuts a tetrahedron into pieces, over which both integrals add up
    flow_rises : (t : Tetrahedron Position) → IsSolidAboard first last b t → with_sign b (flow_of low t) ≼ with_sign b (flow_of high t)
    flow_rises t k = Order.≼_trans fractions (Order.≼_same fractions (sym (in_pieces low)))
        (Order.≼_trans fractions (sum_over-rises (λ p. with_sign b (flow_of low p)) (λ p. with_sign b (flow_of high p)) ps each) (Order.≼_same fractions (in_pieces high)))
      where
        ps : List (Tetrahedron Position)
        ps = pieces (cut_by (depth low first last)) 4 t

        in_pieces : (plane : Waterplane) → sum_over (λ p. with_sign b (flow_of plane p)) ps ≡ with_sign b (flow_of plane t)
        in_pieces plane = sum_signed b (flow_of plane) ps
            ∙ ap (with_sign b) (sum_pieces (cut_by (depth low first last)) (flow_of plane) (flow_at_splits plane (depth low first last) (linear low)) 4 t)

        each : AllByRecursion (λ p. with_sign b (flow_of low p) ≼ with_sign b (flow_of high p)) ps
        each = all-implied (λ p. (split (cut_by (depth low first last)) p ≡ uncut) × IsSolidAboard first last b p) (λ p. with_sign b (flow_of low p) ≼ with_sign b (flow_of high p)) (λ p h. piece_rises p h.0 h.1) ps
            (both (λ p. split (cut_by (depth low first last)) p ≡ uncut) (IsSolidAboard first last b) ps
            (four_rounds_settle (cut_by (depth low first last)) (linear low) t)
            (all_pieces (cut_by (depth low first last)) (IsSolidAboard first last b) (solid_parts first last b (depth low first last) (linear low)) 4 t k))

    -- the integrals over the kept pieces
    module _ (term : Tetrahedron Position → Fraction) (is_term : (p : Tetrahedron Position) → term p ⊗ N24 ≡ magnitude (determinant p) ⊗ sum_four w p) where
      pub integral_rises : (t : Tetrahedron Position) → IsSolidAboard first last b t
          → sum_over term (kept_pieces (under low first last) t) ≼ sum_over term (kept_pieces (under high first last) t)
      unfolding flow_of
      integral_rises t k = Order.≼_trans fractions (Order.≼_same fractions (as_flow low)) (Order.≼_trans fractions (flow_rises t k) (Order.≼_same fractions (sym (as_flow high))))
        where
          as_flow : (plane : Waterplane) → sum_over term (kept_pieces (under plane first last) t) ≡ with_sign b (over_faces (seen plane first last w (depth plane first last)) t)
          as_flow plane = by_faces plane first last w (depth plane first last) (weight_linear start slope) (depth_linear plane first last) term (weight_seen start slope plane first last term is_term) b t k.right
