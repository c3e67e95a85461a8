-- Positions at a waterplane as corners of the sum over faces: the sum adds up at each split of a tetrahedron, and is known where no corner
-- is below the waterplane's depth 0, and where none is above.
use mathlib.Core.Path.{◌≡◌, refl, sym, ◌∙◌, ap}
use mathlib.Core.List.{[], ◌∷◌}
use mathlib.Core.Logic.{◌≢◌}
use mathlib.Core.Bool.{true, false}
use lib.IntN.{ℤ, pos}
use Rattle.exact_algebra.specs.Expression.{Expression, var, unit, number, ◌:+◌, ◌:-◌, ◌:*◌, opposite}
use Rattle.exact_algebra.specs.OrderedField.{Sign, below, level, above}
use Rattle.exact_algebra.proofs.Ring.{ring, ring_from, none, given}
use Rattle.exact_algebra.proofs.Fraction.{Fraction, nought, one, ◌⊕◌, ◌⊗◌, ◌⊖◌, inverse, sign, fractions, fraction_ring}
use Rattle.exact_algebra.proofs.Whole.{whole}
use Rattle.exact_algebra.proofs.WetForm as Form
use Rattle.exact_algebra.proofs.DividedDifference as Over
use Rattle.hull_model.specs.Fractions.{interpolated}
use Rattle.hull_model.specs.TriangleCut.{Corners, crossing}
use Rattle.hull_model.specs.TetrahedronCut.{Tetrahedron}
use Rattle.hull_model.specs.Waterplane.{Waterplane, Position, height, side_distance, under}
use Rattle.hull_model.proofs.EdgeSplits.{IsLinearFunction}
use Rattle.hull_model.proofs.TetrahedronRounds.{depth_linear}
use Rattle.hull_polyhedron.specs.Columns.{depth}
use Rattle.hull_polyhedron.proofs.Flux.{Vertex, between, form, area, fluxes, ar, A, B, C, D, split_ab, split_ac, split_ad, split_bc, split_bd, split_cd}
use Rattle.hull_polyhedron.proofs.Pieces.{AtEdges, sides_none_below, sides_none_above}

-- ---- the closed form where no corner is below
true-ne-false : true ≡ false → ⊥
true-ne-false h = cc

-- what counts of a face of which no corner is below: nothing where all three are level
unfoldable pub face_by : Sign → Sign → Sign → Fraction → Fraction
face_by level level level m = nought
face_by _ _ _ m = m

pub form_none_below : (a b c : Form.Corner fractions) → sign a.0 ≢ below → sign b.0 ≢ below → sign c.0 ≢ below → form a b c ≡ face_by (sign a.0) (sign b.0) (sign c.0) (Form.twelve fractions a b c)
unfolding face_by
form_none_below a b c x y z = go (sign a.0) (sign b.0) (sign c.0) refl refl refl x y z
  where
    some : (Over.is_above (sign a.0) ≡ false → Over.is_above (sign b.0) ≡ false → Over.is_above (sign c.0) ≡ false → ⊥) → form a b c ≡ Form.twelve fractions a b c
    some n = Form.form_wet fractions a b c x y z n

    go : (p q r : Sign) → sign a.0 ≡ p → sign b.0 ≡ q → sign c.0 ≡ r → p ≢ below → q ≢ below → r ≢ below → form a b c ≡ face_by p q r (Form.twelve fractions a b c)
    go above q r e f g k l m = some (λ d _ _. true-ne-false (sym (ap Over.is_above e) ∙ d))
    go level above r e f g k l m = some (λ _ d _. true-ne-false (sym (ap Over.is_above f) ∙ d))
    go level level above e f g k l m = some (λ _ _ d. true-ne-false (sym (ap Over.is_above g) ∙ d))
    go level level level e f g k l m = Form.form_none_over fractions a b c (ap Over.is_above e) (ap Over.is_above f) (ap Over.is_above g)
    go below q r e f g k l m = absurd (k refl)
    go level below r e f g k l m = absurd (l refl)
    go level level below e f g k l m = absurd (m refl)

-- with the depth itself as a factor, a level face counts as a whole too
form_by_depth : (h k l u w z : Fraction) → sign h ≢ below → sign k ≢ below → sign l ≢ below → form (h, u, h) (k, w, k) (l, z, l) ≡ Form.twelve fractions (h, u, h) (k, w, k) (l, z, l)
unfolding face_by
form_by_depth h k l u w z x y n = form_none_below (h, u, h) (k, w, k) (l, z, l) x y n ∙ go (sign h) (sign k) (sign l) refl refl refl
  where
    go : (p q r : Sign) → sign h ≡ p → sign k ≡ q → sign l ≡ r → face_by p q r (Form.twelve fractions (h, u, h) (k, w, k) (l, z, l)) ≡ Form.twelve fractions (h, u, h) (k, w, k) (l, z, l)
    go above q r e f g = refl
    go below q r e f g = refl
    go level above r e f g = refl
    go level below r e f g = refl
    go level level above e f g = refl
    go level level below e f g = refl
    go level level level e f g = ring_from fraction_ring (h ∷ k ∷ l ∷ u ∷ w ∷ z ∷ [])
        ((opposite (var 3 :+ (var 3 :+ var 4 :+ var 5)), var 0, number 0) ∷ (opposite (var 4 :+ (var 3 :+ var 4 :+ var 5)), var 1, number 0) ∷ (opposite (var 5 :+ (var 3 :+ var 4 :+ var 5)), var 2, number 0) ∷ [])
        (given (fractions.laws.nought_from_sign h e) (given (fractions.laws.nought_from_sign k f) (given (fractions.laws.nought_from_sign l g) none)))
        (number 0) ((var 3 :* var 0 :+ var 4 :* var 1 :+ var 5 :* var 2) :+ (var 3 :+ var 4 :+ var 5) :* (var 0 :+ var 1 :+ var 2)) refl

-- ---- functions of positions that are linear
pub side_linear : (plane : Waterplane) → IsLinearFunction (side_distance plane)
unfolding side_distance
side_linear plane t p q = ring fraction_ring (t ∷ p.y ∷ p.z ∷ q.y ∷ q.z ∷ whole (pos plane.s) ∷ whole (pos plane.c) ∷ inverse (whole (pos plane.r)) ∷ [])
    ((var 5 :* ((unit :- var 0) :* var 2 :+ var 0 :* var 4) :- var 6 :* ((unit :- var 0) :* var 1 :+ var 0 :* var 3)) :* var 7)
    ((unit :- var 0) :* ((var 5 :* var 2 :- var 6 :* var 1) :* var 7) :+ var 0 :* ((var 5 :* var 4 :- var 6 :* var 3) :* var 7)) refl

pub height_linear : (plane : Waterplane) → IsLinearFunction (height plane)
unfolding height
height_linear plane t p q = ring fraction_ring (t ∷ p.y ∷ p.z ∷ q.y ∷ q.z ∷ whole (pos plane.s) ∷ whole (pos plane.c) ∷ inverse (whole (pos plane.r)) ∷ [])
    ((var 6 :* ((unit :- var 0) :* var 2 :+ var 0 :* var 4) :+ var 5 :* ((unit :- var 0) :* var 1 :+ var 0 :* var 3)) :* var 7)
    ((unit :- var 0) :* ((var 6 :* var 2 :+ var 5 :* var 1) :* var 7) :+ var 0 :* ((var 6 :* var 4 :+ var 5 :* var 3) :* var 7)) refl

abbrev pub sum_four : (Position → Fraction) → Tetrahedron Position → Fraction
sum_four f t = f t.a ⊕ f t.b ⊕ f t.c ⊕ f t.d

-- twice the area of three positions seen along the height
abbrev pub area_of : Waterplane → Position → Position → Position → Fraction
area_of plane p q r = (q.x ⊖ p.x) ⊗ (side_distance plane r ⊖ side_distance plane p) ⊖ (r.x ⊖ p.x) ⊗ (side_distance plane q ⊖ side_distance plane p)

module _ (plane : Waterplane) (first last : ℤ) where
  abbrev corners : Corners Position
  corners = under plane first last

  abbrev h : Position → Fraction
  h = depth plane first last

  -- the determinant of the ways from the first corner, by x, the distance to the side and a function
  unfoldable pub six_by : (Position → Fraction) → Tetrahedron Position → Fraction
  six_by f t = (f t.d ⊖ f t.a) ⊗ area_of plane t.a t.b t.c ⊖ (f t.c ⊖ f t.a) ⊗ area_of plane t.a t.b t.d ⊕ (f t.b ⊖ f t.a) ⊗ area_of plane t.a t.c t.d

  module _ (f g : Position → Fraction) where
    abbrev pub vertex : Position → Vertex
    vertex p = record { x = p.x; v = side_distance plane p; at = (depth plane first last p, f p, g p) }

    unfoldable pub flow : Tetrahedron Position → Fraction
    flow t = fluxes (vertex t.a) (vertex t.b) (vertex t.c) (vertex t.d)

    -- twelve times the mean of the product over the whole of a face
    abbrev pub whole_face : Position → Position → Position → Fraction
    whole_face p q r = Form.twelve fractions (vertex p).at (vertex q).at (vertex r).at

    -- ---- no corner above
    pub flow_dry : (t : Tetrahedron Position) → sides_none_above corners t → flow t ≡ nought
    unfolding flow fluxes
    flow_dry t n = ring_from fraction_ring
        (area b c d ∷ area a c d ∷ area a b d ∷ area a b c ∷ form b.at c.at d.at ∷ form a.at c.at d.at ∷ form a.at b.at d.at ∷ form a.at b.at c.at ∷ [])
        ((var 0, var 4, number 0) ∷ (opposite (var 1), var 5, number 0) ∷ (var 2, var 6, number 0) ∷ (opposite (var 3), var 7, number 0) ∷ [])
        (given (Form.form_dry fractions b.at c.at d.at n.1 n.2 n.3) (given (Form.form_dry fractions a.at c.at d.at n.0 n.2 n.3) (given (Form.form_dry fractions a.at b.at d.at n.0 n.1 n.3) (given (Form.form_dry fractions a.at b.at c.at n.0 n.1 n.2) none))))
        (var 0 :* var 4 :- var 1 :* var 5 :+ var 2 :* var 6 :- var 3 :* var 7) (number 0) refl
      where
        a : Vertex
        a = vertex t.a

        b : Vertex
        b = vertex t.b

        c : Vertex
        c = vertex t.c

        d : Vertex
        d = vertex t.d

    -- the sum with the whole of each face
    unfoldable pub whole_faces : Tetrahedron Position → Fraction
    whole_faces t = area_of plane t.b t.c t.d ⊗ whole_face t.b t.c t.d ⊖ area_of plane t.a t.c t.d ⊗ whole_face t.a t.c t.d ⊕ area_of plane t.a t.b t.d ⊗ whole_face t.a t.b t.d ⊖ area_of plane t.a t.b t.c ⊗ whole_face t.a t.b t.c

    pub whole-faces : (t : Tetrahedron Position) → whole_faces t ≡ six_by g t ⊗ sum_four f t ⊕ six_by f t ⊗ sum_four g t
    unfolding whole_faces six_by
    whole-faces t = ring fraction_ring
        (one ∷ t.a.x ∷ v t.a ∷ t.b.x ∷ v t.b ∷ t.c.x ∷ v t.c ∷ t.d.x ∷ v t.d ∷ g t.a ∷ g t.b ∷ g t.c ∷ g t.d ∷ f t.a ∷ f t.b ∷ f t.c ∷ f t.d ∷ [])
        (ar B C D :* twelve_of gb gc gd :- ar A C D :* twelve_of ga gc gd :+ ar A B D :* twelve_of ga gb gd :- ar A B C :* twelve_of ga gb gc)
        (six (var 9) (var 10) (var 11) (var 12) :* (var 13 :+ var 14 :+ var 15 :+ var 16) :+ six (var 13) (var 14) (var 15) (var 16) :* (var 9 :+ var 10 :+ var 11 :+ var 12)) refl
      where
        v : Position → Fraction
        v = side_distance plane

        twelve_of : Expression × Expression → Expression × Expression → Expression × Expression → Expression
        twelve_of p q r = (p.1 :* p.0 :+ q.1 :* q.0 :+ r.1 :* r.0) :+ (p.1 :+ q.1 :+ r.1) :* (p.0 :+ q.0 :+ r.0)

        ga : Expression × Expression
        ga = (var 9, var 13)

        gb : Expression × Expression
        gb = (var 10, var 14)

        gc : Expression × Expression
        gc = (var 11, var 15)

        gd : Expression × Expression
        gd = (var 12, var 16)

        six : Expression → Expression → Expression → Expression → Expression
        six a b c d = (d :- a) :* ar A B C :- (c :- a) :* ar A B D :+ (b :- a) :* ar A C D

    -- ---- splits
    module _ (f_linear : IsLinearFunction f) (g_linear : IsLinearFunction g) where
      pub vertex-between : (t : Fraction) (p q : Position) → between t (vertex p) (vertex q) ≡ vertex (corners.between t p q)
      vertex-between t p q = λ i. record {
        x = interpolated t p.x q.x;
        v = sym (side_linear plane t p q) i;
        at = (sym (depth_linear plane first last t p q) i, sym (f_linear t p q) i, sym (g_linear t p q) i);
      }

      abbrev parameter : Position → Position → Fraction
      parameter p q = h p ⊗ inverse (h p ⊖ h q)

      pub flow_splits : AtEdges corners (λ t p q. flow t ≡ flow p ⊕ flow q)
      unfolding flow crossing
      flow_splits = record {
        ab = λ a b c d e. split_ab (parameter a b) (vertex a) (vertex b) (vertex c) (vertex d) ∙ ap (λ (m : Vertex). fluxes m (vertex b) (vertex c) (vertex d) ⊕ fluxes (vertex a) m (vertex c) (vertex d)) (vertex-between (parameter a b) a b);
        ac = λ a b c d e. split_ac (parameter a c) (vertex a) (vertex b) (vertex c) (vertex d) ∙ ap (λ (m : Vertex). fluxes m (vertex b) (vertex c) (vertex d) ⊕ fluxes (vertex a) (vertex b) m (vertex d)) (vertex-between (parameter a c) a c);
        ad = λ a b c d e. split_ad (parameter a d) (vertex a) (vertex b) (vertex c) (vertex d) ∙ ap (λ (m : Vertex). fluxes m (vertex b) (vertex c) (vertex d) ⊕ fluxes (vertex a) (vertex b) (vertex c) m) (vertex-between (parameter a d) a d);
        bc = λ a b c d e. split_bc (parameter b c) (vertex a) (vertex b) (vertex c) (vertex d) ∙ ap (λ (m : Vertex). fluxes (vertex a) m (vertex c) (vertex d) ⊕ fluxes (vertex a) (vertex b) m (vertex d)) (vertex-between (parameter b c) b c);
        bd = λ a b c d e. split_bd (parameter b d) (vertex a) (vertex b) (vertex c) (vertex d) ∙ ap (λ (m : Vertex). fluxes (vertex a) m (vertex c) (vertex d) ⊕ fluxes (vertex a) (vertex b) (vertex c) m) (vertex-between (parameter b d) b d);
        cd = λ a b c d e. split_cd (parameter c d) (vertex a) (vertex b) (vertex c) (vertex d) ∙ ap (λ (m : Vertex). fluxes (vertex a) (vertex b) m (vertex d) ⊕ fluxes (vertex a) (vertex b) (vertex c) m) (vertex-between (parameter c d) c d);
      }

  -- ---- no corner below, with the depth as the second function
  module _ (f : Position → Fraction) where
    pub flow_wet : (t : Tetrahedron Position) → sides_none_below corners t → flow f h t ≡ six_by h t ⊗ sum_four f t ⊕ six_by f t ⊗ sum_four h t
    unfolding flow fluxes area whole_faces
    flow_wet t n = (λ i. area_of plane t.b t.c t.d ⊗ known t.b t.c t.d n.1 n.2 n.3 i ⊖ area_of plane t.a t.c t.d ⊗ known t.a t.c t.d n.0 n.2 n.3 i
        ⊕ area_of plane t.a t.b t.d ⊗ known t.a t.b t.d n.0 n.1 n.3 i ⊖ area_of plane t.a t.b t.c ⊗ known t.a t.b t.c n.0 n.1 n.2 i) ∙ whole-faces f h t
      where
        known : (p q r : Position) → sign (h p) ≢ below → sign (h q) ≢ below → sign (h r) ≢ below → form (h p, f p, h p) (h q, f q, h q) (h r, f r, h r) ≡ whole_face f h p q r
        known p q r = form_by_depth (h p) (h q) (h r) (f p) (f q) (f r)
