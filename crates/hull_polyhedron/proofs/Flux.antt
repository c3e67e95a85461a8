-- The sum over a tetrahedron's faces of projected area times the closed form of a wet mean: a split of an edge at any point leaves it as it
-- was, by the law on triangles for the two faces that have the edge; the inner faces cancel.
use mathlib.Core.Path.{◌≡◌, refl, sym}
use mathlib.Core.List.{[], ◌∷◌}
use Rattle.exact_algebra.specs.Expression.{Expression, var, unit, ◌:+◌, ◌:-◌, ◌:*◌, opposite}
use Rattle.exact_algebra.proofs.Ring.{ring_from, none, given}
use Rattle.exact_algebra.proofs.Fraction.{Fraction, ◌⊕◌, ◌⊗◌, ◌⊖◌, fractions, fraction_ring}
use Rattle.exact_algebra.proofs.WetForm as Form
use Rattle.hull_model.specs.Fractions.{interpolated}

-- the variables of the identities: 0 is the place of the split; the points' coordinates follow
abbrev pub A : Expression × Expression
A = (var 1, var 2)

abbrev pub B : Expression × Expression
B = (var 3, var 4)

abbrev pub C : Expression × Expression
C = (var 5, var 6)

abbrev pub D : Expression × Expression
D = (var 7, var 8)

abbrev pub ar : Expression × Expression → Expression × Expression → Expression × Expression → Expression
ar p q r = (q.0 :- p.0) :* (r.1 :- p.1) :- (r.0 :- p.0) :* (q.1 :- p.1)

-- a corner: its place along the ship and its distance from the centreplane; its depth, and the values of two functions there
pub record Vertex : Type 0 where
  pub x : Fraction
  pub v : Fraction
  pub at : Form.Corner fractions

abbrev pub between : Fraction → Vertex → Vertex → Vertex
between t p q = record { x = interpolated t p.x q.x; v = interpolated t p.v q.v; at = Form.point fractions t p.at q.at }

abbrev pub form : Form.Corner fractions → Form.Corner fractions → Form.Corner fractions → Fraction
form = Form.wet_form fractions

-- twice the area of a triangle seen along the depth, above or below 0 by the turn of its corners
unfoldable pub area : Vertex → Vertex → Vertex → Fraction
area p q r = (q.x ⊖ p.x) ⊗ (r.v ⊖ p.v) ⊖ (r.x ⊖ p.x) ⊗ (q.v ⊖ p.v)

abbrev pub flux : Vertex → Vertex → Vertex → Fraction
flux p q r = area p q r ⊗ form p.at q.at r.at

unfoldable pub fluxes : Vertex → Vertex → Vertex → Vertex → Fraction
fluxes a b c d = flux b c d ⊖ flux a c d ⊕ flux a b d ⊖ flux a b c

pub split_ab : (t : Fraction) (a b c d : Vertex) → fluxes a b c d ≡ fluxes (between t a b) b c d ⊕ fluxes a (between t a b) c d
unfolding fluxes area
split_ab t a b c d = ring_from fraction_ring (t ∷ a.x ∷ a.v ∷ b.x ∷ b.v ∷ c.x ∷ c.v ∷ d.x ∷ d.v ∷ form b.at c.at d.at ∷ form a.at c.at d.at ∷ form a.at b.at d.at ∷ form a.at b.at c.at ∷ form m c.at d.at ∷ form m b.at d.at ∷ form m b.at c.at ∷ form a.at m d.at ∷ form a.at m c.at ∷ [])
    ((ar A B D, var 11, var 0 :* var 16 :+ (unit :- var 0) :* var 14) ∷ (opposite (ar A B C), var 12, var 0 :* var 17 :+ (unit :- var 0) :* var 15) ∷ [])
    (given (Form.split_first fractions t a.at b.at d.at) (given (Form.split_first fractions t a.at b.at c.at) none))
    (ar B C D :* var 9 :- ar A C D :* var 10 :+ ar A B D :* var 11 :- ar A B C :* var 12) ((ar B C D :* var 9 :- ar M C D :* var 13 :+ ar M B D :* var 14 :- ar M B C :* var 15) :+ (ar M C D :* var 13 :- ar A C D :* var 10 :+ ar A M D :* var 16 :- ar A M C :* var 17)) refl
  where
    m : Form.Corner fractions
    m = Form.point fractions t a.at b.at

    M : Expression × Expression
    M = ((unit :- var 0) :* var 1 :+ var 0 :* var 3, (unit :- var 0) :* var 2 :+ var 0 :* var 4)

pub split_ac : (t : Fraction) (a b c d : Vertex) → fluxes a b c d ≡ fluxes (between t a c) b c d ⊕ fluxes a b (between t a c) d
unfolding fluxes area
split_ac t a b c d = ring_from fraction_ring (t ∷ a.x ∷ a.v ∷ b.x ∷ b.v ∷ c.x ∷ c.v ∷ d.x ∷ d.v ∷ form b.at c.at d.at ∷ form a.at c.at d.at ∷ form a.at b.at d.at ∷ form a.at b.at c.at ∷ form m c.at d.at ∷ form m b.at d.at ∷ form m b.at c.at ∷ form b.at m d.at ∷ form a.at m d.at ∷ form a.at b.at m ∷ [])
    ((opposite (ar A C D), var 10, var 0 :* var 17 :+ (unit :- var 0) :* var 13) ∷ (opposite (ar A B C), var 12, var 0 :* var 18 :+ (unit :- var 0) :* var 15) ∷ (opposite (ar B M D), var 16, var 14) ∷ [])
    (given (Form.split_first fractions t a.at c.at d.at) (given (Form.split_middle fractions t a.at b.at c.at) (given (Form.swap fractions b.at m d.at) none)))
    (ar B C D :* var 9 :- ar A C D :* var 10 :+ ar A B D :* var 11 :- ar A B C :* var 12) ((ar B C D :* var 9 :- ar M C D :* var 13 :+ ar M B D :* var 14 :- ar M B C :* var 15) :+ (ar B M D :* var 16 :- ar A M D :* var 17 :+ ar A B D :* var 11 :- ar A B M :* var 18)) refl
  where
    m : Form.Corner fractions
    m = Form.point fractions t a.at c.at

    M : Expression × Expression
    M = ((unit :- var 0) :* var 1 :+ var 0 :* var 5, (unit :- var 0) :* var 2 :+ var 0 :* var 6)

pub split_ad : (t : Fraction) (a b c d : Vertex) → fluxes a b c d ≡ fluxes (between t a d) b c d ⊕ fluxes a b c (between t a d)
unfolding fluxes area
split_ad t a b c d = ring_from fraction_ring (t ∷ a.x ∷ a.v ∷ b.x ∷ b.v ∷ c.x ∷ c.v ∷ d.x ∷ d.v ∷ form b.at c.at d.at ∷ form a.at c.at d.at ∷ form a.at b.at d.at ∷ form a.at b.at c.at ∷ form m c.at d.at ∷ form m b.at d.at ∷ form m b.at c.at ∷ form b.at c.at m ∷ form a.at c.at m ∷ form a.at b.at m ∷ [])
    ((opposite (ar A C D), var 10, var 0 :* var 17 :+ (unit :- var 0) :* var 13) ∷ (ar A B D, var 11, var 0 :* var 18 :+ (unit :- var 0) :* var 14) ∷ (opposite (ar B C M), var 16, var 15) ∷ [])
    (given (Form.split_middle fractions t a.at c.at d.at) (given (Form.split_middle fractions t a.at b.at d.at) (given (sym (Form.roll fractions m b.at c.at)) none)))
    (ar B C D :* var 9 :- ar A C D :* var 10 :+ ar A B D :* var 11 :- ar A B C :* var 12) ((ar B C D :* var 9 :- ar M C D :* var 13 :+ ar M B D :* var 14 :- ar M B C :* var 15) :+ (ar B C M :* var 16 :- ar A C M :* var 17 :+ ar A B M :* var 18 :- ar A B C :* var 12)) refl
  where
    m : Form.Corner fractions
    m = Form.point fractions t a.at d.at

    M : Expression × Expression
    M = ((unit :- var 0) :* var 1 :+ var 0 :* var 7, (unit :- var 0) :* var 2 :+ var 0 :* var 8)

pub split_bc : (t : Fraction) (a b c d : Vertex) → fluxes a b c d ≡ fluxes a (between t b c) c d ⊕ fluxes a b (between t b c) d
unfolding fluxes area
split_bc t a b c d = ring_from fraction_ring (t ∷ a.x ∷ a.v ∷ b.x ∷ b.v ∷ c.x ∷ c.v ∷ d.x ∷ d.v ∷ form b.at c.at d.at ∷ form a.at c.at d.at ∷ form a.at b.at d.at ∷ form a.at b.at c.at ∷ form m c.at d.at ∷ form a.at m d.at ∷ form a.at m c.at ∷ form b.at m d.at ∷ form a.at b.at m ∷ [])
    ((ar B C D, var 9, var 0 :* var 16 :+ (unit :- var 0) :* var 13) ∷ (opposite (ar A B C), var 12, var 0 :* var 17 :+ (unit :- var 0) :* var 15) ∷ [])
    (given (Form.split_first fractions t b.at c.at d.at) (given (Form.split_last fractions t a.at b.at c.at) none))
    (ar B C D :* var 9 :- ar A C D :* var 10 :+ ar A B D :* var 11 :- ar A B C :* var 12) ((ar M C D :* var 13 :- ar A C D :* var 10 :+ ar A M D :* var 14 :- ar A M C :* var 15) :+ (ar B M D :* var 16 :- ar A M D :* var 14 :+ ar A B D :* var 11 :- ar A B M :* var 17)) refl
  where
    m : Form.Corner fractions
    m = Form.point fractions t b.at c.at

    M : Expression × Expression
    M = ((unit :- var 0) :* var 3 :+ var 0 :* var 5, (unit :- var 0) :* var 4 :+ var 0 :* var 6)

pub split_bd : (t : Fraction) (a b c d : Vertex) → fluxes a b c d ≡ fluxes a (between t b d) c d ⊕ fluxes a b c (between t b d)
unfolding fluxes area
split_bd t a b c d = ring_from fraction_ring (t ∷ a.x ∷ a.v ∷ b.x ∷ b.v ∷ c.x ∷ c.v ∷ d.x ∷ d.v ∷ form b.at c.at d.at ∷ form a.at c.at d.at ∷ form a.at b.at d.at ∷ form a.at b.at c.at ∷ form m c.at d.at ∷ form a.at m d.at ∷ form a.at m c.at ∷ form b.at c.at m ∷ form a.at c.at m ∷ form a.at b.at m ∷ [])
    ((ar B C D, var 9, var 0 :* var 16 :+ (unit :- var 0) :* var 13) ∷ (ar A B D, var 11, var 0 :* var 18 :+ (unit :- var 0) :* var 14) ∷ (ar A C M, var 17, var 15) ∷ [])
    (given (Form.split_middle fractions t b.at c.at d.at) (given (Form.split_last fractions t a.at b.at d.at) (given (Form.turn fractions a.at c.at m) none)))
    (ar B C D :* var 9 :- ar A C D :* var 10 :+ ar A B D :* var 11 :- ar A B C :* var 12) ((ar M C D :* var 13 :- ar A C D :* var 10 :+ ar A M D :* var 14 :- ar A M C :* var 15) :+ (ar B C M :* var 16 :- ar A C M :* var 17 :+ ar A B M :* var 18 :- ar A B C :* var 12)) refl
  where
    m : Form.Corner fractions
    m = Form.point fractions t b.at d.at

    M : Expression × Expression
    M = ((unit :- var 0) :* var 3 :+ var 0 :* var 7, (unit :- var 0) :* var 4 :+ var 0 :* var 8)

pub split_cd : (t : Fraction) (a b c d : Vertex) → fluxes a b c d ≡ fluxes a b (between t c d) d ⊕ fluxes a b c (between t c d)
unfolding fluxes area
split_cd t a b c d = ring_from fraction_ring (t ∷ a.x ∷ a.v ∷ b.x ∷ b.v ∷ c.x ∷ c.v ∷ d.x ∷ d.v ∷ form b.at c.at d.at ∷ form a.at c.at d.at ∷ form a.at b.at d.at ∷ form a.at b.at c.at ∷ form b.at m d.at ∷ form a.at m d.at ∷ form a.at b.at m ∷ form b.at c.at m ∷ form a.at c.at m ∷ [])
    ((ar B C D, var 9, var 0 :* var 16 :+ (unit :- var 0) :* var 13) ∷ (opposite (ar A C D), var 10, var 0 :* var 17 :+ (unit :- var 0) :* var 14) ∷ [])
    (given (Form.split_last fractions t b.at c.at d.at) (given (Form.split_last fractions t a.at c.at d.at) none))
    (ar B C D :* var 9 :- ar A C D :* var 10 :+ ar A B D :* var 11 :- ar A B C :* var 12) ((ar B M D :* var 13 :- ar A M D :* var 14 :+ ar A B D :* var 11 :- ar A B M :* var 15) :+ (ar B C M :* var 16 :- ar A C M :* var 17 :+ ar A B M :* var 15 :- ar A B C :* var 12)) refl
  where
    m : Form.Corner fractions
    m = Form.point fractions t c.at d.at

    M : Expression × Expression
    M = ((unit :- var 0) :* var 5 :+ var 0 :* var 7, (unit :- var 0) :* var 6 :+ var 0 :* var 8)
