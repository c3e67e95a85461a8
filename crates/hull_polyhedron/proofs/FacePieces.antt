-- What is summed of an alternating function over the faces of the kept pieces of a tetrahedron.
use mathlib.Core.Path.{◌≡◌, refl, sym, ◌∙◌, ap₂}
use mathlib.Core.List.{List, [], ◌∷◌}
use mathlib.Core.Logic.{◌≢◌}
use mathlib.Core.Bool.{true}
use Rattle.std.specs.List.{AllByRecursion}
use Rattle.exact_algebra.specs.Expression.{var, unit, number, ◌:+◌, ◌:-◌, opposite}
use Rattle.exact_algebra.specs.OrderedField.{below, level}
use Rattle.exact_algebra.proofs.Ring.{ring, ring_from, none, given}
use Rattle.exact_algebra.proofs.Fraction.{Fraction, nought, ◌⊕◌, ◌⊖◌, sign, fraction_ring}
use Rattle.hull_model.specs.Flooded.{cut_by}
use Rattle.hull_model.specs.Fractions.{sum_over}
use Rattle.hull_model.specs.TriangleCut.{are_opposite, crossing}
use Rattle.hull_model.specs.TriangleSums.{Function, IsAlternating, Splits}
use Rattle.hull_model.specs.TetrahedronCut.{Tetrahedron, tetrahedron, is_kept, kept_pieces}
use Rattle.hull_model.specs.Waterplane.{Position}
use Rattle.hull_model.proofs.EdgeSplits.{IsLinearFunction, AddsUpInside, swap_last, split_middle, split_last}
use Rattle.hull_model.proofs.CrossingPoints.{cross}
use Rattle.hull_model.proofs.KeptPart.{kept_part, kept_part-alternating, kept_part-dry, kept_part-whole, kept_part-splits}
use Rattle.hull_polyhedron.proofs.Pieces.{AtEdges, sides_none_below, sides_none_above, all_kept, sum_kept, kept_none_below}

-- ---- the faces of a tetrahedron
-- the sum over the four faces, two of them taken the other way round
abbrev pub over_faces : Function → Tetrahedron Position → Fraction
over_faces k t = k t.b t.c t.d ⊖ k t.a t.c t.d ⊕ k t.a t.b t.d ⊖ k t.a t.b t.c

-- the faces of a whole and its two parts
abbrev AddUp : Function → Tetrahedron Position → Tetrahedron Position → Tetrahedron Position → Type 0
AddUp k t p q = over_faces k t ≡ over_faces k p ⊕ over_faces k q

-- where an edge is split, the two faces that have it add up, and the inner faces cancel
module _ (k : Function) (alternating : IsAlternating k) (m a b c d : Position) where
  open alternating use {swap, roll}

  pub edge_ab : Splits k m a b → AddUp k (tetrahedron a b c d) (tetrahedron m b c d) (tetrahedron a m c d)
  edge_ab s = ring_from fraction_ring (k b c d ∷ k a c d ∷ k a b d ∷ k a b c ∷ k m c d ∷ k m b d ∷ k m b c ∷ k a m d ∷ k a m c ∷ [])
      ((unit, var 2, var 7 :+ var 5) ∷ (opposite unit, var 3, var 8 :+ var 6) ∷ []) (given (s d) (given (s c) none))
      (var 0 :- var 1 :+ var 2 :- var 3) ((var 0 :- var 4 :+ var 5 :- var 6) :+ (var 4 :- var 1 :+ var 7 :- var 8)) refl

  pub edge_ac : Splits k m a c → AddUp k (tetrahedron a b c d) (tetrahedron m b c d) (tetrahedron a b m d)
  edge_ac s = ring_from fraction_ring (k b c d ∷ k a c d ∷ k a b d ∷ k a b c ∷ k m c d ∷ k m b d ∷ k m b c ∷ k b m d ∷ k a m d ∷ k a b m ∷ [])
      ((opposite unit, var 1, var 8 :+ var 4) ∷ (opposite unit, var 3, var 9 :+ var 6) ∷ (opposite unit, var 7, opposite (var 5)) ∷ [])
      (given (s d) (given (split_middle k alternating m a c s b) (given (swap m b d) none)))
      (var 0 :- var 1 :+ var 2 :- var 3) ((var 0 :- var 4 :+ var 5 :- var 6) :+ (var 7 :- var 8 :+ var 2 :- var 9)) refl

  pub edge_ad : Splits k m a d → AddUp k (tetrahedron a b c d) (tetrahedron m b c d) (tetrahedron a b c m)
  edge_ad s = ring_from fraction_ring (k b c d ∷ k a c d ∷ k a b d ∷ k a b c ∷ k m c d ∷ k m b d ∷ k m b c ∷ k b c m ∷ k a c m ∷ k a b m ∷ [])
      ((opposite unit, var 1, var 8 :+ var 4) ∷ (unit, var 2, var 9 :+ var 5) ∷ (opposite unit, var 7, var 6) ∷ [])
      (given (split_middle k alternating m a d s c) (given (split_middle k alternating m a d s b) (given (roll m b c) none)))
      (var 0 :- var 1 :+ var 2 :- var 3) ((var 0 :- var 4 :+ var 5 :- var 6) :+ (var 7 :- var 8 :+ var 9 :- var 3)) refl

  pub edge_bc : Splits k m b c → AddUp k (tetrahedron a b c d) (tetrahedron a m c d) (tetrahedron a b m d)
  edge_bc s = ring_from fraction_ring (k b c d ∷ k a c d ∷ k a b d ∷ k a b c ∷ k m c d ∷ k a m d ∷ k a m c ∷ k b m d ∷ k a b m ∷ [])
      ((unit, var 0, var 7 :+ var 4) ∷ (opposite unit, var 3, var 8 :+ var 6) ∷ []) (given (s d) (given (split_last k alternating m b c s a) none))
      (var 0 :- var 1 :+ var 2 :- var 3) ((var 4 :- var 1 :+ var 5 :- var 6) :+ (var 7 :- var 5 :+ var 2 :- var 8)) refl

  pub edge_bd : Splits k m b d → AddUp k (tetrahedron a b c d) (tetrahedron a m c d) (tetrahedron a b c m)
  edge_bd s = ring_from fraction_ring (k b c d ∷ k a c d ∷ k a b d ∷ k a b c ∷ k m c d ∷ k a m d ∷ k a m c ∷ k b c m ∷ k a c m ∷ k a b m ∷ [])
      ((unit, var 0, var 7 :+ var 4) ∷ (unit, var 2, var 9 :+ var 5) ∷ (unit, var 8, opposite (var 6)) ∷ [])
      (given (split_middle k alternating m b d s c) (given (split_last k alternating m b d s a) (given (swap_last k alternating a m c) none)))
      (var 0 :- var 1 :+ var 2 :- var 3) ((var 4 :- var 1 :+ var 5 :- var 6) :+ (var 7 :- var 8 :+ var 9 :- var 3)) refl

  pub edge_cd : Splits k m c d → AddUp k (tetrahedron a b c d) (tetrahedron a b m d) (tetrahedron a b c m)
  edge_cd s = ring_from fraction_ring (k b c d ∷ k a c d ∷ k a b d ∷ k a b c ∷ k b m d ∷ k a m d ∷ k a b m ∷ k b c m ∷ k a c m ∷ [])
      ((unit, var 0, var 7 :+ var 4) ∷ (opposite unit, var 1, var 8 :+ var 5) ∷ []) (given (split_last k alternating m c d s b) (given (split_last k alternating m c d s a) none))
      (var 0 :- var 1 :+ var 2 :- var 3) ((var 4 :- var 5 :+ var 2 :- var 6) :+ (var 7 :- var 8 :+ var 6 :- var 3)) refl

module _ (d : Position → Fraction) (d_linear : IsLinearFunction d) (k : Function) (alternating : IsAlternating k) (adds : AddsUpInside k) where
  abbrev kept_at : Function
  kept_at = kept_part d k

  splits_at : (a b : Position) → are_opposite (sign (d a)) (sign (d b)) ≡ true → Splits kept_at (cross d a b) a b
  splits_at a b e = kept_part-splits d k alternating d_linear adds a b e

  faces_split : AtEdges (cut_by d) (AddUp kept_at)
  unfolding crossing
  faces_split = record {
    ab = λ a b c e h. edge_ab kept_at turns (cross d a b) a b c e (splits_at a b h);
    ac = λ a b c e h. edge_ac kept_at turns (cross d a c) a b c e (splits_at a c h);
    ad = λ a b c e h. edge_ad kept_at turns (cross d a e) a b c e (splits_at a e h);
    bc = λ a b c e h. edge_bc kept_at turns (cross d b c) a b c e (splits_at b c h);
    bd = λ a b c e h. edge_bd kept_at turns (cross d b e) a b c e (splits_at b e h);
    cd = λ a b c e h. edge_cd kept_at turns (cross d c e) a b c e (splits_at c e h);
  }
    where
      turns : IsAlternating kept_at
      turns = kept_part-alternating d k alternating

  pub faces_dry : (t : Tetrahedron Position) → sides_none_above (cut_by d) t → over_faces kept_at t ≡ nought
  faces_dry t n = (λ i. kept_part-dry d k t.b t.c t.d n.1 n.2 n.3 i ⊖ kept_part-dry d k t.a t.c t.d n.0 n.2 n.3 i ⊕ kept_part-dry d k t.a t.b t.d n.0 n.1 n.3 i ⊖ kept_part-dry d k t.a t.b t.c n.0 n.1 n.2 i)
      ∙ ring fraction_ring [] (number 0 :- number 0 :+ number 0 :- number 0) (number 0) refl

  -- the function is 0 over triangles in the plane of the cut
  module _ (flat : (a b c : Position) → sign (d a) ≡ level → sign (d b) ≡ level → sign (d c) ≡ level → k a b c ≡ nought) where
    pub faces_whole : (t : Tetrahedron Position) → sides_none_below (cut_by d) t → over_faces kept_at t ≡ over_faces k t
    faces_whole t n = λ i. whole t.b t.c t.d n.1 n.2 n.3 i ⊖ whole t.a t.c t.d n.0 n.2 n.3 i ⊕ whole t.a t.b t.d n.0 n.1 n.3 i ⊖ whole t.a t.b t.c n.0 n.1 n.2 i
      where
        whole : (a b c : Position) → sign (d a) ≢ below → sign (d b) ≢ below → sign (d c) ≢ below → kept_at a b c ≡ k a b c
        whole a b c x y z = kept_part-whole d k alternating a b c x y z (flat a b c)

    -- over the faces of the kept pieces, each taken whole, the sum is that over the kept parts of the faces
    pub kept_faces : (t : Tetrahedron Position) → sum_over (over_faces k) (kept_pieces (cut_by d) t) ≡ over_faces (kept_part d k) t
    unfolding sum_over
    kept_faces t = same (kept_pieces (cut_by d) t) (all_kept (cut_by d) (λ p. Unit {0}) no_more t tt)
        ∙ sum_kept (cut_by d) d_linear (over_faces kept_at) faces_split faces_dry t
      where
        no_more : AtEdges (cut_by d) (λ t p q. Unit {0} → Unit {0} × Unit {0})
        no_more = record { ab = λ a b c d e x. (tt, tt); ac = λ a b c d e x. (tt, tt); ad = λ a b c d e x. (tt, tt); bc = λ a b c d e x. (tt, tt); bd = λ a b c d e x. (tt, tt); cd = λ a b c d e x. (tt, tt) }

        same : (ps : List (Tetrahedron Position)) → AllByRecursion (λ p. (is_kept (cut_by d) p ≡ true) × Unit {0}) ps → sum_over (over_faces k) ps ≡ sum_over (over_faces kept_at) ps
        same [] all = refl
        same (p ∷ ps) all = ap₂ ◌⊕◌ (sym (faces_whole p (kept_none_below (sign (d p.a)) (sign (d p.b)) (sign (d p.c)) (sign (d p.d)) all.0.0))) (same ps all.1)
