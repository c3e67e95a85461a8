-- Levers and heights in the box of a draft bracket.
use Rattle.std.proofs.Common.{◌≡◌, ◌∙◌, refl, sym, ap, subst, ℕ, ◌*◌, ◌≤◌, ℤ, List, ◌-ℤ◌, arith}
use Rattle.std.specs.Int.{int_max}
use Rattle.exact_algebra.proofs.Fraction.{◌⊗◌}
use Rattle.exact_algebra.proofs.Whole.{whole}
use Rattle.angle_bounds.specs.Degrees.{IsDegreeBracket, s_of}
use Rattle.angle_bounds.specs.Directions.{IsAtMost}
use Rattle.angle_bounds.specs.declared.bracket.Bracket.{Bracket}
use Rattle.hull_model.specs.declared.water.Water.{Water}
use Rattle.hull_model.specs.LevelPlanes.{Direction}
use Rattle.hull_polyhedron.specs.declared.faces.Faces.{Faces}
use Rattle.outward_interval.specs.Widths.{IsNarrow}
use Rattle.outward_interval.specs.declared.span.Span.{Span}
use Rattle.plane_clip.specs.Enclosure.{in_unit}
use Rattle.flux_moments.specs.declared.plane_box.PlaneBox.{PlaneBox}
use Rattle.flux_moments.specs.Widths.{size_of, reach_of, volume_bound, lid_bound}
use Rattle.draft_bracket.specs.DraftBracket.{IsBoxFrom}
use Rattle.draft_bracket.specs.GridLevels.{LiesIn}
use Rattle.draft_bracket.proofs.Looks.{same_reach, same_bound}
use Rattle.loading_sheet.specs.declared.loading.Loading.{Loading}
use Rattle.dynamic_lever.specs.Levers.{quotient_bound, lever_bound}
use Rattle.dynamic_lever.specs.Rows.{AreNarrowLevers, kb_bound, bm_bound}
use Rattle.dynamic_lever.specs.Sides.{OnBoth}

-- the bounds of widths are the same for all boxes of these planes
module _ (faces : Faces) (loading : Loading) (water : Water) (bracket : Bracket) (d1 d2 : ℤ) (p q : PlaneBox) (h : IsBoxFrom bracket d1 d2 p) (k : IsBoxFrom bracket d1 d2 q) where
  same_turn : (size_of p).turn ≡ (size_of q).turn
  same_turn = ap (λ (b : Bracket). in_unit 40 (int_max (b.c.hi -ℤ b.c.lo) (b.s.hi -ℤ b.s.lo))) (h.directions ∙ sym k.directions)

  same_moment : reach_of faces p ⊗ volume_bound faces p ≡ reach_of faces q ⊗ volume_bound faces q
  same_moment = λ i. same_reach faces bracket d1 d2 p q h k i ⊗ same_bound faces bracket d1 d2 p q h k i

  pub same_lever : lever_bound loading water (reach_of faces p ⊗ volume_bound faces p) (size_of p).turn ≡ lever_bound loading water (reach_of faces q ⊗ volume_bound faces q) (size_of q).turn
  same_lever = λ i. lever_bound loading water (same_moment i) (same_turn i)

  pub same_kb : kb_bound faces loading water p ≡ kb_bound faces loading water q
  same_kb = ap (quotient_bound loading water) same_moment

pub same_bm : (faces : Faces) (loading : Loading) (water : Water) (bracket : Bracket) (d1 d2 : ℤ) (p : PlaneBox) → IsBoxFrom bracket d1 d2 p
    → quotient_bound loading water ((whole faces.half_breadth ⊗ whole faces.half_breadth) ⊗ lid_bound faces p.a1 p.a2) ≡ bm_bound faces loading water d1 d2
same_bm faces loading water bracket d1 d2 p h = λ i. quotient_bound loading water ((whole faces.half_breadth ⊗ whole faces.half_breadth) ⊗ lid_bound faces (h.aft.0 i) (h.aft.1 i))

pub narrow_levers : (faces : Faces) (loading : Loading) (water : Water) (bracket : Bracket) (d1 d2 : ℤ) (p : PlaneBox) → IsBoxFrom bracket d1 d2 p → (spans : List (Span 20))
    → OnBoth (λ s. IsNarrow 20 (lever_bound loading water (reach_of faces p ⊗ volume_bound faces p) (size_of p).turn) s.lo s.hi) spans → AreNarrowLevers bracket d1 d2 faces loading water spans
narrow_levers faces loading water bracket d1 d2 p h spans narrow q k = subst (λ w. OnBoth (λ s. IsNarrow 20 w s.lo s.hi) spans) (same_lever faces loading water bracket d1 d2 p q h k) narrow

-- the upright direction lies in the bracket of 0 degrees
pub upright_lies : (bracket : Bracket) → IsDegreeBracket 0 bracket.low.c bracket.low.s bracket.low.r bracket.high.c bracket.high.s bracket.high.r → (d : Direction) → d.s ≡ 0 → LiesIn bracket d
upright_lies bracket is d e = record { from = from d.c d.s bracket.low.c bracket.low.s low e; to = to d.c d.s bracket.high.c bracket.high.s e }
  where
    low : bracket.low.s ≡ 0
    low = zero_of is.low_number bracket.low.s (is.numbers.at_0 refl).0 is.low.sine
      where
        zero_of : (q s : ℕ) → q ≡ 0 → s ≡ s_of q → s ≡ 0
        zero_of q s e f = omega (arith, e, f)

    from : (x y c s : ℕ) → s ≡ 0 → y ≡ 0 → IsAtMost c s x y
    from x y c s e f = subst (λ m. m * x ≤ y * c) (sym e) (omega arith)

    to : (x y c s : ℕ) → y ≡ 0 → IsAtMost x y c s
    to x y c s e = subst (λ m. m * c ≤ s * x) (sym e) (omega arith)
