-- The sums over what is seen of faces from above, as a loop makes them.
use Rattle.std.proofs.Common.{ℕ, ℤ, pos, ◌≡◌, ◌∙◌, refl, ap, ◌+ℤ◌, ◌*ℤ◌, ◌≤◌, ◌^◌, ◌<◌, ◌+◌, List, [], ◌∷◌, length, take, get_or, arith}
use Rattle.angle_bounds.specs.declared.triple.Triple.{Triple}
use Rattle.exact_algebra.specs.Expression.{var, unit, ◌:*◌}
use Rattle.exact_algebra.specs.Span.{IsFloor, IsCeiling}
use Rattle.exact_algebra.proofs.Ring.{ring}
use Rattle.exact_algebra.proofs.WholeNumbers.{integers}
use Rattle.flux_moments.proofs.LevelEnds.{same_floor, same_ceiling}
use Rattle.flux_moments.specs.Sizes.{IsLevelBox}
use Rattle.exact_algebra.proofs.Fraction.{Fraction, one}
use Rattle.exact_algebra.proofs.Span.{ContainsFraction}
use Rattle.hull_model.specs.declared.face.Face.{Face}
use Rattle.hull_model.specs.Waterplane.{upright}
use Rattle.std.specs.List.{AllByRecursion}
use Rattle.exact_algebra.proofs.Whole.{whole}
use Rattle.hull_polyhedron.specs.Between.{IsInside, LieInside}
use Rattle.outward_interval.specs.Ends.{AreEnds}
use Rattle.flux_moments.specs.Columns.{lid_part}
use Rattle.flux_moments.specs.Planes.{IsIn}
use Rattle.flux_moments.specs.declared.lid_sums.LidSums.{LidSums}
use Rattle.flux_moments.specs.declared.plane_box.PlaneBox.{PlaneBox}
use Rattle.flux_moments.specs.LidWidths.{IsNoLid, AreSeenWidths, AreLidWidths}
use Rattle.flux_moments.proofs.ColumnSums.{one_list, IsSumOf, sum-start, all_at, narrow-start, narrow-step, narrow-end}

module _ (planes : PlaneBox) (first last : ℤ) (faces : List Face) where
  -- a level at which the plane is in the box
  abbrev pub IsLevel : Fraction → Type 0
  IsLevel at = IsIn planes (upright at)

  pub record AreLidSums (count : ℕ) (sums : LidSums) : Type 0 where
    pub area : IsSumOf IsLevel (λ at. lid_part at first last (λ p. one) (λ p. one)) 2 (2 ^ 58) (one_list faces) count sums.area
    pub sx : IsSumOf IsLevel (λ at. lid_part at first last (λ p. p.x) (λ p. one)) 2 (2 ^ 79) (one_list faces) count sums.sx
    pub syy : IsSumOf IsLevel (λ at. lid_part at first last (λ p. p.y) (λ p. p.y)) 2 (2 ^ 100) (one_list faces) count sums.syy
    pub sxx : IsSumOf IsLevel (λ at. lid_part at first last (λ p. p.x) (λ p. p.x)) 2 (2 ^ 100) (one_list faces) count sums.sxx
    pub widths : (d1 d2 half_breadth height : ℤ) → IsLevelBox planes d1 d2 → LieInside half_breadth height faces → AreLidWidths first last d1 d2
        (whole last) (whole half_breadth) (take count faces) sums

  pub lid-start : (s : LidSums) → IsNoLid s → AreLidSums 0 s
  lid-start s e = record {
    area = sum-start IsLevel _ 2 (2 ^ 58) (one_list faces) s.area e.0;
    sx = sum-start IsLevel _ 2 (2 ^ 79) (one_list faces) s.sx e.1;
    syy = sum-start IsLevel _ 2 (2 ^ 100) (one_list faces) s.syy e.2;
    sxx = sum-start IsLevel _ 2 (2 ^ 100) (one_list faces) s.sxx e.3;
    widths = λ d1 d2 half_breadth height is inside. record {
      area = narrow-start _ faces s.area e.0;
      sx = narrow-start _ faces s.sx e.1;
      syy = narrow-start _ faces s.syy e.2;
      sxx = narrow-start _ faces s.sxx e.3;
    };
  }

  -- one face more
  pub lid-more : (count : ℕ) (other : Face) (sums part result : LidSums) → count < length faces
      → ((d1 d2 half_breadth height : ℤ) → IsLevelBox planes d1 d2 → LieInside half_breadth height faces → AreLidWidths first last d1 d2 (whole last)
      (whole half_breadth) (take count faces) sums)
      → ((d1 d2 half_breadth height : ℤ) → IsLevelBox planes d1 d2 → AllByRecursion (IsInside half_breadth height) (get_or faces count other).p
      → AreSeenWidths first last d1 d2 (whole last) (whole half_breadth) (get_or faces count other) part)
      → AreEnds (sums.area.lo +ℤ part.area.lo) (sums.area.hi +ℤ part.area.hi) result.area.lo result.area.hi → AreEnds (sums.sx.lo +ℤ part.sx.lo)
      (sums.sx.hi +ℤ part.sx.hi) result.sx.lo result.sx.hi
      → AreEnds (sums.syy.lo +ℤ part.syy.lo) (sums.syy.hi +ℤ part.syy.hi) result.syy.lo result.syy.hi → AreEnds (sums.sxx.lo +ℤ part.sxx.lo)
      (sums.sxx.hi +ℤ part.sxx.hi) result.sxx.lo result.sxx.hi
      → (d1 d2 half_breadth height : ℤ) → IsLevelBox planes d1 d2 → LieInside half_breadth height faces → AreLidWidths first last d1 d2 (whole last)
      (whole half_breadth) (take (count + 1) faces) result
  lid-more count other sums part result few before one area sx syy sxx d1 d2 half_breadth height is inside =
      let earlier = before d1 d2 half_breadth height is inside in
      let more = one d1 d2 half_breadth height is (all_at (λ (f : Face). AllByRecursion (IsInside half_breadth height) f.p) faces count other few inside) in
      record {
        area = narrow-step _ faces count other sums.area part.area result.area few earlier.area more.area area;
        sx = narrow-step _ faces count other sums.sx part.sx result.sx few earlier.sx more.sx sx;
        syy = narrow-step _ faces count other sums.syy part.syy result.syy few earlier.syy more.syy syy;
        sxx = narrow-step _ faces count other sums.sxx part.sxx result.sxx few earlier.sxx more.sxx sxx;
      }

  pub lid-end : (count : ℕ) (sums : LidSums) → length faces ≤ count → ((d1 d2 half_breadth height : ℤ) → IsLevelBox planes d1 d2 → LieInside
      half_breadth height faces → AreLidWidths first last d1 d2 (whole last) (whole half_breadth) (take count faces) sums)
      → (d1 d2 half_breadth height : ℤ) → IsLevelBox planes d1 d2 → LieInside half_breadth height faces → AreLidWidths first last d1 d2 (whole last)
      (whole half_breadth) faces sums
  lid-end count sums few all d1 d2 half_breadth height is inside =
      let widths = all d1 d2 half_breadth height is inside in
      record {
        area = narrow-end _ faces count sums.area few widths.area;
        sx = narrow-end _ faces count sums.sx few widths.sx;
        syy = narrow-end _ faces count sums.syy few widths.syy;
        sxx = narrow-end _ faces count sums.sxx few widths.sxx;
      }

-- the upright plane of a level lies in the box of upright planes around it
pub level_is_in : (planes : PlaneBox) (d1 d2 : ℤ) (at : Fraction) → (planes.a1 ≡ d1) × (planes.a2 ≡ d2) × (planes.f1 ≡ d1) × (planes.f2 ≡ d2)
    → (planes.bracket.low.c ≡ 1) × (planes.bracket.low.s ≡ 0) × (planes.bracket.low.r ≡ 1) × (planes.bracket.high ≡ planes.bracket.low)
    → ContainsFraction 10 d1 d2 at → IsIn planes (upright at)
level_is_in planes d1 d2 at same direction within = record {
  direction = record { from = omega (arith, direction.1); to = omega arith };
  aft = rw (same.0, same.1) within;
  fore = rw (same.2, same.3) within;
}

-- an upright bracket has the cosine one and the sine nought
whole_floor : (n k d : ℕ) (lo : ℤ) → n ≡ k → d ≡ 1 → IsFloor (pos n *ℤ pos (2 ^ 40)) d lo → lo ≡ pos k *ℤ pos (2 ^ 40)
whole_floor n k d lo e f is = same_floor (pos k *ℤ pos (2 ^ 40)) (pos k *ℤ pos (2 ^ 40)) lo 1 (omega arith) (ones (pos k *ℤ pos (2 ^ 40))) (rw (e, f) at is)
  where
    ones : (z : ℤ) → z ≡ z *ℤ pos 1
    ones z = ring integers (z ∷ []) (var 0) (var 0 :* unit) refl

whole_ceiling : (n k d : ℕ) (hi : ℤ) → n ≡ k → d ≡ 1 → IsCeiling (pos n *ℤ pos (2 ^ 40)) d hi → hi ≡ pos k *ℤ pos (2 ^ 40)
whole_ceiling n k d hi e f is = same_ceiling (pos k *ℤ pos (2 ^ 40)) (pos k *ℤ pos (2 ^ 40)) hi 1 (omega arith) (ones (pos k *ℤ pos (2 ^ 40))) (rw (e, f) at is)
  where
    ones : (z : ℤ) → z ≡ z *ℤ pos 1
    ones z = ring integers (z ∷ []) (var 0) (var 0 :* unit) refl

pub level_box : (planes : PlaneBox) (d1 d2 : ℤ) → (planes.a1 ≡ d1) × (planes.a2 ≡ d2) × (planes.f1 ≡ d1) × (planes.f2 ≡ d2)
    → (planes.bracket.low.c ≡ 1) × (planes.bracket.low.s ≡ 0) × (planes.bracket.low.r ≡ 1) × (planes.bracket.high ≡ planes.bracket.low) → IsLevelBox
    planes d1 d2
level_box planes d1 d2 same direction = record {
  aft = (same.0, same.1);
  fore = (same.2, same.3);
  cosine = (
    whole_floor planes.bracket.high.c 1 planes.bracket.high.r planes.bracket.c.lo (ap (λ (t : Triple). t.c) direction.3 ∙ direction.0)
        (ap (λ (t : Triple). t.r) direction.3 ∙ direction.2) planes.bracket.bracket.cosine.low,
    whole_ceiling planes.bracket.low.c 1 planes.bracket.low.r planes.bracket.c.hi direction.0 direction.2 planes.bracket.bracket.cosine.high,
  );
  sine = (
    whole_floor planes.bracket.low.s 0 planes.bracket.low.r planes.bracket.s.lo direction.1 direction.2 planes.bracket.bracket.sine.low,
    whole_ceiling planes.bracket.high.s 0 planes.bracket.high.r planes.bracket.s.hi (ap (λ (t : Triple). t.s) direction.3 ∙ direction.1)
        (ap (λ (t : Triple). t.r) direction.3 ∙ direction.2) planes.bracket.bracket.sine.high,
  );
}
