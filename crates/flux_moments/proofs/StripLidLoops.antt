-- Sums over the lids of the strips of a hull, as a loop makes them.
use Rattle.std.proofs.Common.{◌≡◌, refl, sym, ◌∙◌, ap, subst, List, [], ◌∷◌, length, ℕ, suc, ◌+◌, ◌*◌, ◌^◌, ◌<◌, ◌≤◌, ℤ, pos, ◌+ℤ◌, ◌≤ℤ◌, unsigned_abs, arith}
use Rattle.std.proofs.Math.Nat.{mul-le-mul}
use Rattle.exact_algebra.specs.Expression.{var, number, ◌:-◌, ◌:*◌, opposite, unit}
use Rattle.exact_algebra.proofs.Fraction.{Fraction, nought, one, ◌⊗◌, fractions, ◌≼◌}
use Rattle.exact_algebra.proofs.Order as Order
use Rattle.exact_algebra.proofs.Order.{order_from, no_more, equal}
use Rattle.exact_algebra.proofs.Span.{ContainsFraction}
use Rattle.exact_algebra.proofs.Whole.{whole}
use Rattle.hull_model.specs.declared.face.Face.{Face}
use Rattle.hull_model.specs.declared.station.Station.{Station}
use Rattle.hull_model.specs.Body.{IsHull}
use Rattle.hull_model.specs.Fractions.{sum_over}
use Rattle.hull_model.specs.Lid.{level_area, first_moment, second_moment}
use Rattle.hull_model.specs.Waterplane.{upright}
use Rattle.hull_polyhedron.specs.FacesOf.{AreFacesOf}
use Rattle.hull_polyhedron.specs.StripLaw.{strip_lid}
use Rattle.hull_polyhedron.specs.Strips.{strips_of, strip_at}
use Rattle.hull_polyhedron.specs.StripsOf.{strip_count, strip_faces, faces_to, sum_to, AreApart}
use Rattle.hull_polyhedron.specs.declared.faces.Faces.{Faces}
use Rattle.outward_interval.specs.Ends.{EndsBelow, AreEnds}
use Rattle.outward_interval.specs.Widths.{IsNarrow}
use Rattle.outward_interval.specs.declared.span.Span.{Span}
use Rattle.outward_interval.proofs.Narrow.{narrow-sum, narrow-wider}
use Rattle.flux_moments.specs.Limits.{EndsAtMost}
use Rattle.flux_moments.specs.LidWidths.{IsNoLid, AreLidEnds, AreLidWidths, AreLidWidthsOver, seen_part_bound}
use Rattle.flux_moments.specs.Planes.{IsIn}
use Rattle.flux_moments.specs.Sizes.{IsLevelBox}
use Rattle.flux_moments.specs.declared.lid_sums.LidSums.{LidSums}
use Rattle.flux_moments.specs.declared.plane_box.PlaneBox.{PlaneBox}
use Rattle.flux_moments.proofs.ColumnSums.{Lists, IsSumOf, sum-start, sum-allowed, sum-step, sum-end}
use Rattle.flux_moments.proofs.ProductEnds.{at_most_sum}
use Rattle.flux_moments.proofs.StripLids.{nonnegative_bound_at, far}

-- a hull at a level
pub record Level : Type 0 where
  pub stations : List Station
  pub at : Fraction

-- what the lid of a strip comes to there
abbrev pub area_at : Level → List Station → Fraction
area_at i = strip_lid i.at i.stations level_area

abbrev pub sx_at : Level → List Station → Fraction
sx_at i = strip_lid i.at i.stations (first_moment (λ p. p.x))

abbrev pub syy_at : Level → List Station → Fraction
syy_at i = strip_lid i.at i.stations (second_moment (λ p. p.y))

abbrev pub sxx_at : Level → List Station → Fraction
sxx_at i = strip_lid i.at i.stations (second_moment (λ p. p.x))

module _ (faces : Faces) (planes : PlaneBox) where
  pub record IsLevelOf (i : Level) : Type 0 where
    pub hull : IsHull i.stations
    pub are : AreFacesOf i.stations faces
    pub is : IsIn planes (upright i.at)

  abbrev pub strips : Lists IsLevelOf (List Station)
  strips = record { at = λ i. strips_of i.stations; count = strip_count faces; long = λ i within. sym within.are.strips }

  abbrev pub IsLidSum : (Level → List Station → Fraction) → (count : ℕ) → Span 20 → Type 0
  IsLidSum f count s = IsSumOf IsLevelOf f 2 (2 ^ 115) strips count s

  -- the widths over the faces that `over` sums
  abbrev pub AreWidthsOver : ((Face → Fraction) → Fraction) → LidSums → Type 0
  AreWidthsOver over sums = (d1 d2 : ℤ) → d1 ≤ℤ d2 → IsLevelBox planes d1 d2 → AreLidWidthsOver over faces.first_x faces.last_x d1 d2 (whole faces.last_x) (whole faces.half_breadth) sums

  pub record AreStripLids (count end : ℕ) (sums : LidSums) : Type 0 where
    pub all : end ≡ strip_count faces
    pub area : IsLidSum area_at count sums.area
    pub sx : IsLidSum sx_at count sums.sx
    pub syy : IsLidSum syy_at count sums.syy
    pub sxx : IsLidSum sxx_at count sums.sxx
    pub ends : AreLidEnds (faces_to faces count) sums
    pub widths : AreWidthsOver (λ g. sum_to faces g count) sums

  none_far : {most : ℕ} (z : ℤ) → z ≡ pos 0 → unsigned_abs z ≤ most
  none_far z e = omega (arith, ap unsigned_abs e)

  nothing_far : {most : ℕ} (s : Span 20) → (s.lo ≡ pos 0) × (s.hi ≡ pos 0) → EndsAtMost most s.lo s.hi
  nothing_far s e = record { low = none_far s.lo e.0; high = none_far s.hi e.1 }

  nothing_wide : {lo hi : ℤ} → (lo ≡ pos 0) × (hi ≡ pos 0) → IsNarrow 20 nought lo hi
  nothing_wide {lo} {hi} e = record {
    width = order_from fractions (whole lo ∷ whole hi ∷ whole (pos (2 ^ 20)) ∷ []) ((opposite unit, var 0, var 1) ∷ [])
        (equal (ap whole (e.0 ∙ sym e.1)) no_more) (var 1 :- var 0) (number 0 :* var 2) refl;
  }

  pub lids-start : {end : ℕ} (l : LidSums) → end ≡ strip_count faces → IsNoLid l → AreStripLids 0 end l
  lids-start l all e = record {
    all = all;
    area = sum-start IsLevelOf area_at 2 (2 ^ 115) strips l.area e.0;
    sx = sum-start IsLevelOf sx_at 2 (2 ^ 115) strips l.sx e.1;
    syy = sum-start IsLevelOf syy_at 2 (2 ^ 115) strips l.syy e.2;
    sxx = sum-start IsLevelOf sxx_at 2 (2 ^ 115) strips l.sxx e.3;
    ends = record { area = nothing_far l.area e.0; sx = nothing_far l.sx e.1; syy = nothing_far l.syy e.2; sxx = nothing_far l.sxx e.3 };
    widths = λ d1 d2 order level. record { area = nothing_wide e.0; sx = nothing_wide e.1; syy = nothing_wide e.2; sxx = nothing_wide e.3 };
  }

  -- ---- one strip more
  module _ (count : ℕ) (few : length (strip_faces faces count) < 2 ^ 14) (less : count < strip_count faces) (bounded : strip_count faces ≤ 63) where
    small : {most : ℕ} {lo hi : ℤ} → most ≤ 2 ^ 100 → EndsAtMost (length (strip_faces faces count) * most) lo hi → EndsAtMost (2 ^ 115) lo hi
    small {most} h e = record { low = within e.low; high = within e.high }
      where
        fewer : length (strip_faces faces count) ≤ 2 ^ 14
        fewer = omega (arith, few)

        within : {n : ℕ} → n ≤ length (strip_faces faces count) * most → n ≤ 2 ^ 115
        within i = omega (arith, i, mul-le-mul fewer h)

    module _ (f : Level → List Station → Fraction) (most : ℕ) (bound : most ≤ 2 ^ 100) (sum part : Span 20) (before : IsLidSum f count sum)
        (ends : EndsAtMost (length (strip_faces faces count) * most) part.lo part.hi) where
      pub lid-fits : EndsBelow 126 (sum.lo +ℤ part.lo) (sum.hi +ℤ part.hi)
      lid-fits = sum-allowed IsLevelOf f 2 (2 ^ 115) strips count sum part less before (small bound ends) 64 (omega (arith, bounded)) (omega arith)

      pub lid-step : (r : Span 20) → ((i : Level) → IsLevelOf i → ContainsFraction 20 part.lo part.hi (f i (strip_at i.stations count) ⊗ whole (pos 2)))
          → AreEnds (sum.lo +ℤ part.lo) (sum.hi +ℤ part.hi) r.lo r.hi → IsLidSum f (count + 1) r
      lid-step r holds are = sum-step IsLevelOf f 2 (2 ^ 115) strips count sum part less before (small bound ends) [] r holds are

    next : (n : ℕ) → n + 1 ≡ suc n
    next n = omega arith

    pub lid-ends : (most : ℕ) {a b c d lo hi : ℤ} → EndsAtMost (faces_to faces count * most) a b → EndsAtMost (length (strip_faces faces count) * most) c d
        → AreEnds (a +ℤ c) (b +ℤ d) lo hi → EndsAtMost (faces_to faces (count + 1) * most) lo hi
    lid-ends most before one are = at_most_sum (faces_to faces count * most) (length (strip_faces faces count) * most) (faces_to faces (count + 1) * most)
        (enough (faces_to faces count) (length (strip_faces faces count)) (faces_to faces (count + 1)) most (ap (λ n. faces_to faces n) (next count))) before one are
      where
        enough : (m k n most : ℕ) → n ≡ m + k → m * most + k * most ≤ n * most
        enough m k n most e = omega (arith, ap (λ x. x * most) e)

    pub lid-width : (g : Face → Fraction) {a b c d lo hi : ℤ} → IsNarrow 20 (sum_to faces g count) a b → IsNarrow 20 (sum_over g (strip_faces faces count)) c d
        → AreEnds (a +ℤ c) (b +ℤ d) lo hi → IsNarrow 20 (sum_to faces g (count + 1)) lo hi
    lid-width g {lo = lo} {hi = hi} before one are = subst (λ (n : ℕ). IsNarrow 20 (sum_to faces g n) lo hi) (sym (next count)) (narrow-sum are before one)

    pub lid-widths : (sums part r : LidSums) → AreWidthsOver (λ g. sum_to faces g count) sums → AreWidthsOver (λ g. sum_over g (strip_faces faces count)) part
        → AreEnds (sums.area.lo +ℤ part.area.lo) (sums.area.hi +ℤ part.area.hi) r.area.lo r.area.hi → AreEnds (sums.sx.lo +ℤ part.sx.lo) (sums.sx.hi +ℤ part.sx.hi) r.sx.lo r.sx.hi
        → AreEnds (sums.syy.lo +ℤ part.syy.lo) (sums.syy.hi +ℤ part.syy.hi) r.syy.lo r.syy.hi → AreEnds (sums.sxx.lo +ℤ part.sxx.lo) (sums.sxx.hi +ℤ part.sxx.hi) r.sxx.lo r.sxx.hi
        → AreWidthsOver (λ g. sum_to faces g (count + 1)) r
    lid-widths sums part r before more area sx syy sxx d1 d2 order level =
        let earlier = before d1 d2 order level in
        let strip = more d1 d2 order level in
        record {
          area = lid-width (seen_part_bound faces.first_x faces.last_x d1 d2 one) earlier.area strip.area area;
          sx = lid-width (seen_part_bound faces.first_x faces.last_x d1 d2 (whole faces.last_x)) earlier.sx strip.sx sx;
          syy = lid-width (seen_part_bound faces.first_x faces.last_x d1 d2 (whole faces.half_breadth ⊗ whole faces.half_breadth)) earlier.syy strip.syy syy;
          sxx = lid-width (seen_part_bound faces.first_x faces.last_x d1 d2 (whole faces.last_x ⊗ whole faces.last_x)) earlier.sxx strip.sxx sxx;
        }

  -- ---- all strips
  pub lid-held : (f : Level → List Station → Fraction) (count : ℕ) {end : ℕ} (sum : Span 20) → end ≡ strip_count faces → end ≤ count → IsLidSum f count sum
      → (i : Level) → IsLevelOf i → {value : Fraction} → value ≡ sum_over (f i) (strips_of i.stations) → ContainsFraction 20 sum.lo sum.hi (value ⊗ whole (pos 2))
  lid-held f count {end} sum all over sums i is e = subst (λ (x : Fraction). ContainsFraction 20 sum.lo sum.hi (x ⊗ whole (pos 2))) (sym e)
      (sum-end IsLevelOf f 2 (2 ^ 115) strips count sum (subst (λ (n : ℕ). n ≤ count) all over) sums i is)

  module _ (count : ℕ) {end : ℕ} (sums : LidSums) (over : end ≤ count) (are : AreStripLids count end sums) (apart : AreApart faces) where
    counted : count ≡ strip_count faces
    counted = omega (arith, are.all, over, are.area.seen)

    fewer : faces_to faces count ≤ length faces.list
    fewer = subst (λ (n : ℕ). faces_to faces n ≤ length faces.list) (sym counted) apart.few

    same : (n : ℕ) → n ≤ n
    same n = omega arith

    within : (most : ℕ) {lo hi : ℤ} → EndsAtMost (faces_to faces count * most) lo hi → EndsAtMost (length faces.list * most) lo hi
    within most e = record { low = omega (arith, e.low, mul-le-mul fewer (same most)); high = omega (arith, e.high, mul-le-mul fewer (same most)) }

    pub all-lid-ends : AreLidEnds (length faces.list) sums
    all-lid-ends = record { area = within (2 ^ 58) are.ends.area; sx = within (2 ^ 79) are.ends.sx; syy = within (2 ^ 100) are.ends.syy; sxx = within (2 ^ 100) are.ends.sxx }

    module _ (d1 d2 : ℤ) (order : d1 ≤ℤ d2) where
      wider : (g : Fraction) → nought ≼ g → {lo hi : ℤ} → IsNarrow 20 (sum_to faces (seen_part_bound faces.first_x faces.last_x d1 d2 g) count) lo hi
          → IsNarrow 20 (sum_over (seen_part_bound faces.first_x faces.last_x d1 d2 g) faces.list) lo hi
      wider g some {lo} {hi} narrow = narrow-wider (apart.sums (seen_part_bound faces.first_x faces.last_x d1 d2 g)
          (λ f. Order.nought-≼ fractions (nonnegative_bound_at faces d1 d2 order g (Order.nonnegative_from fractions some) f)))
          (subst (λ (n : ℕ). IsNarrow 20 (sum_to faces (seen_part_bound faces.first_x faces.last_x d1 d2 g) n) lo hi) counted narrow)

      pub all-lid-widths : IsLevelBox planes d1 d2 → AreLidWidths faces.first_x faces.last_x d1 d2 (whole faces.last_x) (whole faces.half_breadth) faces.list sums
      all-lid-widths level =
          let widths = are.widths d1 d2 order level in
          record {
            area = wider one (Order.nought-≼ fractions (Order.nonnegative-one fractions)) widths.area;
            sx = wider (whole faces.last_x) (Order.nought-≼ fractions (far faces d1 d2 order)) widths.sx;
            syy = wider (whole faces.half_breadth ⊗ whole faces.half_breadth) (Order.nought-≼ fractions (Order.nonnegative_square fractions (whole faces.half_breadth))) widths.syy;
            sxx = wider (whole faces.last_x ⊗ whole faces.last_x) (Order.nought-≼ fractions (Order.nonnegative_square fractions (whole faces.last_x))) widths.sxx;
          }
