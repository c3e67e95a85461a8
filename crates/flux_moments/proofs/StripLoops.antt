-- Sums over the strips of a hull, as a loop makes them.
use Rattle.std.proofs.Common.{Bool, ◌≡◌, sym, ap, subst, List, [], length, ℕ, suc, ◌+◌, ◌*◌, ◌^◌, ◌<◌, ◌≤◌, ℤ, pos, ◌+ℤ◌, unsigned_abs, arith}
use Rattle.exact_algebra.proofs.Fraction.{Fraction, ◌⊗◌}
use Rattle.exact_algebra.proofs.Span.{ContainsFraction}
use Rattle.exact_algebra.proofs.Whole.{whole}
use Rattle.hull_model.specs.declared.station.Station.{Station}
use Rattle.hull_model.specs.Body.{IsHull}
use Rattle.hull_model.specs.Fractions.{sum_over}
use Rattle.hull_model.specs.Waterplane.{Waterplane, height, side_distance}
use Rattle.hull_polyhedron.specs.FacesOf.{AreFacesOf}
use Rattle.hull_polyhedron.specs.StripLaw.{strip_volume, strip_integral}
use Rattle.hull_polyhedron.specs.Strips.{strips_of, strip_at}
use Rattle.hull_polyhedron.specs.StripsOf.{strip_count, strip_faces, faces_to, sum_to}
use Rattle.hull_polyhedron.specs.declared.faces.Faces.{Faces}
use Rattle.outward_interval.specs.Ends.{EndsBelow, AreEnds}
use Rattle.outward_interval.specs.Widths.{units, IsNarrow}
use Rattle.outward_interval.specs.declared.span.Span.{Span}
use Rattle.flux_moments.specs.Clear.{IsClear, AreClear, open_to}
use Rattle.flux_moments.specs.Limits.{EndsAtMost}
use Rattle.flux_moments.specs.Planes.{IsIn}
use Rattle.flux_moments.specs.Sizes.{doubled_area, spread, volume_part, length_part, height_part}
use Rattle.flux_moments.specs.StripSizes.{most_volume, AreStripEnds, width_of, AreStripWidths}
use Rattle.flux_moments.specs.Wets.{AllFields, CanAdd, IsSum}
use Rattle.flux_moments.specs.Widths.{size_of, reach_of}
use Rattle.flux_moments.specs.declared.plane_box.PlaneBox.{PlaneBox}
use Rattle.flux_moments.specs.declared.wet.Wet.{Wet}
use Rattle.flux_moments.proofs.ColumnSums.{Lists, IsSumOf, sum-start, sum-allowed, sum-step, sum-end}
use Rattle.flux_moments.proofs.ProductEnds.{at_most_sum}
use Rattle.flux_moments.proofs.StripWidths.{open-strip, narrow-strip, widths-strip, no-strips}

-- a hull at a plane
pub record Place : Type 0 where
  pub stations : List Station
  pub plane : Waterplane

-- what the strip of a list comes to there
abbrev pub volume_at : Place → List Station → Fraction
volume_at i = strip_volume i.plane i.stations

abbrev pub mx_at : Place → List Station → Fraction
mx_at i = strip_integral i.plane i.stations (λ p. p.x)

abbrev pub mv_at : Place → List Station → Fraction
mv_at i = strip_integral i.plane i.stations (side_distance i.plane)

abbrev pub mu_at : Place → List Station → Fraction
mu_at i = strip_integral i.plane i.stations (height i.plane)

module _ (faces : Faces) (planes : PlaneBox) where
  pub record IsPlace (i : Place) : Type 0 where
    pub hull : IsHull i.stations
    pub are : AreFacesOf i.stations faces
    pub is : IsIn planes i.plane

  abbrev pub strips : Lists IsPlace (List Station)
  strips = record { at = λ i. strips_of i.stations; count = strip_count faces; long = λ i within. sym within.are.strips }

  -- what the first strips come to
  abbrev pub IsStripSum : (Place → List Station → Fraction) → (times count : ℕ) → Span 20 → Type 0
  IsStripSum f times count s = IsSumOf IsPlace f times (2 ^ 115) strips count s

  abbrev pub h : Fraction
  h = reach_of faces planes

  abbrev pub s : Fraction
  s = spread (size_of planes) h

  abbrev volume_width : (count : ℕ) → Fraction
  volume_width count = width_of (λ g. sum_to faces g count) count (λ f. volume_part s (doubled_area f))

  abbrev pub open_volume : (ℕ → Bool) → ℕ → Fraction
  open_volume chosen count = width_of (λ g. open_to faces chosen g count) count (λ f. volume_part s (doubled_area f))

  abbrev pub open_length : (ℕ → Bool) → ℕ → Fraction
  open_length chosen count = width_of (λ g. open_to faces chosen g count) count (λ f. length_part (whole faces.last_x) s (doubled_area f))

  -- of the volume alone
  pub record IsVolumeSum (count end : ℕ) (sum : Span 20) : Type 0 where
    pub all : end ≡ strip_count faces
    pub volume : IsStripSum volume_at 2 count sum
    pub ends : EndsAtMost (most_volume (faces_to faces count) count) sum.lo sum.hi
    pub width : IsNarrow 20 (volume_width count) sum.lo sum.hi
    pub sharp : (chosen : ℕ → Bool) → AreClear faces planes chosen → IsNarrow 20 (open_volume chosen count) sum.lo sum.hi

  pub record AreStripSums (count end : ℕ) (sums : Wet) : Type 0 where
    pub all : end ≡ strip_count faces
    pub volume : IsStripSum volume_at 2 count sums.volume
    pub mx : IsStripSum mx_at 2 count sums.mx
    pub mv : IsStripSum mv_at 2 count sums.mv
    pub mu : IsStripSum mu_at 4 count sums.mu
    pub ends : AreStripEnds (faces_to faces count) count sums
    pub widths : AreStripWidths (λ g. sum_to faces g count) count (whole faces.last_x) h s sums
    pub sharp : (chosen : ℕ → Bool) → AreClear faces planes chosen → IsNarrow 20 (open_volume chosen count) sums.volume.lo sums.volume.hi × IsNarrow 20 (open_length chosen count) sums.mx.lo sums.mx.hi

  none_far : {most : ℕ} (z : ℤ) → z ≡ pos 0 → unsigned_abs z ≤ most
  none_far z e = omega (arith, ap unsigned_abs e)

  nothing_far : {most : ℕ} (s : Span 20) → (s.lo ≡ pos 0) × (s.hi ≡ pos 0) → EndsAtMost most s.lo s.hi
  nothing_far s e = record { low = none_far s.lo e.0; high = none_far s.hi e.1 }

  pub volume-start : {end : ℕ} (s : Span 20) → end ≡ strip_count faces → (s.lo ≡ pos 0) × (s.hi ≡ pos 0) → IsVolumeSum 0 end s
  volume-start s all e = record {
    all = all;
    volume = sum-start IsPlace volume_at 2 (2 ^ 115) strips s e;
    ends = nothing_far s e;
    width = no-strips faces (λ f. volume_part (spread (size_of planes) h) (doubled_area f)) e;
    sharp = λ chosen clear. no-strips faces (λ f. volume_part (spread (size_of planes) h) (doubled_area f)) e;
  }

  pub strips-start : {end : ℕ} (w : Wet) → end ≡ strip_count faces → AllFields (λ s. (s.lo ≡ pos 0) × (s.hi ≡ pos 0)) w → AreStripSums 0 end w
  strips-start w all e = record {
    all = all;
    volume = sum-start IsPlace volume_at 2 (2 ^ 115) strips w.volume e.0;
    mx = sum-start IsPlace mx_at 2 (2 ^ 115) strips w.mx e.1;
    mv = sum-start IsPlace mv_at 2 (2 ^ 115) strips w.mv e.2;
    mu = sum-start IsPlace mu_at 4 (2 ^ 115) strips w.mu e.3;
    ends = record { volume = nothing_far w.volume e.0; mx = nothing_far w.mx e.1; mv = nothing_far w.mv e.2; mu = nothing_far w.mu e.3 };
    widths = record {
      volume = no-strips faces (λ f. volume_part s (doubled_area f)) e.0;
      mx = no-strips faces (λ f. length_part (whole faces.last_x) s (doubled_area f)) e.1;
      mv = no-strips faces (λ f. height_part h s (doubled_area f)) e.2;
      mu = no-strips faces (λ f. height_part h s (doubled_area f)) e.3;
    };
    sharp = λ chosen clear. (no-strips faces (λ f. volume_part s (doubled_area f)) e.0, no-strips faces (λ f. length_part (whole faces.last_x) s (doubled_area f)) e.1);
  }

  -- ---- one strip more
  module _ (count : ℕ) (few : length (strip_faces faces count) < 2 ^ 14) where
    small : {most : ℕ} {lo hi : ℤ} → most ≤ 2 ^ 115 → EndsAtMost most lo hi → EndsAtMost (2 ^ 115) lo hi
    small h e = record { low = omega (arith, h, e.low); high = omega (arith, h, e.high) }

    volume_small : {lo hi : ℤ} → EndsAtMost (most_volume (length (strip_faces faces count)) 1) lo hi → EndsAtMost (2 ^ 115) lo hi
    volume_small e = small (omega (arith, few)) e

    more_faces : faces_to faces (count + 1) ≡ faces_to faces count + length (strip_faces faces count)
    more_faces = ap (λ n. faces_to faces n) (next count)
      where
        next : (n : ℕ) → n + 1 ≡ suc n
        next n = omega arith

    joined : (most extra : ℕ) {a b c d lo hi : ℤ} → EndsAtMost (faces_to faces count * most + count * extra) a b → EndsAtMost (length (strip_faces faces count) * most + 1 * extra) c d
        → AreEnds (a +ℤ c) (b +ℤ d) lo hi → EndsAtMost (faces_to faces (count + 1) * most + (count + 1) * extra) lo hi
    joined most extra {a} {b} {c} {d} {lo} {hi} before one are = at_most_sum (faces_to faces count * most + count * extra) (length (strip_faces faces count) * most + 1 * extra)
        (faces_to faces (count + 1) * most + (count + 1) * extra) (enough (faces_to faces count) (length (strip_faces faces count)) (faces_to faces (count + 1)) count most extra more_faces) before one are
      where
        enough : (m k n c most extra : ℕ) → n ≡ m + k → (m * most + c * extra) + (k * most + 1 * extra) ≤ n * most + (c + 1) * extra
        enough m k n c most extra e = omega (arith, ap (λ x. x * most) e)

    module _ (less : count < strip_count faces) (bounded : strip_count faces ≤ 63) where
      module _ (sum one : Span 20) {end : ℕ} (before : IsVolumeSum count end sum) (ends : EndsAtMost (most_volume (length (strip_faces faces count)) 1) one.lo one.hi) where
        pub volume-fits : EndsBelow 126 (sum.lo +ℤ one.lo) (sum.hi +ℤ one.hi)
        volume-fits = sum-allowed IsPlace volume_at 2 (2 ^ 115) strips count sum one less before.volume (volume_small ends) 64 (omega (arith, bounded)) (omega arith)

        pub volume-more : (r : Span 20) → ((i : Place) → IsPlace i → ContainsFraction 20 one.lo one.hi (volume_at i (strip_at i.stations count) ⊗ whole (pos 2)))
            → IsNarrow 20 (width_of (λ g. sum_over g (strip_faces faces count)) 1 (λ f. volume_part s (doubled_area f))) one.lo one.hi
            → (IsClear faces planes count → IsNarrow 20 (units 20 3) one.lo one.hi)
            → AreEnds (sum.lo +ℤ one.lo) (sum.hi +ℤ one.hi) r.lo r.hi → IsVolumeSum (count + 1) end r
        volume-more r holds width clear are = record {
          all = before.all;
          volume = sum-step IsPlace volume_at 2 (2 ^ 115) strips count sum one less before.volume (volume_small ends) [] r holds are;
          ends = joined (7 * 2 ^ 75) (2 ^ 83) before.ends ends are;
          width = narrow-strip faces count (λ f. volume_part s (doubled_area f)) are before.width width;
          sharp = λ chosen all. open-strip faces count chosen (λ f. volume_part s (doubled_area f)) are (before.sharp chosen all) (λ e. clear (all count less e)) width;
        }

      module _ (sums one : Wet) {end : ℕ} (before : AreStripSums count end sums) (ends : AreStripEnds (length (strip_faces faces count)) 1 one) where
        mx_small : EndsAtMost (2 ^ 115) one.mx.lo one.mx.hi
        mx_small = small (omega (arith, few)) ends.mx

        mv_small : EndsAtMost (2 ^ 115) one.mv.lo one.mv.hi
        mv_small = small (omega (arith, few)) ends.mv

        mu_small : EndsAtMost (2 ^ 115) one.mu.lo one.mu.hi
        mu_small = small (omega (arith, few)) ends.mu

        pub strips-fit : CanAdd sums one
        strips-fit = record {
          volume = sum-allowed IsPlace volume_at 2 (2 ^ 115) strips count sums.volume one.volume less before.volume (volume_small ends.volume) 64 (omega (arith, bounded)) (omega arith);
          mx = sum-allowed IsPlace mx_at 2 (2 ^ 115) strips count sums.mx one.mx less before.mx mx_small 64 (omega (arith, bounded)) (omega arith);
          mv = sum-allowed IsPlace mv_at 2 (2 ^ 115) strips count sums.mv one.mv less before.mv mv_small 64 (omega (arith, bounded)) (omega arith);
          mu = sum-allowed IsPlace mu_at 4 (2 ^ 115) strips count sums.mu one.mu less before.mu mu_small 64 (omega (arith, bounded)) (omega arith);
        }

        plain : (faces strips : ℕ) (most : ℕ) {lo hi : ℤ} → EndsAtMost (faces * most + strips) lo hi → EndsAtMost (faces * most + strips * 1) lo hi
        plain faces strips most e = record { low = omega (arith, e.low); high = omega (arith, e.high) }

        plain_again : (faces strips : ℕ) (most : ℕ) {lo hi : ℤ} → EndsAtMost (faces * most + strips * 1) lo hi → EndsAtMost (faces * most + strips) lo hi
        plain_again faces strips most e = record { low = omega (arith, e.low); high = omega (arith, e.high) }

        pub strips-more : (r : Wet)
            → ((i : Place) → IsPlace i → ContainsFraction 20 one.volume.lo one.volume.hi (volume_at i (strip_at i.stations count) ⊗ whole (pos 2)))
            → ((i : Place) → IsPlace i → ContainsFraction 20 one.mx.lo one.mx.hi (mx_at i (strip_at i.stations count) ⊗ whole (pos 2)))
            → ((i : Place) → IsPlace i → ContainsFraction 20 one.mv.lo one.mv.hi (mv_at i (strip_at i.stations count) ⊗ whole (pos 2)))
            → ((i : Place) → IsPlace i → ContainsFraction 20 one.mu.lo one.mu.hi (mu_at i (strip_at i.stations count) ⊗ whole (pos 4)))
            → AreStripWidths (λ g. sum_over g (strip_faces faces count)) 1 (whole faces.last_x) h s one
            → (IsClear faces planes count → IsNarrow 20 (units 20 3) one.volume.lo one.volume.hi × IsNarrow 20 (units 20 3) one.mx.lo one.mx.hi)
            → IsSum sums one r → AreStripSums (count + 1) end r
        strips-more r volume mx mv mu widths clear are = record {
          all = before.all;
          volume = sum-step IsPlace volume_at 2 (2 ^ 115) strips count sums.volume one.volume less before.volume (volume_small ends.volume) [] r.volume volume are.volume;
          mx = sum-step IsPlace mx_at 2 (2 ^ 115) strips count sums.mx one.mx less before.mx mx_small [] r.mx mx are.mx;
          mv = sum-step IsPlace mv_at 2 (2 ^ 115) strips count sums.mv one.mv less before.mv mv_small [] r.mv mv are.mv;
          mu = sum-step IsPlace mu_at 4 (2 ^ 115) strips count sums.mu one.mu less before.mu mu_small [] r.mu mu are.mu;
          ends = record {
            volume = joined (7 * 2 ^ 75) (2 ^ 83) before.ends.volume ends.volume are.volume;
            mx = joined (5 * 2 ^ 97) (2 ^ 102) before.ends.mx ends.mx are.mx;
            mv = plain_again (faces_to faces (count + 1)) (count + 1) (5 * 2 ^ 95)
                (joined (5 * 2 ^ 95) 1 (plain (faces_to faces count) count (5 * 2 ^ 95) before.ends.mv) (plain (length (strip_faces faces count)) 1 (5 * 2 ^ 95) ends.mv) are.mv);
            mu = plain_again (faces_to faces (count + 1)) (count + 1) (41 * 2 ^ 95)
                (joined (41 * 2 ^ 95) 1 (plain (faces_to faces count) count (41 * 2 ^ 95) before.ends.mu) (plain (length (strip_faces faces count)) 1 (41 * 2 ^ 95) ends.mu) are.mu);
          };
          widths = widths-strip faces count (whole faces.last_x) h s sums one r before.widths widths are;
          sharp = λ chosen all. (
            open-strip faces count chosen (λ f. volume_part s (doubled_area f)) are.volume (before.sharp chosen all).0 (λ e. (clear (all count less e)).0) widths.volume,
            open-strip faces count chosen (λ f. length_part (whole faces.last_x) s (doubled_area f)) are.mx (before.sharp chosen all).1 (λ e. (clear (all count less e)).1) widths.mx,
          );
        }

  -- ---- all strips
  pub counted : {f : Place → List Station → Fraction} {times : ℕ} (count : ℕ) {end : ℕ} (sum : Span 20) → end ≡ strip_count faces → end ≤ count → IsStripSum f times count sum → count ≡ strip_count faces
  counted count sum all over sums = omega (arith, all, over, sums.seen)

  pub held : (f : Place → List Station → Fraction) (times : ℕ) (count : ℕ) {end : ℕ} (sum : Span 20) → end ≡ strip_count faces → end ≤ count → IsStripSum f times count sum
      → (i : Place) → IsPlace i → {value : Fraction} → value ≡ sum_over (f i) (strips_of i.stations) → ContainsFraction 20 sum.lo sum.hi (value ⊗ whole (pos times))
  held f times count {end} sum all over sums i is e = subst (λ (x : Fraction). ContainsFraction 20 sum.lo sum.hi (x ⊗ whole (pos times))) (sym e)
      (sum-end IsPlace f times (2 ^ 115) strips count sum (subst (λ (n : ℕ). n ≤ count) all over) sums i is)
