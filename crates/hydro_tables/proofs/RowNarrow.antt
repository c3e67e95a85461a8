-- How wide the spans of a row are, from how wide the measured integrals are.
use Rattle.std.proofs.Common.{◌≡◌, refl, sym, ◌∙◌, subst, inl, inr, [], ◌∷◌, ℕ, ◌*◌, ◌^◌, ◌≤◌, ℤ, pos, ◌≤ℤ◌, ◌↔◌, Option, None, Some, IfSome, IsNone, IsSome, arith}
use Rattle.std.proofs.lemmas.Bool.{true≢false}
use Rattle.std.proofs.lemmas.Int.{ints}
use Rattle.std.specs.List.{AllByRecursion}
use Rattle.exact_algebra.specs.Expression.{var, unit, ◌:+◌, ◌:*◌, opposite}
use Rattle.exact_algebra.proofs.Fraction.{Fraction, ◌⊕◌, ◌⊗◌, inverse, fractions, ◌≼◌}
use Rattle.exact_algebra.proofs.Bounds as Bounds
use Rattle.exact_algebra.proofs.Order as Order
use Rattle.exact_algebra.proofs.Order.{order_from, no_more, at_most, scaled, equal}
use Rattle.exact_algebra.proofs.Span.{positive-unit}
use Rattle.exact_algebra.proofs.Whole.{whole, whole-≼_out}
use Rattle.outward_interval.specs.Ends.{EndsBelow}
use Rattle.outward_interval.specs.Widths.{IsNarrow, IsNear}
use Rattle.outward_interval.specs.declared.span.Span.{Span}
use Rattle.flux_moments.specs.Limits.{EndsAtMost}
use Rattle.flux_moments.specs.declared.lid_sums.LidSums.{LidSums}
use Rattle.flux_moments.specs.declared.wet.Wet.{Wet}
use Rattle.hydro_tables.specs.Bounds.{IsSmallBeside, IsMoved, IsAboard}
use Rattle.hydro_tables.specs.Extent.{HasCentre, AreLimited, AreMeasured, product_width}
use Rattle.hydro_tables.specs.Figures as figure
use Rattle.hydro_tables.specs.Figures.{Integrals}
use Rattle.hydro_tables.specs.Row.{Holds, HoldsIfThere, AreEnclosed, IsBoundedIfThere}
use Rattle.hydro_tables.specs.Widths.{lower, upper, width_of, farthest, product_range, quotient_width, inertia_width, IsWithin, IsWithinIfThere, IsQuotientNarrow}
use Rattle.hydro_tables.proofs.FigureLaws.{about_centre}
use Rattle.hydro_tables.proofs.RowInertia.{inertia_of}
use Rattle.hydro_tables.proofs.RowQuotients.{IsAboveNought, positive_held, bounded_if_there}
use Rattle.hydro_tables.proofs.RowWidths.{in_unit-in, above_lower, below_upper, upper_by_width, least_width}
use Rattle.hydro_tables.proofs.InertiaWidths.{inertia_narrow, farthest_far, nonnegative_farthest}
use Rattle.hydro_tables.proofs.TrimWidths.{trim_narrow}
use Rattle.hydro_tables.proofs.VolumeMove.{moved_narrow, kept_narrow, linear_small, square_small, inertia_small, halves, nonnegative-half}

-- ---- the centre of the waterplane
pub aboard_ends : (s : Option (Span 20)) → IfSome s IsAboard → IfSome s (λ s. EndsAtMost (2 ^ 40) s.lo s.hi)
aboard_ends None h = tt
aboard_ends (Some s) h = ends s.lo s.hi h.from s.ordered h.to
  where
    ends : (lo hi : ℤ) → pos 0 ≤ℤ lo → lo ≤ℤ hi → hi ≤ℤ pos (2 ^ 40) → EndsAtMost (2 ^ 40) lo hi
    ends lo hi h k l = record { low = omega (arith, ints); high = omega (arith, ints) }

pub aboard_bounded : (s : Option (Span 20)) → IfSome s IsAboard → IsBoundedIfThere s
aboard_bounded s h = bounded_if_there (2 ^ 40) s (omega arith) (aboard_ends s h)

-- the ends of an area
pub below_within : (lo hi : ℤ) → EndsBelow 72 lo hi → EndsBelow 96 lo hi
below_within lo hi h = record { low = omega (arith, h.low); high = omega (arith, h.high) }

pub centre_holds : (area result : Option (Span 20)) (sx : Span 20) (m v : Fraction)
    → IfSome result (λ s. (m v : Fraction) → HasCentre m v → Holds sx m → IfSome area (λ d. Holds d v) → Holds s (m ⊗ inverse v)) → HasCentre m v → Holds sx m → HoldsIfThere area v
    → HoldsIfThere result (m ⊗ inverse v)
centre_holds area None sx m v c at h k = tt
centre_holds area (Some s) sx m v c at h k = c m v at h k

-- ---- quotients
pub quotient_within : (divisor result : Option (Span 20)) (moment given shown : Span 20) (wm wv x v : Fraction)
    → IfSome result (λ s. IfSome divisor (λ d. IsQuotientNarrow moment d s)) → IsNone result ↔ IsNone divisor → IfSome divisor (λ d. (d ≡ given) × IsAboveNought d) → IfSome divisor (λ d. shown ≡ given)
    → IsNarrow 20 wm moment.lo moment.hi → IsNarrow 20 wv given.lo given.hi → Holds moment x → Holds given v → IsWithinIfThere (quotient_width wm wv (x ⊗ inverse v) shown) result
quotient_within divisor None moment given shown wm wv x v narrow none same kept wide wide' hx hv = tt
quotient_within None (Some s) moment given shown wm wv x v narrow none same kept wide wide' hx hv = absurd (true≢false (none.1 refl))
quotient_within (Some d) (Some s) moment given shown wm wv x v narrow none same kept wide wide' hx hv =
    subst (λ (e : Span 20). IsWithin (quotient_width wm wv (x ⊗ inverse v) e) s) (same.0 ∙ sym kept)
    (narrow wm wv x v wide (subst (λ (e : Span 20). IsNarrow 20 wv e.lo e.hi) (sym same.0) wide') hx (subst (λ (e : Span 20). Holds e v) (sym same.0) hv))

-- ---- the inertia
module _ (w i : Integrals) (limits : AreLimited w i) (below : Wet) (lid : LidSums) (h : AreEnclosed below lid i) (m : AreMeasured w below lid)
    (area lcf : Option (Span 20)) (inertia : Span 20) (same : IfSome area (λ d. (d ≡ lid.area) × IsAboveNought d)) (none : IsNone lcf ↔ IsNone area) (aboard : IfSome lcf IsAboard)
    (holds : HoldsIfThere lcf (figure.lcf i)) (centre_narrow : IfSome lcf (λ s. IfSome area (λ d. IsQuotientNarrow lid.sx d s))) (about : IfSome area (λ _. Holds inertia (inertia_of i)))
    (narrow : IfSome lcf (λ s. (m n l v y : Fraction) → IsNear 20 m s.lo s.hi → IsNear 20 n lid.sx.lo lid.sx.hi → IsNarrow 20 l s.lo s.hi → IsNarrow 20 v lid.sx.lo lid.sx.hi → IsNarrow 20 y lid.sxx.lo lid.sxx.hi
    → IsNarrow 20 (y ⊕ product_width m n l v) inertia.lo inertia.hi)) (no_centre : IsNone lcf → inertia ≡ lid.sxx) where
  -- where there is a centre, there is an area above 0
  record IsCentred (s : Span 20) : Type 0 where
    least : IsAboveNought lid.area
    on_board : IsAboard s
    centre : Holds s (figure.lcf i)
    wide : IsWithin (quotient_width w.sx w.area (figure.lcf i) lid.area) s
    inertia_held : Holds inertia (inertia_of i)
    inertia_wide : IsNarrow 20 (inertia_width w (farthest s) (upper lid.area)) inertia.lo inertia.hi

  centred : IfSome lcf IsCentred
  centred = go area lcf same none aboard holds centre_narrow about narrow
    where
      go : (area lcf : Option (Span 20)) → IfSome area (λ d. (d ≡ lid.area) × IsAboveNought d) → IsNone lcf ↔ IsNone area → IfSome lcf IsAboard → HoldsIfThere lcf (figure.lcf i)
          → IfSome lcf (λ s. IfSome area (λ d. IsQuotientNarrow lid.sx d s)) → IfSome area (λ _. Holds inertia (inertia_of i))
          → IfSome lcf (λ s. (m n l v y : Fraction) → IsNear 20 m s.lo s.hi → IsNear 20 n lid.sx.lo lid.sx.hi → IsNarrow 20 l s.lo s.hi → IsNarrow 20 v lid.sx.lo lid.sx.hi → IsNarrow 20 y lid.sxx.lo lid.sxx.hi
          → IsNarrow 20 (y ⊕ product_width m n l v) inertia.lo inertia.hi)
          → IfSome lcf IsCentred
      go area None same none aboard holds centre about narrow = tt
      go None (Some s) same none aboard holds centre about narrow = absurd (true≢false (none.1 refl))
      go (Some d) (Some s) same none aboard holds centre about narrow = record {
        least = least;
        on_board = aboard;
        centre = holds;
        wide = wide;
        inertia_held = about;
        inertia_wide = inertia_narrow w i s lid.area lid.sx aboard least h.area h.sx holds limits.sx m.area m.sx wide (limits.some_width (positive_held lid.area i.area least h.area)) lid.sxx inertia m.sxx narrow;
      }
        where
          least : IsAboveNought lid.area
          least = subst (λ (e : Span 20). IsAboveNought e) same.0 same.1

          quotients : IsQuotientNarrow lid.sx lid.area s
          quotients = subst (λ (e : Span 20). IsQuotientNarrow lid.sx e s) same.0 centre

          wide : IsWithin (quotient_width w.sx w.area (figure.lcf i) lid.area) s
          wide = quotients w.sx w.area i.sx i.area m.sx m.area h.sx h.area

  pub lcf_narrow : IsWithinIfThere (quotient_width w.sx w.area (figure.lcf i) lid.area) lcf
  lcf_narrow = go lcf centred
    where
      go : (o : Option (Span 20)) → IfSome o IsCentred → IsWithinIfThere (quotient_width w.sx w.area (figure.lcf i) lid.area) o
      go None c = tt
      go (Some s) c = c.wide

  -- no moment of a hull is too great beside a volume that is more than half of its bound
  module _ (volume : Span 20) (wide : IsNarrow 20 (w.volume ⊗ inverse (whole (pos 2))) volume.lo volume.hi) (in_volume : Holds volume i.volume) where
    moments_small : pos 1 ≤ℤ volume.lo → w.volume ⊗ inverse (whole (pos 2)) ≼ lower volume → AllByRecursion (IsSmallBeside 74 volume) (below.mx ∷ below.mu ∷ lid.syy ∷ inertia ∷ [])
    moments_small some large = (
      linear_small w i limits volume wide in_volume some large below.mx i.mx w.mx limits.mx limits.mx_width h.mx m.mx,
      (
        linear_small w i limits volume wide in_volume some large below.mu i.mu w.mu limits.mu limits.mu_width h.mu m.mu,
        (
          square_small w i limits volume wide in_volume some large lid.syy i.syy w.syy limits.syy limits.syy_width h.syy m.syy,
          (go lcf centred no_centre, tt),
        ),
      ),
    )
      where
        go : (o : Option (Span 20)) → IfSome o IsCentred → (IsNone o → inertia ≡ lid.sxx) → IsSmallBeside 74 volume inertia
        go None c e = subst (λ (s : Span 20). IsSmallBeside 74 volume s) (sym (e refl)) (square_small w i limits volume wide in_volume some large lid.sxx i.sxx w.sxx limits.sxx limits.sxx_width h.sxx m.sxx)
        go (Some s) c e =
            let positive = positive_held lid.area i.area c.least h.area in
            inertia_small w i limits volume wide in_volume some large inertia (inertia_of i) (figure.lcf i) (farthest s) (upper lid.area) (sym (about_centre i positive))
            (Order.nought-≼ fractions (Order.nonnegative-mul fractions (Order.nonnegative_from fractions limits.sx.0) (Order.nonnegative_positive fractions (Bounds.positive-inverse fractions positive))))
            (Bounds.quotient-≼ fractions positive limits.sx.1) (Order.nought-≼ fractions (nonnegative_farthest s)) (farthest_far s c.on_board)
            (Order.≼_trans fractions limits.area.0 (below_upper lid.area h.area)) area_within c.inertia_held c.inertia_wide
          where
            area_within : upper lid.area ≼ i.area ⊕ w.area
            area_within = order_from fractions (upper lid.area ∷ lower lid.area ∷ width_of lid.area ∷ w.area ∷ i.area ∷ []) ((unit, var 0, var 1 :+ var 2) ∷ (unit, var 2, var 3) ∷ (unit, var 1, var 4) ∷ [])
                (equal (upper_by_width lid.area) (at_most (least_width lid.area m.area) (at_most (above_lower lid.area h.area) no_more))) (var 0) (var 4 :+ var 3) refl

    -- the volume as it is shown
    pub shown_narrow : (taken : Option (Span 20)) (shown : Span 20) → IsMoved volume shown → IfSome taken (λ d. shown ≡ volume)
        → (pos (2 ^ 20) ≤ℤ volume.lo → AllByRecursion (IsSmallBeside 74 volume) (below.mx ∷ below.mu ∷ lid.syy ∷ inertia ∷ []) → IsSome taken) → IsNarrow 20 w.volume shown.lo shown.hi
    shown_narrow taken shown moved kept some = elim (Order.≼_total fractions (lower volume) (w.volume ⊗ inverse (whole (pos 2)))) [
      | inl k ↦ moved_narrow w i limits volume wide in_volume shown moved k
      | inr k ↦ go taken kept (some (mm k) (moments_small (unit_at_least volume.lo (mm k)) k))
    ]
      where
        unit_at_least : (z : ℤ) → pos (2 ^ 20) ≤ℤ z → pos 1 ≤ℤ z
        unit_at_least z h = omega (arith, ints)

        -- half of the bound is 1 mm³ at least
        mm : w.volume ⊗ inverse (whole (pos 2)) ≼ lower volume → pos (2 ^ 20) ≤ℤ volume.lo
        mm k = whole-≼_out (pos (2 ^ 20)) volume.lo (order_from fractions (w.volume ∷ inverse (whole (pos 2)) ∷ whole (pos 2) ∷ lower volume ∷ whole (pos (2 ^ 20)) ∷ whole volume.lo ∷ [])
            ((var 4 :* var 1, var 2, var 0) ∷ (var 4, var 0 :* var 1, var 3) ∷ (unit, var 3 :* var 4, var 5) ∷ (opposite (var 4), var 2 :* var 1, unit) ∷ [])
            (scaled (Order.nonnegative-mul fractions (Order.nonnegative_positive fractions (positive-unit 20)) nonnegative-half) limits.volume_width (scaled (Order.nonnegative_positive fractions (positive-unit 20)) k (equal (in_unit-in 20 volume.lo) (equal halves no_more)))) (var 4) (var 5) refl)

        go : (o : Option (Span 20)) → IfSome o (λ d. shown ≡ volume) → IsSome o → IsNarrow 20 w.volume shown.lo shown.hi
        go None kept s = absurd (true≢false (sym s))
        go (Some d) kept s = subst (λ (e : Span 20). IsNarrow 20 w.volume e.lo e.hi) (sym kept) (kept_narrow w i limits volume wide in_volume)

  -- ---- the longitudinal metacentre
  pub bml_narrow : (both bml : Option (Span 20)) (volume shown : Span 20) → IfSome bml (λ s. IfSome both (λ d. IsQuotientNarrow inertia d s)) → IsNone bml ↔ IsNone both
      → IfSome both (λ d. (d ≡ volume) × IsAboveNought d) → IfSome both (λ d. shown ≡ volume) → IsNarrow 20 w.volume volume.lo volume.hi → Holds volume i.volume
      → IfSome lcf (λ s. IsWithinIfThere (quotient_width (inertia_width w (farthest s) (upper lid.area)) w.volume (figure.bml i) shown) bml)
  bml_narrow both bml volume shown quotients there is kept wide in_volume = go lcf centred
    where
      go : (o : Option (Span 20)) → IfSome o IsCentred → IfSome o (λ s. IsWithinIfThere (quotient_width (inertia_width w (farthest s) (upper lid.area)) w.volume (figure.bml i) shown) bml)
      go None c = tt
      go (Some s) c = quotient_within both bml inertia volume shown (inertia_width w (farthest s) (upper lid.area)) w.volume (inertia_of i) i.volume quotients there is kept c.inertia_wide wide c.inertia_held in_volume

-- ---- the moment to change trim
pub mct_narrow : (both bml mct : Option (Span 20)) (displacement inertia : Span 20) (v : Fraction) (density length : ℕ) → 1 ≤ length → IsNone bml ↔ IsNone both → IfSome both IsAboveNought → IfSome both (λ d. Holds d v)
    → Holds displacement (v ⊗ whole (pos density) ⊗ inverse (whole (pos (10 ^ 12)))) → IfSome bml (λ s. (m v : Fraction) → Holds inertia m → IfSome both (λ d. Holds d v) → Holds s (m ⊗ inverse v))
    → IfSome mct (λ s. IsWithin (width_of inertia ⊗ (whole (pos density) ⊗ inverse (whole (pos (10 ^ 14 * length))))) s)
    → IfSome bml (λ b. IsWithinIfThere (product_range displacement b ⊗ inverse (whole (pos (100 * length)))) mct)
mct_narrow both None mct displacement inertia v density length some there least holds in_displacement quotients narrow = tt
mct_narrow both (Some b) None displacement inertia v density length some there least holds in_displacement quotients narrow = tt
mct_narrow None (Some b) (Some s) displacement inertia v density length some there least holds in_displacement quotients narrow = absurd (true≢false (there.1 refl))
mct_narrow (Some d) (Some b) (Some s) displacement inertia v density length some there least holds in_displacement quotients narrow =
    trim_narrow displacement b inertia s v density length some (positive_held d v least holds) in_displacement (λ x h. quotients x v h holds) narrow
