-- What is read of the tables, by the definitions of the readings.
use Rattle.std.proofs.Common.{◌≡◌, refl, sym, ap, ◌∙◌, subst, [], ◌∷◌, ℕ, zero, suc, ◌<◌, ◌≤◌, List, length, Option, Some, slice_get, arith}
use Rattle.std.specs.Prelude.{option_and_then}
use Rattle.exact_algebra.proofs.Fraction.{Fraction}
use Rattle.exact_fraction.specs.Bounds.{MagnitudeBelow}
use Rattle.outward_interval.specs.Ends.{EndsBelow}
use Rattle.outward_interval.specs.declared.span.Span.{Span}
use Rattle.angle_bounds.specs.declared.bracket.Bracket.{Bracket}
use Rattle.hull_model.specs.declared.opening.Opening.{Opening}
use Rattle.dynamic_lever.specs.Sides.{OnSides, OnBoth}
use Rattle.dynamic_lever.specs.declared.rows.Arm.{Arm}
use Rattle.dynamic_lever.specs.declared.rows.ArmTable.{ArmTable}
use Rattle.intact_criteria.specs.declared.finding.Side.{Side}
use Rattle.intact_criteria.specs.declared.finding.Side.TheVariants.{Port, Starboard}
use Rattle.intact_criteria.specs.Figures.{sign_of}
use Rattle.intact_criteria.specs.Readings.{Ends, HasEnds, ends_of, ends_if_there, on_side, gz_at, separation_at, depth_of, depth_at}

-- what stands at a place of a list
pub at_place : {X : Type 0} (xs : List X) (k : ℕ) → k < length xs → (x : X) × (slice_get xs k ≡ Some x)
at_place [] k h = absurd (omega arith)
at_place (x ∷ xs) zero h = (x, refl)
at_place (x ∷ xs) (suc k) h = at_place xs k (omega arith)

-- of a list for the degrees from 0 to 90
pub at_degree : {X : Type 0} (xs : List X) → length xs ≡ 91 → (k : ℕ) → k ≤ 90 → (x : X) × (slice_get xs k ≡ Some x)
at_degree xs count k few = at_place xs k (within (length xs) count)
  where
    within : (n : ℕ) → n ≡ 91 → k < n
    within n e = omega arith

-- ---- one of two spans
pub ends_below : (bits : ℕ) (ends : Ends) (span : Span 20) → HasEnds ends span → EndsBelow bits ends.lo ends.hi → EndsBelow bits span.lo span.hi
ends_below bits ends span has small = record { low = subst (MagnitudeBelow bits) (sym has.low) small.low; high = subst (MagnitudeBelow bits) (sym has.high) small.high }

pub at_side : (P : Fraction → Span 20 → Type 0) (spans : List (Span 20)) (side : Side) → OnSides P spans → (s : Span 20) × (on_side side spans ≡ Some s) × P (sign_of side) s
at_side P [] side h = absurd h
at_side P (p ∷ []) side h = absurd h
at_side P (p ∷ s ∷ []) Port h = (p, refl, h.0)
at_side P (p ∷ s ∷ []) Starboard h = (s, refl, h.1)
at_side P (p ∷ s ∷ t ∷ more) side h = absurd h

-- what holds of each holds on both sides
pub each_side : (P : Span 20 → Type 0) (spans : List (Span 20)) → OnBoth P spans → OnSides (λ sign s. P s) spans
each_side P [] h = h
each_side P (p ∷ []) h = h
each_side P (p ∷ s ∷ []) h = h
each_side P (p ∷ s ∷ t ∷ more) h = h

-- ---- a row
module _ (spans : Arm → List (Span 20)) (arms : ArmTable) (side : Side) (k : ℕ) (arm : Arm) (row : slice_get arms.rows k ≡ Some arm) where
  abbrev read : Ends
  read = ends_if_there (option_and_then (λ (a : Arm). on_side side (spans a)) (slice_get arms.rows k))

  ends_read : (span : Span 20) → on_side side (spans arm) ≡ Some span → read ≡ ends_of span
  ends_read span at = ap (λ (r : Option Arm). ends_if_there (option_and_then (λ (a : Arm). on_side side (spans a)) r)) row ∙ ap ends_if_there at

  span_read : (span : Span 20) → on_side side (spans arm) ≡ Some span → HasEnds read span
  span_read span at = record { low = sym (ap (λ x. x.lo) (ends_read span at)); high = sym (ap (λ x. x.hi) (ends_read span at)) }

  side_read : (P : Fraction → Ends → Type 0) → OnSides (λ sign s. P sign (ends_of s)) (spans arm) → P (sign_of side) read
  side_read P h = at (at_side (λ sign s. P sign (ends_of s)) (spans arm) side h)
    where
      at : (s : Span 20) × (on_side side (spans arm) ≡ Some s) × P (sign_of side) (ends_of s) → P (sign_of side) read
      at f = subst (P (sign_of side)) (sym (ends_read f.0 f.1)) f.2

module _ (arms : ArmTable) (side : Side) (k : ℕ) (arm : Arm) (row : slice_get arms.rows k ≡ Some arm) where
  pub gz_read : (span : Span 20) → on_side side arm.gz ≡ Some span → HasEnds (gz_at arms side k) span
  unfolding gz_at
  gz_read = span_read (λ a. a.gz) arms side k arm row

  pub gz_of_side : (P : Fraction → Ends → Type 0) → OnSides (λ sign s. P sign (ends_of s)) arm.gz → P (sign_of side) (gz_at arms side k)
  unfolding gz_at
  gz_of_side = side_read (λ a. a.gz) arms side k arm row

  pub separation_read : (span : Span 20) → on_side side arm.sep ≡ Some span → HasEnds (separation_at arms side k) span
  unfolding separation_at
  separation_read = span_read (λ a. a.sep) arms side k arm row

  pub separation_of_side : (P : Fraction → Ends → Type 0) → OnSides (λ sign s. P sign (ends_of s)) arm.sep → P (sign_of side) (separation_at arms side k)
  unfolding separation_at
  separation_of_side = side_read (λ a. a.sep) arms side k arm row

-- ---- an opening
pub depth_read : (brackets : List Bracket) (arms : ArmTable) (openings : List Opening) (place k : ℕ) (bracket : Bracket) (arm : Arm) (o : Opening)
    → slice_get brackets k ≡ Some bracket → slice_get arms.rows k ≡ Some arm → slice_get openings place ≡ Some o → depth_at brackets arms openings place k ≡ depth_of bracket arm.drafts o
unfolding depth_at
depth_read brackets arms openings place k bracket arm o at row there = rw (at, row, there) refl
