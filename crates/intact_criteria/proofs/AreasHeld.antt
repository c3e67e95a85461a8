-- Areas from upright hold those of every choice, and are as narrow as their separations.
use Rattle.std.proofs.Common.{refl, [], ◌∷◌, ℕ, ◌^◌, Bool, true, false, ◌==◌, if◌then◌else◌, ℤ, pos, ◌≤ℤ◌, Option, Some, None, slice_get, arith}
use Rattle.std.specs.Prelude.{option_and_then}
use Rattle.std.proofs.lemmas.Int.{ints}
use Rattle.exact_algebra.specs.Expression.{var, unit, ◌:+◌, ◌:-◌, ◌:*◌}
use Rattle.exact_algebra.proofs.Fraction.{Fraction, fractions, ◌⊕◌}
use Rattle.exact_algebra.proofs.Order.{order_from, no_more, at_most}
use Rattle.exact_algebra.proofs.Whole.{whole, whole-≼}
use Rattle.outward_interval.specs.Widths.{IsNarrow}
use Rattle.outward_interval.specs.declared.span.Span.{Span}
use Rattle.dynamic_lever.specs.declared.rows.Arm.{Arm}
use Rattle.dynamic_lever.specs.declared.rows.ArmTable.{ArmTable}
use Rattle.intact_criteria.specs.declared.finding.Side.{Side}
use Rattle.intact_criteria.specs.AreaToFlooding.{difference}
use Rattle.intact_criteria.specs.Areas.{area_at, AreasHoldAtEveryChoice}
use Rattle.intact_criteria.specs.Figures.{figures_of}
use Rattle.intact_criteria.specs.Narrow.{IsNoWider}
use Rattle.intact_criteria.specs.Readings.{ends_if_there, nothing, on_side, separation_at}
use Rattle.intact_criteria.proofs.AreaLaws.{whole_area_contained}
use Rattle.intact_criteria.proofs.ChoiceLaws.{separation_contained}
use Rattle.intact_criteria.proofs.NarrowLaws.{difference_narrow}

-- ---- widths
-- bounds of the widths of two intervals together aren't below 0
nothing_narrow : {F : ℕ} {a b c d : ℤ} {w v : Fraction} → a ≤ℤ b → c ≤ℤ d → IsNarrow F w a b → IsNarrow F v c d → IsNarrow F (w ⊕ v) (pos 0) (pos 0)
nothing_narrow {F} {a} {b} {c} {d} {w} {v} ab cd n m = record {
  width = order_from fractions (whole a ∷ whole b ∷ whole c ∷ whole d ∷ w ∷ v ∷ whole (pos (2 ^ F)) ∷ whole (pos 0) ∷ [])
      ((unit, var 0, var 1) ∷ (unit, var 2, var 3) ∷ (unit, var 1 :- var 0, var 4 :* var 6) ∷ (unit, var 3 :- var 2, var 5 :* var 6) ∷ [])
      (at_most (whole-≼ ab) (at_most (whole-≼ cd) (at_most n.width (at_most m.width no_more)))) (var 7 :- var 7) ((var 4 :+ var 5) :* var 6) refl;
}

ordered : (span : Option (Span 20)) → (ends_if_there span).lo ≤ℤ (ends_if_there span).hi
ordered None = omega (arith, ints)
ordered (Some span) = span.ordered

separation_ordered : (arms : ArmTable) (side : Side) (k : ℕ) → (separation_at arms side k).lo ≤ℤ (separation_at arms side k).hi
unfolding separation_at
separation_ordered arms side k = ordered (option_and_then (λ (arm : Arm). on_side side arm.sep) (slice_get arms.rows k))

area_narrow : (arms : ArmTable) (side : Side) (k : ℕ) (w v : Fraction) → IsNoWider w (separation_at arms side k) → IsNoWider v (separation_at arms side 0) → IsNoWider (w ⊕ v) (area_at arms side k)
area_narrow arms side k w v n m = at (0 == k)
  where
    at : (same : Bool) → IsNoWider (w ⊕ v) (if same then nothing else difference (separation_at arms side k) (separation_at arms side 0))
    at true = nothing_narrow (separation_ordered arms side k) (separation_ordered arms side 0) n m
    at false = difference_narrow w v (separation_at arms side k) (separation_at arms side 0) n m

-- ---- the law
pub areas_hold : AreasHoldAtEveryChoice
areas_hold = record {
  contained = λ hull loading water arms upright openings count hold choice is side k few.
      whole_area_contained (separation_at arms side) (figures_of hull loading water openings choice side) (separation_contained arms count upright hull loading water hold choice is side) k few;
  narrow = area_narrow;
}
