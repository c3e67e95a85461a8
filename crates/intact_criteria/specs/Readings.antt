-- What the rules read of the tables: the ends of intervals by degree, in units of 2^-20 mm or mm·rad.
use Rattle.std.specs.Prelude.{◌≡◌, ℕ, ◌^◌, ℤ, pos, ◌+ℤ◌, ◌-ℤ◌, ◌*ℤ◌, List, length, Option, Some, None, slice_get, option_and_then}
use Rattle.exact_algebra.specs.Span.{floor_of, ceiling_of}
use Rattle.outward_interval.specs.declared.span.Span.{Span}
use Rattle.angle_bounds.specs.declared.bracket.Bracket.{Bracket}
use Rattle.hull_model.specs.declared.opening.Opening.{Opening}
use Rattle.draft_bracket.specs.declared.drafts.Drafts.{Drafts}
use Rattle.dynamic_lever.specs.declared.rows.Arm.{Arm}
use Rattle.dynamic_lever.specs.declared.rows.ArmTable.{ArmTable}
use Rattle.dynamic_lever.specs.declared.rows.UprightRow.{UprightRow}
use Rattle.intact_criteria.specs.declared.finding.Side.{Side}
use Rattle.intact_criteria.specs.declared.finding.Side.TheVariants.{Port, Starboard}

-- the ends of an interval
pub record Ends : Type 0 where
  pub lo : ℤ
  pub hi : ℤ

-- the interval of 0 alone
abbrev pub nothing : Ends
nothing = record { lo = pos 0; hi = pos 0 }

abbrev pub ends_of : Span 20 → Ends
ends_of span = record { lo = span.lo; hi = span.hi }

-- the ends of a span, where there is one
abbrev pub ends_if_there : Option (Span 20) → Ends
ends_if_there None = nothing
ends_if_there (Some span) = ends_of span

-- the span has these ends
pub record HasEnds (ends : Ends) (span : Span 20) : Type 0 where
  pub low : span.lo ≡ ends.lo
  pub high : span.hi ≡ ends.hi

-- of two spans, port first, that of a side
abbrev pub on_side : Side → List (Span 20) → Option (Span 20)
on_side Port spans = slice_get spans 0
on_side Starboard spans = slice_get spans 1

-- GZ and separation of a degree on a side
unfoldable pub gz_at : ArmTable → Side → ℕ → Ends
gz_at arms side degree = ends_if_there (option_and_then (λ (arm : Arm). on_side side arm.gz) (slice_get arms.rows degree))

unfoldable pub separation_at : ArmTable → Side → ℕ → Ends
separation_at arms side degree = ends_if_there (option_and_then (λ (arm : Arm). on_side side arm.sep) (slice_get arms.rows degree))

-- the least and the greatest depth of an opening, in units of 2^-40 mm: the level less c z - s y
abbrev pub least_depth : Bracket → Drafts → Opening → ℤ
least_depth bracket drafts o = ((drafts.d1 *ℤ pos (2 ^ 30)) -ℤ (bracket.c.hi *ℤ o.z)) +ℤ (bracket.s.lo *ℤ o.y)

abbrev pub greatest_depth : Bracket → Drafts → Opening → ℤ
greatest_depth bracket drafts o = ((drafts.d2 *ℤ pos (2 ^ 30)) -ℤ (bracket.c.lo *ℤ o.z)) +ℤ (bracket.s.hi *ℤ o.y)

-- the least interval that has both
abbrev pub depth_of : Bracket → Drafts → Opening → Ends
depth_of bracket drafts o = record { lo = floor_of (least_depth bracket drafts o) (2 ^ 20); hi = ceiling_of (greatest_depth bracket drafts o) (2 ^ 20) }

abbrev pub depth_if_there : Option Bracket → Option Arm → Option Opening → Ends
depth_if_there (Some bracket) (Some arm) (Some o) = depth_of bracket arm.drafts o
depth_if_there _ _ _ = nothing

-- the depth of the opening at a place of the list, at a degree
unfoldable pub depth_at : List Bracket → ArmTable → List Opening → ℕ → ℕ → Ends
depth_at brackets arms openings place degree = depth_if_there (slice_get brackets degree) (slice_get arms.rows degree) (slice_get openings place)

-- how many openings there are, and the depth of each by its place and the degree
pub record Leaks : Type 0 where
  pub openings : ℕ
  pub depth : ℕ → ℕ → Ends

abbrev pub leaks_of : List Bracket → ArmTable → List Opening → Leaks
leaks_of brackets arms openings = record { openings = length openings; depth = depth_at brackets arms openings }

-- all that the rules read of one side
pub record Readings : Type 0 where
  pub gz : ℕ → Ends
  pub separation : ℕ → Ends
  pub gm : Ends
  pub leaks : Leaks

abbrev pub readings_of : List Bracket → ArmTable → UprightRow → List Opening → Side → Readings
readings_of brackets arms upright openings side = record {
  gz = gz_at arms side;
  separation = separation_at arms side;
  gm = ends_of upright.gm;
  leaks = leaks_of brackets arms openings;
}
