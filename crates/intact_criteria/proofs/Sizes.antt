-- How large depths and areas are.
use Rattle.angle_bounds.specs.declared.bracket.Bracket.{Bracket}
use Rattle.exact_algebra.specs.Span.{floor_of, ceiling_of}
use Rattle.flux_moments.proofs.Heights.{cosine_ends, sine_ends}
use Rattle.hull_model.specs.declared.opening.Opening.{Opening}
use Rattle.intact_criteria.specs.AreaToFlooding.{area_between, difference}
use Rattle.intact_criteria.specs.Readings.{Ends, nothing, depth_at, depth_if_there, depth_of, least_depth, greatest_depth}
use Rattle.dynamic_lever.specs.declared.rows.Arm.{Arm}
use Rattle.dynamic_lever.specs.declared.rows.ArmTable.{ArmTable}
use Rattle.draft_bracket.specs.declared.drafts.Drafts.{Drafts}
use Rattle.std.proofs.Common.{ℕ, ◌<◌, ◌≤◌, pos, arith, List, Option, Some, None, ℤ, slice_get, ◌^◌, Bool, true, false, ◌==◌, if◌then◌else◌, neg_ℤ, ◌-ℤ◌, ◌*ℤ◌, unsigned_abs}
use Rattle.std.proofs.lemmas.Int.{ints}
use Rattle.intact_criteria.proofs.Soundness.{IsSmall, Bounded}
use Rattle.intact_criteria.proofs.DepthEnds.{y_small, z_small, times-small, level-small, raised-small, floor-small}

-- ---- depths
depth-small : (bracket : Bracket) (drafts : Drafts) (o : Opening) → Bounded (depth_of bracket drafts o)
depth-small bracket drafts o = record {
  low = below (unsigned_abs (floor_of (least_depth bracket drafts o) (2 ^ 20))) (floor-small (least_depth bracket drafts o) least);
  high = below (unsigned_abs (ceiling_of (greatest_depth bracket drafts o) (2 ^ 20))) (opposite (floor_of (neg_ℤ (greatest_depth bracket drafts o)) (2 ^ 20)) (floor-small (neg_ℤ (greatest_depth bracket drafts o)) (opposite (greatest_depth bracket drafts o) greatest)));
}
  where
    below : (x : ℕ) → x ≤ 2 ^ 59 → x < 2 ^ 96
    below x h = omega arith

    opposite : (z : ℤ) → unsigned_abs z ≤ 2 ^ 59 → unsigned_abs (neg_ℤ z) ≤ 2 ^ 59
    opposite z h = omega (arith, ints)

    least : unsigned_abs (least_depth bracket drafts o) ≤ 2 ^ 59
    least = raised-small (drafts.d1 *ℤ pos (2 ^ 30)) (bracket.c.hi *ℤ o.z) (bracket.s.lo *ℤ o.y) (level-small drafts.d1 drafts.first_range) (times-small bracket.c.hi o.z (cosine_ends bracket).high (z_small o)) (times-small bracket.s.lo o.y (sine_ends bracket).low (y_small o))

    greatest : unsigned_abs (greatest_depth bracket drafts o) ≤ 2 ^ 59
    greatest = raised-small (drafts.d2 *ℤ pos (2 ^ 30)) (bracket.c.lo *ℤ o.z) (bracket.s.hi *ℤ o.y) (level-small drafts.d2 drafts.last_range) (times-small bracket.c.lo o.z (cosine_ends bracket).low (z_small o)) (times-small bracket.s.hi o.y (sine_ends bracket).high (y_small o))

pub nothing-small : Bounded nothing
nothing-small = record { low = omega arith; high = omega arith }

pub depths_small : (brackets : List Bracket) (arms : ArmTable) (openings : List Opening) (place k : ℕ) → Bounded (depth_at brackets arms openings place k)
unfolding depth_at
depths_small brackets arms openings place k = go (slice_get brackets k) (slice_get arms.rows k) (slice_get openings place)
  where
    go : (b : Option Bracket) (a : Option Arm) (o : Option Opening) → Bounded (depth_if_there b a o)
    go (Some b) (Some a) (Some o) = depth-small b a.drafts o
    go None a o = nothing-small
    go (Some b) None o = nothing-small
    go (Some b) (Some a) None = nothing-small

-- ---- areas and levers
pub wider : (ends : Ends) → IsSmall ends → Bounded ends
wider ends h = record { low = below _ h.low; high = below _ h.high }
  where
    below : (x : ℕ) → x < 2 ^ 95 → x < 2 ^ 96
    below x h = omega arith

pub area-small : (separation : ℕ → Ends) → ((k : ℕ) → k ≤ 90 → IsSmall (separation k)) → (from to : ℕ) → from ≤ 90 → to ≤ 90 → Bounded (area_between separation from to)
area-small separation small from to h k = at (from == to)
  where
    apart : (a b : ℤ) → unsigned_abs a < 2 ^ 95 → unsigned_abs b < 2 ^ 95 → unsigned_abs (a -ℤ b) < 2 ^ 96
    apart a b h k = omega (arith, ints)

    at : (b : Bool) → Bounded (if b then nothing else difference (separation to) (separation from))
    at true = nothing-small
    at false = record {
      low = apart (separation to).lo (separation from).hi (small to k).low (small from h).high;
      high = apart (separation to).hi (separation from).lo (small to k).high (small from h).low;
    }
