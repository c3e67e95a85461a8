use Rattle.std.proofs.Common.{◌≡◌, sym, ◌∙◌, ap, subst, inl, inr, ℕ, ◌+◌, ◌<◌, ◌≤◌, List, Some, slice_get, rules, arith}
use Rattle.std.proofs.lemmas.Bool.{cases_lt}
use Rattle.std.proofs.lemmas.Option.{same_Some, slice_get_within}
use Rattle.dynamic_lever.specs.declared.rows.Arm.{Arm}
use Rattle.intact_criteria.specs.Tables.{IsSmallArm}
use Rattle.intact_criteria.proofs.tests.are_small.Goals as goal

one_more : (rows : List Arm) (n : ℕ) (arm : Arm) → slice_get rows n ≡ Some arm → IsSmallArm arm → ((k : ℕ) (a : Arm) → k < n → slice_get rows k ≡ Some a → IsSmallArm a)
    → (k : ℕ) (a : Arm) → k < n + 1 → slice_get rows k ≡ Some a → IsSmallArm a
one_more rows n arm there small before k a h row = elim (cases_lt k n) [ inl less ↦ before k a less row | inr more ↦ subst IsSmallArm (same more) small ]
  where
    same : n ≤ k → arm ≡ a
    same more = let e : n ≡ k = omega arith in same_Some arm a (sym there ∙ ap (slice_get rows) e ∙ row)

pub loop-degree-preserved : goal.loop-degree-preserved
loop-degree-preserved c = one_more c.args.arms.now.rows c.loop-degree.degree c.arm_at.result.now c.arm_at.ensures.row (c.is_small_arm.ensures (search rules)) c.loop-degree.invariant

pub returns : goal.returns
returns c small k arm row =
    let within : k < c.loop-degree.degree = omega (arith, slice_get_within c.args.arms.now.rows k arm row, c.arm_at-upright.ensures.count, c.loop-degree-test.false) in
    c.loop-degree.invariant k arm within row
