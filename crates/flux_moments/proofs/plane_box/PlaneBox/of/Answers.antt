use Rattle.std.proofs.Common.{refl, sym, ◌∙◌, arith}
use Rattle.std.proofs.lemmas.Int.{ints, to_z-of_z}
use Rattle.std.proofs.lemmas.Bool.{false≢true}
use Rattle.std.specs.Int.{w64}
use mir.Val.{SFits}
use Rattle.flux_moments.proofs.plane_box.PlaneBox.of.Goals as goal
use Rattle.flux_moments.proofs.plane_box.PlaneBox.of.Goals.{else-a1-a2-via-then-a1-a2+then-f1-f2+then-is_level+then-is_level-2+then-is_level-3+else-is_level-4, else-a1-a2-via-then-a1-a2+then-f1-f2+then-is_level+then-is_level-2+else-is_level-3, else-a1-a2-via-then-a1-a2+then-f1-f2+then-is_level+else-is_level-2, else-a1-a2-via-then-a1-a2+then-f1-f2+else-is_level, else-a1-a2-via-then-a1-a2+else-f1-f2, else-a1-a2-via-else-a1-a2}

pub invariant_of-result : goal.invariant_of-result
invariant_of-result c = record {
  levels = record {
    aft = omega (arith, ints, c.if-a1-a2.true);
    fore = omega (arith, ints, c.if-f1-f2.true);
    first = c.is_level.ensures.0 c.if-is_level.true;
    second = c.is_level-then-is_level.ensures.0 c.if-is_level-2.true;
    third = c.is_level-then-is_level-2.ensures.0 c.if-is_level-3.true;
    fourth = c.is_level-then-is_level-3.ensures.0 c.if-is_level-4.true;
  };
}

pub returns-then-is_level-4-clause-some : goal.returns-then-is_level-4-clause-some
returns-then-is_level-4-clause-some c =
    let a1 : SFits w64 c.args.a1 = c.ranges.a1 in
    let a2 : SFits w64 c.args.a2 = c.ranges.a2 in
    let f1 : SFits w64 c.args.f1 = c.ranges.f1 in
    let f2 : SFits w64 c.args.f2 = c.ranges.f2 in
    let aft = simp to_z-of_z at c.if-a1-a2.true in
    let fore = simp to_z-of_z at c.if-f1-f2.true in
    let first = simp to_z-of_z at (c.is_level.ensures.0 c.if-is_level.true) in
    let second = simp to_z-of_z at (c.is_level-then-is_level.ensures.0 c.if-is_level-2.true) in
    let third = simp to_z-of_z at (c.is_level-then-is_level-2.ensures.0 c.if-is_level-3.true) in
    let fourth = simp to_z-of_z at (c.is_level-then-is_level-3.ensures.0 c.if-is_level-4.true) in
    (λ _. record { aft = omega (arith, ints, aft); fore = omega (arith, ints, fore); first = first; second = second; third = third; fourth = fourth }, λ _. refl)

pub returns-else-a1-a2-clause-some : goal.returns-else-a1-a2-clause-some
returns-else-a1-a2-clause-some c =
    let a1 : SFits w64 c.args.a1 = c.ranges.a1 in
    let a2 : SFits w64 c.args.a2 = c.ranges.a2 in
    let f1 : SFits w64 c.args.f1 = c.ranges.f1 in
    let f2 : SFits w64 c.args.f2 = c.ranges.f2 in (
      λ t. absurd (false≢true t),
      λ l. elim c.else-a1-a2.branch [
        | else-a1-a2-via-then-a1-a2+then-f1-f2+then-is_level+then-is_level-2+then-is_level-3+else-is_level-4 w ↦ sym w.if-is_level-4.false ∙ w.is_level-then-is_level-3.ensures.1 (simp to_z-of_z l.fourth)
        | else-a1-a2-via-then-a1-a2+then-f1-f2+then-is_level+then-is_level-2+else-is_level-3 w ↦ sym w.if-is_level-3.false ∙ w.is_level-then-is_level-2.ensures.1 (simp to_z-of_z l.third)
        | else-a1-a2-via-then-a1-a2+then-f1-f2+then-is_level+else-is_level-2 w ↦ sym w.if-is_level-2.false ∙ w.is_level-then-is_level.ensures.1 (simp to_z-of_z l.second)
        | else-a1-a2-via-then-a1-a2+then-f1-f2+else-is_level w ↦ sym w.if-is_level.false ∙ w.is_level.ensures.1 (simp to_z-of_z l.first)
        | else-a1-a2-via-then-a1-a2+else-f1-f2 w ↦ absurd (omega (arith, ints, l.fore, simp to_z-of_z at w.if-f1-f2.false))
        | else-a1-a2-via-else-a1-a2 w ↦ absurd (omega (arith, ints, l.aft, simp to_z-of_z at w.if-a1-a2.false))
      ],
    )
