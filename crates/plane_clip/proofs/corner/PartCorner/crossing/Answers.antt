use mathlib.Core.Path.{◌≡◌, sym, ◌∙◌, ap, subst}
use Rattle.std.proofs.Common.{pos, ◌-ℤ◌, ◌<ℤ◌, arith}
use Rattle.std.proofs.lemmas.Int.{ints, to_z-of_z}
use Rattle.std.specs.Int.{w128}
use mir.Val.{SFits}
use Rattle.exact_algebra.proofs.Fraction.{Fraction}
use Rattle.exact_algebra.proofs.Span.{ContainsFraction}
use Rattle.exact_algebra.proofs.Whole.{whole}
use Rattle.hull_model.specs.Body.{IsWithin}
use Rattle.hull_model.specs.Fractions.{interpolated}
use Rattle.plane_clip.specs.Ways.{part_to}
use Rattle.plane_clip.proofs.CornerCrossings.{down-part, up-part, down-point, up-point, before_unless, place_fits, way_fits, way_within}
use Rattle.plane_clip.proofs.corner.PartCorner.crossing.Goals as goal

pub returns-then-self-other-clause-holds : goal.returns-then-self-other-clause-holds
returns-then-self-other-clause-holds c p q h k =
    let a = c.args.self.now in
    let b = c.args.other.now in
    let at : SFits w128 c.args.at = c.ranges.at in
    let at_a : SFits w128 a.x = place_fits a.x a.place in
    let at_b : SFits w128 b.x = place_fits b.x b.place in
    let within : IsWithin (pos 524287) c.args.at = way_within c.args.at a.x b.x a.place b.place c.requires in
    let first : SFits w128 (a.x -ℤ c.args.at) = way_fits a.x c.args.at a.place within in
    let second : SFits w128 (a.x -ℤ b.x) = way_fits a.x b.x a.place b.place in
    let order : b.x <ℤ a.x = omega (arith, ints, c.if-self-other.true) in
    let y = simp to_z-of_z at c.at_part.ensures.y in
    let z = simp to_z-of_z at c.at_part.ensures.z in
    let x : c.at_part.result.x ≡ c.args.at = simp to_z-of_z at c.at_part.ensures.x in
    let same = down-part a.x b.x c.args.at order ∙ (λ i. part_to (sym h.x i) (sym k.x i) (whole c.args.at)) in
    record {
      x = (λ i. interpolated (part_to (h.x i) (k.x i) (whole c.args.at)) (h.x i) (k.x i)) ∙ down-point a.x b.x c.args.at order ∙ ap whole (sym x);
      y = subst (λ (t : Fraction). ContainsFraction 20 c.at_part.result.y.lo c.at_part.result.y.hi (interpolated t p.y q.y)) same (y p.y q.y h.y k.y);
      z = subst (λ (t : Fraction). ContainsFraction 20 c.at_part.result.z.lo c.at_part.result.z.hi (interpolated t p.z q.z)) same (z p.z q.z h.z k.z);
    }

pub returns-else-self-other-clause-holds : goal.returns-else-self-other-clause-holds
returns-else-self-other-clause-holds c p q h k =
    let a = c.args.self.now in
    let b = c.args.other.now in
    let at : SFits w128 c.args.at = c.ranges.at in
    let at_a : SFits w128 a.x = place_fits a.x a.place in
    let at_b : SFits w128 b.x = place_fits b.x b.place in
    let within : IsWithin (pos 524287) c.args.at = way_within c.args.at a.x b.x a.place b.place c.requires in
    let first : SFits w128 (c.args.at -ℤ a.x) = way_fits c.args.at a.x within a.place in
    let second : SFits w128 (b.x -ℤ a.x) = way_fits b.x a.x b.place a.place in
    let order : a.x <ℤ b.x = before_unless c.args.at a.x b.x c.requires (λ m. omega (arith, ints, m, c.if-self-other.false)) in
    let y = simp to_z-of_z at c.at_part-else-self-other.ensures.y in
    let z = simp to_z-of_z at c.at_part-else-self-other.ensures.z in
    let x : c.at_part-else-self-other.result.x ≡ c.args.at = simp to_z-of_z at c.at_part-else-self-other.ensures.x in
    let same = up-part a.x b.x c.args.at order ∙ (λ i. part_to (sym h.x i) (sym k.x i) (whole c.args.at)) in
    record {
      x = (λ i. interpolated (part_to (h.x i) (k.x i) (whole c.args.at)) (h.x i) (k.x i)) ∙ up-point a.x b.x c.args.at order ∙ ap whole (sym x);
      y = subst (λ (t : Fraction). ContainsFraction 20 c.at_part-else-self-other.result.y.lo c.at_part-else-self-other.result.y.hi (interpolated t p.y q.y)) same (y p.y q.y h.y k.y);
      z = subst (λ (t : Fraction). ContainsFraction 20 c.at_part-else-self-other.result.z.lo c.at_part-else-self-other.result.z.hi (interpolated t p.z q.z)) same (z p.z q.z h.z k.z);
    }
