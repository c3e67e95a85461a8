use Rattle.std.proofs.Common.{rules, sym, ℤ}
use mathlib.Core.Path.{◌≡◌, subst}
use Rattle.std.proofs.lemmas.Int.{to_z-of_z}
use Rattle.std.specs.Int.{w64}
use mir.Val.{SFits}
use Rattle.std.specs.List.{AllByRecursion}
use Rattle.hull_polyhedron.specs.Between.{AreEnds, AreHeights, IsBetween, LieBetween, IsInside, LieInside, IsReach}
use Rattle.hull_polyhedron.specs.SideAreas.{LieLow}
use Rattle.hull_polyhedron.proofs.calls.assembled.Goals as goal

of_both : (P : ℤ → ℤ → Type 0) {a b c d : ℤ} → a ≡ c → b ≡ d → P c d → P a b
of_both P {a} {b} {c} {d} e f h = subst (λ (n : ℤ). P n b) (sym e) (subst (λ (n : ℤ). P c n) (sym f) h)

pub invariant_of-result-clause-ends : goal.invariant_of-result-clause-ends
invariant_of-result-clause-ends c =
    of_both AreEnds (to_z-of_z w64 c.args.first_x c.ranges.first_x) (to_z-of_z w64 c.args.last_x c.ranges.last_x) c.requires.ends

pub invariant_of-result-clause-between : goal.invariant_of-result-clause-between
invariant_of-result-clause-between c =
    of_both (λ first last. LieBetween first last c.args.list) (to_z-of_z w64 c.args.first_x c.ranges.first_x) (to_z-of_z w64 c.args.last_x c.ranges.last_x) c.requires.between

pub invariant_of-result-clause-heights : goal.invariant_of-result-clause-heights
invariant_of-result-clause-heights c =
    let low_z-fits : SFits w64 c.args.extent.low_z = search rules in
    let high_z-fits : SFits w64 c.args.extent.high_z = search rules in
    of_both AreHeights (to_z-of_z w64 c.args.extent.low_z low_z-fits) (to_z-of_z w64 c.args.extent.high_z high_z-fits) c.requires.heights

pub invariant_of-result-clause-reach : goal.invariant_of-result-clause-reach
invariant_of-result-clause-reach c =
    let half_breadth-fits : SFits w64 c.args.extent.half_breadth = search rules in
    let high_z-fits : SFits w64 c.args.extent.high_z = search rules in
    of_both IsReach (to_z-of_z w64 c.args.extent.half_breadth half_breadth-fits) (to_z-of_z w64 c.args.extent.high_z high_z-fits) c.requires.reach

pub invariant_of-result-clause-inside : goal.invariant_of-result-clause-inside
invariant_of-result-clause-inside c =
    let half_breadth-fits : SFits w64 c.args.extent.half_breadth = search rules in
    let high_z-fits : SFits w64 c.args.extent.high_z = search rules in
    of_both (λ breadth height. LieInside breadth height c.args.list) (to_z-of_z w64 c.args.extent.half_breadth half_breadth-fits) (to_z-of_z w64 c.args.extent.high_z high_z-fits) c.requires.inside

pub invariant_of-result-clause-nodes_between : goal.invariant_of-result-clause-nodes_between
invariant_of-result-clause-nodes_between c =
    of_both (λ first last. AllByRecursion (IsBetween first last) c.args.strips.nodes.items) (to_z-of_z w64 c.args.first_x c.ranges.first_x) (to_z-of_z w64 c.args.last_x c.ranges.last_x) c.requires.nodes_between

pub invariant_of-result-clause-nodes_inside : goal.invariant_of-result-clause-nodes_inside
invariant_of-result-clause-nodes_inside c =
    let half_breadth-fits : SFits w64 c.args.extent.half_breadth = search rules in
    let high_z-fits : SFits w64 c.args.extent.high_z = search rules in
    of_both (λ breadth height. AllByRecursion (IsInside breadth height) c.args.strips.nodes.items) (to_z-of_z w64 c.args.extent.half_breadth half_breadth-fits) (to_z-of_z w64 c.args.extent.high_z high_z-fits) c.requires.nodes_inside

pub invariant_of-result-clause-low : goal.invariant_of-result-clause-low
invariant_of-result-clause-low c =
    let half_breadth-fits : SFits w64 c.args.extent.half_breadth = search rules in
    let high_z-fits : SFits w64 c.args.extent.high_z = search rules in
    of_both (λ breadth height. LieLow breadth height c.args.list c.args.strips) (to_z-of_z w64 c.args.extent.half_breadth half_breadth-fits) (to_z-of_z w64 c.args.extent.high_z high_z-fits) c.requires.low
