use Rattle.std.proofs.Common.{get_or, pos, arith}
use Rattle.std.specs.Int.{w64}
use Rattle.std.proofs.lemmas.Int.{ints, to_z-of_z}
use Rattle.std.proofs.lemmas.List.{take_more}
use mir.Val.{SFits}
use Rattle.hull_model.proofs.Magnitudes.{fits_64}
use Rattle.hull_report.specs.Spelling.{IsLine}
use Rattle.hull_cli.specs.Lengths.{AreLinesOfCentre}
use Rattle.floodable_length.specs.LoadedShip.{LoadedShip}
use Rattle.hull_cli.proofs.Listed.{all_more, joined_more}
use Rattle.hull_cli.proofs.Plans.{centre_within}
use Rattle.hull_cli.proofs.floodable.plan_lines.Goals as goal

pub centre_lines-requires-clause-centre : goal.centre_lines-requires-clause-centre
centre_lines-requires-clause-centre c =
    let plan = c.args.plan.now in
    let i = c.loop-centre.centre-index in
    let there = rw c.as_slice-centre-items.ensures at c.loop-centre-test.true in
    let within = centre_within plan.centres plan.step plan.permeability plan.limits i there in
    let fits : SFits w64 (get_or plan.centres i (pos 0)) = fits_64 _ (omega (arith, ints, within.0, within.1)) in
    rw c.as_slice-centre-items.ensures (simp to_z-of_z within)

pub loop-centre-preserved : goal.loop-centre-preserved
loop-centre-preserved c =
    let inv = c.loop-centre.invariant in
    let plan = c.args.plan.now in
    let ship : LoadedShip = record { stations = c.args.hull.now; faces = c.args.faces.now; loading = c.args.loading.now; water = c.args.job.now.water; margin = c.args.job.now.margin } in
    let i = c.loop-centre.centre-index in
    let there = rw c.as_slice-centre-items.ensures at c.loop-centre-test.true in
    let within = centre_within plan.centres plan.step plan.permeability plan.limits i there in
    let fits : SFits w64 (get_or plan.centres i (pos 0)) = fits_64 _ (omega (arith, ints, within.0, within.1)) in
    let items = c.in_ok-extend_from_slice.ensures.items in
    let made = simp to_z-of_z at rw c.as_slice-centre-items.ensures at c.in_ok-at.ensures.lines in
    record {
      count = omega (arith, inv.count, c.in_ok-extend_from_slice.ensures.len);
      grammar = rw items (all_more IsLine _ _ inv.grammar c.in_ok-at.ensures.grammar);
      rows = rw (items, take_more plan.centres i (pos 0) there) (joined_more (AreLinesOfCentre ship plan) _ (get_or plan.centres i (pos 0)) _ _ inv.rows made);
    }
