use Rattle.std.proofs.Common.{refl, ◌∙◌}
use Rattle.damage_box.specs.Residuals.{IsHullOf}
use Rattle.hull_cli.proofs.damage.case_line.Goals as goal

pub returns-clause-line : goal.returns-clause-line
returns-clause-line c hull is are =
    let flooded = c.in_ok-flooded.flooded in
    let same = c.in_ok-flooded.ensures.1 ∙ c.as_slice.ensures in
    let made : IsHullOf flooded hull = record { hull = is; faces = rw c.in_ok-flooded.ensures.0 are; apart = rw same c.args.damage.now.apart } in
    record {
      flood = flooded;
      flooded = made;
      slabs = same;
      end = c.end_of.result;
      ends = c.end_of.ensures.ends hull made;
      fields = refl;
    }
