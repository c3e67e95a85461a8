use Rattle.std.proofs.lemmas.Int.{to_z-of_z}
use Rattle.std.specs.Int.{w128}
use mir.Val.{SFits}
use Rattle.plane_clip.proofs.WayValues.{share_part_fits, share_fits}
use Rattle.plane_clip.proofs.part.Part.portion.Goals as goal

pub returns-clause-ay : goal.returns-clause-ay
returns-clause-ay c =
    let share = c.args.share in
    let n : SFits w128 c.args.share.n = share_part_fits share.n share.d share.part.0 share.part.1 share.whole.1 in
    let d : SFits w128 c.args.share.d = share_fits share.d share.whole.0 share.whole.1 in
    simp to_z-of_z at c.portion.ensures.contains

pub returns-clause-az : goal.returns-clause-az
returns-clause-az c =
    let share = c.args.share in
    let n : SFits w128 c.args.share.n = share_part_fits share.n share.d share.part.0 share.part.1 share.whole.1 in
    let d : SFits w128 c.args.share.d = share_fits share.d share.whole.0 share.whole.1 in
    simp to_z-of_z at c.portion-2.ensures.contains

pub returns-clause-ay_thin : goal.returns-clause-ay_thin
returns-clause-ay_thin c k h = c.portion.ensures.thin k h

pub returns-clause-az_thin : goal.returns-clause-az_thin
returns-clause-az_thin c k h = c.portion-2.ensures.thin k h

pub invariant_of-result : goal.invariant_of-result
invariant_of-result c = record {
  ay_ends = c.portion.ensures.ends _ c.args.self.now.ay_ends;
  az_ends = c.portion-2.ensures.ends _ c.args.self.now.az_ends;
}
