use Rattle.std.proofs.lemmas.Int.{to_z-of_z}
use Rattle.std.specs.Int.{w128}
use mir.Val.{SFits}
use Rattle.plane_clip.proofs.corner.PartCorner.at_part.Goals as goal

pub returns-clause-y : goal.returns-clause-y
returns-clause-y c =
    let n : SFits w128 c.args.n = c.ranges.n in
    let d : SFits w128 c.args.d = c.ranges.d in
    simp to_z-of_z at c.mixed.ensures.contains

pub returns-clause-z : goal.returns-clause-z
returns-clause-z c =
    let n : SFits w128 c.args.n = c.ranges.n in
    let d : SFits w128 c.args.d = c.ranges.d in
    simp to_z-of_z at c.mixed-2.ensures.contains

pub returns-clause-extent : goal.returns-clause-extent
returns-clause-extent c y z k h i = record {
  y_ends = c.mixed.ensures.ends _ h.y_ends i.y_ends;
  z_ends = c.mixed-2.ensures.ends _ h.z_ends i.z_ends;
  y_thin = c.mixed.ensures.thin k h.y_thin i.y_thin;
  z_thin = c.mixed-2.ensures.thin k h.z_thin i.z_thin;
}

pub invariant_of-result-clause-y_ends : goal.invariant_of-result-clause-y_ends
invariant_of-result-clause-y_ends c = c.mixed.ensures.ends _ c.args.self.now.y_ends c.args.other.now.y_ends

pub invariant_of-result-clause-z_ends : goal.invariant_of-result-clause-z_ends
invariant_of-result-clause-z_ends c = c.mixed-2.ensures.ends _ c.args.self.now.z_ends c.args.other.now.z_ends
