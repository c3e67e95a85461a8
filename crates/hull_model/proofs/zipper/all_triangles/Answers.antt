use Rattle.std.proofs.Common.{◌∙◌, sym}
use Rattle.hull_model.proofs.Chains.{no_strip}
use Rattle.hull_model.proofs.zipper.all_triangles.Goals as goal

pub returns : goal.returns
returns c = sym (no_strip _ c.loop-rest.rest.now c.in_default.len_below) ∙ c.loop-rest.invariant.1
