use Rattle.std.proofs.Common.{◌∙◌, sym}
use Rattle.offset_reader.proofs.HeightFacts.{short_bottom}
use Rattle.offset_reader.proofs.heights.above_bottom.Goals as goal

pub returns : goal.returns
returns c = sym (short_bottom c.loop-rest.rest.now c.in_default.len_below) ∙ c.loop-rest.invariant
