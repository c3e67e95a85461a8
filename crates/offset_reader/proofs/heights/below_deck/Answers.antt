use Rattle.std.proofs.Common.{◌∙◌, sym}
use Rattle.offset_reader.proofs.HeightFacts.{short_deck}
use Rattle.offset_reader.proofs.heights.below_deck.Goals as goal

pub returns : goal.returns
returns c = sym (short_deck c.loop-rest.rest.now c.in_default.len_below) ∙ c.loop-rest.invariant.same
