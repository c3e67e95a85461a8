use Rattle.std.proofs.Common.{◌∙◌, sym}
use Rattle.hull_model.proofs.Chains.{nothing_left}
use Rattle.hull_model.proofs.zipper.push_zipper.Goals as goal

pub returns : goal.returns
returns c = sym (nothing_left _ c.loop-aft_rest.p c.loop-aft_rest.q _ _ c.loop-aft_rest-test.false) ∙ c.loop-aft_rest.invariant.made
