use Rattle.hull_model.proofs.Worked.{barge_half, barge_at_deck, barge_at_bottom, wedge_half, barge_heeled, barge_flooded}
use Rattle.hull_model.proofs.laws.worked_values.Goals as goal

pub returns-clause-barge_half : goal.returns-clause-barge_half
returns-clause-barge_half c = barge_half

pub returns-clause-barge_at_deck : goal.returns-clause-barge_at_deck
returns-clause-barge_at_deck c = barge_at_deck

pub returns-clause-barge_at_bottom : goal.returns-clause-barge_at_bottom
returns-clause-barge_at_bottom c = barge_at_bottom

pub returns-clause-wedge : goal.returns-clause-wedge
returns-clause-wedge c = wedge_half

pub returns-clause-heeled : goal.returns-clause-heeled
returns-clause-heeled c = barge_heeled

pub returns-clause-flooded : goal.returns-clause-flooded
returns-clause-flooded c = barge_flooded
