use Rattle.hull_polyhedron.proofs.DamageBox.{corners_decide}
use Rattle.hull_polyhedron.proofs.laws.corners_decide_the_sides.Goals as goal

pub returns : goal.returns
returns c = corners_decide
