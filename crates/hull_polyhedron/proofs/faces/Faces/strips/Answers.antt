use Rattle.hull_polyhedron.proofs.StripsApart.{strips_apart}
use Rattle.hull_polyhedron.proofs.faces.Faces.strips.Goals as goal

pub returns-clause-apart : goal.returns-clause-apart
returns-clause-apart c = strips_apart c.args.self.now
