use Rattle.hull_polyhedron.proofs.Kept.{top_at}
use Rattle.hull_polyhedron.proofs.boundary.push_top.Goals as goal

pub returns-in_ok-push_wall : goal.returns-in_ok-push_wall
returns-in_ok-push_wall c = top_at c.args.faces.now c.push_wall.new.faces c.args.aft.now c.args.fore.now _ c.in-len1-up.len_at_least c.in-len1-up-fore.len_at_least c.in_ok-push_wall.ensures
