use Rattle.hull_polyhedron.proofs.Kept.{wall_kept}
use Rattle.hull_polyhedron.proofs.boundary.push_wall.Goals as goal

pub returns : goal.returns
returns c = wall_kept c.args.faces.now c.push.new.self c.push-2.new.self c.push-3.new.self c.push-4.new.self c.args.outwards c.args.p c.args.q
    c.foot-p_foot.result c.foot-q_foot.result c.mirrored-p_port.result c.mirrored-q_port.result
    c.foot-p_foot.ensures c.foot-q_foot.ensures c.mirrored-p_port.ensures.same c.mirrored-q_port.ensures.same
    c.in_ok-push.ensures c.in_ok-push-2.ensures c.in_ok-push-3.ensures c.in_ok-push-4.ensures
