use Rattle.std.proofs.Common.{sym, ◌∙◌}
use Rattle.hull_model.specs.Strips.{corners_of}
use Rattle.hull_polyhedron.proofs.Kept.{sides_kept}
use Rattle.hull_polyhedron.proofs.boundary.push_both_sides.Goals as goal

pub returns : goal.returns
returns c = sides_kept c.args.faces.now c.push.new.self c.push-2.new.self (corners_of c.args.t.now) c.turns_back-outwards.result c.mirrored.result c.mirrored-2.result c.mirrored-3.result
    (sym c.is_on_centreplane.ensures ∙ c.if-is_on_centreplane.false) c.turns_back-outwards.ensures c.mirrored.ensures.same c.mirrored-2.ensures.same c.mirrored-3.ensures.same
    c.in_ok-push.ensures c.in_ok-push-2.ensures
