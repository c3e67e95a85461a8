use Rattle.hull_model.specs.Faces.{IsFace}
use Rattle.compartment_loss.proofs.Growth.{faces-next, faces-end, all-next}
use Rattle.compartment_loss.proofs.parts.push_slab.Goals as goal

pub loop-rest-preserved : goal.loop-rest-preserved
loop-rest-preserved c = (
  all-next IsFace c.loop-rest.rest.now c.loop-rest.invariant.0,
  λ r between. faces-next r c.args.slab.now c.args.parts.now.items c.args.faces.now c.loop-rest.parts.items c.push_face.new.parts.items c.loop-rest.rest.now _ c.in-len1-up.len_at_least (c.in_ok-push_face.ensures r) (c.loop-rest.invariant.1 r between),
)

pub returns : goal.returns
returns c r between = faces-end r c.args.slab.now c.args.parts.now.items c.args.faces.now c.loop-rest.parts.items c.loop-rest.rest.now c.in_default.len_below (c.loop-rest.invariant.1 r between)
