use Rattle.std.proofs.Common.{sym, ◌∙◌, List, length, map, ◌<◌, ◌^◌, ℤ, arith}
use mathlib.Core.Path.{subst}
use Rattle.std.proofs.lemmas.Int.{to_z-of_z}
use Rattle.std.specs.Int.{w64}
use mir.Val.{SFits}
use Rattle.hull_model.specs.declared.face.Face.{Face}
use Rattle.hull_model.specs.declared.station.Station.{Station}
use Rattle.hull_model.specs.Body.{IsHull}
use Rattle.hull_model.specs.Boundary.{IsBoundary}
use Rattle.hull_model.specs.Faces.{triangle_of}
use Rattle.hull_model.specs.SignedFaces.{signed_faces}
use Rattle.hull_polyhedron.specs.Extent.{IsLeast, IsGreatest}
use Rattle.hull_polyhedron.specs.FacesOf.{AreFacesOf}
use Rattle.hull_polyhedron.proofs.Lengths.{few_faces}
use Rattle.hull_polyhedron.proofs.Listing.{kept_boundary}
use Rattle.hull_polyhedron.proofs.Between.{ends_at, between_at, heights_at, inside_at, reach_at}
use Rattle.hull_polyhedron.proofs.KeptStrips as strips
use Rattle.hull_polyhedron.proofs.calls.faces_of.Goals as goal

pub invariant_of-strips : goal.invariant_of-strips
invariant_of-strips c =
    let hull = (subst IsHull (sym c.stations-stations.ensures.same) c.stations-stations.ensures.kept) in
    record {
      few = strips.few_strips c.stations-stations.result.now hull c.in_ok-list.ensures.parts;
      parted = strips.nodes_counted c.stations-stations.result.now hull c.in_ok-list.ensures.parts c.in_ok-nodes.ensures.parts;
      counted = strips.totals_counted c.stations-stations.result.now hull c.in_ok-list.ensures.parts c.in_ok-totals.ensures.value;
      limits = c.in_ok-nodes.ensures.limits;
      parts = strips.node_parts_within c.stations-stations.result.now hull c.in_ok-nodes.ensures.nodes c.in_ok-nodes.ensures.parts;
      sizes = c.in_ok-totals.ensures.size;
      steps = c.in_ok-totals.ensures.steps;
    }

pub assembled-requires-clause-few : goal.assembled-requires-clause-few
assembled-requires-clause-few c = subst (λ (fs : List Face). length fs < 2 ^ 14) (sym c.in_ok-list.ensures.faces) (few_faces c.stations-stations.result.now (subst IsHull (sym c.stations-stations.ensures.same) c.stations-stations.ensures.kept))

pub assembled-requires-clause-parts : goal.assembled-requires-clause-parts
assembled-requires-clause-parts c = strips.face_parts_within c.stations-stations.result.now (subst IsHull (sym c.stations-stations.ensures.same) c.stations-stations.ensures.kept) c.in_ok-list.ensures.faces c.in_ok-list.ensures.parts

pub assembled-requires-clause-ends : goal.assembled-requires-clause-ends
assembled-requires-clause-ends c =
    let first-fits : SFits w64 c.first_x_of-first_x.result = record { sfits = c.first_x_of-first_x.type_inv } in
    let last-fits : SFits w64 c.last_x_of-last_x.result = record { sfits = c.last_x_of-last_x.type_inv } in
    simp to_z-of_z (ends_at c.stations-stations.result.now (subst IsHull (sym c.stations-stations.ensures.same) c.stations-stations.ensures.kept) c.first_x_of-first_x.ensures c.last_x_of-last_x.ensures)

pub assembled-requires-clause-between : goal.assembled-requires-clause-between
assembled-requires-clause-between c =
    let first-fits : SFits w64 c.first_x_of-first_x.result = record { sfits = c.first_x_of-first_x.type_inv } in
    let last-fits : SFits w64 c.last_x_of-last_x.result = record { sfits = c.last_x_of-last_x.type_inv } in
    simp to_z-of_z (between_at c.stations-stations.result.now (subst IsHull (sym c.stations-stations.ensures.same) c.stations-stations.ensures.kept) c.first_x_of-first_x.ensures c.last_x_of-last_x.ensures c.in_ok-list.ensures.faces)

pub assembled-requires-clause-heights : goal.assembled-requires-clause-heights
assembled-requires-clause-heights c = heights_at c.extent_of.result.low_z c.extent_of.result.high_z c.stations-stations.result.now (subst IsHull (sym c.stations-stations.ensures.same) c.stations-stations.ensures.kept) c.extent_of.ensures.low_z c.extent_of.ensures.high_z

pub assembled-requires-clause-reach : goal.assembled-requires-clause-reach
assembled-requires-clause-reach c = reach_at c.extent_of.result.half_breadth c.extent_of.result.high_z c.stations-stations.result.now (subst IsHull (sym c.stations-stations.ensures.same) c.stations-stations.ensures.kept) c.extent_of.ensures.half_breadth c.extent_of.ensures.high_z

pub assembled-requires-clause-inside : goal.assembled-requires-clause-inside
assembled-requires-clause-inside c = inside_at c.extent_of.result.half_breadth c.extent_of.result.high_z c.stations-stations.result.now (subst IsHull (sym c.stations-stations.ensures.same) c.stations-stations.ensures.kept) c.extent_of.ensures.half_breadth c.extent_of.ensures.high_z c.in_ok-list.ensures.faces

pub assembled-requires-clause-nodes_between : goal.assembled-requires-clause-nodes_between
assembled-requires-clause-nodes_between c =
    let first-fits : SFits w64 c.first_x_of-first_x.result = record { sfits = c.first_x_of-first_x.type_inv } in
    let last-fits : SFits w64 c.last_x_of-last_x.result = record { sfits = c.last_x_of-last_x.type_inv } in
    simp to_z-of_z (strips.nodes_between c.stations-stations.result.now (subst IsHull (sym c.stations-stations.ensures.same) c.stations-stations.ensures.kept) c.first_x_of-first_x.ensures c.last_x_of-last_x.ensures c.in_ok-nodes.ensures.nodes)

pub assembled-requires-clause-nodes_inside : goal.assembled-requires-clause-nodes_inside
assembled-requires-clause-nodes_inside c = strips.nodes_inside c.stations-stations.result.now (subst IsHull (sym c.stations-stations.ensures.same) c.stations-stations.ensures.kept) c.extent_of.result.half_breadth c.extent_of.result.high_z c.extent_of.ensures.half_breadth c.extent_of.ensures.high_z c.in_ok-nodes.ensures.nodes

pub assembled-requires-clause-order : goal.assembled-requires-clause-order
assembled-requires-clause-order c = strips.parts_in_order c.stations-stations.result.now (subst IsHull (sym c.stations-stations.ensures.same) c.stations-stations.ensures.kept) c.in_ok-list.ensures.parts

pub assembled-requires-clause-low : goal.assembled-requires-clause-low
assembled-requires-clause-low c = strips.strips_lie_low c.stations-stations.result.now (subst IsHull (sym c.stations-stations.ensures.same) c.stations-stations.ensures.kept) c.extent_of.result.half_breadth c.extent_of.result.high_z c.extent_of.ensures.half_breadth c.extent_of.ensures.high_z c.in_ok-list.ensures.faces c.in_ok-list.ensures.parts c.in_ok-totals.ensures.value

pub returns : goal.returns
returns c =
    let hull : IsHull c.stations-stations.result.now = (subst IsHull (sym c.stations-stations.ensures.same) c.stations-stations.ensures.kept) in
    let first-fits : SFits w64 c.first_x_of-first_x.result = record { sfits = c.first_x_of-first_x.type_inv } in
    let last-fits : SFits w64 c.last_x_of-last_x.result = record { sfits = c.last_x_of-last_x.type_inv } in
    let first = simp to_z-of_z at c.assembled.ensures.first_x in
    let last = simp to_z-of_z at c.assembled.ensures.last_x in
    let list = c.assembled.ensures.list ∙ c.in_ok-list.ensures.faces in
    let parts = c.assembled.ensures.face_parts ∙ c.in_ok-list.ensures.parts in
    let nodes = c.assembled.ensures.nodes ∙ c.in_ok-nodes.ensures.nodes in
    let node_parts = c.assembled.ensures.node_parts ∙ c.in_ok-nodes.ensures.parts in
    let totals = c.assembled.ensures.totals ∙ c.in_ok-totals.ensures.value in
    let count = strips.faces_counted c.stations-stations.result.now hull parts in
    subst (λ (stations : List Station). AreFacesOf stations c.assembled.result) c.stations-stations.ensures.same (record {
      boundary = subst (λ (fs : List Face). IsBoundary (map triangle_of fs) (signed_faces c.stations-stations.result.now)) (sym list) (kept_boundary c.stations-stations.result.now hull);
      first_x = first ∙ c.first_x_of-first_x.ensures;
      last_x = last ∙ c.last_x_of-last_x.ensures;
      low_z = subst (λ (n : ℤ). IsLeast (λ p. p.z) c.stations-stations.result.now n) (sym c.assembled.ensures.low_z) c.extent_of.ensures.low_z;
      high_z = subst (λ (n : ℤ). IsGreatest (λ p. p.z) c.stations-stations.result.now n) (sym c.assembled.ensures.high_z) c.extent_of.ensures.high_z;
      half_breadth = subst (λ (n : ℤ). IsGreatest (λ p. p.y) c.stations-stations.result.now n) (sym c.assembled.ensures.half_breadth) c.extent_of.ensures.half_breadth;
      strips = count;
      strip_faces = λ n less. strips.strip_faces_at c.stations-stations.result.now hull list parts n less;
      strip_nodes = λ n less. strips.strip_nodes_at c.stations-stations.result.now hull nodes node_parts n (omega (arith, count, less));
      totals = λ from to ordered within. strips.totals_at_strips c.stations-stations.result.now hull totals from to ordered (omega (arith, count, within));
    })
