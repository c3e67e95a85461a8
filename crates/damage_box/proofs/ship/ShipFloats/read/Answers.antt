use Rattle.std.proofs.Common.{List, ◌≡◌, ◌∙◌, ap}
use Rattle.std.specs.Int.{w64}
use Rattle.std.proofs.lemmas.Int.{to_z-of_z}
use mir.Val.{SFits}
use Rattle.hull_polyhedron.specs.declared.faces.Faces.{Faces}
use Rattle.hull_model.specs.declared.station.Station.{Station}
use Rattle.damage_box.specs.Planes.{plane_at}
use Rattle.damage_box.specs.Residuals.{IsHullOf}
use Rattle.damage_box.proofs.Moves as Moves
use Rattle.damage_box.proofs.Residues as Residues
use Rattle.damage_box.proofs.ship.ShipFloats.read.Goals as goal

pub left_at-left-requires-clause-a : goal.left_at-left-requires-clause-a
left_at-left-requires-clause-a c = simp (to_z-of_z, c.ranges.a) (Moves.small c.requires.a_level)

pub left_at-left-requires-clause-f : goal.left_at-left-requires-clause-f
left_at-left-requires-clause-f c = simp (to_z-of_z, c.ranges.f) (Moves.small c.requires.f_level)

pub returns : goal.returns
returns c =
    let ship = c.args.self.now in
    let last : SFits w64 c.last_x-last_x.result = record { sfits = c.last_x-last_x.type_inv } in
    let first : SFits w64 c.first_x-first_x.result = record { sfits = c.first_x-first_x.type_inv } in
    let at_last : c.last_x-last_x.result ≡ ship.flood.now.faces.now.last_x = c.last_x-last_x.ensures.same ∙ ap (λ (x : Faces). x.last_x) c.faces.ensures in
    let at_first : c.first_x-first_x.result ≡ ship.flood.now.faces.now.first_x = c.first_x-first_x.ensures.same ∙ ap (λ (x : Faces). x.first_x) c.faces-2.ensures in
    let left = simp (to_z-of_z, c.ranges.a, c.ranges.f) at c.left_at-left.ensures in
    let volume = λ (stations : List Station) (is : IsHullOf ship.flood.now stations). left.volume stations is.hull is.faces (plane_at c.args.a c.args.f) (Residues.upright c.args.a c.args.f) in
    let mx = λ (stations : List Station) (is : IsHullOf ship.flood.now stations). left.mx stations is.hull is.faces (plane_at c.args.a c.args.f) (Residues.upright c.args.a c.args.f) in
    let owed_last = rw at_last at (simp (to_z-of_z, last) at c.owed_about_last-owed_last.ensures.owed) in
    let over_last = rw at_last at (simp (to_z-of_z, last) at c.over_last.ensures) in
    let owed_first = rw at_first at (simp (to_z-of_z, first) at c.owed_about_first-owed_first.ensures.owed) in
    let over_first = rw at_first at (simp (to_z-of_z, first) at c.over_first.ensures) in
    record {
      volume = record { contains = volume; narrow = left.volume_width };
      from_last = Residues.last_enclosed ship.flood.now ship.loading.now ship.water.now c.args.a c.args.f _ _ _ _ _ _ _ _
          volume mx left.volume_width left.mx_width c.left_at-left.result.volume.ordered c.owed_about_last-owed_last.ensures.width owed_last over_last.contains over_last.width;
      from_first = Residues.first_enclosed ship.flood.now ship.loading.now ship.water.now c.args.a c.args.f _ _ _ _ _ _ _ _
          volume mx left.volume_width left.mx_width c.left_at-left.result.volume.ordered c.owed_about_first-owed_first.ensures.width owed_first over_first.contains over_first.width;
    }
