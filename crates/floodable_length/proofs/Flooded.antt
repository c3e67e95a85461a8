-- Hulls that are flooded.
use Rattle.std.proofs.Common.{◌≡◌, sym, subst, true, List}
use Rattle.hull_model.specs.declared.slab.Slab.{Slab}
use Rattle.hull_model.specs.Slabs.{are_apart}
use Rattle.hull_polyhedron.specs.declared.faces.Faces.{Faces}
use Rattle.hull_polyhedron.specs.FacesOf.{AreFacesOf}
use Rattle.compartment_loss.specs.declared.flooded_hull.FloodedHull.{FloodedHull}
use Rattle.damage_box.specs.Residuals.{IsHullOf}
use Rattle.floodable_length.specs.LoadedShip.{LoadedShip, IsShip}
use Rattle.floodable_length.specs.Settled.{IsFlooded}

pub is_hull_of : (ship : LoadedShip) (slabs : List Slab) (flood : FloodedHull) → IsShip ship → are_apart slabs ≡ true → IsFlooded ship slabs flood → IsHullOf flood ship.stations
is_hull_of ship slabs flood is apart flooded = record {
  hull = is.hull;
  faces = subst (λ (faces : Faces). AreFacesOf ship.stations faces) (sym flooded.hull) is.faces;
  apart = subst (λ (slabs : List Slab). are_apart slabs ≡ true) (sym flooded.parts) apart;
}
