-- A hull with its load, in its water, and its margin.
use Rattle.std.specs.Prelude.{ℕ, ◌≤◌, List}
use Rattle.hull_model.specs.declared.station.Station.{Station}
use Rattle.hull_model.specs.declared.water.Water.{Water}
use Rattle.hull_model.specs.Body.{IsHull}
use Rattle.hull_polyhedron.specs.declared.faces.Faces.{Faces}
use Rattle.hull_polyhedron.specs.FacesOf.{AreFacesOf}
use Rattle.loading_sheet.specs.declared.loading.Loading.{Loading}
use Rattle.floodable_length.specs.declared.ship.Ship.{Ship}

pub record LoadedShip : Type 0 where
  pub stations : List Station
  pub faces : Faces
  pub loading : Loading
  pub water : Water
  pub margin : ℕ

-- the faces are the boundary of the hull, and the margin keeps its limit
pub record IsShip (ship : LoadedShip) : Type 0 where
  pub hull : IsHull ship.stations
  pub faces : AreFacesOf ship.stations ship.faces
  pub margin : ship.margin ≤ 10000

abbrev pub ship_of : Ship → LoadedShip
ship_of s = record { stations = s.stations.now; faces = s.faces.now; loading = s.loading.now; water = s.water.now; margin = s.margin }
