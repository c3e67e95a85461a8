-- What is left to make: the points of a station, and the stations.
use mathlib.Core.Path.{refl, ◌∙◌}
use Rattle.std.proofs.Common.{◌≡◌, ℕ, ◌+◌, ◌-◌, ◌<◌, ◌≤◌, suc, List, [], ◌∷◌, ◌++◌, arith, ap, sym}
use Rattle.std.proofs.lemmas.List.{append_assoc, append-nil}
use Rattle.hull_model.specs.declared.point.Point.{Point}
use Rattle.hull_model.specs.declared.station.Station.{Station}
use Rattle.hull_maker.specs.Draws.{next_state, drawn, after}
use Rattle.hull_maker.specs.MadeHull.{point, points_from, station, stations_from, stations_of}

-- with those from the point j on, the points are those of the station i
pub record PointsLeft (i first j state : ℕ) (points : List Point) : Type 0 where
  pub list : points ++ points_from i j (16 - j) state ≡ points_from i 0 16 first
  pub draws : after (16 - j) state ≡ after 16 first

one_less : (most n : ℕ) → n < most → most - n ≡ suc (most - (n + 1))
one_less most n below = omega (arith, below)

pub next_point : (i first j state : ℕ) (points : List Point) (p : Point) → j < 16 → p ≡ point i j (drawn (next_state state)) → PointsLeft i first j state points
    → PointsLeft i first (j + 1) (next_state state) (points ++ p ∷ [])
next_point i first j state points p below is left =
    let more = one_less 16 j below in
    record {
      list = append_assoc points (p ∷ []) _ ∙ ap (λ q. points ++ q ∷ points_from i (j + 1) (16 - (j + 1)) (next_state state)) is
          ∙ ap (λ n. points ++ points_from i j n state) (sym more) ∙ left.list;
      draws = ap (λ n. after n state) (sym more) ∙ left.draws;
    }

-- with those from the station i on, the stations are those of the hull
pub record StationsLeft (first i state : ℕ) (stations : List Station) : Type 0 where
  pub list : stations ++ stations_from i (41 - i) state ≡ stations_of first

pub first_station : (first : ℕ) → StationsLeft first 0 first []
unfolding stations_of
first_station first = record { list = refl }

pub next_station : (first i state : ℕ) (stations : List Station) (s : Station) → i < 41 → s ≡ station i state → StationsLeft first i state stations
    → StationsLeft first (i + 1) (after 16 state) (stations ++ s ∷ [])
next_station first i state stations s below is left = record {
  list = append_assoc stations (s ∷ []) _ ∙ ap (λ q. stations ++ q ∷ stations_from (i + 1) (41 - (i + 1)) (after 16 state)) is
      ∙ ap (λ n. stations ++ stations_from i n state) (sym (one_less 41 i below)) ∙ left.list;
}

pub last_station : (first i state : ℕ) (stations : List Station) → 41 ≤ i → StationsLeft first i state stations → stations ≡ stations_of first
last_station first i state stations end left =
    let none : 41 - i ≡ 0 = omega (arith, end) in
    sym (append-nil stations) ∙ ap (λ n. stations ++ stations_from i n state) (sym none) ∙ left.list
