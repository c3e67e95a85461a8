-- The made stations are those of a hull.
use native.Mathlib.Nat.{zero-lt-suc}
use mathlib.Core.Path.{refl}
use Rattle.std.proofs.Common.{inl, rules, min, ◌/◌, ◌-◌, ◌≡◌, ℕ, ◌+◌, ◌<◌, ◌≤◌, zero, suc, List, [], ◌∷◌, length, take, arith}
use Rattle.std.proofs.lemmas.Int.{ints}
use Rattle.std.proofs.lemmas.Nat.{mul-le}
use Rattle.std.proofs.Math.Nat.{mod-lt, min-le_right}
use Rattle.std.specs.List.{AllByRecursion}
use Rattle.hull_model.specs.Body.{IsPoint, IsStation, IsHull}
use Rattle.hull_model.specs.Lists.{Rises}
use Rattle.hull_maker.specs.Draws.{next_state, drawn, after}
use Rattle.hull_maker.specs.MadeHull.{least_breadth, point, points_from, station, stations_from, stations_of}

all_taken : {A : Type 0} (P : A → Type 0) (n : ℕ) (xs : List A) → AllByRecursion P xs → AllByRecursion P (take n xs)
all_taken P zero xs all = search rules
all_taken P (suc n) [] all = all
all_taken P (suc n) (x ∷ xs) all = (all.0, all_taken P n xs all.1)

small_draw : (state : ℕ) → drawn state < 100
unfolding drawn
small_draw state = mod-lt (state / 65536) (zero-lt-suc 99)

small_breadth : (i j : ℕ) → least_breadth i j ≤ 8800
unfolding least_breadth
small_breadth i j = mul-le _ _ 1100 8 (omega (arith, min-le_right (min i (40 - i)) 10)) (omega (arith, min-le_right j 7))

first_breadth : least_breadth 0 0 ≡ 100
unfolding least_breadth
first_breadth = refl

is_point : (i j draw : ℕ) → j < 16 → draw < 100 → IsPoint (point i j draw)
is_point i j draw low small = record {
  breadth = (omega (arith, ints), omega (arith, ints, small, small_breadth i j));
  height = (omega (arith, ints), omega (arith, ints, low));
}

are_points : (i j count state : ℕ) → j + count ≤ 16 → AllByRecursion IsPoint (points_from i j count state)
are_points i j zero state end = search rules
are_points i j (suc count) state end =
    (is_point i j _ (omega (arith, end)) (small_draw (next_state state)), are_points i (j + 1) count (next_state state) (omega (arith, end)))

heights_rise : (i j count state : ℕ) → Rises (λ p. p.z) (points_from i j count state)
heights_rise i j zero state = search rules
heights_rise i j (suc zero) state = search rules
heights_rise i j (suc (suc count)) state = (omega (arith, ints), heights_rise i (j + 1) (suc count) (next_state state))

is_station : (i state : ℕ) → i < 41 → IsStation (station i state)
is_station i state below = record {
  place = (omega (arith, ints), omega (arith, ints, below));
  some = search rules;
  few = search rules;
  heights_rise = heights_rise i 0 16 state;
  limits = are_points i 0 16 state (search rules);
}

are_stations : (i count state : ℕ) → i + count ≤ 41 → AllByRecursion IsStation (stations_from i count state)
are_stations i zero state end = search rules
are_stations i (suc count) state end = (is_station i state (omega (arith, end)), are_stations (i + 1) count (after 16 state) (omega (arith, end)))

places_rise : (i count state : ℕ) → Rises (λ s. s.x) (stations_from i count state)
places_rise i zero state = search rules
places_rise i (suc zero) state = search rules
places_rise i (suc (suc count)) state = (omega (arith, ints), places_rise (i + 1) (suc count) (after 16 state))

have_strips : (i count state : ℕ) → AllByRecursion (λ s. 2 ≤ length s.points) (stations_from i count state)
have_strips i zero state = search rules
have_strips i (suc count) state = (search rules, have_strips (i + 1) count (after 16 state))

pub is_hull : (seed : ℕ) → IsHull (stations_of seed)
unfolding stations_of
is_hull seed = record {
  some = search rules;
  few = search rules;
  places_rise = places_rise 0 41 seed;
  each = are_stations 0 41 seed (search rules);
  strips = all_taken (λ s. 2 ≤ length s.points) 39 (stations_from 1 40 (after 16 seed)) (have_strips 1 40 (after 16 seed));
  breadth = inl (inl (omega (arith, ints, first_breadth)));
}
