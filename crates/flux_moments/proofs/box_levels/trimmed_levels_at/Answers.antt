use Rattle.std.proofs.Common.{rules, ℤ, pos, ◌-ℤ◌, ◌≤ℤ◌}
use Rattle.hull_model.specs.Body.{IsWithin}
use Rattle.std.proofs.lemmas.Int.{to_z-of_z}
use Rattle.std.specs.Int.{w64}
use mir.Val.{SFits}
use Rattle.flux_moments.specs.declared.box_levels.ShipLength.{ShipLength}
use Rattle.flux_moments.specs.declared.plane_box.PlaneBox.{PlaneBox}
use Rattle.flux_moments.proofs.Levels.{mixed-rises, fits_within, before_within, behind_within, length_is, length_within, size_joined, level_fits}
use Rattle.flux_moments.proofs.box_levels.trimmed_levels_at.Goals as goal

-- the place lies between the stations
places_within : (way : ShipLength) (x : ℤ) → way.first ≤ℤ x → x ≤ℤ way.last → IsWithin (pos 524287) (way.last -ℤ x) × IsWithin (pos 524287) (x -ℤ way.first)
places_within way x from to = (before_within way.first way.last x way.start way.end from to, behind_within way.first way.last x way.start way.end from to)

record PlaceFits (way : ShipLength) (x : ℤ) : Type 0 where
  first : SFits w64 way.first
  last : SFits w64 way.last
  before : SFits w64 (way.last -ℤ x)
  behind : SFits w64 (x -ℤ way.first)
  length : SFits w64 (way.last -ℤ way.first)

place_fits : (way : ShipLength) (x : ℤ) → way.first ≤ℤ x → x ≤ℤ way.last → PlaceFits way x
place_fits way x from to = record {
  first = fits_within _ way.start;
  last = fits_within _ way.end;
  before = fits_within _ (places_within way x from to).0;
  behind = fits_within _ (places_within way x from to).1;
  length = fits_within _ (length_within way.first way.last way.start way.end way.forwards);
}

level_fits_all : (planes : PlaneBox) → SFits w64 planes.a1 × SFits w64 planes.a2 × SFits w64 planes.f1 × SFits w64 planes.f2
level_fits_all planes = (
  level_fits _ planes.levels.first,
  level_fits _ planes.levels.second,
  level_fits _ planes.levels.third,
  level_fits _
      planes.levels.fourth,
)

pub returns-clause-levels : goal.returns-clause-levels
returns-clause-levels c =
    let fits = place_fits c.args.way c.args.x c.requires.0 c.requires.1 in
    let levels = level_fits_all c.args.planes.now in
    let p : SFits w64 c.mixed-low.result = search rules in
    let q : SFits w64 c.mixed-high.result = search rules in
    let low = simp (to_z-of_z, c.ranges.x, fits.first, fits.last, fits.before, fits.behind, levels.0, levels.2) at c.mixed-low.ensures.value in
    let high = simp (to_z-of_z, c.ranges.x, fits.first, fits.last, fits.before, fits.behind, levels.1, levels.3) at c.mixed-high.ensures.value in
    let ends = simp (to_z-of_z, p, q, fits.first, fits.last, fits.length) at c.over_length.ensures.quotients in
    rw (low, high) at ends

pub mixed-low-requires-clause-places : goal.mixed-low-requires-clause-places
mixed-low-requires-clause-places c =
    let fits = place_fits c.args.way c.args.x c.requires.0 c.requires.1 in
    simp (to_z-of_z, c.ranges.x, fits.first, fits.last, fits.before, fits.behind) (places_within c.args.way c.args.x c.requires.0 c.requires.1)

pub mixed-high-requires-clause-places : goal.mixed-high-requires-clause-places
mixed-high-requires-clause-places c =
    let fits = place_fits c.args.way c.args.x c.requires.0 c.requires.1 in
    simp (to_z-of_z, c.ranges.x, fits.first, fits.last, fits.before, fits.behind) (places_within c.args.way c.args.x c.requires.0 c.requires.1)

pub over_length-requires-clause-order : goal.over_length-requires-clause-order
over_length-requires-clause-order c =
    let planes = c.args.planes.now in
    let way = c.args.way in
    let places = places_within way c.args.x c.requires.0 c.requires.1 in
    let fits = place_fits way c.args.x c.requires.0 c.requires.1 in
    let levels = level_fits_all planes in
    let p : SFits w64 c.mixed-low.result = search rules in
    let q : SFits w64 c.mixed-high.result = search rules in
    let low = simp (to_z-of_z, c.ranges.x, fits.first, fits.last, fits.before, fits.behind, levels.0, levels.2) at c.mixed-low.ensures.value in
    let high = simp (to_z-of_z, c.ranges.x, fits.first, fits.last, fits.before, fits.behind, levels.1, levels.3) at c.mixed-high.ensures.value in
    simp to_z-of_z (rw (low, high) (mixed-rises planes.a1 planes.a2 planes.f1 planes.f2 (way.last -ℤ c.args.x) (c.args.x -ℤ way.first)
    planes.levels.aft planes.levels.fore places.0.0 places.1.0))

pub over_length-requires-clause-length : goal.over_length-requires-clause-length
over_length-requires-clause-length c =
    let way = c.args.way in
    let fits = place_fits way c.args.x c.requires.0 c.requires.1 in
    simp (to_z-of_z, fits.first, fits.last, fits.length) (length_is way.first way.last way.start way.end way.forwards)

pub over_length-requires-clause-low : goal.over_length-requires-clause-low
over_length-requires-clause-low c =
    let way = c.args.way in
    let fits = place_fits way c.args.x c.requires.0 c.requires.1 in
    let p : SFits w64 c.mixed-low.result = search rules in
    let small = simp (to_z-of_z, c.ranges.x, fits.first, fits.last, fits.before, fits.behind) at c.mixed-low.ensures.small in
    simp (to_z-of_z, p, fits.first, fits.last, fits.length) (size_joined c.mixed-low.result way.first way.last c.args.x small)

pub over_length-requires-clause-high : goal.over_length-requires-clause-high
over_length-requires-clause-high c =
    let way = c.args.way in
    let fits = place_fits way c.args.x c.requires.0 c.requires.1 in
    let q : SFits w64 c.mixed-high.result = search rules in
    let small = simp (to_z-of_z, c.ranges.x, fits.first, fits.last, fits.before, fits.behind) at c.mixed-high.ensures.small in
    simp (to_z-of_z, q, fits.first, fits.last, fits.length) (size_joined c.mixed-high.result way.first way.last c.args.x small)
