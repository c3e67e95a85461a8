-- Stations without a fault are a hull.
use Rattle.std.proofs.Common.{◌≡◌, inl, inr, ◌<◌, ◌≤◌, ◌-◌, ℕ, zero, suc, pos, arith, length, take, drop, map, Bool, true, false, not, ◌==◌, ◌&&◌, nat_lt, List, [], ◌∷◌, Option, Some, None, refl}
use Rattle.std.specs.Bool.{⊤}
use Rattle.std.specs.List.{AllByRecursion, list_all}
use Rattle.std.proofs.lemmas.Bool.{cases_Bool}
use Rattle.std.proofs.lemmas.Grind.{common_steps}
use Rattle.std.proofs.lemmas.Int.{ints}
use Rattle.std.proofs.lemmas.List.{length-map}
use Rattle.hull_model.specs.Lists.{AnyByRecursion, Rises}
use Rattle.hull_model.specs.Body.{IsPoint, IsOutboard, IsStation, IsHull, HasBreadth, inner}
use Rattle.offset_reader.specs.declared.fault.OffsetFault.{OffsetFault}
use Rattle.offset_reader.specs.declared.fault.OffsetFault.TheVariants.{FewStations, FewPoints, TooManyPoints, NoVolume}
use Rattle.offset_reader.specs.declared.row.Row.{Row}
use Rattle.offset_reader.specs.Faults.{fault_if}
use Rattle.offset_reader.specs.Heights.{height_fault, heights_fault}
use Rattle.offset_reader.specs.Points.{kept, station_x, point_of, station_of, station_points_fault, points_fault_from, points_fault, volume_fault}
use Rattle.offset_reader.specs.Stations.{first_row, join, stations_of, count_fault, many_fault}
use Rattle.offset_reader.proofs.KeptFacts.{Climb, kept_climb, some_kept, all_kept}
use Rattle.offset_reader.proofs.LimitFacts.{IsWithinLimits, NeverFalls, none_first, none_either}
use Rattle.offset_reader.proofs.StationFacts.{split}

none_if : (b : Bool) (e : OffsetFault) → fault_if b e ≡ None → b ≡ false
none_if true e h = let no : ◌≡◌ {A = Option OffsetFault} (Some e) None = h in (cc)
none_if false e h = refl

-- the number of stations

no_more : (s : List (List Row)) → many_fault s ≡ None → s ≡ []
no_more [] h = refl
no_more (s ∷ rest) h = let no : ◌≡◌ {A = Option OffsetFault} (many_fault (s ∷ rest)) None = h in (cc)

none_dropped : {A : Type 0} (n : ℕ) (xs : List A) → drop n xs ≡ [] → length xs ≤ n
none_dropped zero [] h = omega arith
none_dropped zero (x ∷ xs) h = let no : x ∷ xs ≡ [] = h in (cc)
none_dropped (suc n) [] h = omega arith
none_dropped (suc n) (x ∷ xs) h = let less = none_dropped n xs h in omega arith

pub counted : (all : List (List Row)) → count_fault all ≡ None → (3 ≤ length all) × (length all ≤ 64)
unfolding count_fault
counted all h =
    let parts = none_first (fault_if (nat_lt (length all) 3) (FewStations (length all))) (many_fault (drop 64 all) ∷ []) h in
    let enough = none_if (nat_lt (length all) 3) (FewStations (length all)) parts.0 in
    let most = none_dropped 64 all (no_more (drop 64 all) (none_first (many_fault (drop 64 all)) [] parts.1).0) in
    (grind (arith, common_steps), most)

-- the stations of rows

all_join : (P : Row → Type 0) (r : Row) (all : List (List Row)) → P r → AllByRecursion (AllByRecursion P) all → AllByRecursion (AllByRecursion P) (join r all)
all_join P r [] p h = ((p, tt), tt)
all_join P r ([] ∷ rest) p h = ((p, tt), h)
all_join P r ((s ∷ more) ∷ rest) p h =
    elim (cases_Bool (r.x == s.x)) [
      | inl same ↦ rw same ((p, h.0), h.1)
      | inr other ↦ rw other ((p, tt), h)
    ]

pub all_stations : (P : Row → Type 0) (rows : List Row) → AllByRecursion P rows → AllByRecursion (AllByRecursion P) (stations_of rows)
all_stations P [] h = tt
all_stations P (r ∷ rest) h = all_join P r (stations_of rest) h.0 (all_stations P rest h.1)

abbrev pub HasRow : List Row → Type 0
HasRow s = 1 ≤ length s

some_join : (r : Row) (all : List (List Row)) → AllByRecursion HasRow all → AllByRecursion HasRow (join r all)
some_join r [] h = (omega arith, tt)
some_join r ([] ∷ rest) h = (omega arith, h)
some_join r ((s ∷ more) ∷ rest) h =
    elim (cases_Bool (r.x == s.x)) [
      | inl same ↦ rw same (omega arith, h.1)
      | inr other ↦ rw other (omega arith, h)
    ]

pub some_rows : (rows : List Row) → AllByRecursion HasRow (stations_of rows)
some_rows [] = tt
some_rows (r ∷ rest) = some_join r (stations_of rest) (some_rows rest)

-- stations from an x on, further and further
abbrev pub Ahead : ℕ → List (List Row) → Type 0
Ahead x [] = ⊤
Ahead x ([] ∷ rest) = ⊥
Ahead x ((s ∷ more) ∷ rest) = x ≤ s.x

abbrev pub FurtherOn : List (List Row) → Type 0
FurtherOn [] = ⊤
FurtherOn (s ∷ []) = ⊤
FurtherOn (s ∷ t ∷ rest) = (station_x s < station_x t) × FurtherOn (t ∷ rest)

further_join : (r : Row) (all : List (List Row)) → Ahead r.x all → FurtherOn all → FurtherOn (join r all)
further_join r [] a h = tt
further_join r ([] ∷ rest) a h = absurd a
further_join r ((s ∷ more) ∷ []) a h =
    elim (cases_Bool (r.x == s.x)) [
      | inl same ↦ rw same tt
      | inr other ↦ rw other (grind (arith, common_steps), tt)
    ]
further_join r ((s ∷ more) ∷ t ∷ rest) a h =
    elim (cases_Bool (r.x == s.x)) [
      | inl same ↦
          let e : r.x ≡ s.x = grind (arith, common_steps) in
          rw same (rw e h.0, h.1)
      | inr other ↦ rw other (grind (arith, common_steps), h)
    ]

ahead_of : (x : ℕ) (rows : List Row) → NeverFalls (Some x) rows → Ahead x (stations_of rows)
ahead_of x [] h = tt
ahead_of x (r ∷ rest) h = rw (split r rest) h.0

pub further_on : (before : Option ℕ) (rows : List Row) → NeverFalls before rows → FurtherOn (stations_of rows)
further_on before [] h = tt
further_on before (r ∷ rest) h = further_join r (stations_of rest) (ahead_of r.x rest h.1) (further_on (Some r.x) rest h.1)

station_place : (s : List Row) → (station_of s).x ≡ pos (station_x s)
unfolding station_of
station_place s = refl

pub places_rise : (all : List (List Row)) → FurtherOn all → Rises (λ s. s.x) (map station_of all)
places_rise [] h = tt
places_rise (s ∷ []) h = tt
places_rise (s ∷ t ∷ rest) h = (rw (station_place s, station_place t) (omega (arith, ints)), places_rise (t ∷ rest) h.1)

-- one station

heights_of : (rows : List Row) → Climb rows → Rises (λ p. p.z) (map point_of rows)
heights_of [] h = tt
heights_of (r ∷ []) h = tt
heights_of (r ∷ s ∷ rest) h = (omega (arith, ints), heights_of (s ∷ rest) h.1)

points_within : (rows : List Row) → AllByRecursion IsWithinLimits rows → AllByRecursion IsPoint (map point_of rows)
points_within [] h = tt
points_within (r ∷ rest) h =
    (record { breadth = (omega (arith, ints), omega (arith, ints)); height = (omega (arith, ints), omega (arith, ints)) }, points_within rest h.1)

first_within : (s : List Row) → AllByRecursion IsWithinLimits s → station_x s ≤ 524287
first_within [] h = omega arith
first_within (r ∷ rest) h = h.0.x

pub is_station : (s : List Row) → AllByRecursion IsWithinLimits s → HasRow s → height_fault s ≡ None → length (kept s) ≤ 32 → IsStation (station_of s)
unfolding station_of
is_station s within some rising few =
    let place = first_within s within in
    let count = length-map (kept s) point_of in
    let one = some_kept s some in
    record {
      place = (omega (arith, ints), omega (arith, ints));
      some = omega arith;
      few = omega arith;
      heights_rise = heights_of (kept s) (kept_climb s rising);
      limits = points_within (kept s) (all_kept IsWithinLimits s within);
    }

-- all stations

abbrev pub KeepsFew : List Row → Type 0
KeepsFew s = length (kept s) ≤ 32

few_each : (is_end : Bool) (s : List Row) → station_points_fault is_end s ≡ None → KeepsFew s
unfolding station_points_fault
few_each is_end s h =
    let few_fault = fault_if (not is_end && (length (kept s) == 1)) (FewPoints (first_row s)) in
    let many_fault = fault_if (nat_lt 32 (length (kept s))) (TooManyPoints (first_row s)) in
    let parts = none_first few_fault (many_fault ∷ []) h in
    let few = none_if (nat_lt 32 (length (kept s))) (TooManyPoints (first_row s)) (none_first many_fault [] parts.1).0 in
    grind (arith, common_steps)

two_each : (is_end : Bool) (s : List Row) → is_end ≡ false → HasRow s → station_points_fault is_end s ≡ None → 2 ≤ length (kept s)
unfolding station_points_fault
two_each true s e some h = let no : true ≡ false = e in (cc)
two_each false s e some h =
    let many_fault = fault_if (nat_lt 32 (length (kept s))) (TooManyPoints (first_row s)) in
    let other = none_if (length (kept s) == 1) (FewPoints (first_row s)) (none_first (fault_if (length (kept s) == 1) (FewPoints (first_row s))) (many_fault ∷ []) h).0 in
    let one = some_kept s some in
    grind (arith, common_steps)

few_all : (is_first : Bool) (all : List (List Row)) → points_fault_from is_first all ≡ None → AllByRecursion KeepsFew all
few_all is_first [] h = tt
few_all is_first (s ∷ rest) h =
    let parts = none_either _ _ h in
    (few_each _ s parts.0, few_all false rest parts.1)

are_stations : (all : List (List Row)) → AllByRecursion (AllByRecursion IsWithinLimits) all → AllByRecursion HasRow all → heights_fault all ≡ None → AllByRecursion KeepsFew all
    → AllByRecursion IsStation (map station_of all)
are_stations [] within some rising few = tt
are_stations (s ∷ rest) within some rising few =
    let parts = none_either _ _ rising in
    (is_station s within.0 some.0 parts.0 few.0, are_stations rest within.1 some.1 parts.1 few.1)

-- the stations but the first and the last

station_points : (s : List Row) → length (station_of s).points ≡ length (kept s)
unfolding station_of
station_points s = length-map (kept s) point_of

but_last : (all : List (List Row)) → AllByRecursion HasRow all → points_fault_from false all ≡ None
    → AllByRecursion (λ s. 2 ≤ length s.points) (take (length all - 1) (map station_of all))
but_last [] some h = tt
but_last (s ∷ []) some h = tt
but_last (s ∷ t ∷ rest) some h =
    let parts = none_either _ _ h in
    let two = two_each false s refl some.0 parts.0 in
    let n : length (s ∷ t ∷ rest) - 1 ≡ suc (length (t ∷ rest) - 1) = omega arith in
    rw n (rw (station_points s) two, but_last (t ∷ rest) some.1 parts.1)

pub strips : (all : List (List Row)) → AllByRecursion HasRow all → points_fault all ≡ None
    → AllByRecursion (λ s. 2 ≤ length s.points) (inner (map station_of all))
unfolding points_fault
strips [] some h = tt
strips (s ∷ rest) some h =
    let n : length (map station_of (s ∷ rest)) - 1 - 1 ≡ length rest - 1 = simp length-map (omega arith) in
    rw n (but_last rest some.1 (none_either _ _ h).1)

-- the breadth

outboard : (rows : List Row) → AnyByRecursion IsOutboard (map point_of rows) → list_all (λ r. r.y == 0) rows ≡ false
outboard [] h = absurd h
outboard (r ∷ rest) (inl here) =
    let above : 0 < r.y = omega (arith, ints) in
    grind (arith, common_steps)
outboard (r ∷ rest) (inr later) =
    let more = outboard rest later in
    grind (arith, common_steps)

pub broad : (all : List (List Row)) → HasBreadth (map station_of all) → list_all (λ s. list_all (λ r. r.y == 0) (kept s)) all ≡ false
unfolding station_of
broad [] h = absurd h
broad (s ∷ rest) (inl here) =
    let no = outboard (kept s) here in
    rw no refl
broad (s ∷ rest) (inr later) =
    let more = broad rest later in
    grind (arith, common_steps)

some_outboard : (rows : List Row) → list_all (λ r. r.y == 0) rows ≡ false → AnyByRecursion IsOutboard (map point_of rows)
some_outboard [] h = let no : true ≡ false = h in absurd (grind (arith, common_steps))
some_outboard (r ∷ rest) h =
    elim (cases_Bool (r.y == 0)) [
      | inl level ↦ inr (some_outboard rest (grind (arith, common_steps)))
      | inr broader ↦
          let above : 0 < r.y = grind (arith, common_steps) in
          inl (omega (arith, ints))
    ]

pub some_broad : (all : List (List Row)) → list_all (λ s. list_all (λ r. r.y == 0) (kept s)) all ≡ false → HasBreadth (map station_of all)
unfolding station_of
some_broad [] h = let no : true ≡ false = h in absurd (grind (arith, common_steps))
some_broad (s ∷ rest) h =
    elim (cases_Bool (list_all (λ r. r.y == 0) (kept s))) [
      | inl level ↦ inr (some_broad rest (grind (arith, common_steps)))
      | inr broader ↦ inl (some_outboard (kept s) broader)
    ]

-- the hull

pub flat : (all : List (List Row)) → (IsHull (map station_of all) → ⊥) → (volume_fault all ≡ None → IsHull (map station_of all)) → volume_fault all ≡ Some NoVolume
unfolding volume_fault
flat all other hull =
    elim (cases_Bool (list_all (λ s. list_all (λ r. r.y == 0) (kept s)) all)) [
      | inl level ↦ rw level refl
      | inr broader ↦ absurd (other (hull (rw broader refl)))
    ]

pub wide : (all : List (List Row)) → IsHull (map station_of all) → volume_fault all ≡ None
unfolding volume_fault
wide all hull = rw (broad all hull.breadth) refl

pub hull_of_rows : (rows : List Row) → AllByRecursion IsWithinLimits rows → NeverFalls None rows
    → heights_fault (stations_of rows) ≡ None → count_fault (stations_of rows) ≡ None → points_fault (stations_of rows) ≡ None → volume_fault (stations_of rows) ≡ None
    → IsHull (map station_of (stations_of rows))
unfolding points_fault volume_fault
hull_of_rows rows within falls rising count points volume =
    let number = counted (stations_of rows) count in
    let same = length-map (stations_of rows) station_of in
    record {
      some = omega arith;
      few = omega arith;
      places_rise = places_rise (stations_of rows) (further_on None rows falls);
      each = are_stations (stations_of rows) (all_stations IsWithinLimits rows within) (some_rows rows) rising (few_all true (stations_of rows) points);
      strips = strips (stations_of rows) (some_rows rows) points;
      breadth = some_broad (stations_of rows) (none_if _ _ volume);
    }
