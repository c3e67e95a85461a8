-- Stations, by the rows at their start.
use Rattle.std.proofs.Common.{◌≡◌, ◌∙◌, ◌⊎◌, inl, inr, sym, ap, ◌<◌, ◌≤◌, ◌+◌, ℕ, ℤ, pos, zero, suc, arith, add-one, length, take, drop, get_or, map, Bool, true, false, ◌==◌, nat_lt, List, [], ◌∷◌, Some, None, refl}
use Rattle.std.specs.List.{take_while}
use Rattle.std.proofs.lemmas.Grind.{common_steps}
use Rattle.std.proofs.lemmas.Bool.{cases_Bool}
use Rattle.std.proofs.lemmas.List.{drop_all}
use Rattle.std.proofs.lemmas.List.Sums.{take_while-cons}
use Rattle.offset_reader.specs.declared.fault.OffsetFault.TheVariants.{FewStations, TooManyStations, FewPoints, TooManyPoints}
use Rattle.hull_model.specs.declared.point.Point.{Point}
use Rattle.hull_model.specs.declared.station.Station.{Station}
use Rattle.offset_reader.specs.declared.row.Row.{Row}
use Rattle.offset_reader.specs.Stations.{join, stations_of, count_fault, many_fault}
use Rattle.offset_reader.specs.Points.{is_empty, kept, point_of, station_of, station_points_fault}

-- how many rows at the start have this x
abbrev pub run : ℕ → List Row → ℕ
run x rows = length (take_while (λ s. s.x == x) rows)

run_more : (x : ℕ) (r : Row) (rest : List Row) → r.x ≡ x → run x (r ∷ rest) ≡ suc (run x rest)
run_more x r rest e = rw (take_while-cons (λ (s : Row). s.x == x) r rest) (grind (arith, common_steps))

run_over : (x : ℕ) (r : Row) (rest : List Row) → (r.x == x) ≡ false → run x (r ∷ rest) ≡ 0
run_over x r rest e = rw (take_while-cons (λ (s : Row). s.x == x) r rest, e) refl

-- a row and the rest of its station come first
pub split : (r : Row) (rest : List Row) → stations_of (r ∷ rest) ≡ (r ∷ take (run r.x rest) rest) ∷ stations_of (drop (run r.x rest) rest)
split r [] = refl
split r (s ∷ rest) =
    let later = split s rest in
    elim (cases_Bool (s.x == r.x)) [
      | inl same ↦
          let e : s.x ≡ r.x = grind (arith, common_steps) in
          let back : (r.x == s.x) ≡ true = grind (arith, common_steps) in
          let n = run_more r.x s rest e in
          let here : stations_of (s ∷ rest) ≡ (s ∷ take (run r.x rest) rest) ∷ stations_of (drop (run r.x rest) rest) =
          later ∙ ap (λ x. (s ∷ take (run x rest) rest) ∷ stations_of (drop (run x rest) rest)) e in
          ap (join r) here ∙ rw (back, n) refl
      | inr other ↦
          let back : (r.x == s.x) ≡ false = grind (arith, common_steps) in
          let n = run_over r.x s rest other in
          ap (join r) later ∙ rw (back, n) (ap (λ all. (r ∷ []) ∷ all) (sym later))
    ]

pub first_split : (rows : List Row) (d : Row) (n : ℕ) → 0 < length rows → n ≡ run (get_or rows 0 d).x rows → stations_of rows ≡ take n rows ∷ stations_of (drop n rows)
first_split [] d n some e = absurd (omega arith)
first_split (r ∷ rest) d n some e = rw (e, run_more r.x r rest refl) (split r rest)

pub no_stations : (rows : List Row) → length rows < 1 → stations_of rows ≡ []
no_stations [] h = refl
no_stations (r ∷ rest) h = absurd (omega arith)

pub emptiness : (rows : List Row) → is_empty (stations_of rows) ≡ (length rows == 0)
emptiness [] = refl
emptiness (r ∷ rest) = rw (split r rest) (grind (arith, common_steps))

pub first_of_last : (rows : List Row) (d : Row) → 1 ≤ length rows → many_fault (stations_of rows) ≡ Some (TooManyStations (get_or rows 0 d).number)
first_of_last [] d h = absurd (omega arith)
first_of_last (r ∷ rest) d h = rw (split r rest) refl

pub too_many : (all : List (List Row)) (rest : List Row) (d : Row) → drop 64 all ≡ stations_of rest → 64 ≤ length all → 1 ≤ length rest
    → count_fault all ≡ Some (TooManyStations (get_or rest 0 d).number)
unfolding count_fault
too_many all rest d left many some =
    let enough : nat_lt (length all) 3 ≡ false = grind (arith, common_steps) in
    rw (enough, left, first_of_last rest d some) refl

pub too_few : (all : List (List Row)) (n : ℕ) → length all ≡ n → n < 3 → count_fault all ≡ Some (FewStations n)
unfolding count_fault
too_few all n e few =
    let so : nat_lt n 3 ≡ true = grind (arith, common_steps) in
    rw (e, so) refl

pub fitting : (all : List (List Row)) → 3 ≤ length all → length all ≤ 64 → count_fault all ≡ None
unfolding count_fault
fitting all enough few =
    let so : nat_lt (length all) 3 ≡ false = grind (arith, common_steps) in
    let none : drop 64 all ≡ [] = drop_all 64 all few in
    rw (so, none) refl

drop_suc : {A : Type 0} (n : ℕ) (xs ys : List A) (y : A) → drop n xs ≡ y ∷ ys → drop (suc n) xs ≡ ys
drop_suc zero [] ys y e = let no : [] ≡ y ∷ ys = e in (cc)
drop_suc zero (x ∷ xs) ys y e = let same : x ∷ xs ≡ y ∷ ys = e in (cc)
drop_suc (suc n) [] ys y e = let no : [] ≡ y ∷ ys = e in (cc)
drop_suc (suc n) (x ∷ xs) ys y e = drop_suc n xs ys y e

pub drop_next : {A : Type 0} (n : ℕ) (xs ys : List A) (y : A) → drop n xs ≡ y ∷ ys → drop (n + 1) xs ≡ ys
drop_next n xs ys y e = rw add-one (drop_suc n xs ys y e)

pub few_points : (rows : List Row) (d : Row) (kept_now : List Row) (is_end : Bool) → 0 < length rows → kept_now ≡ kept rows → is_end ≡ false → length kept_now ≡ 1
    → station_points_fault is_end rows ≡ Some (FewPoints (get_or rows 0 d).number)
unfolding station_points_fault
few_points [] d kept_now is_end some k e one = absurd (omega arith)
few_points (r ∷ rest) d kept_now is_end some k e one =
    let so : length (kept (r ∷ rest)) ≡ 1 = rw (← k) one in
    rw (e, so) refl

pub many_points : (rows : List Row) (d : Row) (kept_now : List Row) (is_end : Bool) → 0 < length rows → kept_now ≡ kept rows
    → 32 < length kept_now
    → station_points_fault is_end rows ≡ Some (TooManyPoints (get_or rows 0 d).number)
unfolding station_points_fault
many_points [] d kept_now is_end some k many = absurd (omega arith)
many_points (r ∷ rest) d kept_now is_end some k many =
    let so : nat_lt 32 (length (kept (r ∷ rest))) ≡ true = rw (← k) (grind (arith, common_steps)) in
    let two : (length (kept (r ∷ rest)) == 1) ≡ false = rw (← k) (grind (arith, common_steps)) in
    grind (arith, common_steps)

pub fitting_points : (rows : List Row) (kept_now : List Row) (is_end : Bool) → kept_now ≡ kept rows
    → (is_end ≡ true) ⊎ (length kept_now ≡ 1 → ⊥) → length kept_now ≤ 32
    → station_points_fault is_end rows ≡ None
unfolding station_points_fault
fitting_points rows kept_now is_end k two few =
    let so : nat_lt 32 (length (kept rows)) ≡ false = rw (← k) (grind (arith, common_steps)) in
    grind (arith, common_steps)

pub station_is : (rows : List Row) (d : Row) (kept_now : List Row) (x : ℤ) (points : List Point) → 0 < length rows → x ≡ pos (get_or rows 0 d).x
    → points ≡ map point_of kept_now → kept_now ≡ kept rows → ◌≡◌ {A = Station} (record { x = x; points = points }) (station_of rows)
unfolding station_of
station_is [] d kept_now x points some e p k = absurd (omega arith)
station_is (r ∷ rest) d kept_now x points some e p k = rw (e, p, k) refl
