-- The first fault of a file, phase by phase.
use Rattle.std.proofs.Common.{◌≡◌, ◌∙◌, sym, ℕ, List, map, Option, Some, None, IfSome, IsSome, IfOk, IfErr, OnOk, ◌↔◌, ◌⊎◌, inr, refl}
use Rattle.std.specs.Option.{ok_or}
use Rattle.hull_model.specs.declared.station.Station.{Station}
use Rattle.hull_model.specs.Body.{IsHull}
use Rattle.offset_reader.specs.declared.fault.OffsetFault.{OffsetFault}
use Rattle.offset_reader.specs.declared.fault.OffsetFault.TheVariants.{Memory, NoVolume}
use Rattle.offset_reader.specs.declared.row.Row.{Row}
use Rattle.offset_reader.specs.Rows.{rows_fault, rows_of}
use Rattle.offset_reader.specs.Stations.{count_fault, stations_of}
use Rattle.offset_reader.specs.Heights.{heights_fault}
use Rattle.offset_reader.specs.Points.{points_fault, station_of}
use Rattle.offset_reader.specs.Offsets.{records_fault, records_hull}
use Rattle.offset_reader.proofs.HullFacts.{flat, wide, hull_of_rows}
use Rattle.offset_reader.proofs.LimitFacts.{rows_kept}

pub phase_1 : (records : List (List (List ℕ))) (e : OffsetFault) → rows_fault records ≡ Some e → records_fault records ≡ Some e
unfolding records_fault
phase_1 records e h = rw h refl

pub phase_2 : (records : List (List (List ℕ))) (rows : List Row) (e : OffsetFault) → rows ≡ rows_of records → rows_fault records ≡ None
    → heights_fault (stations_of rows) ≡ Some e → records_fault records ≡ Some e
unfolding records_fault
phase_2 records rows e is h1 h2 = let h = rw is at h2 in rw (h1, h) refl

pub phase_3 : (records : List (List (List ℕ))) (rows : List Row) (e : OffsetFault) → rows ≡ rows_of records → rows_fault records ≡ None
    → heights_fault (stations_of rows) ≡ None → count_fault (stations_of rows) ≡ Some e → records_fault records ≡ Some e
unfolding records_fault
phase_3 records rows e is h1 h2 h3 = let g2 = rw is at h2 in let g3 = rw is at h3 in rw (h1, g2, g3) refl

pub phase_4 : (records : List (List (List ℕ))) (rows : List Row) (e : OffsetFault) → rows ≡ rows_of records → rows_fault records ≡ None
    → heights_fault (stations_of rows) ≡ None → count_fault (stations_of rows) ≡ None → points_fault (stations_of rows) ≡ Some e → records_fault records ≡ Some e
unfolding records_fault
phase_4 records rows e is h1 h2 h3 h4 = let g2 = rw is at h2 in let g3 = rw is at h3 in let g4 = rw is at h4 in rw (h1, g2, g3, g4) refl

pub phase_5 : (records : List (List (List ℕ))) (rows : List Row) → rows ≡ rows_of records → rows_fault records ≡ None
    → heights_fault (stations_of rows) ≡ None → count_fault (stations_of rows) ≡ None → points_fault (stations_of rows) ≡ None
    → (IsHull (map station_of (stations_of rows)) → ⊥) → records_fault records ≡ Some NoVolume
unfolding records_fault
phase_5 records rows is h1 h2 h3 h4 h5 =
    let kept = rows_kept records h1 in
    let same : rows_of records ≡ rows = sym is in
    let g2 = rw is at h2 in let g3 = rw is at h3 in let g4 = rw is at h4 in
    let none : IsHull (map station_of (stations_of (rows_of records))) → ⊥ = rw same h5 in
    let g5 = flat (stations_of (rows_of records)) none (λ v. hull_of_rows (rows_of records) kept.0 kept.1 g2 g3 g4 v) in
    rw (h1, g2, g3, g4, g5) refl

pub no_phase : (records : List (List (List ℕ))) (rows : List Row) → rows ≡ rows_of records → rows_fault records ≡ None
    → heights_fault (stations_of rows) ≡ None → count_fault (stations_of rows) ≡ None → points_fault (stations_of rows) ≡ None
    → IsHull (map station_of (stations_of rows)) → records_fault records ≡ None
unfolding records_fault
no_phase records rows is h1 h2 h3 h4 h5 =
    let g2 = rw is at h2 in let g3 = rw is at h3 in let g4 = rw is at h4 in
    let g5 = rw is at (wide (stations_of rows) h5) in
    rw (h1, g2, g3, g4, g5) refl

hull_is : (records : List (List (List ℕ))) (rows : List Row) → rows ≡ rows_of records → map station_of (stations_of rows) ≡ records_hull records
unfolding records_hull
hull_is records rows is = rw is refl

-- what is known once phase 4 has passed
pub record Passed (records : List (List (List ℕ))) (rows : List Row) (stations : List Station) : Type 0 where
  pub is : rows ≡ rows_of records
  pub phase_1 : rows_fault records ≡ None
  pub phase_2 : heights_fault (stations_of rows) ≡ None
  pub phase_3 : count_fault (stations_of rows) ≡ None
  pub phase_4 : points_fault (stations_of rows) ≡ None
  pub built : stations ≡ map station_of (stations_of rows)

pub no_fault : (records : List (List (List ℕ))) (rows : List Row) (stations : List Station) (hull : Option (List Station)) → Passed records rows stations
    → (IsSome hull ↔ IsHull stations) → OnOk (ok_or hull NoVolume) (records_fault records ≡ None)
no_fault records rows stations None p iff = tt
no_fault records rows stations (Some h) p iff =
    let keeps = rw p.built at (iff.0 refl) in
    no_phase records rows p.is p.phase_1 p.phase_2 p.phase_3 p.phase_4 keeps

pub same_hull : (records : List (List (List ℕ))) (rows : List Row) (stations : List Station) (hull : Option (List Station)) → Passed records rows stations
    → IfSome hull (λ h. h ≡ stations) → IfOk (ok_or hull NoVolume) (λ h. h ≡ records_hull records)
same_hull records rows stations None p same = tt
same_hull records rows stations (Some h) p same = same ∙ p.built ∙ hull_is records rows p.is

pub refused : (records : List (List (List ℕ))) (rows : List Row) (stations : List Station) (hull : Option (List Station)) → Passed records rows stations
    → (IsSome hull ↔ IsHull stations)
    → IfErr (ok_or hull NoVolume) (λ e. (e ≡ Memory) ⊎ (records_fault records ≡ Some e))
refused records rows stations (Some h) p iff = tt
refused records rows stations None p iff =
    inr (phase_5 records rows p.is p.phase_1 p.phase_2 p.phase_3 p.phase_4 (λ h. let no = iff.1 (rw p.built h) in cc))
