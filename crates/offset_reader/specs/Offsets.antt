-- What an offset file is refused for, and the hull of one that isn't.
use Rattle.std.specs.Prelude.{List, [], ◌∷◌, ℕ, map, Option}
use Rattle.hull_model.specs.declared.station.Station.{Station}
use Rattle.offset_reader.specs.declared.fault.OffsetFault.{OffsetFault}
use Rattle.offset_reader.specs.declared.row.Row.{Row}
use Rattle.offset_reader.specs.Faults.{first_of}
use Rattle.offset_reader.specs.Records.{records_of}
use Rattle.offset_reader.specs.Rows.{rows_fault, rows_of}
use Rattle.offset_reader.specs.Stations.{count_fault, stations_of}
use Rattle.offset_reader.specs.Heights.{heights_fault}
use Rattle.offset_reader.specs.Points.{points_fault, volume_fault, station_of}

-- the first fault of stations, in the order of phases 2 to 5
abbrev pub stations_fault : List (List Row) → Option OffsetFault
stations_fault stations = first_of (heights_fault stations ∷ count_fault stations ∷ points_fault stations ∷ volume_fault stations ∷ [])

-- the first fault of records: that of the first phase that finds one
unfoldable pub records_fault : List (List (List ℕ)) → Option OffsetFault
records_fault records = first_of (rows_fault records ∷ stations_fault (stations_of (rows_of records)) ∷ [])

-- the stations of records, with the points that they keep
unfoldable pub records_hull : List (List (List ℕ)) → List Station
records_hull records = map station_of (stations_of (rows_of records))

-- the first fault of a file of these bytes
abbrev pub first_fault : List ℕ → Option OffsetFault
first_fault bytes = records_fault (records_of bytes)

-- the hull of a file of these bytes that has no fault
abbrev pub hull_of : List ℕ → List Station
hull_of bytes = records_hull (records_of bytes)
