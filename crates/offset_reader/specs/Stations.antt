-- The stations of a file: runs of rows with equal x.
use Rattle.std.specs.Prelude.{ℕ, ◌==◌, nat_lt, if◌then◌else◌, List, [], ◌∷◌, length, drop, Option, Some, None}
use Rattle.offset_reader.specs.declared.fault.OffsetFault.{OffsetFault}
use Rattle.offset_reader.specs.declared.fault.OffsetFault.TheVariants.{FewStations, TooManyStations}
use Rattle.offset_reader.specs.declared.row.Row.{Row}
use Rattle.offset_reader.specs.Faults.{fault_if, first_of}

-- stations with a row in front, which belongs to the first where both have one x
abbrev pub join : Row → List (List Row) → List (List Row)
join r [] = (r ∷ []) ∷ []
join r ([] ∷ rest) = (r ∷ []) ∷ [] ∷ rest
join r ((s ∷ more) ∷ rest) = if r.x == s.x then (r ∷ s ∷ more) ∷ rest else (r ∷ []) ∷ (s ∷ more) ∷ rest

-- rows with the same x that follow each other are one station
abbrev pub stations_of : List Row → List (List Row)
stations_of [] = []
stations_of (r ∷ rest) = join r (stations_of rest)

-- the number of a station's first row
abbrev pub first_row : List Row → ℕ
first_row [] = 0
first_row (r ∷ rest) = r.number

-- of the stations after the 64th, the first is one too many
abbrev pub many_fault : List (List Row) → Option OffsetFault
many_fault [] = None
many_fault (s ∷ rest) = Some (TooManyStations (first_row s))

-- phase 3: there are 3 to 64 stations
unfoldable pub count_fault : List (List Row) → Option OffsetFault
count_fault stations = first_of (
    fault_if (nat_lt (length stations) 3) (FewStations (length stations))
    ∷ many_fault (drop 64 stations)
    ∷ [])
