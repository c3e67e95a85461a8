-- The order of heights in a station.
use Rattle.std.specs.Prelude.{Bool, true, ◌==◌, ◌&&◌, ◌||◌, not, nat_lt, if◌then◌else◌, List, [], ◌∷◌, ◌++◌, Option, Some, None}
use Rattle.std.specs.List.{list_all}
use Rattle.offset_reader.specs.declared.fault.OffsetFault.{OffsetFault}
use Rattle.offset_reader.specs.declared.fault.OffsetFault.TheVariants.{Height}
use Rattle.offset_reader.specs.declared.row.Row.{Row}
use Rattle.offset_reader.specs.Faults.{or_later}

-- all heights of these rows are equal
abbrev pub is_level : List Row → Bool
is_level [] = true
is_level (r ∷ rest) = list_all (λ s. s.z == r.z) rest

-- the height of `this` is out of order: it is lower than that of the row before; or it is equal to it, while not
-- all heights of the station up to this row are equal, and not all heights from the row before to the last are
abbrev pub is_out_of_order : List Row → Row → Row → List Row → Bool
is_out_of_order earlier before this later =
    nat_lt this.z before.z
    || ((this.z == before.z) && (not (is_level (earlier ++ (before ∷ this ∷ []))) && not (is_level (before ∷ this ∷ later))))

-- the first height out of order in a station, of which these rows follow the earlier ones
abbrev pub height_fault_after : List Row → List Row → Option OffsetFault
height_fault_after earlier [] = None
height_fault_after earlier (before ∷ []) = None
height_fault_after earlier (before ∷ this ∷ later) =
    if is_out_of_order earlier before this later
    then Some (Height this.number)
    else height_fault_after (earlier ++ (before ∷ [])) (this ∷ later)

-- the first height of a station that is out of order
unfoldable pub height_fault : List Row → Option OffsetFault
height_fault station = height_fault_after [] station

-- phase 2: the first height that is out of order
abbrev pub heights_fault : List (List Row) → Option OffsetFault
heights_fault [] = None
heights_fault (s ∷ rest) = or_later (height_fault s) (heights_fault rest)
