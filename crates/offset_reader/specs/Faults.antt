-- Faults in their order.
use Rattle.std.specs.Prelude.{Bool, if◌then◌else◌, List, [], ◌∷◌, Option, Some, None}
use Rattle.offset_reader.specs.declared.fault.OffsetFault.{OffsetFault}

-- a fault that is there where a test holds
abbrev pub fault_if : Bool → OffsetFault → Option OffsetFault
fault_if b fault = if b then Some fault else None

-- the first of two faults
abbrev pub or_later : Option OffsetFault → Option OffsetFault → Option OffsetFault
or_later None later = later
or_later (Some fault) later = Some fault

-- the first fault that is there
abbrev pub first_of : List (Option OffsetFault) → Option OffsetFault
first_of [] = None
first_of (None ∷ rest) = first_of rest
first_of (Some fault ∷ rest) = Some fault
