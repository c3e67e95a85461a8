-- The rows of a file: three numbers each, and x never falls.
use Rattle.std.specs.Prelude.{ℕ, ◌+◌, ℤ, pos, nat_lt, int_lt, nat_abs, List, [], ◌∷◌, Option, Some, None}
use Rattle.offset_reader.specs.declared.fault.OffsetFault.{OffsetFault}
use Rattle.offset_reader.specs.declared.fault.OffsetFault.TheVariants.{Columns, Number, Negative, Range, Backwards}
use Rattle.offset_reader.specs.declared.row.Row.{Row}
use Rattle.offset_reader.specs.Numbers.{number_in}
use Rattle.offset_reader.specs.Faults.{fault_if, first_of, or_later}

-- the field isn't a number
abbrev pub number_fault : ℕ → ℕ → Option ℤ → Option OffsetFault
number_fault row column None = Some (Number row column)
number_fault row column (Some n) = None

-- the field is below 0
unfoldable pub negative_fault : ℕ → ℕ → Option ℤ → Option OffsetFault
negative_fault row column None = None
negative_fault row column (Some n) = fault_if (int_lt n (pos 0)) (Negative row column)

-- the field is above its limit
unfoldable pub range_fault : ℕ → ℕ → ℕ → Option ℤ → Option OffsetFault
range_fault row column most None = None
range_fault row column most (Some n) = fault_if (int_lt (pos most) n) (Range row column)

-- a number without its sign, or 0 where there is none
abbrev pub size : Option ℤ → ℕ
size None = 0
size (Some n) = nat_abs n

-- x is below the x of the row before
unfoldable pub backwards_fault : ℕ → Option ℕ → Option ℤ → Option OffsetFault
backwards_fault row None x = None
backwards_fault row (Some before) x = fault_if (nat_lt (size x) before) (Backwards row)

-- the first fault of the numbers of a row, after a row at x `before` if it isn't the file's first
unfoldable pub numbers_fault : ℕ → Option ℕ → Option ℤ → Option ℤ → Option ℤ → Option OffsetFault
numbers_fault row before x y z = first_of (
    number_fault row 1 x ∷ number_fault row 2 y ∷ number_fault row 3 z
    ∷ negative_fault row 1 x ∷ negative_fault row 2 y ∷ negative_fault row 3 z
    ∷ range_fault row 1 524287 x ∷ range_fault row 2 65535 y ∷ range_fault row 3 65535 z
    ∷ backwards_fault row before x
    ∷ [])

-- the first fault of the fields of a row
unfoldable pub row_fault : ℕ → Option ℕ → List (List ℕ) → Option OffsetFault
row_fault row before (x ∷ y ∷ z ∷ []) = numbers_fault row before (number_in x) (number_in y) (number_in z)
row_fault row before _ = Some (Columns row)

-- the row of three fields
unfoldable pub row_of : ℕ → List (List ℕ) → Row
row_of row (x ∷ y ∷ z ∷ []) = record { number = row; x = size (number_in x); y = size (number_in y); z = size (number_in z) }
row_of row _ = record { number = row; x = 0; y = 0; z = 0 }

-- the rows of records that are numbered from here
abbrev pub rows_from : ℕ → List (List (List ℕ)) → List Row
rows_from row [] = []
rows_from row (fields ∷ rest) = row_of row fields ∷ rows_from (row + 1) rest

-- the first fault of records that are numbered from here, after a row at x `before` if there is one
abbrev pub rows_fault_from : ℕ → Option ℕ → List (List (List ℕ)) → Option OffsetFault
rows_fault_from row before [] = None
rows_fault_from row before (fields ∷ rest) =
    or_later (row_fault row before fields) (rows_fault_from (row + 1) (Some (row_of row fields).x) rest)

-- phase 1: the first fault of the rows, one by one
unfoldable pub rows_fault : List (List (List ℕ)) → Option OffsetFault
rows_fault records = rows_fault_from 1 None records

-- the rows of all records
unfoldable pub rows_of : List (List (List ℕ)) → List Row
rows_of records = rows_from 1 records
