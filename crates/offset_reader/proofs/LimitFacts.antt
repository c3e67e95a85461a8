-- What rows without a fault keep.
use Rattle.std.proofs.Common.{◌≡◌, ◌≤◌, ◌+◌, ℕ, ℤ, pos, negsuc, nat_abs, arith, List, [], ◌∷◌, Option, Some, None, refl}
use Rattle.std.specs.Bool.{⊤}
use Rattle.std.specs.List.{AllByRecursion}
use Rattle.std.proofs.lemmas.Grind.{common_steps}
use Rattle.offset_reader.specs.declared.fault.OffsetFault.{OffsetFault}
use Rattle.offset_reader.specs.declared.row.Row.{Row}
use Rattle.offset_reader.specs.Faults.{first_of, or_later}
use Rattle.offset_reader.specs.Numbers.{number_in}
use Rattle.offset_reader.specs.Rows.{size, negative_fault, range_fault, backwards_fault, numbers_fault, row_fault, row_of, rows_from, rows_fault_from, rows_fault, rows_of}

-- a row within the limits
pub record IsWithinLimits (r : Row) : Type 0 where
  pub x : r.x ≤ 524287
  pub y : r.y ≤ 65535
  pub z : r.z ≤ 65535

pub none_first : (f : Option OffsetFault) (rest : List (Option OffsetFault)) → first_of (f ∷ rest) ≡ None → (f ≡ None) × (first_of rest ≡ None)
none_first None rest h = (refl, h)
none_first (Some e) rest h = let no : ◌≡◌ {A = Option OffsetFault} (Some e) None = h in (cc)

pub none_either : (f g : Option OffsetFault) → or_later f g ≡ None → (f ≡ None) × (g ≡ None)
none_either None g h = (refl, h)
none_either (Some e) g h = let no : ◌≡◌ {A = Option OffsetFault} (Some e) None = h in (cc)

in_range : (row column most : ℕ) (n : ℤ) → negative_fault row column (Some n) ≡ None → range_fault row column most (Some n) ≡ None → nat_abs n ≤ most
unfolding negative_fault range_fault
in_range row column most (pos n) h k = grind (arith, common_steps)
in_range row column most (negsuc n) h k = grind (arith, common_steps)

abbrev SizesWithin : ℕ → Option ℕ → Option ℤ → Option ℤ → Option ℤ → Type 0
SizesWithin row before x y z = (size x ≤ 524287) × (size y ≤ 65535) × (size z ≤ 65535) × (backwards_fault row before x ≡ None)

no_fault_left : (e : OffsetFault) → Some e ≡ None → ⊥
no_fault_left e h = cc

within_limits : (row : ℕ) (before : Option ℕ) (x y z : Option ℤ) → numbers_fault row before x y z ≡ None → SizesWithin row before x y z
unfolding numbers_fault
within_limits row before None y z h = absurd (no_fault_left _ h)
within_limits row before (Some x) None z h = absurd (no_fault_left _ h)
within_limits row before (Some x) (Some y) None h = absurd (no_fault_left _ h)
within_limits row before (Some x) (Some y) (Some z) h =
    let a = none_first _ _ h in
    let b = none_first _ _ a.1 in
    let c = none_first _ _ b.1 in
    let d = none_first _ _ c.1 in
    let e = none_first _ _ d.1 in
    let f = none_first _ _ e.1 in
    let g = none_first _ _ f.1 in
    (in_range row 1 524287 x a.0 d.0, in_range row 2 65535 y b.0 e.0, in_range row 3 65535 z c.0 f.0, g.0)

-- at least the x of the row before
abbrev pub IsAtLeast : Option ℕ → ℕ → Type 0
IsAtLeast None x = ⊤
IsAtLeast (Some before) x = before ≤ x

not_back : (row : ℕ) (before : Option ℕ) (x : Option ℤ) → backwards_fault row before x ≡ None → IsAtLeast before (size x)
unfolding backwards_fault
not_back row None x h = tt
not_back row (Some b) x h = grind (arith, common_steps)

row_keeps : (row : ℕ) (before : Option ℕ) (fields : List (List ℕ)) → row_fault row before fields ≡ None
    → IsWithinLimits (row_of row fields) × IsAtLeast before (row_of row fields).x
unfolding row_fault row_of
row_keeps row before [] h = absurd (no_fault_left _ h)
row_keeps row before (x ∷ []) h = absurd (no_fault_left _ h)
row_keeps row before (x ∷ y ∷ []) h = absurd (no_fault_left _ h)
row_keeps row before (x ∷ y ∷ z ∷ []) h =
    let all = within_limits row before (number_in x) (number_in y) (number_in z) h in
    (record { x = all.0; y = all.1; z = all.2 }, not_back row before (number_in x) all.3)
row_keeps row before (x ∷ y ∷ z ∷ more ∷ rest) h = absurd (no_fault_left _ h)

-- x never falls from a row to the next
abbrev pub NeverFalls : Option ℕ → List Row → Type 0
NeverFalls before [] = ⊤
NeverFalls before (r ∷ rest) = IsAtLeast before r.x × NeverFalls (Some r.x) rest

rows_keep : (row : ℕ) (before : Option ℕ) (records : List (List (List ℕ))) → rows_fault_from row before records ≡ None
    → AllByRecursion IsWithinLimits (rows_from row records) × NeverFalls before (rows_from row records)
rows_keep row before [] h = (tt, tt)
rows_keep row before (fields ∷ rest) h =
    let parts = none_either _ _ h in
    let here = row_keeps row before fields parts.0 in
    let later = rows_keep (row + 1) (Some (row_of row fields).x) rest parts.1 in
    ((here.0, later.0), (here.1, later.1))

pub rows_kept : (records : List (List (List ℕ))) → rows_fault records ≡ None
    → AllByRecursion IsWithinLimits (rows_of records) × NeverFalls None (rows_of records)
unfolding rows_fault rows_of
rows_kept records h = rows_keep 1 None records h
