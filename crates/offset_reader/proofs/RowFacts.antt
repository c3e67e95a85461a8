-- The fields of a row.
use Rattle.std.proofs.Common.{◌≡◌, ◌<◌, ◌≤◌, ℕ, ℤ, nat_abs, map, drop, get_or, zero, suc, arith, length, List, [], ◌∷◌, Option, Some, None, refl}
use Rattle.csv.specs.Records.{field_at}
use Rattle.offset_reader.specs.declared.fault.OffsetFault.{OffsetFault}
use Rattle.offset_reader.specs.declared.fault.OffsetFault.TheVariants.{Columns}
use Rattle.offset_reader.specs.Faults.{first_of}
use Rattle.offset_reader.specs.Numbers.{number_in}
use Rattle.offset_reader.specs.Rows.{number_fault, numbers_fault, row_fault, row_of, negative_fault, range_fault, backwards_fault}

pub no_field : (fs : List (List ℕ)) (i : ℕ) → i < length fs → None ≡ field_at fs i → ⊥
unfolding field_at
no_field [] i h e = absurd (omega arith)
no_field (f ∷ fs) zero h e = let no : None ≡ Some f = e in (cc)
no_field (f ∷ fs) (suc i) h e = no_field fs i (omega arith) e

pub three : (fs : List (List ℕ)) (a b c : List ℕ) → length fs ≡ 3 → Some a ≡ field_at fs 0 → Some b ≡ field_at fs 1 → Some c ≡ field_at fs 2 → fs ≡ a ∷ b ∷ c ∷ []
unfolding field_at
three [] a b c h x y z = absurd (omega arith)
three (f ∷ []) a b c h x y z = absurd (omega arith)
three (f ∷ g ∷ []) a b c h x y z = absurd (omega arith)
three (f ∷ g ∷ k ∷ []) a b c h x y z =
    let p : Some a ≡ Some f = x in
    let q : Some b ≡ Some g = y in
    let r : Some c ≡ Some k = z in
    cc
three (f ∷ g ∷ k ∷ l ∷ rest) a b c h x y z = absurd (omega arith)

-- a row of other than three fields
pub other_columns : (row : ℕ) (before : Option ℕ) (fs : List (List ℕ)) → (length fs ≡ 3 → ⊥) → row_fault row before fs ≡ Some (Columns row)
unfolding row_fault
other_columns row before [] h = refl
other_columns row before (a ∷ []) h = refl
other_columns row before (a ∷ b ∷ []) h = refl
other_columns row before (a ∷ b ∷ c ∷ []) h = absurd (h refl)
other_columns row before (a ∷ b ∷ c ∷ d ∷ rest) h = refl

pub first_no_number : (row : ℕ) (before : Option ℕ) (fs : List (List ℕ)) (a b c : List ℕ) (e : OffsetFault) → fs ≡ a ∷ b ∷ c ∷ []
    → number_fault row 1 (number_in a) ≡ Some e → row_fault row before fs ≡ Some e
unfolding row_fault numbers_fault
first_no_number row before fs a b c e f h = rw (f, h) refl

pub second_no_number : (row : ℕ) (before : Option ℕ) (fs : List (List ℕ)) (a b c : List ℕ) (x : ℤ) (e : OffsetFault) → fs ≡ a ∷ b ∷ c ∷ []
    → number_in a ≡ Some x → number_fault row 2 (number_in b) ≡ Some e → row_fault row before fs ≡ Some e
unfolding row_fault numbers_fault
second_no_number row before fs a b c x e f p h = rw (f, p, h) refl

pub third_no_number : (row : ℕ) (before : Option ℕ) (fs : List (List ℕ)) (a b c : List ℕ) (x y : ℤ) (e : OffsetFault) → fs ≡ a ∷ b ∷ c ∷ []
    → number_in a ≡ Some x → number_in b ≡ Some y → number_fault row 3 (number_in c) ≡ Some e → row_fault row before fs ≡ Some e
unfolding row_fault numbers_fault
third_no_number row before fs a b c x y e f p q h = rw (f, p, q, h) refl

-- the fault of a row of three numbers
pub sizes_fault : (row : ℕ) (before : Option ℕ) (fs : List (List ℕ)) (a b c : List ℕ) (x y z : ℤ) → fs ≡ a ∷ b ∷ c ∷ []
    → number_in a ≡ Some x → number_in b ≡ Some y → number_in c ≡ Some z → row_fault row before fs ≡ first_of (
    negative_fault row 1 (Some x) ∷ negative_fault row 2 (Some y) ∷ negative_fault row 3 (Some z)
    ∷ range_fault row 1 524287 (Some x) ∷ range_fault row 2 65535 (Some y) ∷ range_fault row 3 65535 (Some z)
    ∷ backwards_fault row before (Some x)
    ∷ [])
unfolding row_fault numbers_fault
sizes_fault row before fs a b c x y z f p q r = rw (f, p, q, r) refl

-- the row of three numbers
pub sizes_row : (row : ℕ) (fs : List (List ℕ)) (a b c : List ℕ) (x y z : ℤ) → fs ≡ a ∷ b ∷ c ∷ []
    → number_in a ≡ Some x → number_in b ≡ Some y → number_in c ≡ Some z → row_of row fs ≡ record { number = row; x = nat_abs x; y = nat_abs y; z = nat_abs z }
unfolding row_of
sizes_row row fs a b c x y z f p q r = rw (f, p, q, r) refl

-- the rows that are left, by the first of them
pub first_left : {A B : Type 0} (f : A → B) (xs : List A) (d : A) → 1 ≤ length xs → map f xs ≡ f (get_or xs 0 d) ∷ map f (drop 1 xs)
first_left f [] d h = absurd (omega arith)
first_left f (x ∷ xs) d h = refl

pub none_left : {A : Type 0} (xs : List A) → length xs < 1 → xs ≡ []
none_left [] h = refl
none_left (x ∷ xs) h = absurd (omega arith)
