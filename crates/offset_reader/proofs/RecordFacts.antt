-- The records that a reader gives are those of the file, and no more of them than bytes.
use Rattle.std.proofs.Common.{◌≡◌, ◌≤◌, ◌<◌, ◌+◌, ℕ, zero, suc, List, [], ◌∷◌, length, Option, Some, None, true, false, refl, sym, arith, inl, inr, ◌++◌}
use Rattle.std.proofs.lemmas.Grind.{common_steps}
use Rattle.std.proofs.lemmas.Bool.{cases_Bool}
use Rattle.std.proofs.lemmas.Option.{same_Some}
use Rattle.csv.specs.Machine.{Read, next_record, step, is_end, fields_after, field_after, ends_at_end, in_field}
use Rattle.csv.specs.Reading.{Reached, AreRecords, records, records_from, default_config, strip_bom}
use Rattle.csv.specs.declared.parser.State.{State}
use Rattle.csv.specs.declared.parser.State.TheVariants as st

-- a state between two records
abbrev pub IsBetween : State → Type 0
IsBetween s = ends_at_end s ≡ false

-- with fuel for one more than the rows, the reading by fuel finds them all
pub records_from-reached : (n : ℕ) (s s2 : State) (xs ys : List ℕ) (rows : List (List (List ℕ)))
    → length rows < n → Reached default_config s xs rows s2 ys → next_record default_config s2 [] [] ys ≡ None
    → records_from default_config n s xs ≡ rows
unfolding records_from Reached
records_from-reached zero s s2 xs ys rows less reached over = absurd (omega arith)
records_from-reached (suc n) s s2 xs ys [] less reached over =
    let e : next_record default_config s [] [] xs ≡ None = rw (reached.0, reached.1) over in
    rw e refl
records_from-reached (suc n) s s2 xs ys (r ∷ rs) less reached over =
    let (p, first, fields, rest) = reached in
    let more : length rs < n = omega arith in
    let later = records_from-reached n p.1 s2 p.2 ys rs more rest over in
    rw (first, later, fields) refl

-- what ends a record leaves a state between two records
in_field-between : (c : ℕ) → is_end (in_field default_config c).1 ≡ true → ends_at_end (in_field default_config c).0 ≡ false
in_field-between c = grind (arith, common_steps)

end-between : (s : State) (c : ℕ) → is_end (step default_config s c).1 ≡ true → ends_at_end (step default_config s c).0 ≡ false
end-between st.StartRecord c = grind (arith, common_steps)
end-between st.StartField c = grind (arith, common_steps)
end-between st.InField c = grind (arith, common_steps)
end-between st.InQuoted c = grind (arith, common_steps)
end-between st.InEscape c = grind (arith, common_steps)
end-between st.AfterQuote c = grind (arith, common_steps)
end-between st.InComment c = grind (arith, common_steps)
end-between st.AfterCr c = grind (arith, common_steps)

-- a record that was read leaves such a state, and no more bytes than there were
next-between : (xs : List ℕ) (s : State) (fields : List (List ℕ)) (field : List ℕ) (p : Read)
    → next_record default_config s fields field xs ≡ Some p → (ends_at_end p.1 ≡ false) × (length p.2 ≤ length xs)
unfolding next_record
next-between [] s fields field p e =
    elim (cases_Bool (ends_at_end s)) [
      | inl ends ↦
          let at_end : Some (fields ++ (field ∷ []), st.StartRecord, []) ≡ Some p = rw ends at e in
          let same = same_Some _ _ at_end in
          rw (← same) (refl, omega arith)
      | inr goes ↦ let none : ◌≡◌ {A = Option Read} None (Some p) = rw goes at e in (cc)
    ]
next-between (c ∷ rest) s fields field p e =
    elim (cases_Bool (is_end (step default_config s c).1)) [
      | inl ends ↦
          let here : Some (fields_after (step default_config s c).1 fields field, (step default_config s c).0, rest) ≡ Some p = rw ends at e in
          let same = same_Some _ _ here in
          rw (← same) (end-between s c ends, omega arith)
      | inr goes ↦
          let later : next_record default_config (step default_config s c).0 (fields_after (step default_config s c).1 fields field) (field_after (step default_config s c).1 c field) rest ≡ Some p = rw goes at e in
          let more = next-between rest (step default_config s c).0 _ _ p later in
          (more.0, omega arith)
    ]

-- from between two records, it takes a byte at least
next-shorter : (xs : List ℕ) (s : State) (p : Read) → ends_at_end s ≡ false
    → next_record default_config s [] [] xs ≡ Some p → length p.2 < length xs
unfolding next_record
next-shorter [] s p between e = let none : ◌≡◌ {A = Option Read} None (Some p) = rw between at e in (cc)
next-shorter (c ∷ rest) s p between e =
    elim (cases_Bool (is_end (step default_config s c).1)) [
      | inl ends ↦
          let here : Some (fields_after (step default_config s c).1 [] [], (step default_config s c).0, rest) ≡ Some p = rw ends at e in
          let same = same_Some _ _ here in
          rw (← same) (omega arith)
      | inr goes ↦
          let later : next_record default_config (step default_config s c).0 (fields_after (step default_config s c).1 [] []) (field_after (step default_config s c).1 c []) rest ≡ Some p = rw goes at e in
          let more = next-between rest (step default_config s c).0 _ _ p later in
          omega (arith, more.1)
    ]

-- there are no more records than bytes
reached-length : (rows : List (List (List ℕ))) (s s2 : State) (xs ys : List ℕ) → ends_at_end s ≡ false
    → Reached default_config s xs rows s2 ys → length rows ≤ length xs
unfolding Reached
reached-length [] s s2 xs ys between reached = omega arith
reached-length (r ∷ rs) s s2 xs ys between reached =
    let (p, first, fields, rest) = reached in
    let less = next-shorter xs s p between first in
    let after = next-between xs s [] [] p first in
    let more = reached-length rs p.1 s2 p.2 ys after.0 rest in
    omega arith

-- all the records are those that reading by fuel finds
pub records-are : (xs : List ℕ) (rows : List (List (List ℕ))) → AreRecords default_config st.StartRecord xs rows → rows ≡ records default_config xs
records-are xs rows all =
    let (s2, ys, reached, over) = all in
    let short = reached-length rows st.StartRecord s2 xs ys refl reached in
    sym (records_from-reached (length xs + 1) st.StartRecord s2 xs ys rows (omega arith) reached over)

pub few-records : (xs : List ℕ) (rows : List (List (List ℕ))) → AreRecords default_config st.StartRecord xs rows → length rows ≤ length xs
few-records xs rows all =
    let (s2, ys, reached, over) = all in
    reached-length rows st.StartRecord s2 xs ys refl reached

-- a byte-order mark is only dropped
pub few-stripped : (xs : List ℕ) → length (strip_bom xs) ≤ length xs
unfolding strip_bom
few-stripped [] = omega arith
few-stripped (a ∷ []) = omega arith
few-stripped (a ∷ b ∷ []) = omega arith
few-stripped (a ∷ b ∷ c ∷ rest) = grind (arith, common_steps)
