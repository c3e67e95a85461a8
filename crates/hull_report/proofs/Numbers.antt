-- Whole numbers, ends and figures are read from their texts.
use Rattle.std.proofs.Common.{◌≡◌, ◌<◌, ◌≤◌, ℕ, suc, ◌+◌, ◌-◌, ◌*◌, ◌/◌, ◌%◌, ◌^◌, List, [], ◌∷◌, ◌++◌, codes, decimal, ℤ, pos, negsuc, neg_ℤ, Some, None, FitsSigned, inl, inr, refl, ap, ◌∙◌, append_assoc, arith}
use Rattle.std.specs.Int.{w64, w128}
use Rattle.std.specs.Fmt.{signed_decimal}
use Rattle.std.proofs.lemmas.Bool.{lt-ltb, le-leb}
use Rattle.std.proofs.lemmas.Nat.{div-add-mod'}
use Rattle.std.proofs.Math.Nat.{div-le_self, mod-lt, one-le-pow}
use Rattle.outward_interval.specs.Text.{last_digits, end_text, figure_text}
use Rattle.outward_interval.specs.declared.figure.Figure.{Figure}
use Rattle.hull_report.specs.Reading.{◌>>=◌, cut, digits_after, unsigned, positive, negative, signed_by, signed, half, within, up_to, version, figure, criterion}
use Rattle.hull_report.proofs.Ranges.{Within, within_append, wider, lacks, decimal_digits, last_digits_digits, end_bytes, abs_small}
use Rattle.hull_report.proofs.Cuts.{cut_at, cut_none}
use Rattle.hull_report.proofs.Digits.{decimal_number, decimals_number}
use Rattle.hull_report.proofs.Figures.{ordered_is}

-- digits without a point
pub unsigned_decimal : (n : ℕ) → n < 2 ^ 128 → unsigned (decimal n) ≡ Some n
unfolding unsigned digits_after
unsigned_decimal n h =
    let no_point : cut 46 (decimal n) ≡ None = cut_none 46 (decimal n) (lacks 48 58 46 (decimal n) (inl (omega arith)) (decimal_digits n (omega (arith, h)))) in
    rw (no_point, decimal_number n h) refl

-- digits with a point
pub unsigned_decimals : (places m : ℕ) → m < 2 ^ 128 → unsigned (decimal (m / 10 ^ places) ++ 46 ∷ last_digits places (m % 10 ^ places)) ≡ Some m
unfolding unsigned
unsigned_decimals places m h =
    let whole = m / 10 ^ places in
    let part = m % 10 ^ places in
    let small : whole < 2 ^ 128 = omega (arith, h, div-le_self m (10 ^ places)) in
    let parts : whole * 10 ^ places + part ≡ m = div-add-mod' m (10 ^ places) in
    let point : cut 46 (decimal whole ++ 46 ∷ last_digits places part) ≡ Some (decimal whole, last_digits places part) =
    cut_at 46 (decimal whole) (last_digits places part) (lacks 48 58 46 (decimal whole) (inl (omega arith)) (decimal_digits whole (omega (arith, small)))) in
    rw (point, decimal_number whole small) (decimals_number places whole part (mod-lt m (one-le-pow places 10 (omega arith))) (rw parts h) ∙ ap Some parts)

signed_plain : (text : List ℕ) (n : ℕ) → Within 46 58 text → unsigned text ≡ Some n → n < 2 ^ 127 → signed text ≡ Some (pos n)
unfolding signed
signed_plain text n bytes value h =
    let no_sign : cut 45 text ≡ None = cut_none 45 text (lacks 46 58 45 text (inl (omega arith)) bytes) in
    ap (λ parts. signed_by parts text) no_sign ∙ ap (λ n. n >>= positive) value ∙ rw (lt-ltb _ _ h) refl

signed_minus : (text : List ℕ) (n : ℕ) → unsigned text ≡ Some n → n ≤ 2 ^ 127 → signed (45 ∷ text) ≡ Some (neg_ℤ (pos n))
unfolding signed
signed_minus text n value h =
    let minus : cut 45 (45 ∷ text) ≡ Some ([], text) = cut_at 45 [] text tt in
    ap (λ parts. signed_by parts (45 ∷ text)) minus ∙ ap (λ n. n >>= negative) value ∙ rw (le-leb _ _ h) refl

pub signed_decimal_is : (z : ℤ) → FitsSigned w128 z → signed (signed_decimal z) ≡ Some z
signed_decimal_is (pos n) f = signed_plain (decimal n) n (wider 48 58 46 58 (decimal n) (omega arith) (omega arith) (decimal_digits n (omega (arith, f.sfits)))) (unsigned_decimal n (omega (arith, f.sfits))) f.sfits
signed_decimal_is (negsuc n) f = signed_minus (decimal (suc n)) (suc n) (unsigned_decimal (suc n) (omega (arith, f.sfits))) (omega (arith, f.sfits))

decimals_bytes : (places m : ℕ) → m < 2 ^ 128 → Within 46 58 (decimal (m / 10 ^ places) ++ 46 ∷ last_digits places (m % 10 ^ places))
decimals_bytes places m h =
    let whole = m / 10 ^ places in
    let part = m % 10 ^ places in
    within_append 46 58 (decimal whole) (46 ∷ last_digits places part)
    (wider 48 58 46 58 (decimal whole) (omega arith) (omega arith) (decimal_digits whole (omega (arith, h, div-le_self m (10 ^ places)))))
    ((omega arith, omega arith), wider 48 58 46 58 (last_digits places part) (omega arith) (omega arith) (last_digits_digits places part))

pub end_is : (places : ℕ) (z : ℤ) → FitsSigned w128 z → signed (end_text places z) ≡ Some z
end_is places (pos n) f =
    ap signed (append_assoc (decimal (n / 10 ^ places)) (codes ".") (last_digits places (n % 10 ^ places)))
    ∙ signed_plain _ n (decimals_bytes places n (omega (arith, f.sfits))) (unsigned_decimals places n (omega (arith, f.sfits))) f.sfits
end_is places (negsuc n) f =
    ap (λ t. signed (45 ∷ t)) (append_assoc (decimal (suc n / 10 ^ places)) (codes ".") (last_digits places (suc n % 10 ^ places)))
    ∙ signed_minus _ (suc n) (unsigned_decimals places (suc n) (omega (arith, f.sfits))) (omega (arith, f.sfits))

pub figure_is : (places : ℕ) (f : Figure) → FitsSigned w128 f.lo → FitsSigned w128 f.hi → figure (figure_text places f.lo f.hi) ≡ Some f
unfolding figure
figure_is places f l h =
    let low = end_text places f.lo in
    let high = end_text places f.hi in
    let grouped : figure_text places f.lo f.hi ≡ 91 ∷ (low ++ 44 ∷ (high ++ 93 ∷ [])) = simp append_assoc refl in
    let opened : cut 91 (91 ∷ (low ++ 44 ∷ (high ++ 93 ∷ []))) ≡ Some ([], low ++ 44 ∷ (high ++ 93 ∷ [])) = cut_at 91 [] (low ++ 44 ∷ (high ++ 93 ∷ [])) tt in
    let parted : cut 44 (low ++ 44 ∷ (high ++ 93 ∷ [])) ≡ Some (low, high ++ 93 ∷ []) = cut_at 44 low (high ++ 93 ∷ []) (lacks 45 58 44 low (inl (omega arith)) (end_bytes places f.lo (abs_small f.lo l))) in
    let closed : cut 93 (high ++ 93 ∷ []) ≡ Some (high, []) = cut_at 93 high [] (lacks 45 58 93 high (inr (omega arith)) (end_bytes places f.hi (abs_small f.hi h))) in
    ap figure grouped ∙ rw (opened, parted, closed, end_is places f.lo l, end_is places f.hi h) (ordered_is f)

pub within_is : (bits n : ℕ) → n < 2 ^ bits → within bits n ≡ Some n
within_is bits n h = rw (lt-ltb _ _ h) refl

pub half_is : (z : ℤ) → FitsSigned w64 z → half z ≡ Some z
half_is (pos n) f = rw (le-leb n (2 ^ 63 - 1) (omega (arith, f.sfits))) refl
half_is (negsuc n) f = rw (le-leb n (2 ^ 63 - 1) (omega (arith, f.sfits))) refl

up_to_is : (most n : ℕ) → 1 ≤ n → n ≤ most → up_to most n ≡ Some n
up_to_is most n l h = rw (le-leb _ _ l, le-leb _ _ h) refl

pub version_is : (n : ℕ) → 1 ≤ n → n ≤ 2 → version (decimal n) ≡ Some n
unfolding version
version_is n l h = ap (λ n. n >>= up_to 2) (unsigned_decimal n (omega (arith, h))) ∙ up_to_is 2 n l h

pub criterion_is : (n : ℕ) → 1 ≤ n → n ≤ 6 → criterion (codes "C" ++ decimal n) ≡ Some n
unfolding criterion
criterion_is n l h =
    let behind_c : cut 67 (67 ∷ decimal n) ≡ Some ([], decimal n) = cut_at 67 [] (decimal n) tt in
    rw (behind_c, unsigned_decimal n (omega (arith, h))) (up_to_is 6 n l h)
