-- The number in a field.
use Rattle.std.proofs.Common.{◌≡◌, ◌<◌, ◌≤◌, ◌^◌, ℕ, pos, neg_ℤ, true, false, List, [], ◌∷◌, length, take, drop, get_or, ◌-◌, ◌-ℤ◌, to_z, of_z, w32, Some, None, option_map, arith, refl}
use Rattle.std.proofs.lemmas.Grind.{common_steps}
use Rattle.std.proofs.lemmas.Int.{ints}
use Rattle.std.proofs.Math.Nat.{pow-le-pow_right}
use Rattle.std.specs.Char.{is_ascii_digit}
use Rattle.std.specs.Str.{all_ascii_digits}
use Rattle.std.specs.Str.Parse.{digits_value}
use Rattle.offset_reader.specs.Numbers.{digits_number, signed_number}

pub few_digits : (n : ℕ) → n ≤ 8 → 10 ^ n ≤ 10 ^ 8
few_digits n few = pow-le-pow_right {n = 10} (omega arith) {i = n} {j = 8} few

pub not_none : (ds : List ℕ) → length ds ≡ 0 → digits_number ds ≡ None
unfolding digits_number
not_none ds h = grind (arith, common_steps)

pub not_many : (ds : List ℕ) → 9 < length ds → digits_number ds ≡ None
unfolding digits_number
not_many ds h = grind (arith, common_steps)

pub not_digits : (ds : List ℕ) → all_ascii_digits ds ≡ false → digits_number ds ≡ None
unfolding digits_number
not_digits ds h = grind (arith, common_steps)

pub all_digits : (ds : List ℕ) → 1 ≤ length ds → length ds ≤ 9 → all_ascii_digits ds ≡ true → digits_number ds ≡ Some (digits_value 10 ds)
unfolding digits_number
all_digits ds some few h = grind (arith, common_steps)

-- a byte that is no digit
pub one_bad : (ds : List ℕ) (i : ℕ) → i < length ds → is_ascii_digit (get_or ds i 0) ≡ false → all_ascii_digits (drop i ds) ≡ false
one_bad ds i h bad = grind (arith, common_steps)

pub no_text : (xs : List ℕ) → length xs < 1 → signed_number xs ≡ None
unfolding signed_number
no_text [] h = refl
no_text (b ∷ xs) h = absurd (omega arith)

pub after_minus : (xs : List ℕ) → 1 ≤ length xs → get_or xs 0 0 ≡ 45 → signed_number xs ≡ option_map (λ n. neg_ℤ (pos n)) (digits_number (take (length xs - 1) (drop 1 xs)))
unfolding signed_number
after_minus [] h e = absurd (omega arith)
after_minus (b ∷ xs) h e = grind (arith, common_steps)

pub no_minus : (xs : List ℕ) → 1 ≤ length xs → (get_or xs 0 0 ≡ 45 → ⊥) → signed_number xs ≡ option_map (λ n. pos n) (digits_number xs)
unfolding signed_number
no_minus [] h e = absurd (omega arith)
no_minus (b ∷ xs) h e = grind (arith, common_steps)

pub negated : (n : ℕ) → n < 1000000000 → to_z w32 (of_z w32 (pos 0 -ℤ to_z w32 n)) ≡ neg_ℤ (pos n)
negated n small = omega (arith, ints)

pub as_signed : (n : ℕ) → n < 1000000000 → to_z w32 n ≡ pos n
as_signed n small = omega (arith, ints)
