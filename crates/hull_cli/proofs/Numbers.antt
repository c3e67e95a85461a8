-- Words that are numbers.
use Rattle.std.proofs.Common.{◌≡◌, refl, sym, ap, ◌∙◌, ℕ, ◌<◌, ◌≤◌, ◌^◌, Bool, true, false, ◌&&◌, nat_le, List, [], ◌∷◌, length, Some, None, Ok, Err, Result, arith}
use Rattle.std.proofs.lemmas.Grind.{common_steps}
use Rattle.std.proofs.lemmas.Str.Parse.{parse_gives, numerals_by_value, tells_all_ascii_digits, digits_value_short, IsNumeralModel}
use Rattle.std.specs.Char.{is_ascii_digit}
use Rattle.std.specs.List.{list_all}
use Rattle.std.specs.Str.{all_ascii_digits}
use Rattle.std.specs.Str.Parse.{digits_value, ParsesUnsigned}
use Rattle.hull_cli.specs.Words.{is_number_word, number_in}

digits_one_by_one : (bs : List ℕ) → list_all is_ascii_digit bs ≡ all_ascii_digits bs
digits_one_by_one [] = refl
digits_one_by_one (b ∷ bs) = ap (λ t. is_ascii_digit b && t) (digits_one_by_one bs)

numerals : IsNumeralModel (λ ds. all_ascii_digits ds ≡ true) (digits_value 10)
numerals = numerals_by_value _ tells_all_ascii_digits

-- a word of at most 19 digits is read as its value
pub number-parses : {E : Type 0} (digits : ℕ) (word : List ℕ) (r : Result ℕ E) → ParsesUnsigned 64 10 word r → digits ≤ 19 → is_number_word digits word ≡ true → r ≡ Ok (digits_value 10 word)
number-parses digits word r parses few number = parse_gives numerals 64 word r parses all_digits some small
  where
    parts : (a b c : Bool) → ((a && b) && c) ≡ true → (a ≡ true) × (b ≡ true) × (c ≡ true)
    parts true true true h = (refl, refl, refl)
    parts true true false h = absurd (no h)
      where
        no : false ≡ true → ⊥
        no h = cc
    parts true false c h = absurd (no h)
      where
        no : false ≡ true → ⊥
        no h = cc
    parts false b c h = absurd (no h)
      where
        no : false ≡ true → ⊥
        no h = cc

    all : (nat_le 1 (length word) ≡ true) × (nat_le (length word) digits ≡ true) × (list_all is_ascii_digit word ≡ true)
    all = parts _ _ _ number

    all_digits : all_ascii_digits word ≡ true
    all_digits = sym (digits_one_by_one word) ∙ all.2

    some : 0 < length word
    some = grind (arith, all.0)

    short : length word ≤ digits
    short = grind (arith, all.1)

    within : length word ≤ 19
    within = omega (arith, short, few)

    small : digits_value 10 word < 2 ^ 64
    small = omega (arith, digits_value_short numerals word 19 all_digits within)

pub number-is_read : {E : Type 0} (digits : ℕ) (word : List ℕ) (e : E) → ParsesUnsigned 64 10 word (Err e) → digits ≤ 19 → is_number_word digits word ≡ true → ⊥
number-is_read digits word e parses few number = no (number-parses digits word (Err e) parses few number)
  where
    no : {E : Type 0} {e : E} {n : ℕ} → Err e ≡ Ok n → ⊥
    no h = cc

-- what a word is as a number, by its value
pub number_found : (digits most n : ℕ) (word : List ℕ) → is_number_word digits word ≡ true → digits_value 10 word ≡ n → n ≤ most → Some n ≡ number_in digits most word
number_found digits most n word number value small = grind (arith, common_steps)

pub number_past : (digits most n : ℕ) (word : List ℕ) → is_number_word digits word ≡ true → digits_value 10 word ≡ n → most < n → None ≡ number_in digits most word
number_past digits most n word number value large = grind (arith, common_steps)

pub no_number : (digits most : ℕ) (word : List ℕ) → is_number_word digits word ≡ false → None ≡ number_in digits most word
no_number digits most word h = grind (arith, common_steps)
