-- The number in a field.
use Rattle.std.specs.Prelude.{Bool, ℕ, ℤ, pos, neg_ℤ, ◌==◌, ◌&&◌, ◌||◌, nat_le, if◌then◌else◌, List, [], ◌∷◌, length, reverse, Option, Some, None, option_map}
use Rattle.std.specs.Str.{all_ascii_digits}
use Rattle.std.specs.Str.Parse.{digits_value}

-- a space or a tab
abbrev pub is_blank : ℕ → Bool
is_blank b = (b == 0x20) || (b == 0x09)

-- a text from its first byte on that is no blank
abbrev pub after_blanks : List ℕ → List ℕ
after_blanks [] = []
after_blanks (b ∷ rest) = if is_blank b then after_blanks rest else b ∷ rest

-- a text up to its last byte that is no blank
abbrev pub before_blanks : List ℕ → List ℕ
before_blanks text = reverse (after_blanks (reverse text))

-- a field without the blanks at both ends
abbrev pub without_blanks : List ℕ → List ℕ
without_blanks field = before_blanks (after_blanks field)

-- the number of one to nine decimal digits
unfoldable pub digits_number : List ℕ → Option ℕ
digits_number digits =
    if nat_le 1 (length digits) && nat_le (length digits) 9 && all_ascii_digits digits
    then Some (digits_value 10 digits)
    else None

-- the number of a text: one to nine decimal digits, or the same after a minus, which is the byte 0x2D
unfoldable pub signed_number : List ℕ → Option ℤ
signed_number [] = None
signed_number (b ∷ rest) =
    if b == 0x2D
    then option_map (λ n. neg_ℤ (pos n)) (digits_number rest)
    else option_map (λ n. pos n) (digits_number (b ∷ rest))

-- the number in a field, if there is one
unfoldable pub number_in : List ℕ → Option ℤ
number_in field = signed_number (without_blanks field)
