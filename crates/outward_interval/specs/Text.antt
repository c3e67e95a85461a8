-- The text of a figure.
use Rattle.std.specs.Prelude.{ℕ, zero, suc, ◌+◌, ◌/◌, ◌%◌, ◌^◌, ℤ, pos, negsuc, List, [], ◌∷◌, ◌++◌, codes, decimal}
use Rattle.std.specs.Int.RustNames.{unsigned_abs}

-- the last digits of a number, so many of them
abbrev pub last_digits : ℕ → ℕ → List ℕ
last_digits zero n = []
last_digits (suc k) n = last_digits k (n / 10) ++ (48 + n % 10) ∷ []

-- a minus sign below 0
abbrev pub sign : ℤ → List ℕ
sign (pos n) = []
sign (negsuc n) = codes "-"

-- a number of units of 10^-places: its sign, its whole part, a point, and so many decimals
abbrev pub end_text : ℕ → ℤ → List ℕ
end_text places z = ((sign z ++ decimal (unsigned_abs z / 10 ^ places)) ++ codes ".") ++ last_digits places (unsigned_abs z % 10 ^ places)

-- both ends in brackets
abbrev pub figure_text : ℕ → ℤ → ℤ → List ℕ
figure_text places low high = (((codes "[" ++ end_text places low) ++ codes ",") ++ end_text places high) ++ codes "]"
