-- What a name is.
use Rattle.std.specs.Prelude.{ℕ, Bool, ◌&&◌, ◌||◌, ◌==◌, nat_le, List, length}
use Rattle.std.specs.List.{list_all}

-- from one byte to another
abbrev pub is_between : ℕ → ℕ → ℕ → Bool
is_between low high b = nat_le low b && nat_le b high

-- a letter, a digit, `_`, `-` or `.`
abbrev pub is_name_byte : ℕ → Bool
is_name_byte b = (((is_between 97 122 b || is_between 65 90 b) || is_between 48 57 b) || (b == 95)) || ((b == 45) || (b == 46))

-- 1 to 32 such bytes
abbrev pub is_name : List ℕ → Bool
is_name text = is_between 1 32 (length text) && list_all is_name_byte text
