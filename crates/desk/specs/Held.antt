-- What a shelf in memory holds.
use Rattle.std.specs.Prelude.{ℕ, List, [], ◌∷◌, Option, Some, None, if◌then◌else◌, String, Vec, string_bytes, unwrap_or}
use Rattle.std.specs.Str.{bytes_eq}
use Rattle.std.specs.declared.alloc.Global.{Global}

-- the bytes of the first file of this name
abbrev pub held_in : List (String Global × Vec ℕ Global) → List ℕ → Option (List ℕ)
held_in [] name = None
held_in (file ∷ files) name = if bytes_eq (string_bytes file.0) name then Some file.1.items else held_in files name

-- the same, and no bytes where there is no such file
abbrev pub held_or_empty : List (String Global × Vec ℕ Global) → List ℕ → List ℕ
held_or_empty files name = unwrap_or (held_in files name) []
