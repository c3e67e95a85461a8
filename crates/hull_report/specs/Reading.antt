-- A model of the private functions of `word` and `words`: how words are read. More texts are taken here than the grammar has:
-- a line counts only where its text is what was read.
use Rattle.std.specs.Prelude.{T, ◌≡◌, ℕ, ◌+◌, ◌-◌, ◌*◌, ◌^◌, ℤ, pos, neg_ℤ, Bool, true, false, List, [], ◌∷◌, Option, Some, None, option_map, option_and_then, nat_lt, nat_le, ◌==◌, if◌then◌else◌, ◌&&◌, codes}
use Rattle.std.specs.Option.{unwrap_or}
use Rattle.std.specs.Str.{bytes_eq}
use Rattle.std.specs.Char.{is_ascii_digit}
use Rattle.std.specs.Int.Signed.{le_z, le_z_yes, ◌≤ℤ◌}
use Rattle.outward_interval.specs.declared.figure.Figure.{Figure}
use Rattle.hull_report.specs.declared.names.Command.{Command}
use Rattle.hull_report.specs.declared.names.Command.TheVariants as of
use Rattle.hull_report.specs.declared.names.Finding.{Finding}
use Rattle.hull_report.specs.declared.names.Finding.TheVariants as found
use Rattle.hull_report.specs.declared.names.SideLine.{SideLine}
use Rattle.hull_report.specs.declared.names.SideLine.TheVariants as on
use Rattle.hull_report.specs.declared.line.Sides.{Sides}
use Rattle.hull_report.specs.declared.words.Lever.{Lever}

infixl 10 ◌>>=◌
abbrev pub ◌>>=◌ : {A B : Type 0} → Option A → (A → Option B) → Option B
o >>= f = option_and_then f o

-- what stands before the first separator, and what stands after it
unfoldable pub cut : ℕ → List ℕ → Option (List ℕ × List ℕ)
cut separator [] = None
cut separator (b ∷ bytes) = if b == separator then Some ([], bytes) else option_map (λ p. (b ∷ p.0, p.1)) (cut separator bytes)

-- a number below 2^128
abbrev pub small : ℕ → Option ℕ
small n = if nat_lt n (2 ^ 128) then Some n else None

-- the number that a digit makes of those before it
abbrev pub digit_after : ℕ → ℕ → Option ℕ
digit_after n b = if is_ascii_digit b then (small (n * 10) >>= λ shifted. small (shifted + (b - 48))) else None

-- the number that digits write where they follow those of n
unfoldable pub digits_after : ℕ → List ℕ → Option ℕ
digits_after n [] = Some n
digits_after n (b ∷ bytes) = digit_after n b >>= λ next. digits_after next bytes

-- the number that digits write, with or without a point among them
unfoldable pub unsigned : List ℕ → Option ℕ
unsigned text = do
  let parts = unwrap_or (cut 46 text) (text, [])
  whole ← digits_after 0 parts.0
  digits_after whole parts.1

-- a number and its negative, from -2^127 to 2^127 - 1
abbrev pub positive : ℕ → Option ℤ
positive n = if nat_lt n (2 ^ 127) then Some (pos n) else None

abbrev pub negative : ℕ → Option ℤ
negative n = if nat_le n (2 ^ 127) then Some (neg_ℤ (pos n)) else None

-- the number that digits write, behind a minus sign or without one
abbrev pub signed_by : Option (List ℕ × List ℕ) → List ℕ → Option ℤ
signed_by (Some parts) text = unsigned parts.1 >>= negative
signed_by None text = unsigned text >>= positive

unfoldable pub signed : List ℕ → Option ℤ
signed text = signed_by (cut 45 text) text

-- the figure from low to high, where low is at most high
abbrev pub ordered_if : (low high : ℤ) (b : Bool) → (T b → low ≤ℤ high) → Option Figure
ordered_if low high true fact = Some (record { lo = low; hi = high; ordered = fact tt })
ordered_if low high false fact = None

abbrev pub ordered : ℤ → ℤ → Option Figure
ordered low high = ordered_if low high (le_z low high) le_z_yes

-- the interval between brackets
unfoldable pub figure : List ℕ → Option Figure
figure word = do
  ends ← cut 91 word
  low ← cut 44 ends.1
  high ← cut 93 low.1
  lo ← signed low.0
  hi ← signed high.0
  ordered lo hi

-- a number within so many bits
abbrev pub within : ℕ → ℕ → Option ℕ
within bits n = if nat_lt n (2 ^ bits) then Some n else None

-- a number within 64 bits
abbrev pub half : ℤ → Option ℤ
half z = if le_z (neg_ℤ (pos (2 ^ 63))) z && le_z z (pos (2 ^ 63 - 1)) then Some z else None

-- a number from 1 to the most
abbrev pub up_to : ℕ → ℕ → Option ℕ
up_to most n = if nat_le 1 n && nat_le n most then Some n else None

-- the version, 1 or 2
unfoldable pub version : List ℕ → Option ℕ
version word = unsigned word >>= up_to 2

-- the criterion behind its C
unfoldable pub criterion : List ℕ → Option ℕ
criterion word = do
  parts ← cut 67 word
  n ← unsigned parts.1
  up_to 6 n

unfoldable pub command : List ℕ → Option Command
command word =
    if bytes_eq word (codes "hydro") then Some of.Hydro
    else if bytes_eq word (codes "bonjean") then Some of.Bonjean
    else if bytes_eq word (codes "cross") then Some of.Cross
    else if bytes_eq word (codes "stability") then Some of.Stability
    else if bytes_eq word (codes "damage") then Some of.Damage
    else if bytes_eq word (codes "floodable") then Some of.Floodable
    else if bytes_eq word (codes "all") then Some of.All
    else if bytes_eq word (codes "section") then Some of.Section
    else if bytes_eq word (codes "make") then Some of.Make
    else if bytes_eq word (codes "tanks") then Some of.Tanks
    else if bytes_eq word (codes "strength") then Some of.Strength
    else if bytes_eq word (codes "flooded") then Some of.Flooded
    else None

unfoldable pub finding : List ℕ → Option Finding
finding word =
    if bytes_eq word (codes "holds") then Some found.Holds
    else if bytes_eq word (codes "fails") then Some found.Fails
    else if bytes_eq word (codes "unsure") then Some found.Unsure
    else None

unfoldable pub side : List ℕ → Option SideLine
side word =
    if bytes_eq word (codes "port") then Some on.Port
    else if bytes_eq word (codes "starboard") then Some on.Starboard
    else None

-- what a step of reading returned, and what it left, is what reading gives
abbrev pub Reads : {A : Type 0} → Option A → List ℕ → Option (A × List ℕ) → Type 0
Reads (Some x) rest read = read ≡ Some (x, rest)
Reads None rest read = read ≡ None

-- the next word, and what is left behind its space
unfoldable pub word_at : List ℕ → List ℕ × List ℕ
word_at bytes = unwrap_or (cut 32 bytes) (bytes, [])

-- what the next word says, and what is left
abbrev pub next_at : {A : Type 0} → (List ℕ → Option A) → List ℕ → Option (A × List ℕ)
next_at read bytes = read (word_at bytes).0 >>= λ x. Some (x, (word_at bytes).1)

unfoldable pub u32_at : List ℕ → Option (ℕ × List ℕ)
u32_at bytes = next_at (λ word. unsigned word >>= within 32) bytes

unfoldable pub u64_at : List ℕ → Option (ℕ × List ℕ)
u64_at bytes = next_at (λ word. unsigned word >>= within 64) bytes

unfoldable pub i64_at : List ℕ → Option (ℤ × List ℕ)
i64_at bytes = next_at (λ word. signed word >>= half) bytes

unfoldable pub i128_at : List ℕ → Option (ℤ × List ℕ)
i128_at bytes = next_at signed bytes

unfoldable pub figure_at : List ℕ → Option (Figure × List ℕ)
figure_at bytes = next_at figure bytes

unfoldable pub version_at : List ℕ → Option (ℕ × List ℕ)
version_at bytes = next_at version bytes

unfoldable pub criterion_at : List ℕ → Option (ℕ × List ℕ)
criterion_at bytes = next_at criterion bytes

unfoldable pub command_at : List ℕ → Option (Command × List ℕ)
command_at bytes = next_at command bytes

unfoldable pub finding_at : List ℕ → Option (Finding × List ℕ)
finding_at bytes = next_at finding bytes

-- a figure, or none where the word is a dash
unfoldable pub absent_at : List ℕ → Option (Option Figure × List ℕ)
absent_at bytes = if bytes_eq (word_at bytes).0 (codes "-") then Some (None, (word_at bytes).1) else (figure_at bytes >>= λ f. Some (Some f.0, f.1))

-- the side, where the next word is one
abbrev pub side_by : Option (SideLine × List ℕ) → List ℕ → Option SideLine × List ℕ
side_by (Some s) bytes = (Some s.0, s.1)
side_by None bytes = (None, bytes)

unfoldable pub side_at : List ℕ → Option SideLine × List ℕ
side_at bytes = side_by (next_at side bytes) bytes

-- GZ and the area below it
unfoldable pub lever_at : List ℕ → Option (Lever × List ℕ)
lever_at bytes = do
  gz ← figure_at bytes
  area ← figure_at gz.1
  Some (record { gz = gz.0; area = area.0 }, area.1)

unfoldable pub sides_at : List ℕ → Option Sides
sides_at bytes = do
  a1 ← i64_at bytes
  a2 ← i64_at a1.1
  f1 ← i64_at a2.1
  f2 ← i64_at f1.1
  Some (record { a1 = a1.0; a2 = a2.0; f1 = f1.0; f2 = f2.0 })
