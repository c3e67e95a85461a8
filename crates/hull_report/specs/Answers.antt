-- What reading a text answers.
use Rattle.std.specs.Prelude.{◌≡◌, ◌≢◌, ◌<◌, ℕ, suc, List, ◌++◌, length, Option, Some, None, Result, Ok, Err, ⊤, ◌⊎◌}
use Rattle.std.specs.Global.{Vec}
use Rattle.hull_report.specs.declared.line.Line.{Line}
use Rattle.hull_report.specs.declared.read_back.ReadBack.{ReadBack}
use Rattle.hull_report.specs.declared.read_back.ReadBack.TheVariants as back
use Rattle.hull_report.specs.Spelling.{IsLine, AreLines, line_text, lines_text}

-- bytes that begin with the text of a line, and what follows it; or with that of no line
abbrev pub Begins : List ℕ → Option (Line × List ℕ) → Type 0
Begins bytes (Some (l, after)) = IsLine l × (bytes ≡ line_text l ++ after)
Begins bytes None = (l : Line) (after : List ℕ) → IsLine l → bytes ≢ line_text l ++ after

-- n, counted from 1, is the first line that isn't in the grammar: n - 1 lines of the grammar come before it, and what
-- comes after them is something, but begins with the text of no line
pub record IsFirstBad (bytes : List ℕ) (n : ℕ) : Type 0 where
  pub lines : List Line
  pub good : AreLines lines
  pub count : n ≡ suc (length lines)
  pub rest : List ℕ
  pub parts : bytes ≡ lines_text lines ++ rest
  pub some : 0 < length rest
  pub bad : Begins rest None

-- the bytes' lines, or their first bad line, or want of memory
abbrev pub Answers : List ℕ → Result (Vec Line) ReadBack → Type 0
Answers bytes (Ok lines) = AreLines lines.items × (bytes ≡ lines_text lines.items)
Answers bytes (Err (back.Bad n)) = IsFirstBad bytes n
Answers bytes (Err back.Memory) = ⊤

-- these lines, or want of memory
abbrev pub IsReadAs : List Line → Result (Vec Line) ReadBack → Type 0
IsReadAs lines (Ok read) = read.items ≡ lines
IsReadAs lines (Err e) = e ≡ back.Memory

-- this line is bad, or want of memory
abbrev pub IsBadAt : ℕ → Result (Vec Line) ReadBack → Type 0
IsBadAt n result = (result ≡ Err (back.Bad n)) ⊎ (result ≡ Err back.Memory)
