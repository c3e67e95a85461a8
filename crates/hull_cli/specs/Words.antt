-- The forms of words.
use Rattle.std.specs.Prelude.{ℕ, ◌≤◌, ⊤, Bool, false, ◌==◌, ◌&&◌, not, nat_le, if◌then◌else◌, List, [], ◌∷◌, length, Option, Some, None, option_map, codes}
use Rattle.std.specs.Char.{is_ascii_digit}
use Rattle.std.specs.List.{list_all}
use Rattle.std.specs.Str.{bytes_eq}
use Rattle.std.specs.Str.Parse.{digits_value}
use Rattle.hull_report.specs.declared.names.Command.{Command}
use Rattle.hull_report.specs.declared.names.Command.TheVariants as command

-- what the words ask for
pub data Form : Type 0 where
  -- the offset file's name, a station counted from 0, a draft in mm
  section : List ℕ → ℕ → ℕ → Form
  -- a command, the job file's name, the offset file's name
  tables : Command → List ℕ → List ℕ → Form
  -- the number of a made ship
  make : ℕ → Form

-- a file's name: a word that isn't empty and doesn't begin with a dash
abbrev pub is_name_word : List ℕ → Bool
is_name_word [] = false
is_name_word (first ∷ rest) = not (first == 45)

-- a word of decimal digits: at least one, and at most so many
abbrev pub is_number_word : ℕ → List ℕ → Bool
is_number_word digits word = (nat_le 1 (length word) && nat_le (length word) digits) && list_all is_ascii_digit word

-- the number of such a word, where it is at most this
abbrev pub number_in : ℕ → ℕ → List ℕ → Option ℕ
number_in digits most word = if is_number_word digits word && nat_le (digits_value 10 word) most then Some (digits_value 10 word) else None

-- section OFFSETS STATION DRAFT
abbrev pub section_form : List ℕ → Option ℕ → Option ℕ → Option Form
section_form offsets (Some station) (Some draft) = if is_name_word offsets then Some (section offsets station draft) else None
section_form offsets _ _ = None

-- the commands that are given a job, by their words
abbrev pub table_command : List ℕ → Option Command
table_command word =
    if bytes_eq word (codes "hydro") then Some command.Hydro else
    if bytes_eq word (codes "bonjean") then Some command.Bonjean else
    if bytes_eq word (codes "cross") then Some command.Cross else
    if bytes_eq word (codes "stability") then Some command.Stability else
    if bytes_eq word (codes "damage") then Some command.Damage else
    if bytes_eq word (codes "floodable") then Some command.Floodable else
    if bytes_eq word (codes "all") then Some command.All else None

abbrev pub HasTables : Command → Type 0
HasTables command.Hydro = ⊤
HasTables command.Bonjean = ⊤
HasTables command.Cross = ⊤
HasTables command.Stability = ⊤
HasTables command.Damage = ⊤
HasTables command.Floodable = ⊤
HasTables command.All = ⊤
HasTables _ = ⊥

-- COMMAND JOB OFFSETS
abbrev pub tables_form : Option Command → List ℕ → List ℕ → Option Form
tables_form (Some command) job offsets = if is_name_word job && is_name_word offsets then Some (tables command job offsets) else None
tables_form None job offsets = None

-- the form of these words, if they have one
abbrev pub form_of : List (List ℕ) → Option Form
form_of (command ∷ offsets ∷ station ∷ draft ∷ []) =
    if bytes_eq command (codes "section") then section_form offsets (number_in 6 999999 station) (number_in 6 131071 draft) else None
form_of (command ∷ job ∷ offsets ∷ []) = tables_form (table_command command) job offsets
form_of (command ∷ number ∷ []) = if bytes_eq command (codes "make") then option_map make (number_in 10 4294967295 number) else None
form_of words = None

-- what every form of words keeps: a draft is at most 131071 mm, and a command with a job has tables
abbrev pub IsServed : Form → Type 0
IsServed (section offsets station draft) = draft ≤ 131071
IsServed (tables command job offsets) = HasTables command
IsServed (make seed) = ⊤

-- words of this form, or of none, ask for no file
abbrev pub AskForNoFile : Option Form → Type 0
AskForNoFile None = ⊤
AskForNoFile (Some (make seed)) = ⊤
AskForNoFile _ = ⊥
