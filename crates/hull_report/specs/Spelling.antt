-- The grammar of a report: the words of each line, their text, and what keeps a line in the grammar.
use Rattle.std.specs.Prelude.{ℕ, ◌<◌, ◌≤◌, ◌^◌, ◌≡◌, length, ℤ, Bool, true, false, List, [], ◌∷◌, ◌++◌, Option, Some, None, codes, decimal, nat_lt, FitsSigned}
use Rattle.std.specs.List.{AllByRecursion, list_all}
use Rattle.std.specs.Fmt.{signed_decimal}
use Rattle.std.specs.Int.{w64, w128}
use Rattle.outward_interval.specs.Text.{figure_text}
use Rattle.outward_interval.specs.declared.figure.Figure.{Figure}
use Rattle.hull_report.specs.declared.names.Command.{Command}
use Rattle.hull_report.specs.declared.names.Command.TheVariants as command
use Rattle.hull_report.specs.declared.names.Finding.{Finding}
use Rattle.hull_report.specs.declared.names.Finding.TheVariants as finding
use Rattle.hull_report.specs.declared.names.SideLine.{SideLine}
use Rattle.hull_report.specs.declared.names.SideLine.TheVariants as side
use Rattle.hull_report.specs.declared.line.ShownLine.{ShownLine}
use Rattle.hull_report.specs.declared.line.ShownLine.TheVariants as shown
use Rattle.hull_report.specs.declared.line.Call.{Call}
use Rattle.hull_report.specs.declared.line.Call.TheVariants as call
use Rattle.hull_report.specs.declared.line.Sides.{Sides}
use Rattle.hull_report.specs.declared.line.CaseEnd.{CaseEnd}
use Rattle.hull_report.specs.declared.line.CaseEnd.TheVariants as case
use Rattle.hull_report.specs.declared.line.SafeBox.{SafeBox}
use Rattle.hull_report.specs.declared.line.ReasonLine.{ReasonLine}
use Rattle.hull_report.specs.declared.line.ReasonLine.TheVariants as reason
use Rattle.hull_report.specs.declared.line.LimitLine.{LimitLine}
use Rattle.hull_report.specs.declared.line.LimitLine.TheVariants as limit
use Rattle.hull_report.specs.declared.line.Line.{Line}
use Rattle.hull_report.specs.declared.line.Line.TheVariants as line

-- A word is a name, a whole number of a type, a version, a criterion, a figure with so many decimals, or stands where a
-- figure is missing that must be there.
pub data Word : Type 0 where
  Name : List ℕ → Word
  U32 : ℕ → Word
  U64 : ℕ → Word
  I64 : ℤ → Word
  I128 : ℤ → Word
  Version : ℕ → Word
  Criterion : ℕ → Word
  Interval : ℕ → Figure → Word
  Missing : Word

unfoldable pub word_text : Word → List ℕ
word_text (Name name) = name
word_text (U32 n) = decimal n
word_text (U64 n) = decimal n
word_text (I64 z) = signed_decimal z
word_text (I128 z) = signed_decimal z
word_text (Version n) = decimal n
word_text (Criterion n) = codes "C" ++ decimal n
word_text (Interval places f) = figure_text places f.lo f.hi
word_text Missing = codes "-"

-- bytes above the space
abbrev pub is_graphic : List ℕ → Bool
is_graphic bytes = list_all (λ b. nat_lt 32 b) bytes

-- a word of the grammar: names are without blanks, numbers are within their type, the version is 1 or 2, criteria go
-- from 1 to 6
abbrev pub IsWord : Word → Type 0
IsWord (Name name) = is_graphic name ≡ true
IsWord (U32 n) = n < 2 ^ 32
IsWord (U64 n) = n < 2 ^ 64
IsWord (I64 z) = FitsSigned w64 z
IsWord (I128 z) = FitsSigned w128 z
IsWord (Version n) = (1 ≤ n) × (n ≤ 2)
IsWord (Criterion n) = (1 ≤ n) × (n ≤ 6)
IsWord (Interval places f) = FitsSigned w128 f.lo × FitsSigned w128 f.hi
IsWord Missing = ⊥

abbrev pub AreWords : List Word → Type 0
AreWords words = AllByRecursion IsWord words

-- a figure with 6 decimals
abbrev pub figure : Figure → Word
figure f = Interval 6 f

abbrev pub command_name : Command → List ℕ
command_name command.Hydro = codes "hydro"
command_name command.Bonjean = codes "bonjean"
command_name command.Cross = codes "cross"
command_name command.Stability = codes "stability"
command_name command.Damage = codes "damage"
command_name command.Floodable = codes "floodable"
command_name command.All = codes "all"
command_name command.Section = codes "section"
command_name command.Make = codes "make"
command_name command.Tanks = codes "tanks"
command_name command.Strength = codes "strength"
command_name command.Flooded = codes "flooded"

abbrev pub finding_name : Finding → List ℕ
finding_name finding.Holds = codes "holds"
finding_name finding.Fails = codes "fails"
finding_name finding.Unsure = codes "unsure"

abbrev pub side_name : SideLine → List ℕ
side_name side.Port = codes "port"
side_name side.Starboard = codes "starboard"

-- whether the figure may be absent: VOLUME DISPLACEMENT LCB KB AREA LCF BMT BML KMT TPC MCT
abbrev pub may_be_absent : List Bool
may_be_absent = false ∷ false ∷ true ∷ true ∷ false ∷ true ∷ true ∷ true ∷ true ∷ false ∷ true ∷ []

abbrev pub figure_or_absent : Bool → Option Figure → Word
figure_or_absent may (Some f) = figure f
figure_or_absent true None = Name (codes "-")
figure_or_absent false None = Missing

abbrev pub figure_words : List Bool → List (Option Figure) → List Word
figure_words [] [] = []
figure_words (may ∷ others) (f ∷ figures) = figure_or_absent may f ∷ figure_words others figures
figure_words [] (f ∷ figures) = Missing ∷ []
figure_words (may ∷ others) [] = Missing ∷ []

abbrev pub shown_words : ShownLine → List Word
shown_words (shown.Interval degree f) = Name (codes "interval") ∷ U32 degree ∷ figure f ∷ []
shown_words (shown.Pair low high) = Name (codes "pair") ∷ U32 low ∷ U32 high ∷ []
shown_words (shown.Leak opening degree f) = Name (codes "leak") ∷ U32 opening ∷ U32 degree ∷ figure f ∷ []
shown_words (shown.Heel q q2 f) = Name (codes "heel") ∷ U32 q ∷ U32 q2 ∷ figure f ∷ []
shown_words (shown.Heels q q2 p p2) = Name (codes "heels") ∷ U32 q ∷ U32 q2 ∷ U32 p ∷ U32 p2 ∷ []

-- words behind the side, where one is named
abbrev pub sided : Option SideLine → List Word → List Word
sided (Some side) words = Name (side_name side) ∷ words
sided None words = words

-- the criterion that decides, on which side, and what is shown
abbrev pub cause_words : ℕ → Option SideLine → ShownLine → List Word
cause_words criterion side shown = Criterion criterion ∷ sided side (shown_words shown)

abbrev pub call_words : Call → List Word
call_words call.Pass = Name (codes "pass") ∷ []
call_words (call.Fail criterion side shown) = Name (codes "fail") ∷ cause_words criterion side shown
call_words (call.Undecided criterion side shown) = Name (codes "undecided") ∷ cause_words criterion side shown

abbrev pub limit_words : LimitLine → List Word
limit_words limit.EndOfRange = Name (codes "endofrange") ∷ []
limit_words (limit.Fail criterion shown) = Name (codes "fail") ∷ cause_words criterion None shown
limit_words (limit.Undecided criterion shown) = Name (codes "undecided") ∷ cause_words criterion None shown

abbrev pub sides_words : Sides → List Word
sides_words s = I64 s.a1 ∷ I64 s.a2 ∷ I64 s.f1 ∷ I64 s.f2 ∷ []

abbrev pub end_words : CaseEnd → List Word
end_words (case.Settled sides) = sides_words sides
end_words (case.Sinks left) = Name (codes "sinks") ∷ figure left ∷ []
end_words case.NoStartFore = Name (codes "nostart") ∷ Name (codes "fore") ∷ []
end_words case.NoStartAft = Name (codes "nostart") ∷ Name (codes "aft") ∷ []

abbrev pub reach_words : Option SafeBox → List Word
reach_words (Some box) = U32 box.length ∷ sides_words box.sides
reach_words None = Name (codes "-") ∷ []

abbrev pub reason_words : ReasonLine → List Word
reason_words (reason.Over station sides) = Name (codes "over") ∷ U32 station ∷ sides_words sides
reason_words (reason.Touch station sides) = Name (codes "touch") ∷ U32 station ∷ sides_words sides
reason_words reason.Sinks = Name (codes "sinks") ∷ []
reason_words reason.NoStart = Name (codes "nostart") ∷ []
reason_words reason.EndOfShip = Name (codes "endofship") ∷ []

abbrev pub number_or_absent : Option ℕ → Word
number_or_absent (Some n) = U32 n
number_or_absent None = Name (codes "-")

-- the words of each line
abbrev pub line_words : Line → List Word
line_words (line.Header version command) = Name (codes "hullcert") ∷ Version version ∷ Name (command_name command) ∷ []
line_words (line.Hull stations points) = Name (codes "hull") ∷ U32 stations ∷ U32 points ∷ []
line_words (line.Body six) = Name (codes "body") ∷ I128 six ∷ []
line_words (line.Hydro draft figures) = Name (codes "hydro") ∷ U32 draft ∷ figure_words may_be_absent figures
line_words (line.Section station x draft area moment) = Name (codes "section") ∷ U32 station ∷ U32 x ∷ U32 draft ∷ figure area ∷ Interval 9 moment ∷ []
line_words (line.Cross mass degree d1 d2 kn) = Name (codes "cross") ∷ U64 mass ∷ U32 degree ∷ I64 d1 ∷ I64 d2 ∷ figure kn ∷ []
line_words (line.Load mass lcg kg) = Name (codes "load") ∷ U64 mass ∷ figure lcg ∷ figure kg ∷ []
line_words (line.Load2 mass lcg tcg kg) = Name (codes "load") ∷ U64 mass ∷ figure lcg ∷ figure tcg ∷ figure kg ∷ []
line_words (line.Upright d1 d2 kb bm gm) = Name (codes "upright") ∷ I64 d1 ∷ I64 d2 ∷ figure kb ∷ figure bm ∷ figure gm ∷ []
line_words (line.Arm degree d1 d2 gz area) = Name (codes "arm") ∷ U32 degree ∷ I64 d1 ∷ I64 d2 ∷ figure gz ∷ figure area ∷ []
line_words (line.Arm2 degree d1 d2 port_gz port_area star_gz star_area) =
    Name (codes "arm") ∷ U32 degree ∷ I64 d1 ∷ I64 d2 ∷ figure port_gz ∷ figure port_area ∷ figure star_gz ∷ figure star_area ∷ []
line_words (line.Mark criterion finding) = Name (codes "mark") ∷ Criterion criterion ∷ Name (finding_name finding) ∷ []
line_words (line.Verdict call) = Name (codes "verdict") ∷ call_words call
line_words (line.Damage case end) = Name (codes "damage") ∷ U32 case ∷ end_words end
line_words (line.Safe centre reach) = Name (codes "safe") ∷ U32 centre ∷ reach_words reach
line_words (line.Next centre length reason) = Name (codes "next") ∷ U32 centre ∷ U32 length ∷ reason_words reason
line_words (line.Tank compartment level volume lcg kg inertia) =
    Name (codes "tank") ∷ U32 compartment ∷ U32 level ∷ figure volume ∷ figure_or_absent true lcg ∷ figure_or_absent true kg ∷ figure inertia ∷ []
line_words (line.Float end) = Name (codes "float") ∷ end_words end
line_words (line.Strength station x shear bend) = Name (codes "strength") ∷ U32 station ∷ U32 x ∷ figure shear ∷ figure bend ∷ []
line_words (line.FloodedArm case degree d1 d2 port_gz port_area star_gz star_area) =
    Name (codes "darm") ∷ U32 case ∷ U32 degree ∷ I64 d1 ∷ I64 d2 ∷ figure port_gz ∷ figure port_area ∷ figure star_gz ∷ figure star_area ∷ []
line_words (line.FloodedShort case degree left) = Name (codes "dshort") ∷ U32 case ∷ U32 degree ∷ figure left ∷ []
line_words line.LimitsHead = Name (codes "hulllimits") ∷ Name (codes "1") ∷ []
line_words (line.Limit mass height) = Name (codes "limit") ∷ U64 mass ∷ number_or_absent height ∷ []
line_words (line.Beyond mass height why) = Name (codes "beyond") ∷ U64 mass ∷ U32 height ∷ limit_words why
line_words (line.End lines) = Name (codes "end") ∷ U32 lines ∷ []

-- a line of the grammar
abbrev pub IsLine : Line → Type 0
IsLine l = AreWords (line_words l)

-- words parted by one space, and the words after the first, each behind its space
unfoldable pub spaced : List Word → List ℕ
spaced [] = []
spaced (w ∷ words) = 32 ∷ word_text w ++ spaced words

unfoldable pub joined : List Word → List ℕ
joined [] = []
joined (w ∷ words) = word_text w ++ spaced words

-- the text of a line, ended by a line feed
abbrev pub line_text : Line → List ℕ
line_text l = joined (line_words l) ++ codes "\n"

-- the text of lines
abbrev pub lines_text : List Line → List ℕ
lines_text [] = []
lines_text (l ∷ lines) = line_text l ++ lines_text lines

abbrev pub AreLines : List Line → Type 0
AreLines lines = AllByRecursion IsLine lines
