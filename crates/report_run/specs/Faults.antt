-- What is said of a fault of a file.
use Rattle.std.specs.Prelude.{ℕ, List, ◌++◌, codes, decimal}
use Rattle.offset_reader.specs.declared.fault.OffsetFault.{OffsetFault}
use Rattle.offset_reader.specs.declared.fault.OffsetFault.TheVariants as offset
use Rattle.job_reader.specs.declared.fault.JobFault.{JobFault}
use Rattle.job_reader.specs.declared.fault.JobFault.TheVariants as job
use Rattle.job_reader.specs.declared.key.Key.{Key}
use Rattle.loading_sheet.specs.declared.loading.LoadFault.{LoadFault}
use Rattle.loading_sheet.specs.declared.loading.LoadFault.TheVariants as load
use Rattle.job_reader.specs.declared.key.Key.TheVariants.{Top}
use Rattle.job_reader.specs.Keys.{table_of, word_of}

-- a space and a word, or a whole number
abbrev pub word_text : List ℕ → List ℕ
word_text word = codes " " ++ word

abbrev pub number_text : ℕ → List ℕ
number_text n = word_text (decimal n)

-- a word and one number, or two
abbrev pub place_text : List ℕ → ℕ → List ℕ
place_text word row = word_text word ++ number_text row

abbrev pub field_text : List ℕ → ℕ → ℕ → List ℕ
field_text word row column = place_text word row ++ number_text column

abbrev pub offset_fault_text : OffsetFault → List ℕ
offset_fault_text (offset.Columns row) = place_text (codes "columns") row
offset_fault_text (offset.Number row column) = field_text (codes "number") row column
offset_fault_text (offset.Negative row column) = field_text (codes "negative") row column
offset_fault_text (offset.Range row column) = field_text (codes "range") row column
offset_fault_text (offset.Backwards row) = place_text (codes "backwards") row
offset_fault_text (offset.Height row) = place_text (codes "height") row
offset_fault_text (offset.FewStations stations) = place_text (codes "fewstations") stations
offset_fault_text (offset.TooManyStations row) = place_text (codes "toomanystations") row
offset_fault_text (offset.FewPoints row) = place_text (codes "fewpoints") row
offset_fault_text (offset.TooManyPoints row) = place_text (codes "toomanypoints") row
offset_fault_text offset.NoVolume = word_text (codes "novolume")
offset_fault_text offset.Memory = word_text (codes "memory")

-- a key's word, behind that of the table that it stands in
abbrev pub word_in : Key → List ℕ → List ℕ
word_in Top word = word
word_in table word = word_of table ++ codes "." ++ word

abbrev pub key_text : Key → List ℕ
key_text key = word_in (table_of key) (word_of key)

-- a word, a key, and the number of an entry
abbrev pub entry_text : List ℕ → Key → ℕ → List ℕ
entry_text word key entry = word_text word ++ place_text (key_text key) entry

abbrev pub job_fault_text : JobFault → List ℕ
job_fault_text job.Text = word_text (codes "text")
job_fault_text job.Version = word_text (codes "version")
job_fault_text (job.Unknown key entry) = entry_text (codes "unknown") key entry
job_fault_text (job.Missing key entry) = entry_text (codes "missing") key entry
job_fault_text (job.Kind key entry) = entry_text (codes "kind") key entry
job_fault_text (job.Range key entry) = entry_text (codes "range") key entry
job_fault_text (job.Many key entry) = entry_text (codes "many") key entry
job_fault_text (job.Name key entry) = entry_text (codes "name") key entry
job_fault_text (job.Twice key entry) = entry_text (codes "twice") key entry
job_fault_text (job.NotNamed entry) = place_text (codes "notnamed") entry
job_fault_text (job.Overlap first second) = field_text (codes "overlap") first second
job_fault_text job.Memory = word_text (codes "memory")

abbrev pub load_fault_text : LoadFault → List ℕ
load_fault_text load.NoMass = word_text (codes "nomass")
load_fault_text (load.MassRange sum) = word_text (codes "massrange") ++ number_text sum
