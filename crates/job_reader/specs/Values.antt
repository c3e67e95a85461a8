-- The value of one key in a table, and its first fault.
use Rattle.std.specs.Prelude.{ℕ, nat_le, ℤ, pos, nat_abs, Bool, true, false, not, ◌&&◌, List, [], ◌∷◌, length, map, Option, Some, None, is_some, option_and_then}
use Rattle.std.specs.List.{list_all, list_any}
use Rattle.std.specs.Str.{bytes_eq}
use Rattle.toml.specs.Data.{Data, Items, no_items, item, Members, no_members, member, array, get_member, as_integer, as_str, as_array, as_table}
use Rattle.job_reader.specs.declared.fault.JobFault.{JobFault}
use Rattle.job_reader.specs.declared.fault.JobFault.TheVariants as fault
use Rattle.job_reader.specs.declared.array.Kind.{Kind}
use Rattle.job_reader.specs.declared.array.Kind.TheVariants as kind
use Rattle.job_reader.specs.declared.key.Key.{Key}
use Rattle.job_reader.specs.declared.rule.Whole.{Whole}
use Rattle.job_reader.specs.declared.rule.Signed.{Signed}
use Rattle.job_reader.specs.declared.rule.Wholes.{Wholes}
use Rattle.job_reader.specs.Faults.{◌or_later◌, unless}
use Rattle.job_reader.specs.Keys.{word_of}
use Rattle.job_reader.specs.Limits.{is_whole_from, is_whole_near}
use Rattle.job_reader.specs.Names.{is_name}

-- what a table has under a key
abbrev pub at : Key → Members → Option Data
at k table = get_member (word_of k) table

-- the elements of an array in order; any other value has none
abbrev pub list_of : Items → List Data
list_of no_items = []
list_of (item first rest) = first ∷ list_of rest

abbrev pub elements_of : Data → List Data
elements_of (array items) = list_of items
elements_of _ = []

-- ---- kinds of elements
abbrev pub is_of : Kind → Data → Bool
is_of kind.Whole value = is_some (as_integer value)
is_of kind.Text value = is_some (as_str value)
is_of kind.Table value = is_some (as_table value)

-- the first fault of an array of elements of a kind, at most so many of them
abbrev pub array_fault : Kind → Key → ℕ → ℕ → Data → Option JobFault
array_fault kind k count entry value =
    unless (is_some (as_array value) && list_all (is_of kind) (elements_of value)) (fault.Kind k entry)
    or_later unless (nat_le (length (elements_of value)) count) (fault.Many k entry)

-- ---- keys that the table must not have
abbrev pub is_word_of : List Key → List ℕ → Bool
is_word_of keys word = list_any (λ k. bytes_eq (word_of k) word) keys

abbrev pub has_only : List Key → Members → Bool
has_only keys no_members = true
has_only keys (member word value rest) = is_word_of keys word && has_only keys rest

abbrev pub unknown_fault : List Key → Key → ℕ → Members → Option JobFault
unknown_fault keys k entry table = unless (has_only keys table) (fault.Unknown k entry)

-- ---- a whole number
abbrev pub whole_fault_by : Whole → ℕ → Option Data → Option JobFault
whole_fault_by rule entry None = unless (is_some rule.default) (fault.Missing rule.key entry)
whole_fault_by rule entry (Some value) = elim (as_integer value) [ None ↦ Some (fault.Kind rule.key entry) | Some n ↦ unless (is_whole_from rule.least rule.most n) (fault.Range rule.key entry) ]

abbrev pub whole_fault : Whole → ℕ → Members → Option JobFault
whole_fault rule entry table = whole_fault_by rule entry (at rule.key table)

-- its value, where it has no fault
abbrev pub number_by : Option ℕ → Option ℤ → ℕ
number_by default (Some n) = nat_abs n
number_by (Some default) None = default
number_by None None = 0

abbrev pub whole_of : Whole → Members → ℕ
whole_of rule table = number_by rule.default (option_and_then as_integer (at rule.key table))

-- ---- a whole number of either sign
abbrev pub signed_fault_by : Signed → ℕ → Option Data → Option JobFault
signed_fault_by rule entry None = None
signed_fault_by rule entry (Some value) = elim (as_integer value) [ None ↦ Some (fault.Kind rule.key entry) | Some n ↦ unless (is_whole_near rule.most n) (fault.Range rule.key entry) ]

abbrev pub signed_fault : Signed → ℕ → Members → Option JobFault
signed_fault rule entry table = signed_fault_by rule entry (at rule.key table)

-- its value, where it has no fault
abbrev pub or_nought : Option ℤ → ℤ
or_nought None = pos 0
or_nought (Some n) = n

abbrev pub signed_of : Signed → Members → ℤ
signed_of rule table = or_nought (option_and_then as_integer (at rule.key table))

-- ---- an array of whole numbers
abbrev pub is_number_within : ℕ → ℕ → Data → Bool
is_number_within least most value = elim (as_integer value) [ None ↦ false | Some n ↦ is_whole_from least most n ]

unfoldable pub number_in : Data → ℕ
number_in value = number_by None (as_integer value)

abbrev pub wholes_fault_by : Wholes → ℕ → Option Data → Option JobFault
wholes_fault_by rule entry None = unless (not rule.needed) (fault.Missing rule.key entry)
wholes_fault_by rule entry (Some value) =
    array_fault kind.Whole rule.key rule.count entry value
    or_later unless (list_all (is_number_within rule.least rule.most) (elements_of value)) (fault.Range rule.key entry)

abbrev pub wholes_fault : Wholes → ℕ → Members → Option JobFault
wholes_fault rule entry table = wholes_fault_by rule entry (at rule.key table)

-- the elements under a key, none where it isn't there
abbrev pub elements_by : Option Data → List Data
elements_by None = []
elements_by (Some value) = elements_of value

abbrev pub elements_at : Key → Members → List Data
elements_at k table = elements_by (at k table)

abbrev pub wholes_of : Wholes → Members → List ℕ
wholes_of rule table = map number_in (elements_at rule.key table)

-- ---- a name
abbrev pub or_empty : {A : Type 0} → Option (List A) → List A
or_empty None = []
or_empty (Some list) = list

abbrev pub name_fault_by : Key → ℕ → Option Data → Option JobFault
name_fault_by k entry None = Some (fault.Missing k entry)
name_fault_by k entry (Some value) = elim (as_str value) [ None ↦ Some (fault.Kind k entry) | Some text ↦ unless (is_name text) (fault.Name k entry) ]

abbrev pub name_fault : Key → ℕ → Members → Option JobFault
name_fault k entry table = name_fault_by k entry (at k table)

abbrev pub name_of : Key → Members → List ℕ
name_of k table = or_empty (option_and_then as_str (at k table))

-- ---- an array of names
unfoldable pub text_in : Data → List ℕ
text_in value = or_empty (as_str value)

abbrev pub names_fault_by : Key → ℕ → ℕ → Option Data → Option JobFault
names_fault_by k count entry None = Some (fault.Missing k entry)
names_fault_by k count entry (Some value) =
    array_fault kind.Text k count entry value
    or_later unless (list_all (λ element. is_name (text_in element)) (elements_of value)) (fault.Name k entry)

abbrev pub names_fault : Key → ℕ → ℕ → Members → Option JobFault
names_fault k count entry table = names_fault_by k count entry (at k table)

abbrev pub names_of : Key → Members → List (List ℕ)
names_of k table = map text_in (elements_at k table)
