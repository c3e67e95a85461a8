-- The first fault of a job's document, and the job that it describes.
use Rattle.std.specs.Prelude.{◌≡◌, ◌⊎◌, ℕ, ℤ, pos, List, map, Option, Some, None, IsUtf8}
use Rattle.hull_model.specs.declared.slab.Slab.{Slab}
use Rattle.toml.specs.Data.{Data, Members, as_integer, as_table}
use Rattle.toml.specs.Parse.{parse_document}
use Rattle.job_reader.specs.declared.fault.JobFault.{JobFault}
use Rattle.job_reader.specs.declared.fault.JobFault.TheVariants as fault
use Rattle.job_reader.specs.declared.job.FloodPlan.{FloodPlan}
use Rattle.job_reader.specs.declared.job.Job.{Job}
use Rattle.job_reader.specs.declared.key.Key.TheVariants as key
use Rattle.job_reader.specs.declared.rule.Tables.{Tables}
use Rattle.job_reader.specs.Checks.{twice_fault, cases_fault, overlap_fault, slab_named}
use Rattle.job_reader.specs.Entries.{item_fault, opening_fault, compartment_fault, damage_fault, plan_fault, SaysItem, SaysOpening, SaysSlab, SaysPlan, SayAll, table_in, tables_fault, tables_at}
use Rattle.job_reader.specs.Faults.{◌or_later◌, unless}
use Rattle.job_reader.specs.Keys.{top_keys}
use Rattle.job_reader.specs.Limits.{is_whole_from}
use Rattle.job_reader.specs.Rules as rule
use Rattle.job_reader.specs.Values.{at, unknown_fault, whole_fault, whole_of, wholes_fault, wholes_of, name_of, names_of}

-- ---- the version is 1 or 2
abbrev pub version_by : Option Data → Option JobFault
version_by None = Some (fault.Missing key.Version 0)
version_by (Some value) = elim (as_integer value) [ None ↦ Some (fault.Kind key.Version 0) | Some n ↦ unless (is_whole_from rule.version.least rule.version.most n) fault.Version ]

abbrev pub version_fault : Members → Option JobFault
version_fault document = version_by (at key.Version document)

abbrev pub version_of : Members → ℕ
version_of document = whole_of rule.version document

-- ---- the plan of floodable lengths, where there is one
abbrev pub floodable_by : Option Data → Option JobFault
floodable_by None = None
floodable_by (Some value) = elim (as_table value) [ None ↦ Some (fault.Kind key.Floodable 0) | Some plan ↦ plan_fault plan ]

abbrev pub floodable_fault : Members → Option JobFault
floodable_fault document = floodable_by (at key.Floodable document)

-- ---- the keys of the file, each by itself
unfoldable pub keys_fault : Members → Option JobFault
keys_fault document =
    unknown_fault top_keys key.Top 0 document
    or_later version_fault document
    or_later whole_fault rule.density 0 document
    or_later whole_fault rule.length_bp 0 document
    or_later whole_fault rule.margin 0 document
    or_later wholes_fault rule.drafts 0 document
    or_later wholes_fault rule.displacements 0 document
    or_later tables_fault (item_fault (version_of document)) rule.items document
    or_later tables_fault opening_fault rule.openings document
    or_later tables_fault compartment_fault rule.compartments document
    or_later tables_fault damage_fault rule.damages document
    or_later floodable_fault document

-- ---- the entries to each other
abbrev pub names_at : Tables → Members → List (List ℕ)
names_at tables document = map (name_of tables.name) (tables_at tables document)

abbrev pub compartment_at : Members → List ℕ × Slab → Type 0
compartment_at t compartment = (compartment.0 ≡ name_of key.CompartmentName t) × SaysSlab t compartment.1

-- the names that each damage case floods
abbrev pub flooded_at : Members → List (List (List ℕ))
flooded_at document = map (names_of key.DamageFlooded) (tables_at rule.damages document)

-- the ends of each compartment
abbrev pub compartment_ends : Members → ℤ × ℤ
compartment_ends t = (pos (whole_of rule.compartment_from t), pos (whole_of (rule.compartment_to (whole_of rule.compartment_from t)) t))

unfoldable pub entries_fault : Members → Option JobFault
entries_fault document =
    twice_fault key.ItemName (names_at rule.items document)
    or_later twice_fault key.OpeningName (names_at rule.openings document)
    or_later twice_fault key.CompartmentName (names_at rule.compartments document)
    or_later twice_fault key.DamageName (names_at rule.damages document)
    or_later cases_fault (names_at rule.compartments document) (flooded_at document)
    or_later overlap_fault (map compartment_ends (tables_at rule.compartments document))

-- the first fault of a document
unfoldable pub first_fault : Members → Option JobFault
first_fault document = keys_fault document or_later entries_fault document

-- ---- what a document without a fault says
abbrev pub PlanIs : Option Data → Option FloodPlan → Type 0
PlanIs None plan = plan ≡ None
PlanIs (Some value) None = ⊥
PlanIs (Some value) (Some plan) = SaysPlan (table_in value) plan

pub record IsJobOf (document : Members) (job : Job) : Type 0 where
  pub version : job.version ≡ version_of document
  pub density : job.water.density ≡ whole_of rule.density document
  pub length_bp : job.water.length_bp ≡ whole_of rule.length_bp document
  pub margin : job.margin ≡ whole_of rule.margin document
  pub drafts : job.drafts ≡ wholes_of rule.drafts document
  pub masses : job.masses ≡ wholes_of rule.displacements document
  pub items : SayAll (SaysItem (version_of document)) (tables_at rule.items document) job.items
  pub openings : SayAll SaysOpening (tables_at rule.openings document) job.openings
  pub compartments : SayAll compartment_at (tables_at rule.compartments document) job.compartments
  pub damages : map (map (slab_named job.compartments)) (flooded_at document) ≡ map (λ d. map Some d.slabs) job.damages
  pub floodable : PlanIs (at key.Floodable document) job.floodable

-- ---- of a file
abbrev pub IsDocument : List ℕ → Members → Type 0
IsDocument bytes document = IsUtf8 bytes × (parse_document bytes ≡ Some document)

-- the bytes are no document
abbrev pub IsNoDocument : List ℕ → Type 0
IsNoDocument bytes = (document : Members) → IsDocument bytes document → ⊥

-- the job of a file without a fault
abbrev pub IsJobOfFile : List ℕ → Job → Type 0
IsJobOfFile bytes job = (document : Members) × IsDocument bytes document × (first_fault document ≡ None) × IsJobOf document job

-- the first fault of a file
abbrev pub IsFaultOf : List ℕ → JobFault → Type 0
IsFaultOf bytes f = ((f ≡ fault.Text) × IsNoDocument bytes) ⊎ ((document : Members) × IsDocument bytes document × (first_fault document ≡ Some f))
