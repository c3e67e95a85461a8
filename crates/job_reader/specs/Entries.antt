-- The entries of a job file's tables: their first fault, and what they say.
use Rattle.std.specs.Prelude.{◌≡◌, ◌≤◌, length, ℕ, ℤ, pos, if◌then◌else◌, List, [], ◌∷◌, map, Option, Some, None, ⊤}
use Rattle.toml.specs.Data.{Data, Members, no_members, as_table}
use Rattle.hull_model.specs.declared.opening.Opening.{Opening}
use Rattle.hull_model.specs.declared.slab.Slab.{Slab}
use Rattle.job_reader.specs.declared.fault.JobFault.{JobFault}
use Rattle.job_reader.specs.declared.fault.JobFault.TheVariants as fault
use Rattle.job_reader.specs.declared.array.Kind.TheVariants as kind
use Rattle.job_reader.specs.declared.job.Item.{Item}
use Rattle.job_reader.specs.declared.job.FloodPlan.{FloodPlan}
use Rattle.job_reader.specs.declared.entry.Named.{Named}
use Rattle.job_reader.specs.declared.key.Key.{Key}
use Rattle.job_reader.specs.declared.key.Key.TheVariants as key
use Rattle.job_reader.specs.declared.rule.Tables.{Tables}
use Rattle.job_reader.specs.Faults.{◌or_later◌, unless, first_in}
use Rattle.job_reader.specs.Keys.{has_y, item_keys, opening_keys, compartment_keys, damage_keys, floodable_keys}
use Rattle.job_reader.specs.Limits.{is_even}
use Rattle.job_reader.specs.Rules as rule
use Rattle.job_reader.specs.Values.{at, elements_of, elements_at, array_fault, unknown_fault, whole_fault, whole_of, signed_fault, signed_of, wholes_fault, wholes_of, name_fault, name_of, names_fault, names_of}

-- a table's name, and what the rest of it says
pub record SaysNamed {T : Type 0} (k : Key) (Says : Members → T → Type 0) (t : Members) (entry : Named T) : Type 0 where
  pub name : entry.name ≡ name_of k t
  pub value : Says t entry.value

-- ---- an item, by the version of its file: where that has no y the item stands on the centreplane
abbrev pub item_y_fault : ℕ → ℕ → Members → Option JobFault
item_y_fault version entry t = if has_y version then signed_fault rule.item_y entry t else None

abbrev pub item_y_of : ℕ → Members → ℤ
item_y_of version t = if has_y version then signed_of rule.item_y t else pos 0

unfoldable pub item_fault : ℕ → ℕ → Members → Option JobFault
item_fault version entry t =
    unknown_fault (item_keys version) key.Item entry t
    or_later name_fault key.ItemName entry t
    or_later whole_fault rule.item_mass entry t
    or_later whole_fault rule.item_x entry t
    or_later item_y_fault version entry t
    or_later whole_fault rule.item_z entry t
    or_later whole_fault rule.item_free entry t

pub record SaysItem (version : ℕ) (t : Members) (item : Item) : Type 0 where
  pub mass : item.mass ≡ whole_of rule.item_mass t
  pub x : item.x ≡ pos (whole_of rule.item_x t)
  pub y : item.y ≡ item_y_of version t
  pub z : item.z ≡ pos (whole_of rule.item_z t)
  pub free_surface : item.free_surface ≡ whole_of rule.item_free t

abbrev pub SaysItemEntry : ℕ → Members → Named Item → Type 0
SaysItemEntry version = SaysNamed key.ItemName (SaysItem version)

-- ---- an opening
unfoldable pub opening_fault : ℕ → Members → Option JobFault
opening_fault entry t =
    unknown_fault opening_keys key.Opening entry t
    or_later name_fault key.OpeningName entry t
    or_later whole_fault rule.opening_y entry t
    or_later whole_fault rule.opening_z entry t

pub record SaysOpening (t : Members) (opening : Opening) : Type 0 where
  pub y : opening.y ≡ pos (whole_of rule.opening_y t)
  pub z : opening.z ≡ pos (whole_of rule.opening_z t)

abbrev pub SaysOpeningEntry : Members → Named Opening → Type 0
SaysOpeningEntry = SaysNamed key.OpeningName SaysOpening

-- ---- a compartment: its fore end is to be above its aft end
unfoldable pub compartment_fault : ℕ → Members → Option JobFault
compartment_fault entry t =
    unknown_fault compartment_keys key.Compartment entry t
    or_later name_fault key.CompartmentName entry t
    or_later whole_fault rule.compartment_from entry t
    or_later whole_fault (rule.compartment_to (whole_of rule.compartment_from t)) entry t
    or_later whole_fault rule.compartment_permeability entry t

pub record SaysSlab (t : Members) (slab : Slab) : Type 0 where
  pub aft : slab.aft ≡ pos (whole_of rule.compartment_from t)
  pub fore : slab.fore ≡ pos (whole_of (rule.compartment_to (whole_of rule.compartment_from t)) t)
  pub permeability : slab.permeability ≡ whole_of rule.compartment_permeability t

abbrev pub SaysCompartmentEntry : Members → Named Slab → Type 0
SaysCompartmentEntry = SaysNamed key.CompartmentName SaysSlab

-- ---- a damage case
unfoldable pub damage_fault : ℕ → Members → Option JobFault
damage_fault entry t =
    unknown_fault damage_keys key.Damage entry t
    or_later name_fault key.DamageName entry t
    or_later names_fault key.DamageFlooded rule.most_flooded entry t

pub record SaysFlooded (t : Members) (flooded : List (List ℕ)) : Type 0 where
  pub names : flooded ≡ names_of key.DamageFlooded t
  pub few : length flooded ≤ rule.most_flooded

abbrev pub SaysDamageEntry : Members → Named (List (List ℕ)) → Type 0
SaysDamageEntry = SaysNamed key.DamageName SaysFlooded

-- ---- the plan of floodable lengths
unfoldable pub plan_fault : Members → Option JobFault
plan_fault t =
    unknown_fault floodable_keys key.Floodable 0 t
    or_later wholes_fault rule.floodable_centres 0 t
    or_later whole_fault rule.floodable_step 0 t
    or_later unless (is_even (pos (whole_of rule.floodable_step t))) (fault.Range key.FloodableStep 0)
    or_later whole_fault rule.floodable_permeability 0 t

pub record SaysPlan (t : Members) (plan : FloodPlan) : Type 0 where
  pub centres : plan.centres ≡ map pos (wholes_of rule.floodable_centres t)
  pub step : plan.step ≡ pos (whole_of rule.floodable_step t)
  pub permeability : plan.permeability ≡ whole_of rule.floodable_permeability t

-- ---- an array of tables, entry by entry
abbrev pub members_by : Option Members → Members
members_by None = no_members
members_by (Some t) = t

unfoldable pub table_in : Data → Members
table_in value = members_by (as_table value)

abbrev pub tables_fault_by : (ℕ → Members → Option JobFault) → Tables → Option Data → Option JobFault
tables_fault_by f rule None = None
tables_fault_by f rule (Some value) = array_fault kind.Table rule.key rule.count 0 value or_later first_in (λ n before t. f n t) (map table_in (elements_of value))

abbrev pub tables_fault : (ℕ → Members → Option JobFault) → Tables → Members → Option JobFault
tables_fault f rule document = tables_fault_by f rule (at rule.key document)

abbrev pub tables_at : Tables → Members → List Members
tables_at rule document = map table_in (elements_at rule.key document)

-- each value says what the table in its place does
unfoldable pub SayAll : {E : Type 0} → (Members → E → Type 0) → List Members → List E → Type 0
SayAll Says [] [] = ⊤
SayAll Says [] (e ∷ es) = ⊥
SayAll Says (t ∷ ts) [] = ⊥
SayAll Says (t ∷ ts) (e ∷ es) = Says t e × SayAll Says ts es
