-- A model of the private type `Parts`: what the keys of a document say, before their entries are held against each other.
use Rattle.std.specs.Prelude.{◌≡◌, ◌≤◌, true, length, map, Option}
use Rattle.toml.specs.Data.{Members}
use Rattle.job_reader.specs.declared.fault.JobFault.{JobFault}
use Rattle.job_reader.specs.declared.key.Key.TheVariants as key
use Rattle.job_reader.specs.declared.reader.Parts.{Parts}
use Rattle.job_reader.specs.Checks.{twice_fault, cases_fault, overlap_fault}
use Rattle.job_reader.specs.Entries.{SaysItemEntry, SaysOpeningEntry, SaysCompartmentEntry, SaysDamageEntry, SayAll, tables_at}
use Rattle.job_reader.specs.Faults.{◌or_later◌}
use Rattle.job_reader.specs.Job.{PlanIs, version_of}
use Rattle.hull_model.specs.Slabs.{ends_of}
use Rattle.job_reader.specs.Limits.{is_job, is_version}
use Rattle.job_reader.specs.Rules as rule
use Rattle.job_reader.specs.Values.{at, whole_of, wholes_of}

pub record SaysParts (document : Members) (parts : Parts) : Type 0 where
  pub version : parts.version ≡ version_of document
  pub versions : is_version parts.version ≡ true
  pub density : parts.water.density ≡ whole_of rule.density document
  pub length_bp : parts.water.length_bp ≡ whole_of rule.length_bp document
  pub margin : parts.margin ≡ whole_of rule.margin document
  pub drafts : parts.drafts.items ≡ wholes_of rule.drafts document
  pub masses : parts.masses.items ≡ wholes_of rule.displacements document
  pub limits : is_job parts.margin parts.drafts.items parts.masses.items ≡ true
  pub items : SayAll (SaysItemEntry (version_of document)) (tables_at rule.items document) parts.items.items
  pub item_count : length parts.items.items ≤ 256
  pub openings : SayAll SaysOpeningEntry (tables_at rule.openings document) parts.openings.items
  pub opening_count : length parts.openings.items ≤ 64
  pub compartments : SayAll SaysCompartmentEntry (tables_at rule.compartments document) parts.compartments.items
  pub compartment_count : length parts.compartments.items ≤ 64
  pub damages : SayAll SaysDamageEntry (tables_at rule.damages document) parts.damages.items
  pub damage_count : length parts.damages.items ≤ 32
  pub floodable : PlanIs (at key.Floodable document) parts.floodable

-- the entries held against each other
unfoldable pub parts_fault : Parts → Option JobFault
parts_fault parts =
    twice_fault key.ItemName (map (λ e. e.name) parts.items.items)
    or_later twice_fault key.OpeningName (map (λ e. e.name) parts.openings.items)
    or_later twice_fault key.CompartmentName (map (λ e. e.name) parts.compartments.items)
    or_later twice_fault key.DamageName (map (λ e. e.name) parts.damages.items)
    or_later cases_fault (map (λ e. e.name) parts.compartments.items) (map (λ e. e.value) parts.damages.items)
    or_later overlap_fault (map (λ e. ends_of e.value) parts.compartments.items)
