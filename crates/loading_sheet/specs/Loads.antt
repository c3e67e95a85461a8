-- The loading that items make, and why they make none.
use Rattle.std.specs.Prelude.{◌≡◌, ◌*◌, ◌^◌, ◌<◌, pos, ◌+ℤ◌, List}
use Rattle.job_reader.specs.declared.job.Item.{Item}
use Rattle.loading_sheet.specs.declared.loading.Loading.{Loading}
use Rattle.loading_sheet.specs.declared.loading.LoadFault.{LoadFault}
use Rattle.loading_sheet.specs.declared.loading.LoadFault.TheVariants.{NoMass, MassRange}
use Rattle.loading_sheet.specs.Sums.{total_mass, total_free, moment_about}

-- the sums over the items; a free surface moment in kg·m counts 1000 in height
pub record IsLoadingOf (items : List Item) (loading : Loading) : Type 0 where
  pub mass : loading.mass ≡ total_mass items
  pub along : pos loading.mx ≡ moment_about (λ i. i.x) items
  pub across : loading.my ≡ moment_about (λ i. i.y) items
  pub height : pos loading.mz ≡ moment_about (λ i. i.z) items +ℤ pos (1000 * total_free items)

abbrev pub IsFaultOf : List Item → LoadFault → Type 0
IsFaultOf items NoMass = total_mass items ≡ 0
IsFaultOf items (MassRange sum) = (sum ≡ total_mass items) × (2 ^ 36 < total_mass items)
