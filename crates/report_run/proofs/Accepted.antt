-- A file that can be read, and has no fault, gives no refusal.
use Rattle.std.proofs.Common.{◌≡◌, sym, ◌∙◌, subst, ℕ, ◌<◌, List, Option, Some, None, IfSome, length, inl, inr, arith}
use Rattle.job_reader.specs.declared.job.Job.{Job}
use Rattle.job_reader.specs.Job.{IsJobOfFile, IsFaultOf}
use Rattle.report_run.specs.declared.stop.File.TheVariants as file
use Rattle.report_run.specs.declared.stop.Refusal.{Refusal}
use Rattle.report_run.specs.declared.stop.Refusal.TheVariants as refusal
use Rattle.report_run.specs.Files.{CanBeFetched, CanBeRead, JobCanBeRead, JobRead}
use Rattle.report_run.specs.Shelves.{Shelves, most_bytes, Fetched, TooLong}
use Rattle.report_run.specs.Stops.{DueToJob, DueToOffsets}

module _ {shelves : Shelves} {name bytes : List ℕ} (can : CanBeFetched shelves name bytes) where
  not_long : TooLong shelves name → ⊥
  not_long long = omega (arith, can.few, told)
    where
      told : most_bytes < length bytes
      told = subst (λ (h : Option (List ℕ)). IfSome h (λ held. most_bytes < length held)) can.held long.told

  pub same_bytes : (fetched : List ℕ) → Fetched shelves name fetched → fetched ≡ bytes
  same_bytes fetched is = subst (λ (h : Option (List ℕ)). IfSome h (λ held. fetched ≡ held)) can.held is.told

pub two_answers : {A : Type 0} {a : A} {o : Option A} → o ≡ None → o ≡ Some a → ⊥
two_answers none some = no (sym none ∙ some)
  where
    no : {A : Type 0} {a : A} → None ≡ Some a → ⊥
    no h = cc

pub same_value : {A : Type 0} {o : Option A} {a b : A} → o ≡ Some a → o ≡ Some b → a ≡ b
same_value one other = same one other
  where
    same : {A : Type 0} {o : Option A} {a b : A} → o ≡ Some a → o ≡ Some b → a ≡ b
    same h k = cc

pub offsets_not_due : (shelves : Shelves) (offsets bytes : List ℕ) (cause : Refusal) → CanBeRead shelves offsets bytes → DueToOffsets shelves offsets cause → ⊥
offsets_not_due shelves offsets bytes (refusal.Long file.Offsets) can due = not_long can.file due
offsets_not_due shelves offsets bytes (refusal.Offsets fault) can due = two_answers can.accepted (rw (same_bytes can.file due.0 due.1) at due.2)
offsets_not_due shelves offsets bytes _ can due = due

pub job_not_due : (shelves : Shelves) (name bytes : List ℕ) (cause : Refusal) → JobCanBeRead shelves name bytes → DueToJob shelves name cause → ⊥
job_not_due shelves name bytes (refusal.Long file.Job) can due = not_long can.file due
job_not_due shelves name bytes (refusal.Job fault) can due = elim fault_is [
  | inl none ↦ none.1 can.accepted.0 can.accepted.1
  | inr found ↦ two_answers can.accepted.2 (rw (same_value found.1.1 can.accepted.1.1) at found.2)
]
  where
    fault_is : IsFaultOf bytes fault
    fault_is = rw (same_bytes can.file due.0 due.1) at due.2
job_not_due shelves name bytes _ can due = due

-- the job of these bytes is that which was read
pub same_job : (shelves : Shelves) (name bytes : List ℕ) (job : Job) → CanBeFetched shelves name bytes → JobRead shelves name job → IsJobOfFile bytes job
same_job shelves name bytes job can read = subst (λ (b : List ℕ). IsJobOfFile b job) (same_bytes can read.0 read.1) read.2
