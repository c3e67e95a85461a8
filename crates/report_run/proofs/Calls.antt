-- What one of several calls that read files did, over all of them.
use Rattle.std.proofs.Common.{◌≡◌, ◌≤◌, ◌<◌, ◌+◌, ℕ, List, Option, IfSome, length, refl, subst, arith}
use Rattle.desk.specs.Causes.{RoseBy, NoneFell}
use Rattle.job_reader.specs.declared.job.Job.{Job}
use Rattle.report_run.specs.declared.stop.File.TheVariants as file
use Rattle.report_run.specs.declared.stop.Refusal.{Refusal}
use Rattle.report_run.specs.declared.stop.Refusal.TheVariants as refusal
use Rattle.report_run.specs.Files.{BothRead, JobRead, Read}
use Rattle.report_run.specs.Shelves.{Shelves, between, most_bytes, Fetched, Unread, TooLong}
use Rattle.report_run.specs.Stops.{DueToOffsets}

-- one of several calls, one after the other: what is held stays, and no count falls
pub record IsPart (part whole : Shelves) : Type 0 where
  pub held : (n : List ℕ) → part.held n ≡ whole.held n
  pub faults : (n : List ℕ) → whole.faults n ≤ part.faults n
  pub faults_after : (n : List ℕ) → part.faults_after n ≤ whole.faults_after n
  pub taken : (n : List ℕ) → whole.taken n ≤ part.taken n
  pub taken_after : (n : List ℕ) → part.taken_after n ≤ whole.taken_after n

same_count : (a b : ℕ) → a ≡ b → a ≤ b
same_count a b e = omega (arith, e)

-- of two calls, the first and the second
module _ {S : Type 0} (held : S → List ℕ → Option (List ℕ)) (faults taken : S → List ℕ → ℕ) (before middle after : S) where
  pub is_first : NoneFell (faults middle) (faults after) → NoneFell (taken middle) (taken after) → IsPart (between held faults taken before middle) (between held faults taken before after)
  is_first f t = record {
    held = λ n. refl;
    faults = λ n. same_count (faults before n) (faults before n) refl;
    faults_after = f;
    taken = λ n. same_count (taken before n) (taken before n) refl;
    taken_after = t;
  }

  pub is_second : ((n : List ℕ) → held middle n ≡ held before n) → NoneFell (faults before) (faults middle) → NoneFell (taken before) (taken middle) → IsPart (between held faults taken middle after) (between held faults taken before after)
  is_second same f t = record {
    held = same;
    faults = f;
    faults_after = λ n. same_count (faults after n) (faults after n) refl;
    taken = t;
    taken_after = λ n. same_count (taken after n) (taken after n) refl;
  }

rose_by : (more a b c d : ℕ) → a ≤ b → c ≤ d → RoseBy more b c → RoseBy more a d
rose_by more a b c d h k rose = omega (arith, h, k, rose)

module _ {part whole : Shelves} (is : IsPart part whole) where
  fetched : (name bytes : List ℕ) → Fetched part name bytes → Fetched whole name bytes
  fetched name bytes f = record {
    few = f.few;
    told = subst (λ (h : Option (List ℕ)). IfSome h (λ held. bytes ≡ held)) (is.held name) f.told;
  }

  pub unread : (name : List ℕ) → Unread part name → Unread whole name
  unread name u = rose_by 1 (whole.faults name) (part.faults name) (part.faults_after name) (whole.faults_after name) (is.faults name) (is.faults_after name) u

  too_long : (name : List ℕ) → TooLong part name → TooLong whole name
  too_long name t = record {
    taken = rose_by (most_bytes + 1) (whole.taken name) (part.taken name) (part.taken_after name) (whole.taken_after name) (is.taken name) (is.taken_after name) t.taken;
    told = subst (λ (h : Option (List ℕ)). IfSome h (λ held. most_bytes < length held)) (is.held name) t.told;
  }

  pub job_read : (name : List ℕ) (job : Job) → JobRead part name job → JobRead whole name job
  job_read name job r = (r.0, fetched name r.0 r.1, r.2)

  offsets_read : (name bytes : List ℕ) → Read part name bytes → Read whole name bytes
  offsets_read name bytes r = (fetched name bytes r.0, r.1)

  pub due_to_offsets : (name : List ℕ) (cause : Refusal) → DueToOffsets part name cause → DueToOffsets whole name cause
  due_to_offsets name (refusal.Long file.Offsets) due = too_long name due
  due_to_offsets name (refusal.Offsets fault) due = (due.0, fetched name due.0 due.1, due.2)
  due_to_offsets name _ due = due

-- of two calls that read a file each
pub both_read : {first second whole : Shelves} → IsPart first whole → IsPart second whole → (name offsets : List ℕ) (job : Job) (bytes : List ℕ) → JobRead first name job → Read second offsets bytes → BothRead whole name offsets job bytes
both_read is_one is_two name offsets job bytes one two = record { job_read = job_read is_one name job one; read = offsets_read is_two offsets bytes two }
