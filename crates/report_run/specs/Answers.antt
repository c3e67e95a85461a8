-- What has been written at the end of a run that decides by itself which text is to be written, and with which status.
use Rattle.std.specs.Prelude.{ℕ, ◌≡◌, ◌<◌, List, Option, length, take}
use Rattle.desk.specs.Causes.{Rose, AppendedIfTold}
use Rattle.report_run.specs.declared.status.Status.{Status}
use Rattle.report_run.specs.declared.status.Status.TheVariants.{WriteFault, NoMemory}

-- the text that is to be written was written whole
abbrev pub Wrote : (Status → List ℕ → Type 0) → Status → Option (List ℕ) → Option (List ℕ) → Type 0
Wrote decides status before after = (text : List ℕ) × decides status text × AppendedIfTold before after text

-- a proper prefix of it was written
abbrev pub WroteSome : (Status → List ℕ → Type 0) → Option (List ℕ) → Option (List ℕ) → Type 0
WroteSome decides before after = (status : Status) × (text : List ℕ) × (n : ℕ) × decides status text × (n < length text) × AppendedIfTold before after (take n text)

-- what each status says of a kind of sink, by its count of faults and the bytes that it tells, before and after
abbrev pub Answers : {K : Type 0} → (K → ℕ) → (K → Option (List ℕ)) → (Status → List ℕ → Type 0) → Status → K → K → Type 0
Answers faults taken decides WriteFault before after = Rose (faults before) (faults after) × WroteSome decides (taken before) (taken after)
Answers faults taken decides NoMemory before after = after ≡ before
Answers faults taken decides status before after = Wrote decides status (taken before) (taken after)
