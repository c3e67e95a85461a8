-- What a shelf tells, and its counts before and after calls.
use Rattle.std.specs.Prelude.{ℕ, ◌≡◌, ◌≤◌, ◌<◌, ◌+◌, List, Option, IfSome, length}
use Rattle.desk.specs.Causes.{Rose, RoseBy}

-- the most bytes of a file
abbrev pub most_bytes : ℕ
most_bytes = 1048576

-- what a shelf tells, and its counts before and after
pub record Shelves : Type 0 where
  pub held : List ℕ → Option (List ℕ)
  pub faults : List ℕ → ℕ
  pub faults_after : List ℕ → ℕ
  pub taken : List ℕ → ℕ
  pub taken_after : List ℕ → ℕ

-- of a kind of shelf, at two moments
abbrev pub between : {S : Type 0} → (S → List ℕ → Option (List ℕ)) → (S → List ℕ → ℕ) → (S → List ℕ → ℕ) → S → S → Shelves
between held faults taken before after = record {
  held = held before;
  faults = faults before;
  faults_after = faults after;
  taken = taken before;
  taken_after = taken after;
}

-- these bytes were fetched under this name
pub record Fetched (shelves : Shelves) (name bytes : List ℕ) : Type 0 where
  pub few : length bytes ≤ most_bytes
  pub told : IfSome (shelves.held name) (λ held. bytes ≡ held)

-- the fetch of this name failed
abbrev pub Unread : Shelves → List ℕ → Type 0
Unread shelves name = Rose (shelves.faults name) (shelves.faults_after name)

-- more bytes are held under this name than are read
pub record TooLong (shelves : Shelves) (name : List ℕ) : Type 0 where
  pub taken : RoseBy (most_bytes + 1) (shelves.taken name) (shelves.taken_after name)
  pub told : IfSome (shelves.held name) (λ held. most_bytes < length held)
