-- What a count of faults or of bytes says of a call, and what a sink tells after it.
use Rattle.std.specs.Prelude.{ℕ, ◌+◌, ◌-◌, ◌^◌, ◌≤◌, ◌≡◌, ◌++◌, List, Option, Some, None, min}

-- a count rose by this many, or stands at its last value
abbrev pub RoseBy : ℕ → ℕ → ℕ → Type 0
RoseBy more before now = min (before + more) (2 ^ 64 - 1) ≤ now

-- a count rose, or stands at its last value
abbrev pub Rose : ℕ → ℕ → Type 0
Rose = RoseBy 1

-- no name's count fell
abbrev pub NoneFell : (List ℕ → ℕ) → (List ℕ → ℕ) → Type 0
NoneFell before now = (name : List ℕ) → before name ≤ now name

-- what is told of the bytes after these were appended: told before, if told now
abbrev pub AppendedIfTold : Option (List ℕ) → Option (List ℕ) → List ℕ → Type 0
AppendedIfTold before None piece = Unit {0}
AppendedIfTold None (Some now) piece = ⊥
AppendedIfTold (Some before) (Some now) piece = now ≡ before ++ piece

-- the counts of faults of a kind of shelf, and of a kind of sink, are the constant 0
abbrev pub NeverFails : {A : Type 0} → (A → List ℕ → ℕ) → Type 0
NeverFails {A} faults = (shelf : A) (name : List ℕ) → faults shelf name ≡ 0

abbrev pub NeverFailsToTake : {A : Type 0} → (A → ℕ) → Type 0
NeverFailsToTake {A} faults = (sink : A) → faults sink ≡ 0
