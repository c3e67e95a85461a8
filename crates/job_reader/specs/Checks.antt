-- What entries must be to each other: names differ, damage cases flood what is there, compartments don't overlap.
use Rattle.std.specs.Prelude.{ℕ, ◌+◌, ℤ, Bool, not, option_map, if◌then◌else◌, List, [], ◌∷◌, Option, Some, None}
use Rattle.std.specs.List.{list_any}
use Rattle.std.specs.Map.{lookup}
use Rattle.std.specs.Str.{bytes_eq}
use Rattle.hull_model.specs.declared.slab.Slab.{Slab}
use Rattle.job_reader.specs.declared.fault.JobFault.{JobFault}
use Rattle.job_reader.specs.declared.fault.JobFault.TheVariants.{Twice, NotNamed, Overlap}
use Rattle.job_reader.specs.declared.key.Key.{Key}
use Rattle.job_reader.specs.declared.key.Key.TheVariants.{DamageFlooded}
use Rattle.hull_model.specs.Slabs.{overlap}
use Rattle.job_reader.specs.Faults.{◌or_later◌, unless, first_in}

abbrev pub is_among : List ℕ → List (List ℕ) → Bool
is_among name names = list_any (bytes_eq name) names

-- the first name that an earlier one equals
abbrev pub twice_by : Key → ℕ → List (List ℕ) → List ℕ → Option JobFault
twice_by k n before name = unless (not (is_among name before)) (Twice k n)

abbrev pub twice_fault : Key → List (List ℕ) → Option JobFault
twice_fault k names = first_in (twice_by k) names

-- the first fault of a damage case, by the names that it floods: each is one of those known, and comes once
abbrev pub flooded_by : List (List ℕ) → ℕ → ℕ → List (List ℕ) → List ℕ → Option JobFault
flooded_by known entry n before name = unless (is_among name known) (NotNamed entry) or_later unless (not (is_among name before)) (Twice DamageFlooded entry)

abbrev pub flooded_fault : List (List ℕ) → ℕ → List (List ℕ) → Option JobFault
flooded_fault known entry names = first_in (flooded_by known entry) names

-- of all cases
abbrev pub cases_fault : List (List ℕ) → List (List (List ℕ)) → Option JobFault
cases_fault known cases = first_in (λ entry before names. flooded_fault known entry names) cases

-- the first of these pairs of ends, which count from n, that shares more than a plane with a
unfoldable pub overlapped_from : ℤ × ℤ → ℕ → List (ℤ × ℤ) → Option ℕ
overlapped_from a n [] = None
overlapped_from a n (b ∷ rest) = if overlap b a then Some n else overlapped_from a (n + 1) rest

abbrev pub overlap_by : ℕ → List (ℤ × ℤ) → ℤ × ℤ → Option JobFault
overlap_by n before a = option_map (λ first. Overlap first n) (overlapped_from a 1 before)

-- the first pair of ends that shares more than a plane with one before it
abbrev pub overlap_fault : List (ℤ × ℤ) → Option JobFault
overlap_fault ends = first_in overlap_by ends

-- the slab of a compartment
abbrev pub slab_named : List (List ℕ × Slab) → List ℕ → Option Slab
slab_named compartments name = lookup (bytes_eq name) compartments
