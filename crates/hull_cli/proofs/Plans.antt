-- What a plan of floodable lengths keeps.
use Rattle.std.proofs.Common.{◌≡◌, ◌<◌, ◌≤◌, ◌%◌, unsigned_abs, ℕ, zero, suc, length, get_or, ℤ, pos, ◌≤ℤ◌, List, [], ◌∷◌, true, arith}
use Rattle.std.specs.List.{list_all}
use Rattle.std.proofs.lemmas.Bool.{and_parts}
use Rattle.std.proofs.lemmas.Grind.{common_steps}
use Rattle.std.proofs.lemmas.Int.{ints}
use Rattle.hull_model.specs.Body.{IsWithin}
use Rattle.job_reader.specs.Limits.{is_plan, is_whole_from}

all_at : (centres : List ℤ) (i : ℕ) → i < length centres → list_all (is_whole_from 0 524287) centres ≡ true → IsWithin (pos 524287) (get_or centres i (pos 0))
all_at [] i there all = absurd (omega (arith, there))
all_at (z ∷ centres) zero there all = (grind (arith, common_steps, ints), grind (arith, common_steps, ints))
all_at (z ∷ centres) (suc i) there all = all_at centres i (omega (arith, there)) (and_parts (is_whole_from 0 524287 z) _ all).1

pub centre_within : (centres : List ℤ) (step : ℤ) (permeability : ℕ) → is_plan centres step permeability ≡ true → (i : ℕ) → i < length centres → IsWithin (pos 524287) (get_or centres i (pos 0))
centre_within centres step permeability limits i there = all_at centres i there (grind (arith, common_steps))

pub few_centres : (centres : List ℤ) (step : ℤ) (permeability : ℕ) → is_plan centres step permeability ≡ true → length centres ≤ 32
few_centres centres step permeability limits = grind (arith, common_steps)

pub step_within : (centres : List ℤ) (step : ℤ) (permeability : ℕ) → is_plan centres step permeability ≡ true → (pos 0 ≤ℤ step) × (step ≤ℤ pos 100000)
step_within centres step permeability limits = (grind (arith, common_steps, ints), grind (arith, common_steps, ints))

pub plan_step : (centres : List ℤ) (step : ℤ) (permeability : ℕ) → is_plan centres step permeability ≡ true → (pos 2 ≤ℤ step) × (step ≤ℤ pos 100000)
plan_step centres step permeability limits = (grind (arith, common_steps, ints), grind (arith, common_steps, ints))

pub plan_even : (centres : List ℤ) (step : ℤ) (permeability : ℕ) → is_plan centres step permeability ≡ true → unsigned_abs step % 2 ≡ 0
plan_even centres step permeability limits = grind (arith, common_steps, ints)

pub plan_permeability : (centres : List ℤ) (step : ℤ) (permeability : ℕ) → is_plan centres step permeability ≡ true → permeability ≤ 1000
plan_permeability centres step permeability limits = grind (arith, common_steps)
