-- How many lines a table has at most, and what the masses of a job keep.
use Rattle.std.proofs.Common.{◌≡◌, ◌≤◌, ◌+◌, ◌*◌, ◌^◌, ℕ, true, List, length, arith}
use Rattle.std.specs.List.{list_all}
use Rattle.std.proofs.lemmas.Grind.{common_steps}
use Rattle.std.proofs.lemmas.Nat.{mul-le}
use Rattle.job_reader.specs.Limits.{has_room, is_from, is_job}

pub few_drafts : (margin : ℕ) (drafts masses : List ℕ) → is_job margin drafts masses ≡ true → length drafts ≤ 64
few_drafts margin drafts masses limits = grind (arith, common_steps)

pub few_masses : (margin : ℕ) (drafts masses : List ℕ) → is_job margin drafts masses ≡ true → length masses ≤ 16
few_masses margin drafts masses limits = grind (arith, common_steps)

pub masses_within : (margin : ℕ) (drafts masses : List ℕ) → is_job margin drafts masses ≡ true → list_all (is_from 1 68719476736) masses ≡ true
masses_within margin drafts masses limits = grind (arith, common_steps)

pub few_damages : {A B C D : Type 0} (items : List A) (openings : List B) (compartments : List C) (damages : List D) → has_room items openings compartments damages ≡ true → length damages ≤ 32
few_damages items openings compartments damages room = grind (arith, common_steps)

pub few_lines : (lines drafts stations : ℕ) → lines ≡ drafts * stations → drafts ≤ 64 → stations ≤ 64 → lines ≤ 2 ^ 31
few_lines lines drafts stations same h k = omega (arith, same, mul-le drafts stations 64 64 h k)

pub few_in_all : (rows sections drafts stations curves masses ship : ℕ) → rows ≡ drafts → sections ≡ drafts * stations → curves ≡ masses * 91 → drafts ≤ 64 → stations ≤ 64 → masses ≤ 16 → ship ≤ 196
    → rows + sections + curves + ship ≤ 2 ^ 31
few_in_all rows sections drafts stations curves masses ship a b c h k few last = omega (arith, a, b, c, h, k, few, last, mul-le drafts stations 64 64 h k)
