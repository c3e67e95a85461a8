-- What the parts of a job keep, as tests.
use Rattle.std.specs.Prelude.{ℕ, ◌%◌, ◌==◌, ℤ, pos, neg_ℤ, int_le, nat_le, Bool, ◌&&◌, nat_abs, List, length}
use Rattle.std.specs.List.{list_all}

-- from least to most
abbrev pub is_from : ℕ → ℕ → ℕ → Bool
is_from least most n = nat_le least n && nat_le n most

abbrev pub is_whole_from : ℕ → ℕ → ℤ → Bool
is_whole_from least most n = int_le (pos least) n && int_le n (pos most)

abbrev pub is_even : ℤ → Bool
is_even n = nat_abs n % 2 == 0

-- no more than so many
abbrev pub is_at_most : {A : Type 0} → ℕ → List A → Bool
is_at_most most list = nat_le (length list) most

-- a mass in kg, or a free surface moment in kg·m
abbrev pub is_mass : ℕ → Bool
is_mass n = nat_le n 68719476736

-- at most so far from 0
abbrev pub is_whole_near : ℕ → ℤ → Bool
is_whole_near most n = int_le (neg_ℤ (pos most)) n && int_le n (pos most)

abbrev pub is_item : ℕ → ℤ → ℤ → ℤ → ℕ → Bool
is_item mass x y z free_surface = (((is_mass mass && is_whole_from 0 524287 x) && is_whole_near 65535 y) && is_whole_from 0 131071 z) && is_mass free_surface

-- at most 32 centres in mm, an even step in mm, a permeability in thousandths
abbrev pub is_plan : List ℤ → ℤ → ℕ → Bool
is_plan centres step permeability = ((is_at_most 32 centres && list_all (is_whole_from 0 524287) centres) && (is_whole_from 2 100000 step && is_even step)) && nat_le permeability 1000

-- the counts and ranges of a job: a margin in mm, drafts in mm, masses in kg
abbrev pub is_job : ℕ → List ℕ → List ℕ → Bool
is_job margin drafts masses = (is_from 76 10000 margin && (is_at_most 64 drafts && list_all (is_from 0 131071) drafts)) && (is_at_most 16 masses && list_all (is_from 1 68719476736) masses)

-- the versions of a job
abbrev pub is_version : ℕ → Bool
is_version n = is_from 1 2 n

-- at most 256 items, 64 openings, 64 compartments and 32 damage cases
abbrev pub has_room : {A B C D : Type 0} → List A → List B → List C → List D → Bool
has_room items openings compartments damages = (is_at_most 256 items && is_at_most 64 openings) && (is_at_most 64 compartments && is_at_most 32 damages)
