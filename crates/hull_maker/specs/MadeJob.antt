-- The made job.
use mathlib.Core.Path.{refl}
use Rattle.std.specs.Prelude.{◌≡◌, ℕ, ℤ, pos, List, [], ◌∷◌, map, None, codes}
use Rattle.hull_model.specs.declared.slab.Slab.{Slab}
use Rattle.job_reader.specs.declared.job.Item.{Item}
use Rattle.job_reader.specs.declared.job.Job.{Job}

-- 4000 t: kg, mm, kg·m
abbrev pub ship : Item
ship = record { mass = 4000000; x = pos 50000; y = pos 0; z = pos 5000; free_surface = 0; limits = refl }

-- the ends of a slab and its permeability
abbrev pub parts_of : Slab → ℤ × ℤ × ℕ
parts_of s = (s.aft, s.fore, s.permeability)

-- the same of a compartment, with its name
abbrev pub named_parts_of : List ℕ × Slab → List ℕ × (ℤ × ℤ × ℕ)
named_parts_of compartment = (compartment.0, parts_of compartment.1)

-- 20 m amidships
abbrev pub middle : ℤ × ℤ × ℕ
middle = (pos 40000, pos 60000, 850)

pub record IsMadeJob (job : Job) : Type 0 where
  pub version : job.version ≡ 1
  pub density : job.water.density ≡ 1025
  pub length_bp : job.water.length_bp ≡ 100000
  pub margin : job.margin ≡ 76
  pub drafts : job.drafts ≡ 4500 ∷ []
  pub masses : job.masses ≡ []
  pub items : job.items ≡ ship ∷ []
  pub openings : job.openings ≡ []
  pub compartments : map named_parts_of job.compartments ≡ (codes "middle", middle) ∷ []
  pub damages : map (λ d. map parts_of d.slabs) job.damages ≡ (middle ∷ []) ∷ []
  pub floodable : job.floodable ≡ None
