-- Which slabs share more than a plane.
use Rattle.std.specs.Prelude.{Bool, true, not, ◌&&◌, ℤ, int_lt, List, [], ◌∷◌}
use Rattle.std.specs.List.{list_all}
use Rattle.hull_model.specs.declared.slab.Slab.{Slab}

-- the aft and the fore end of a slab
abbrev pub ends_of : Slab → ℤ × ℤ
ends_of s = (s.aft, s.fore)

-- two pairs of ends that share more than a plane
abbrev pub overlap : ℤ × ℤ → ℤ × ℤ → Bool
overlap a b = int_lt a.0 b.1 && int_lt b.0 a.1

abbrev pub shares : Slab → Slab → Bool
shares s t = overlap (ends_of s) (ends_of t)

-- the slab shares no more than a plane with any of these
abbrev pub is_apart : Slab → List Slab → Bool
is_apart s others = list_all (λ t. not (shares s t)) others

-- no two of the slabs share more than a plane
abbrev pub are_apart : List Slab → Bool
are_apart [] = true
are_apart (s ∷ rest) = is_apart s rest && are_apart rest
