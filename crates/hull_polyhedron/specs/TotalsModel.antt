-- A model of the functions on `Totals`, and how large they are.
use Rattle.std.specs.Prelude.{ℕ, suc, ◌*◌, ◌^◌, ◌≤◌, ◌<◌, length, ℤ, pos, ◌+ℤ◌, ◌-ℤ◌, ◌*ℤ◌, unsigned_abs, List, [], ◌∷◌, ◌++◌, map, get_or}
use Rattle.std.specs.List.{flat_map}
use Rattle.hull_model.specs.declared.node.Node.{Node}
use Rattle.hull_model.specs.declared.station.Station.{Station}
use Rattle.hull_model.specs.Nodes.{mirrored}
use Rattle.hull_model.specs.Tetrahedra.{to_centreplane, hull_tetrahedra}
use Rattle.hull_model.specs.TetrahedronCut.{Tetrahedron, with_corners}
use Rattle.hull_model.specs.TriangleCut.{Triangle}
use Rattle.hull_polyhedron.specs.declared.totals.Totals.{Totals}
use Rattle.hull_polyhedron.specs.Totals.{totals_of}

abbrev pub none : Totals
none = record { six = pos 0; mx24 = pos 0; mz24 = pos 0 }

abbrev pub plus : Totals → Totals → Totals
plus a b = record { six = a.six +ℤ b.six; mx24 = a.mx24 +ℤ b.mx24; mz24 = a.mz24 +ℤ b.mz24 }

abbrev pub minus : Totals → Totals → Totals
minus a b = record { six = a.six -ℤ b.six; mx24 = a.mx24 -ℤ b.mx24; mz24 = a.mz24 -ℤ b.mz24 }

-- of a tetrahedron and its mirror image, by six times the volume of one and the sums of x and z over its corners
abbrev pub doubled : ℤ → ℤ → ℤ → Totals
doubled six x z = record { six = six +ℤ six; mx24 = (six *ℤ x) +ℤ (six *ℤ x); mz24 = (six *ℤ z) +ℤ (six *ℤ z) }

abbrev pub totals_at : List Totals → ℕ → Totals
totals_at list n = get_or list n none

-- tetrahedra and their mirror images
abbrev pub both_sides : List (Tetrahedron Node) → List (Tetrahedron Node)
both_sides ts = ts ++ map (with_corners mirrored) ts

abbrev pub triangle_totals : List (Triangle Node) → Totals
triangle_totals ts = totals_of (both_sides (flat_map to_centreplane ts))

-- the totals after each strip, from some totals on
abbrev pub running_from : Totals → List (List Station) → List Totals
running_from sum [] = []
running_from sum (strip ∷ rest) = plus sum (totals_of (hull_tetrahedra strip)) ∷ running_from (plus sum (totals_of (hull_tetrahedra strip))) rest

-- at most so many times as much as a tetrahedron and its mirror image may have
pub record AreAtMost (count : ℕ) (t : Totals) : Type 0 where
  pub six : unsigned_abs t.six ≤ count * 2 ^ 56
  pub mx24 : unsigned_abs t.mx24 ≤ count * 2 ^ 77
  pub mz24 : unsigned_abs t.mz24 ≤ count * 2 ^ 74

-- each strip adds at most what its tetrahedra may have
abbrev pub GrowByStrips : List Totals → Type 0
GrowByStrips totals = (n : ℕ) → suc n < length totals → AreAtMost 192 (minus (totals_at totals (suc n)) (totals_at totals n))
