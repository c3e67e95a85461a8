-- Totals over tetrahedra of nodes: six times the volume, and 24 times the integrals of x and of z.
use Rattle.std.specs.Prelude.{ℤ, pos, ◌+ℤ◌, ◌*ℤ◌, List}
use Rattle.hull_model.specs.declared.node.Node.{Node}
use Rattle.hull_model.specs.Boundary.{sum_of}
use Rattle.hull_model.specs.Tetrahedra.{six_times}
use Rattle.hull_model.specs.TetrahedronCut.{Tetrahedron}
use Rattle.hull_polyhedron.specs.declared.totals.Totals.{Totals}

-- the sum of a coordinate over the corners
abbrev pub corner_sum : (Node → ℤ) → Tetrahedron Node → ℤ
corner_sum k t = ((k t.a +ℤ k t.b) +ℤ k t.c) +ℤ k t.d

-- 24 times the integral of a coordinate over a tetrahedron: its mean is a quarter of the sum over the corners
abbrev pub moment24 : (Node → ℤ) → Tetrahedron Node → ℤ
moment24 k t = pos (six_times t) *ℤ corner_sum k t

abbrev pub totals_of : List (Tetrahedron Node) → Totals
totals_of ts = record {
  six = sum_of (λ t. pos (six_times t)) ts;
  mx24 = sum_of (moment24 (λ n. n.x)) ts;
  mz24 = sum_of (moment24 (λ n. n.z)) ts;
}
