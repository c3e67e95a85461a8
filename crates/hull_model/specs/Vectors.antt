-- Differences of nodes and the products of them by which areas and volumes are measured.
use Rattle.std.specs.Prelude.{ℕ, ℤ, ◌+ℤ◌, ◌-ℤ◌, ◌*ℤ◌}
use Rattle.exact_fraction.specs.Bounds.{MagnitudeBelow}
use Rattle.hull_model.specs.declared.node.Node.{Node}
use Rattle.hull_model.specs.declared.vector.Vector.{Vector}

-- the way from one node to another
abbrev pub way : Node → Node → Vector
way p q = record { x = q.x -ℤ p.x; y = q.y -ℤ p.y; z = q.z -ℤ p.z }

-- the vector product: twice the area of the triangle that two ways from one point span, square to it
abbrev pub cross : Vector → Vector → Vector
cross u v = record {
  x = (u.y *ℤ v.z) -ℤ (u.z *ℤ v.y);
  y = (u.z *ℤ v.x) -ℤ (u.x *ℤ v.z);
  z = (u.x *ℤ v.y) -ℤ (u.y *ℤ v.x);
}

-- the sum of the products of the coordinates
abbrev pub dot : Vector → Vector → ℤ
dot u v = ((u.x *ℤ v.x) +ℤ (u.y *ℤ v.y)) +ℤ (u.z *ℤ v.z)

-- each coordinate below 2^bits in magnitude
pub record AreBelow (bits : ℕ) (u : Vector) : Type 0 where
  pub x : MagnitudeBelow bits u.x
  pub y : MagnitudeBelow bits u.y
  pub z : MagnitudeBelow bits u.z
