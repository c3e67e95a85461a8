-- How far the corners of parts of a face may lie, and how wide the spans of parts may be.
use Rattle.std.specs.Prelude.{ℕ, ◌*◌, ◌^◌, List}
use Rattle.std.specs.List.{AllByRecursion}
use Rattle.plane_clip.specs.declared.corner.PartCorner.{PartCorner}
use Rattle.plane_clip.specs.declared.part.Part.{Part}
use Rattle.plane_clip.specs.Limits.{EndsAtMost, IsThin}

-- y mm at most to either side and z mm at most upwards or downwards, by spans that are at most so many units wide
pub record IsCornerExtent (y z units : ℕ) (c : PartCorner) : Type 0 where
  pub y_ends : EndsAtMost (y * 2 ^ 20) c.y.lo c.y.hi
  pub z_ends : EndsAtMost (z * 2 ^ 20) c.z.lo c.z.hi
  pub y_thin : IsThin units c.y.lo c.y.hi
  pub z_thin : IsThin units c.z.lo c.z.hi

-- so every corner, and the areas by spans no wider
pub record IsPartExtent (y z units : ℕ) (p : Part) : Type 0 where
  pub a : IsCornerExtent y z units p.a
  pub b : IsCornerExtent y z units p.b
  pub c : IsCornerExtent y z units p.c
  pub ay : IsThin units p.ay.lo p.ay.hi
  pub az : IsThin units p.az.lo p.az.hi

abbrev pub ArePartExtents : (y z units : ℕ) → List Part → Type 0
ArePartExtents y z units = AllByRecursion (IsPartExtent y z units)
