-- The extents of corners and parts: larger ones, those of whole faces, and those of what a triangle is clipped to.
use Rattle.std.proofs.Common.{ℕ, suc, pos, ◌≡◌, ◌≤◌, unsigned_abs, subst, arith}
use Rattle.std.proofs.lemmas.Int.{ints}
use Rattle.hull_model.specs.declared.node.Node.{Node}
use Rattle.hull_polyhedron.specs.Between.{IsInside}
use Rattle.plane_clip.specs.declared.clip.Clip.{Clip}
use Rattle.plane_clip.specs.declared.clip.Clip.TheVariants.{One, Two}
use Rattle.plane_clip.specs.declared.corner.PartCorner.{PartCorner}
use Rattle.plane_clip.specs.declared.part.Part.{Part}
use Rattle.plane_clip.specs.Clips.{clip_parts}
use Rattle.plane_clip.specs.Extents.{IsCornerExtent, IsPartExtent, ArePartExtents}
use Rattle.plane_clip.proofs.Portions.{thin-wider}

module _ (y z : ℕ) where
  pub corner-wider : (k : ℕ) {c : PartCorner} → IsCornerExtent y z k c → IsCornerExtent y z (suc k) c
  corner-wider k {c} h = record { y_ends = h.y_ends; z_ends = h.z_ends; y_thin = thin-wider k c.y.lo c.y.hi h.y_thin; z_thin = thin-wider k c.z.lo c.z.hi h.z_thin }

  pub part-wider : (k : ℕ) {p : Part} → IsPartExtent y z k p → IsPartExtent y z (suc k) p
  part-wider k {p} h = record { a = corner-wider k h.a; b = corner-wider k h.b; c = corner-wider k h.c; ay = thin-wider k p.ay.lo p.ay.hi h.ay; az = thin-wider k p.az.lo p.az.hi h.az }

  -- of what a triangle is clipped to
  pub extent_one : (k : ℕ) {clip : Clip} {p : Part} → clip ≡ One p → ArePartExtents y z k (clip_parts clip) → IsPartExtent y z k p
  extent_one k e h = (subst (λ (clip : Clip). ArePartExtents y z k (clip_parts clip)) e h).0

  pub extent_two : (k : ℕ) {clip : Clip} {p q : Part} → clip ≡ Two p q → ArePartExtents y z k (clip_parts clip) → IsPartExtent y z k p × IsPartExtent y z k q
  extent_two k e h = let each = subst (λ (clip : Clip). ArePartExtents y z k (clip_parts clip)) e h in (each.0, each.1.0)

  -- of a node within a half-breadth and a height
  pub breadth_within : (n : Node) → IsInside (pos y) (pos z) n → unsigned_abs n.y ≤ y
  breadth_within n h = omega (arith, ints, h.port, h.starboard)

  pub height_within : (n : Node) → IsInside (pos y) (pos z) n → unsigned_abs n.z ≤ z
  height_within n h = omega (arith, ints, h.base, h.top)
