-- How wide the spans of `left` may be.
use Rattle.std.specs.Prelude.{ℕ, ◌+◌, pos, length}
use Rattle.exact_algebra.proofs.Fraction.{Fraction, ◌⊕◌, ◌⊗◌}
use Rattle.exact_algebra.proofs.Whole.{whole}
use Rattle.hull_polyhedron.specs.declared.faces.Faces.{Faces}
use Rattle.outward_interval.specs.Widths.{unit_of}
use Rattle.flux_moments.specs.declared.plane_box.PlaneBox.{PlaneBox}
use Rattle.flux_moments.specs.Widths.{reach_of, volume_bound}
use Rattle.compartment_loss.specs.declared.flooded_hull.FloodedHull.{FloodedHull}

-- of a hull with so many slabs flooded: as wide as the volume below the planes may be, and for each face 2^-12 mm² times the reach, once
-- more than there are slabs
abbrev pub slabs_bound : ℕ → Faces → PlaneBox → Fraction
slabs_bound slabs faces b = whole (pos (slabs + 1)) ⊗ (volume_bound faces b ⊕ (whole (pos (length faces.list)) ⊗ reach_of faces b) ⊗ unit_of 12)

-- how wide the volume that is left may be, in mm³
abbrev pub left_bound : FloodedHull → PlaneBox → Fraction
left_bound f b = slabs_bound (length f.slabs.items) f.faces.now b
