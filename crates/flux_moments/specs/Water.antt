-- Strips that lie wholly under the waterplanes of a box, and strips that lie above them.
use Rattle.std.specs.Prelude.{ℤ}
use Rattle.exact_algebra.proofs.Fraction.{Fraction, nought, negative, ◌≼◌, ◌≺◌}
use Rattle.hull_model.specs.declared.node.Node.{Node}
use Rattle.hull_model.specs.Nodes.{mirrored}
use Rattle.hull_model.specs.Waterplane.{Waterplane}
use Rattle.flux_moments.specs.declared.plane_box.PlaneBox.{PlaneBox}
use Rattle.flux_moments.specs.Columns.{depth_of}
use Rattle.flux_moments.specs.Planes.{IsIn}
use Rattle.flux_moments.specs.Sizes.{BoxSize, Reaches, margin}

module _ (planes : PlaneBox) (first last : ℤ) where
  -- at every plane of the box a point and its mirror image lie under water
  abbrev pub IsUnder : Node → Type 0
  IsUnder n = (plane : Waterplane) → IsIn planes plane → (nought ≺ depth_of plane first last n) × (nought ≺ depth_of plane first last (mirrored n))

  -- at none does either
  abbrev pub IsOut : Node → Type 0
  IsOut n = (plane : Waterplane) → IsIn planes plane → (depth_of plane first last n ≼ nought) × (depth_of plane first last (mirrored n) ≼ nought)

  -- at every plane of the box a point and its mirror image lie so far under water, and so far above it
  abbrev pub IsUnderBy : Fraction → Node → Type 0
  IsUnderBy t n = (plane : Waterplane) → IsIn planes plane → (t ≼ depth_of plane first last n) × (t ≼ depth_of plane first last (mirrored n))

  abbrev pub IsOutBy : Fraction → Node → Type 0
  IsOutBy t n = (plane : Waterplane) → IsIn planes plane → (depth_of plane first last n ≼ negative t) × (depth_of plane first last (mirrored n) ≼ negative t)

  -- so far that it's known by the spans of its depths, for a node that is reached
  abbrev pub IsFarUnder : BoxSize → Fraction → Node → Type 0
  IsFarUnder b h n = Reaches b h n × IsUnderBy (margin b h) n

  abbrev pub IsFarOut : BoxSize → Fraction → Node → Type 0
  IsFarOut b h n = Reaches b h n × IsOutBy (margin b h) n
