-- Triangles of which a share of the area counts, parts that hold them, and their columns.
use Rattle.std.specs.Prelude.{ℤ, List}
use Rattle.exact_algebra.proofs.Fraction.{Fraction, ◌⊗◌}
use Rattle.hull_model.specs.Fractions.{sum_over}
use Rattle.hull_model.specs.TriangleCut.{Triangle}
use Rattle.hull_model.specs.Waterplane.{Waterplane, Position}
use Rattle.hull_polyhedron.specs.Columns.{column}
use Rattle.plane_clip.specs.declared.part.Part.{Part}
use Rattle.plane_clip.specs.Enclosure.{Each}
use Rattle.plane_clip.specs.Parts.{HoldsShare}

pub record Shared : Type 0 where
  pub share : Fraction
  pub at : Triangle Position

-- each part holds its triangle
abbrev pub HoldShares : List Part → List Shared → Type 0
HoldShares = Each (λ p t. HoldsShare p t.share t.at)

-- the share of the integral over the column of a triangle, and the sum over triangles
module _ (plane : Waterplane) (first last : ℤ) (f : Position → Fraction) where
  abbrev pub shared_column : Shared → Fraction
  shared_column t = column plane first last f t.at ⊗ t.share

  abbrev pub shared_columns : List Shared → Fraction
  shared_columns ts = sum_over shared_column ts
