-- Columns over triangles that make up the same, and over a triangle that is seen edge-on.
use mathlib.Core.Path.{◌≡◌, sym, ◌∙◌}
use mathlib.Core.List.{List}
use lib.IntN.{ℤ}
use Rattle.exact_algebra.proofs.Fraction.{Fraction, nought}
use Rattle.hull_model.specs.FaceParts.{parts_between}
use Rattle.hull_model.specs.TriangleCut.{Triangle}
use Rattle.hull_model.specs.TriangleSums.{Function, IsAlternating, AddsUp, MakeUpTheSame}
use Rattle.hull_model.specs.Waterplane.{Waterplane, Position}
use Rattle.hull_model.proofs.PartSums.{parts-sum}
use Rattle.hull_model.proofs.TetrahedronRounds.{depth_linear}
use Rattle.hull_polyhedron.specs.Columns.{depth, column_sum}
use Rattle.hull_model.proofs.EdgeSplits.{IsLinearFunction}
use Rattle.hull_polyhedron.proofs.SeenForm.{column_sum-seen}
use Rattle.hull_polyhedron.proofs.SlabOfTetrahedron.{seen, seen-alternating, seen-adds, part-vanishes, area-across}

module _ (plane : Waterplane) (first last : ℤ) (f : Position → Fraction) (f_linear : IsLinearFunction f) where
  abbrev seen_at : Function
  seen_at = seen plane first last f (depth plane first last)

  alternating : IsAlternating seen_at
  alternating = seen-alternating plane first last f (depth plane first last)

  adds : AddsUp seen_at
  adds = seen-adds plane first last f (depth plane first last) f_linear (depth_linear plane first last)

  pub same_columns : (ts others : List (Triangle Position)) → MakeUpTheSame ts others → column_sum plane first last f ts ≡ column_sum plane first last f others
  same_columns ts others same = column_sum-seen plane first last f ts ∙ same seen_at alternating adds ∙ sym (column_sum-seen plane first last f others)

  -- the parts of a triangle in a plane of constant x
  pub no_columns : (aft fore : ℤ) (t : Triangle Position) → t.b.x ≡ t.a.x → t.c.x ≡ t.a.x → column_sum plane first last f (parts_between aft fore t) ≡ nought
  no_columns aft fore t e g = column_sum-seen plane first last f (parts_between aft fore t) ∙ parts-sum aft fore seen_at alternating adds t
      ∙ part-vanishes plane first last f (depth plane first last) f_linear (depth_linear plane first last) aft fore t.a t.b t.c (area-across plane t.a t.b t.c e g)
