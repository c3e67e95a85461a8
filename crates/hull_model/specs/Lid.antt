-- The lid: the part of an upright level plane that closes the body below it, and its integrals.
use Rattle.std.specs.Prelude.{pos, List, [], ◌∷◌}
use Rattle.std.specs.List.{flat_map}
use Rattle.exact_algebra.specs.OrderedField.{Sign, level, above}
use Rattle.exact_algebra.proofs.Fraction.{Fraction, ◌⊕◌, ◌⊗◌, ◌⊖◌, inverse}
use Rattle.exact_algebra.proofs.Whole.{whole}
use Rattle.hull_model.specs.declared.station.Station.{Station}
use Rattle.hull_model.specs.Fractions.{magnitude, sum_over}
use Rattle.hull_model.specs.TriangleCut.{Triangle, triangle, Corners, side}
use Rattle.hull_model.specs.TetrahedronCut.{Tetrahedron}
use Rattle.hull_model.specs.Waterplane.{Position, upright, under}
use Rattle.hull_model.specs.Submerged.{first_x, last_x, submerged_body}

-- the three corners at depth 0 of a kept piece that has exactly three there: the fourth lies above 0
abbrev pub lid_by : {C : Type 0} → Sign → Sign → Sign → Sign → C → C → C → C → List (Triangle C)
lid_by above level level level a b c d = triangle b c d ∷ []
lid_by level above level level a b c d = triangle a c d ∷ []
lid_by level level above level a b c d = triangle a b d ∷ []
lid_by level level level above a b c d = triangle a b c ∷ []
lid_by _ _ _ _ a b c d = []

abbrev pub lid_of : {C : Type 0} → Corners C → Tetrahedron C → List (Triangle C)
lid_of corners t = lid_by (side corners t.a) (side corners t.b) (side corners t.c) (side corners t.d) t.a t.b t.c t.d

-- those of kept pieces, one after another
abbrev pub lids : {C : Type 0} → Corners C → List (Tetrahedron C) → List (Triangle C)
lids corners pieces = flat_map (lid_of corners) pieces

-- the lid of a hull at a level
unfoldable pub lid : Fraction → List Station → List (Triangle Position)
lid at stations = lids (under (upright at) (first_x stations) (last_x stations)) (submerged_body (upright at) stations)

-- the area of a level triangle
unfoldable pub level_area : Triangle Position → Fraction
level_area t = magnitude ((t.b.x ⊖ t.a.x) ⊗ (t.c.y ⊖ t.a.y) ⊖ (t.c.x ⊖ t.a.x) ⊗ (t.b.y ⊖ t.a.y)) ⊗ inverse (whole (pos 2))

-- the sum of the values at the corners of a linear function
abbrev pub at_corners : (Position → Fraction) → Triangle Position → Fraction
at_corners f t = f t.a ⊕ f t.b ⊕ f t.c

-- the integral over a triangle of a linear function, and of its square
abbrev pub first_moment : (Position → Fraction) → Triangle Position → Fraction
first_moment f t = level_area t ⊗ at_corners f t ⊗ inverse (whole (pos 3))

abbrev pub second_moment : (Position → Fraction) → Triangle Position → Fraction
second_moment f t = level_area t ⊗ (at_corners (λ p. f p ⊗ f p) t ⊕ at_corners f t ⊗ at_corners f t) ⊗ inverse (whole (pos 12))

module _ (at : Fraction) (stations : List Station) where
  -- the area in mm², and the integrals of x in mm³ and of y² and x² in mm⁴
  unfoldable pub lid_area : Fraction
  lid_area = sum_over level_area (lid at stations)

  unfoldable pub lid_x : Fraction
  lid_x = sum_over (first_moment (λ p. p.x)) (lid at stations)

  unfoldable pub lid_yy : Fraction
  lid_yy = sum_over (second_moment (λ p. p.y)) (lid at stations)

  unfoldable pub lid_xx : Fraction
  lid_xx = sum_over (second_moment (λ p. p.x)) (lid at stations)
