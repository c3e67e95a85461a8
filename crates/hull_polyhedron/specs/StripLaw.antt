-- The law of strips: the integrals over what is submerged of a strip by its faces alone, where it is dry, where it is wholly under water, and
-- that the strips make up the hull.
use Rattle.std.specs.Prelude.{◌≡◌, ℕ, ◌<◌, pos, List, length, map}
use Rattle.std.specs.List.{flat_map, AllByRecursion}
use Rattle.exact_algebra.proofs.Fraction.{Fraction, nought, ◌⊗◌, ◌≼◌, ◌≺◌, inverse}
use Rattle.exact_algebra.proofs.Whole.{whole}
use Rattle.hull_model.specs.declared.node.Node.{Node}
use Rattle.hull_model.specs.declared.station.Station.{Station}
use Rattle.hull_model.specs.Body.{IsHull}
use Rattle.hull_model.specs.Boundary.{AreBalanced}
use Rattle.hull_model.specs.Fractions.{sum_over}
use Rattle.hull_model.specs.Lid.{lids, level_area, first_moment, second_moment, lid_area, lid_x, lid_yy, lid_xx}
use Rattle.hull_model.specs.Nodes.{mirrored}
use Rattle.hull_model.specs.SignedFaces.{signed_faces}
use Rattle.hull_model.specs.Submerged.{first_x, last_x, submerged_pieces, volume_of, integral, submerged_volume, mx, mv, mu}
use Rattle.hull_model.specs.Tetrahedra.{hull_tetrahedra}
use Rattle.hull_model.specs.TetrahedronCut.{Tetrahedron}
use Rattle.hull_model.specs.TriangleCut.{Triangle}
use Rattle.hull_model.specs.Waterplane.{Waterplane, Position, position_of, height, side_distance, upright, under}
use Rattle.hull_polyhedron.specs.declared.totals.Totals.{Totals}
use Rattle.hull_polyhedron.specs.CentralLaw.{AreColumnSums}
use Rattle.hull_polyhedron.specs.Columns.{triangle_at, depth}
use Rattle.hull_polyhedron.specs.LidLaw.{AreLidSums}
use Rattle.hull_polyhedron.specs.Strips.{strips_of, strip_at, station_nodes, triangles_in}
use Rattle.hull_polyhedron.specs.Totals.{totals_of}

module _ (plane : Waterplane) (stations : List Station) where
  -- what is submerged of a strip of a hull, its volume and the integral of a function over it
  abbrev pub strip_pieces : List Station → List (Tetrahedron Position)
  strip_pieces strip = submerged_pieces plane (first_x stations) (last_x stations) (hull_tetrahedra strip)

  abbrev pub strip_volume : List Station → Fraction
  strip_volume strip = sum_over volume_of (strip_pieces strip)

  abbrev pub strip_integral : (Position → Fraction) → List Station → Fraction
  strip_integral f strip = integral f (strip_pieces strip)

  abbrev pub depth_of : Node → Fraction
  depth_of n = depth plane (first_x stations) (last_x stations) (position_of n)

  -- what holds of the depths of all points of a strip's stations and of their mirror images
  abbrev pub AtDepths : (Fraction → Type 0) → List Station → Type 0
  AtDepths P strip = AllByRecursion (λ n. P (depth_of n) × P (depth_of (mirrored n))) (station_nodes strip)

  -- no point is under water, none is above it, and all are under it
  abbrev pub IsDry : List Station → Type 0
  IsDry strip = AtDepths (λ h. h ≼ nought) strip

  abbrev pub IsWet : List Station → Type 0
  IsWet strip = AtDepths (λ h. nought ≼ h) strip

  abbrev pub IsDeep : List Station → Type 0
  IsDeep strip = AtDepths (λ h. nought ≺ h) strip

  -- nothing of a strip is submerged
  pub record HasNothingSubmerged (strip : List Station) : Type 0 where
    pub volume : strip_volume strip ≡ nought
    pub mx : strip_integral (λ p. p.x) strip ≡ nought
    pub mv : strip_integral (side_distance plane) strip ≡ nought
    pub mu : strip_integral (height plane) strip ≡ nought

  -- all of some strips is, with these totals
  pub record AreWhollySubmerged (totals : Totals) (strips : List (List Station)) : Type 0 where
    pub volume : sum_over strip_volume strips ≡ whole totals.six ⊗ inverse (whole (pos 6))
    pub x : sum_over (strip_integral (λ p. p.x)) strips ≡ whole totals.mx24 ⊗ inverse (whole (pos 24))
    pub y : sum_over (strip_integral (λ p. p.y)) strips ≡ nought
    pub z : sum_over (strip_integral (λ p. p.z)) strips ≡ whole totals.mz24 ⊗ inverse (whole (pos 24))
    pub mv : sum_over (strip_integral (side_distance plane)) strips ≡ whole (pos plane.s) ⊗ (whole totals.mz24 ⊗ inverse (whole (pos 24))) ⊗ inverse (whole (pos plane.r))
    pub mu : sum_over (strip_integral (height plane)) strips ≡ whole (pos plane.c) ⊗ (whole totals.mz24 ⊗ inverse (whole (pos 24))) ⊗ inverse (whole (pos plane.r))

  -- the integrals over what is submerged of a hull, strip by strip
  pub record IsSummedByStrips : Type 0 where
    pub volume : submerged_volume plane stations ≡ sum_over strip_volume (strips_of stations)
    pub mx : mx plane stations ≡ sum_over (strip_integral (λ p. p.x)) (strips_of stations)
    pub mv : mv plane stations ≡ sum_over (strip_integral (side_distance plane)) (strips_of stations)
    pub mu : mu plane stations ≡ sum_over (strip_integral (height plane)) (strips_of stations)

module _ (at : Fraction) (stations : List Station) where
  -- the sum of a function over the lid of a strip of a hull at a level
  abbrev pub strip_lid : (Triangle Position → Fraction) → List Station → Fraction
  strip_lid f strip = sum_over f (lids (under (upright at) (first_x stations) (last_x stations)) (strip_pieces (upright at) stations strip))

  -- a strip without a lid
  pub record HasNoLid (strip : List Station) : Type 0 where
    pub area : strip_lid level_area strip ≡ nought
    pub x : strip_lid (first_moment (λ p. p.x)) strip ≡ nought
    pub yy : strip_lid (second_moment (λ p. p.y)) strip ≡ nought
    pub xx : strip_lid (second_moment (λ p. p.x)) strip ≡ nought

  -- the lid of a hull, strip by strip
  pub record LidIsSummedByStrips : Type 0 where
    pub area : lid_area at stations ≡ sum_over (strip_lid level_area) (strips_of stations)
    pub x : lid_x at stations ≡ sum_over (strip_lid (first_moment (λ p. p.x))) (strips_of stations)
    pub yy : lid_yy at stations ≡ sum_over (strip_lid (second_moment (λ p. p.y))) (strips_of stations)
    pub xx : lid_xx at stations ≡ sum_over (strip_lid (second_moment (λ p. p.x))) (strips_of stations)

-- at every waterplane, of each strip of a hull, over the faces in it among any that are balanced against the signed faces of the hull's
-- tetrahedra
abbrev pub ColumnsOfStrips : Type 0
ColumnsOfStrips = (plane : Waterplane) (stations : List Station) → IsHull stations → (faces : List (Triangle Node)) → AreBalanced faces (signed_faces stations)
    → (n : ℕ) → n < length (strips_of stations)
    → AreColumnSums plane (first_x stations) (last_x stations) (strip_pieces plane stations (strip_at stations n)) (map triangle_at (triangles_in (strip_at stations n) faces))

-- and so the lid at every level
abbrev pub LidsOfStrips : Type 0
LidsOfStrips = (at : Fraction) (stations : List Station) → IsHull stations → (faces : List (Triangle Node)) → AreBalanced faces (signed_faces stations)
    → (n : ℕ) → n < length (strips_of stations)
    → AreLidSums at (first_x stations) (last_x stations) (strip_pieces (upright at) stations (strip_at stations n)) (map triangle_at (triangles_in (strip_at stations n) faces))

-- of a strip that is dry nothing is submerged, and it has no lid
abbrev pub DryStrips : Type 0
DryStrips = (plane : Waterplane) (stations strip : List Station) → IsDry plane stations strip → HasNothingSubmerged plane stations strip

abbrev pub DryLids : Type 0
DryLids = (at : Fraction) (stations strip : List Station) → IsDry (upright at) stations strip → HasNoLid at stations strip

-- strips of which no point lies above the water are submerged wholly; one of which all points lie under it has no lid
abbrev pub WetStrips : Type 0
WetStrips = (plane : Waterplane) (stations : List Station) (strips : List (List Station)) → AllByRecursion (IsWet plane stations) strips
    → AreWhollySubmerged plane stations (totals_of (flat_map hull_tetrahedra strips)) strips

abbrev pub DeepLids : Type 0
DeepLids = (at : Fraction) (stations strip : List Station) → IsDeep (upright at) stations strip → HasNoLid at stations strip

-- the strips make up the hull
abbrev pub StripsMakeUpTheHull : Type 0
StripsMakeUpTheHull = (plane : Waterplane) (stations : List Station) → IsSummedByStrips plane stations

abbrev pub LidsMakeUpTheLid : Type 0
LidsMakeUpTheLid = (at : Fraction) (stations : List Station) → LidIsSummedByStrips at stations
