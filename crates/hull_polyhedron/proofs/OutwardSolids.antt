-- The signs of the hull's tetrahedra: with them the faces point outwards, or the volume is 0.
use Rattle.std.proofs.Common.{sym, List, [], ◌∷◌, Bool, true, false, ℤ, pos, neg_ℤ, ◌≤ℤ◌, arith}
use Rattle.std.proofs.lemmas.Int.{ints}
use Rattle.std.specs.List.{AllByRecursion}
use Rattle.exact_algebra.proofs.Fraction.{fractions}
use Rattle.exact_algebra.proofs.Whole.{whole-nought, whole-≼}
use Rattle.exact_algebra.proofs.Order as Order
use Rattle.hull_model.specs.declared.station.Station.{Station}
use Rattle.hull_model.specs.Body.{IsStation}
use Rattle.hull_model.specs.Lists.{Rises}
use Rattle.hull_model.specs.TetrahedronCut.{with_corners}
use Rattle.hull_model.specs.Tetrahedra.{turned_six}
use Rattle.hull_model.specs.SignedFaces.{Signed, signed_tetrahedra}
use Rattle.hull_model.specs.Waterplane.{position_of}
use Rattle.hull_polyhedron.proofs.Solids.{with_sign}
use Rattle.hull_polyhedron.proofs.SixVolume.{IsRight, all_right}
use Rattle.hull_polyhedron.proofs.Uncut.{whole_determinant}
use Rattle.hull_polyhedron.specs.CentralLaw.{PointOutwards, PointsOutwards}
use Rattle.hull_polyhedron.specs.Signs.{SignsAreRight}

right_points : (s : Signed) → IsRight s → PointsOutwards s
right_points s right = go s.outwards right
  where
    turned_order : {m : ℤ} → pos 0 ≤ℤ neg_ℤ m → m ≤ℤ pos 0
    turned_order h = omega (arith, ints)

    go : (b : Bool) → pos 0 ≤ℤ with_sign b (turned_six s.solid) → PointOutwards b (with_corners position_of s.solid)
    go true h = Order.≼_trans fractions (Order.≼_same fractions (sym whole-nought)) (Order.≼_trans fractions (whole-≼ h) (Order.≼_same fractions (sym (whole_determinant s.solid))))
    go false h = Order.≼_trans fractions (Order.≼_same fractions (whole_determinant s.solid)) (Order.≼_trans fractions (whole-≼ (turned_order h)) (Order.≼_same fractions whole-nought))

all_points : (ss : List Signed) → AllByRecursion IsRight ss → AllByRecursion PointsOutwards ss
all_points [] right = tt
all_points (s ∷ ss) right = (right_points s right.0, all_points ss right.1)

pub points_outwards : (stations : List Station) → AllByRecursion IsStation stations → Rises (λ s. s.x) stations → AllByRecursion PointsOutwards (signed_tetrahedra stations)
points_outwards stations each rises = all_points (signed_tetrahedra stations) (all_right stations each rises)

pub solids_point_outwards : SignsAreRight
solids_point_outwards stations hull = points_outwards stations hull.each hull.places_rise
