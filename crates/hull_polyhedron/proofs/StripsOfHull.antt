-- The strips make up the hull, and so do their lids the hull's.
use Rattle.std.proofs.Common.{◌≡◌, sym, ◌∙◌, ap, List, ◌++◌}
use Rattle.std.proofs.lemmas.Grind.{flat_map-append}
use Rattle.exact_algebra.proofs.Fraction.{Fraction, ◌⊗◌}
use Rattle.hull_model.specs.declared.node.Node.{Node}
use Rattle.hull_model.specs.declared.station.Station.{Station}
use Rattle.hull_model.specs.Fractions.{sum_over}
use Rattle.hull_model.specs.Lid.{lid, lids, lid_of, level_area, first_moment, second_moment, lid_area, lid_x, lid_yy, lid_xx}
use Rattle.hull_model.specs.Nodes.{mirrored}
use Rattle.hull_model.specs.Submerged.{first_x, last_x, volume_of, mean_of, submerged_pieces, submerged_body, submerged_volume, mx, mv, mu}
use Rattle.hull_model.specs.Tetrahedra.{to_centreplane}
use Rattle.hull_model.specs.TetrahedronCut.{Tetrahedron, with_corners, kept_pieces}
use Rattle.hull_model.specs.TriangleCut.{Triangle}
use Rattle.hull_model.specs.Waterplane.{Waterplane, Position, position_of, height, side_distance, upright, under}
use Rattle.hull_model.proofs.PartSums.{sum_over-flat_map}
use Rattle.hull_model.proofs.ShareSplits.{sum_over-append, sum_over-none}
use Rattle.hull_polyhedron.specs.StripLaw.{strip_pieces, strip_lid, StripsMakeUpTheHull, LidsMakeUpTheLid}
use Rattle.hull_polyhedron.specs.Strips.{strips_of}
use Rattle.hull_polyhedron.proofs.StripByStrip.{strip_by_strip}

module _ (plane : Waterplane) (stations : List Station) where
  pieces-append : (xs ys : List (Tetrahedron Node)) → submerged_pieces plane (first_x stations) (last_x stations) (xs ++ ys) ≡ submerged_pieces plane (first_x stations) (last_x stations) xs ++ submerged_pieces plane (first_x stations) (last_x stations) ys
  unfolding submerged_pieces
  pieces-append xs ys = flat_map-append (λ t. kept_pieces (under plane (first_x stations) (last_x stations)) (with_corners position_of t)) xs ys

  -- the sum of a function over all pieces
  of_pieces : (Tetrahedron Position → Fraction) → List (Tetrahedron Node) → Fraction
  of_pieces g ts = sum_over g (submerged_pieces plane (first_x stations) (last_x stations) ts)

  sum_by_strips : (g : Tetrahedron Position → Fraction) → sum_over g (submerged_body plane stations) ≡ sum_over (λ strip. sum_over g (strip_pieces plane stations strip)) (strips_of stations)
  unfolding of_pieces submerged_pieces
  sum_by_strips g = strip_by_strip to_centreplane (with_corners mirrored) (of_pieces g) (sum_over-none g)
      (λ xs ys. ap (sum_over g) (pieces-append xs ys) ∙ sum_over-append g (submerged_pieces plane (first_x stations) (last_x stations) xs) (submerged_pieces plane (first_x stations) (last_x stations) ys)) stations

pub hull_by_strips : StripsMakeUpTheHull
unfolding submerged_volume mx mv mu
hull_by_strips plane stations = record {
  volume = sum_by_strips plane stations volume_of;
  mx = sum_by_strips plane stations (λ t. volume_of t ⊗ mean_of (λ p. p.x) t);
  mv = sum_by_strips plane stations (λ t. volume_of t ⊗ mean_of (side_distance plane) t);
  mu = sum_by_strips plane stations (λ t. volume_of t ⊗ mean_of (height plane) t);
}

pub lid_by_strips : LidsMakeUpTheLid
unfolding lid lid_area lid_x lid_yy lid_xx
lid_by_strips at stations = record { area = go level_area; x = go (first_moment (λ p. p.x)); yy = go (second_moment (λ p. p.y)); xx = go (second_moment (λ p. p.x)) }
  where
    go : (f : Triangle Position → Fraction) → sum_over f (lids (under (upright at) (first_x stations) (last_x stations)) (submerged_body (upright at) stations)) ≡ sum_over (strip_lid at stations f) (strips_of stations)
    go f = sum_over-flat_map f (lid_of (under (upright at) (first_x stations) (last_x stations))) (submerged_body (upright at) stations)
        ∙ sum_by_strips (upright at) stations (λ p. sum_over f (lid_of (under (upright at) (first_x stations) (last_x stations)) p))
        ∙ (λ i. sum_over (λ strip. sym (sum_over-flat_map f (lid_of (under (upright at) (first_x stations) (last_x stations))) (strip_pieces (upright at) stations strip)) i) (strips_of stations))
