-- What holds of the nodes of all stations, of their feet and of their mirror images holds of all corners of the hull's tetrahedra; so these
-- corners lie within the hull's half-breadth and height, and from the first station to the last.
use mathlib.Core.List.{List, [], ◌∷◌}
use lib.IntN.{ℤ}
use Rattle.std.specs.Prelude.{◌≤ℤ◌, map}
use Rattle.std.specs.List.{flat_map, AllByRecursion}
use Rattle.exact_algebra.proofs.Whole.{whole-≼}
use Rattle.hull_model.specs.declared.node.Node.{Node}
use Rattle.hull_model.specs.declared.station.Station.{Station}
use Rattle.hull_model.specs.Body.{IsHull}
use Rattle.hull_model.specs.Faces.{corner_list}
use Rattle.hull_model.specs.Nodes.{foot, mirrored}
use Rattle.hull_model.specs.TriangleCut.{Triangle}
use Rattle.hull_model.specs.TetrahedronCut.{Tetrahedron, with_corners}
use Rattle.hull_model.specs.Tetrahedra.{to_centreplane, starboard_half, hull_tetrahedra}
use Rattle.hull_model.specs.Submerged.{first_x, last_x}
use Rattle.hull_model.specs.Waterplane.{position_of}
use Rattle.hull_model.specs.Zipper.{chain, strip_triangles, between_stations}
use Rattle.hull_polyhedron.specs.Between.{IsInside}
use Rattle.hull_polyhedron.specs.Extent.{IsGreatest}
use Rattle.hull_polyhedron.proofs.AftParts.{all-implied}
use Rattle.hull_polyhedron.proofs.Between.{chains_hold, places_hold, hull_between, foot_inside, mirror_inside, stations_inside}
use Rattle.hull_polyhedron.proofs.Proper.{all-append}
use Rattle.hull_polyhedron.proofs.RisingPieces.{AtCorners, IsAboard}

module _ (OfNode : Node → Type 0) (at_foot : (n : Node) → OfNode n → OfNode (foot n)) (at_mirror : (n : Node) → OfNode n → OfNode (mirrored n)) where
  abbrev OfTriangle : Triangle Node → Type 0
  OfTriangle t = AllByRecursion OfNode (corner_list t)

  abbrev pub OfCorners : Tetrahedron Node → Type 0
  OfCorners t = OfNode t.a × OfNode t.b × OfNode t.c × OfNode t.d

  strips_hold : (stations : List Station) → AllByRecursion (λ s. AllByRecursion OfNode (chain s)) stations → AllByRecursion OfTriangle (strip_triangles stations)
  strips_hold [] all = tt
  strips_hold (s ∷ []) all = tt
  strips_hold (s ∷ t ∷ rest) all = all-append OfTriangle (between_stations s t) (strip_triangles (t ∷ rest)) (chains_hold OfNode at_foot at_mirror (chain s) (chain t) all.0 all.1.0) (strips_hold (t ∷ rest) all.1)

  three_hold : (t : Triangle Node) → OfTriangle t → AllByRecursion OfCorners (to_centreplane t)
  three_hold t h = (
    (at_foot t.a h.0, at_foot t.b h.1.0, at_foot t.c h.1.1.0, h.1.1.0),
    ((at_foot t.a h.0, at_foot t.b h.1.0, h.1.0, h.1.1.0), ((at_foot t.a h.0, h.0, h.1.0, h.1.1.0), tt)),
  )

  half_holds : (ts : List (Triangle Node)) → AllByRecursion OfTriangle ts → AllByRecursion OfCorners (flat_map to_centreplane ts)
  half_holds [] all = tt
  half_holds (t ∷ ts) all = all-append OfCorners (to_centreplane t) (flat_map to_centreplane ts) (three_hold t all.0) (half_holds ts all.1)

  images_hold : (ts : List (Tetrahedron Node)) → AllByRecursion OfCorners ts → AllByRecursion OfCorners (map (with_corners mirrored) ts)
  images_hold [] all = tt
  images_hold (t ∷ ts) all = ((at_mirror t.a all.0.0, at_mirror t.b all.0.1, at_mirror t.c all.0.2, at_mirror t.d all.0.3), images_hold ts all.1)

  pub tetrahedra_hold : (stations : List Station) → AllByRecursion (λ s. AllByRecursion OfNode (chain s)) stations → AllByRecursion OfCorners (hull_tetrahedra stations)
  tetrahedra_hold stations all =
      let half = half_holds (strip_triangles stations) (strips_hold stations all) in
      all-append OfCorners (starboard_half stations) (map (with_corners mirrored) (starboard_half stations)) half (images_hold (starboard_half stations) half)

-- all corners lie within the greatest half-breadth, not below the base, and no higher than the greatest height
pub hull_inside : (half_breadth height : ℤ) (stations : List Station) → IsHull stations → IsGreatest (λ p. p.y) stations half_breadth → IsGreatest (λ p. p.z) stations height
    → AllByRecursion (λ (t : Tetrahedron Node). IsInside half_breadth height t.a × IsInside half_breadth height t.b × IsInside half_breadth height t.c × IsInside half_breadth height t.d) (hull_tetrahedra stations)
hull_inside half_breadth height stations hull breadth high =
    tetrahedra_hold (IsInside half_breadth height) (foot_inside half_breadth height) (mirror_inside half_breadth height) stations
    (stations_inside half_breadth height stations hull.each breadth.above high.above)

-- all corners lie from the first station to the last
module _ (stations : List Station) where
  abbrev IsPlace : ℤ → Type 0
  IsPlace x = (first_x stations ≤ℤ x) × (x ≤ℤ last_x stations)

  abbrev AtPlace : Node → Type 0
  AtPlace n = IsPlace n.x

  aboard : (n : Node) → AtPlace n → IsAboard (first_x stations) (last_x stations) (position_of n)
  aboard n h = record { from_first = whole-≼ h.0; to_last = whole-≼ h.1 }

  pub hull_aboard : IsHull stations → AllByRecursion (λ t. AtCorners (IsAboard (first_x stations) (last_x stations)) (with_corners position_of t)) (hull_tetrahedra stations)
  hull_aboard hull = all-implied (OfCorners AtPlace (λ n h. h) (λ n h. h)) (λ t. AtCorners (IsAboard (first_x stations) (last_x stations)) (with_corners position_of t))
      (λ t h. (aboard t.a h.0, aboard t.b h.1, aboard t.c h.2, aboard t.d h.3)) (hull_tetrahedra stations)
      (tetrahedra_hold AtPlace (λ n h. h) (λ n h. h) stations (places_hold IsPlace stations (hull_between stations hull.places_rise)))
