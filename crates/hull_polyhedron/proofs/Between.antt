-- Every corner of the boundary is a point of a station, its foot or its mirror image, and so lies from the first station to the last,
-- within the half-breadth and below the greatest height.
use Rattle.std.proofs.Common.{◌≡◌, inl, inr, sym, List, [], ◌∷◌, ◌++◌, map, Bool, true, false, ℤ, pos, neg_ℤ, ◌≤ℤ◌, ◌<ℤ◌, ◌≤◌, length, arith}
use mathlib.Core.Path.{subst}
use Rattle.std.proofs.lemmas.Int.{ints}
use Rattle.std.specs.Prelude.{filter, cond, not, int_le, if◌then◌else◌}
use Rattle.std.specs.List.{flat_map, AllByRecursion}
use Rattle.hull_model.specs.declared.node.Node.{Node}
use Rattle.hull_model.specs.declared.point.Point.{Point}
use Rattle.hull_model.specs.declared.face.Face.{Face}
use Rattle.hull_model.specs.declared.station.Station.{Station}
use Rattle.hull_model.specs.Lists.{Rises, AnyByRecursion}
use Rattle.hull_model.specs.Body.{IsWithin, IsPoint, IsOutboard, HasBreadth, IsStation, IsHull}
use Rattle.hull_model.specs.Nodes.{node_at, foot, mirrored}
use Rattle.hull_model.specs.TriangleCut.{Triangle, triangle}
use Rattle.hull_model.specs.Faces.{corner_list, face_of}
use Rattle.hull_model.specs.SignedFaces.{turns_back}
use Rattle.hull_model.specs.Submerged.{first_x, last_x}
use Rattle.hull_model.specs.Zipper.{fore_triangles, advance, zipper, between_chains, between_stations, chain}
use Rattle.hull_polyhedron.specs.Between.{AreEnds, LieBetween, IsInside, LieInside, IsReach, AreHeights}
use Rattle.hull_polyhedron.specs.Extent.{AllPoints, SomePoint, IsLeast, IsGreatest}
use Rattle.hull_polyhedron.specs.Listed.{has_area, kept, turned_unless, mirrored_triangle, is_on_centreplane, sides, wall, end_wall, bottom, highest, top, strip, strips, first_end, last_end, listed}
use Rattle.hull_polyhedron.proofs.Proper.{all-append}
use Rattle.hull_polyhedron.proofs.OutwardListed.{ends_apart}

-- ---- what holds of the nodes of all stations, of their feet and of their mirror images holds of all corners
module _ (OfNode : Node → Type 0) (at_foot : (n : Node) → OfNode n → OfNode (foot n)) (at_mirror : (n : Node) → OfNode n → OfNode (mirrored n)) where
  abbrev pub OfStation : Station → Type 0
  OfStation s = AllByRecursion OfNode (chain s)

  abbrev pub OfCorners : Triangle Node → Type 0
  OfCorners t = AllByRecursion OfNode (corner_list t)

  either_way : (b : Bool) (t : Triangle Node) → OfCorners t → OfCorners (turned_unless b t)
  either_way true t c = c
  either_way false t c = (c.1.0, (c.0, c.1.1))

  sides_hold : (t : Triangle Node) → OfCorners t → AllByRecursion OfCorners (sides t)
  sides_hold t c = go (is_on_centreplane t)
    where
      go : (on : Bool) → AllByRecursion OfCorners (if on then [] else turned_unless (turns_back t) t ∷ turned_unless (not (turns_back t)) (mirrored_triangle t) ∷ [])
      go true = tt
      go false = (either_way (turns_back t) t c, (either_way (not (turns_back t)) (mirrored_triangle t) (at_mirror t.a c.0, (at_mirror t.b c.1.0, (at_mirror t.c c.1.1.0, tt))), tt))

  all_sides : (ts : List (Triangle Node)) → AllByRecursion OfCorners ts → AllByRecursion OfCorners (flat_map sides ts)
  all_sides [] all = tt
  all_sides (t ∷ ts) all = all-append OfCorners (sides t) (flat_map sides ts) (sides_hold t all.0) (all_sides ts all.1)

  wall_holds : (b : Bool) (p q : Node) → OfNode p → OfNode q → AllByRecursion OfCorners (wall b p q)
  unfolding wall
  wall_holds b p q h k = (
    either_way b _ (at_foot p h, (at_foot q k, (k, tt))),
    (either_way (not b) _ (at_foot p h, (h, (k, tt))), (either_way (not b) _ (at_foot p h, (at_foot q k, (at_mirror q k, tt))), (either_way b _ (at_foot p h, (at_mirror p h, (at_mirror q k, tt))), tt))),
  )

  pub end_wall_holds : (b : Bool) (nodes : List Node) → AllByRecursion OfNode nodes → AllByRecursion OfCorners (end_wall b nodes)
  end_wall_holds b [] all = tt
  end_wall_holds b (p ∷ []) all = tt
  end_wall_holds b (p ∷ q ∷ rest) all = all-append OfCorners (wall b p q) (end_wall b (q ∷ rest)) (wall_holds b p q all.0 all.1.0) (end_wall_holds b (q ∷ rest) all.1)

  bottom_holds : (aft fore : List Node) → AllByRecursion OfNode aft → AllByRecursion OfNode fore → AllByRecursion OfCorners (bottom aft fore)
  bottom_holds [] fore h k = tt
  bottom_holds (p ∷ aft) [] h k = tt
  bottom_holds (p ∷ aft) (q ∷ fore) h k = wall_holds false p q h.0 k.0

  pub highest_holds : (p : Node) (rest : List Node) → OfNode p → AllByRecursion OfNode rest → OfNode (highest p rest)
  highest_holds p [] h all = h
  highest_holds p (q ∷ rest) h all = highest_holds q rest all.0 all.1

  top_holds : (aft fore : List Node) → AllByRecursion OfNode aft → AllByRecursion OfNode fore → AllByRecursion OfCorners (top aft fore)
  top_holds [] fore h k = tt
  top_holds (p ∷ aft) [] h k = tt
  top_holds (p ∷ aft) (q ∷ fore) h k = wall_holds true (highest p aft) (highest q fore) (highest_holds p aft h.0 h.1) (highest_holds q fore k.0 k.1)

  -- ---- strip triangles
  fore_holds : (p q : Node) (fore : List Node) → OfNode p → OfNode q → AllByRecursion OfNode fore → AllByRecursion OfCorners (fore_triangles p q fore)
  fore_holds p q [] h k all = tt
  fore_holds p q (n ∷ fore) h k all = ((h, (k, (all.0, tt))), fore_holds p n fore h all.0 all.1)

  advance_holds : (p n : Node) (after : Node → List Node → List (Triangle Node)) → OfNode p → OfNode n
      → ((q : Node) (fore : List Node) → OfNode q → AllByRecursion OfNode fore → AllByRecursion OfCorners (after q fore))
      → (q : Node) (fore : List Node) → OfNode q → AllByRecursion OfNode fore → AllByRecursion OfCorners (advance p n after q fore)
  advance_holds p n after h l over q [] k all = ((h, (l, (k, tt))), over q [] k tt)
  advance_holds p n after h l over q (m ∷ fore) k all = choose (int_le n.z m.z) (triangle p n q ∷ after q (m ∷ fore)) (triangle p q m ∷ advance p n after m fore)
      ((h, (l, (k, tt))), over q (m ∷ fore) k all) ((h, (k, (all.0, tt))), advance_holds p n after h l over m fore all.0 all.1)
    where
      choose : (b : Bool) (xs ys : List (Triangle Node)) → AllByRecursion OfCorners xs → AllByRecursion OfCorners ys → AllByRecursion OfCorners (if b then xs else ys)
      choose true xs ys e f = e
      choose false xs ys e f = f

  zipper_holds : (p : Node) (aft : List Node) (q : Node) (fore : List Node) → OfNode p → AllByRecursion OfNode aft → OfNode q → AllByRecursion OfNode fore → AllByRecursion OfCorners (zipper p aft q fore)
  zipper_holds p [] q fore h all k all' = fore_holds p q fore h k all'
  zipper_holds p (n ∷ aft) q fore h all k all' = advance_holds p n (zipper n aft) h all.0 (λ q fore k all'. zipper_holds n aft q fore all.0 all.1 k all') q fore k all'

  pub chains_hold : (aft fore : List Node) → AllByRecursion OfNode aft → AllByRecursion OfNode fore → AllByRecursion OfCorners (between_chains aft fore)
  chains_hold [] fore h k = tt
  chains_hold (p ∷ aft) [] h k = tt
  chains_hold (p ∷ aft) (q ∷ fore) h k = zipper_holds p aft q fore h.0 h.1 k.0 k.1

  -- ---- stations
  pub strip_holds : (s t : Station) → OfStation s → OfStation t → AllByRecursion OfCorners (strip s t)
  strip_holds s t aft fore =
      all-append OfCorners (flat_map sides (between_stations s t) ++ bottom (chain s) (chain t)) (top (chain s) (chain t))
      (all-append OfCorners (flat_map sides (between_stations s t)) (bottom (chain s) (chain t)) (all_sides (between_stations s t) (chains_hold (chain s) (chain t) aft fore)) (bottom_holds (chain s) (chain t) aft fore))
      (top_holds (chain s) (chain t) aft fore)

  strips_hold : (stations : List Station) → AllByRecursion OfStation stations → AllByRecursion OfCorners (strips stations)
  strips_hold [] all = tt
  strips_hold (s ∷ []) all = tt
  strips_hold (s ∷ t ∷ rest) all = all-append OfCorners (strip s t) (strips (t ∷ rest)) (strip_holds s t all.0 all.1.0) (strips_hold (t ∷ rest) all.1)

  first_holds : (stations : List Station) → AllByRecursion OfStation stations → AllByRecursion OfCorners (first_end stations)
  first_holds [] all = tt
  first_holds (s ∷ rest) all = end_wall_holds true (chain s) all.0

  last_holds : (stations : List Station) → AllByRecursion OfStation stations → AllByRecursion OfCorners (last_end stations)
  last_holds [] all = tt
  last_holds (s ∷ []) all = end_wall_holds false (chain s) all.0
  last_holds (s ∷ t ∷ rest) all = last_holds (t ∷ rest) all.1

  listed_hold : (stations : List Station) → AllByRecursion OfStation stations → AllByRecursion OfCorners (listed stations)
  listed_hold stations all = all-append OfCorners (first_end stations ++ strips stations) (last_end stations)
      (all-append OfCorners (first_end stations) (strips stations) (first_holds stations all) (strips_hold stations all)) (last_holds stations all)

  kept_hold : (ts : List (Triangle Node)) → AllByRecursion OfCorners ts → AllByRecursion (λ (f : Face). AllByRecursion OfNode f.p) (kept ts)
  kept_hold [] all = tt
  kept_hold (t ∷ ts) all = go (has_area t) (kept_hold ts all.1)
    where
      go : (b : Bool) → AllByRecursion (λ (f : Face). AllByRecursion OfNode f.p) (kept ts) → AllByRecursion (λ (f : Face). AllByRecursion OfNode f.p) (map face_of (cond b (t ∷ filter has_area ts) (filter has_area ts)))
      go true rest = (all.0, rest)
      go false rest = rest

-- ---- the nodes of stations
nodes_hold : (P : Node → Type 0) (Q : Point → Type 0) (x : ℤ) (points : List Point) → ((p : Point) → Q p → P (node_at x p)) → AllByRecursion Q points → AllByRecursion P (map (node_at x) points)
nodes_hold P Q x [] of all = tt
nodes_hold P Q x (p ∷ points) of all = (of p all.0, nodes_hold P Q x points of all.1)

-- ---- stations lie from the first to the last
same_place : (n : ℤ) → n ≤ℤ n
same_place n = omega (arith, ints)

further : {l m n : ℤ} → l <ℤ m → m ≤ℤ n → l ≤ℤ n
further h k = omega (arith, ints)

none_before : (x : ℤ) (s : Station) (rest : List Station) → x ≤ℤ s.x → Rises (λ s. s.x) (s ∷ rest) → AllByRecursion (λ (t : Station). x ≤ℤ t.x) (s ∷ rest)
none_before x s [] h rises = (h, tt)
none_before x s (t ∷ rest) h rises = (h, none_before x t rest (over h rises.0) rises.1)
  where
    over : {l m n : ℤ} → l ≤ℤ m → m <ℤ n → l ≤ℤ n
    over h k = omega (arith, ints)

before_last : (s : Station) (rest : List Station) → Rises (λ s. s.x) (s ∷ rest) → s.x ≤ℤ last_x (s ∷ rest)
before_last s [] rises = same_place s.x
before_last s (t ∷ rest) rises = further rises.0 (before_last t rest rises.1)

stations_between : (first : ℤ) (stations : List Station) → AllByRecursion (λ (s : Station). first ≤ℤ s.x) stations → Rises (λ s. s.x) stations → AllByRecursion (λ (s : Station). (first ≤ℤ s.x) × (s.x ≤ℤ last_x stations)) stations
stations_between first [] all rises = tt
stations_between first (s ∷ []) all rises = ((all.0, same_place s.x), tt)
stations_between first (s ∷ t ∷ rest) all rises = ((all.0, before_last s (t ∷ rest) rises), stations_between first (t ∷ rest) all.1 rises.1)

pub hull_between : (stations : List Station) → Rises (λ s. s.x) stations → AllByRecursion (λ (s : Station). (first_x stations ≤ℤ s.x) × (s.x ≤ℤ last_x stations)) stations
hull_between [] rises = tt
hull_between (s ∷ rest) rises = stations_between s.x (s ∷ rest) (none_before s.x s rest (same_place s.x) rises) rises

-- what holds of the x of all stations holds of the nodes of their chains
pub places_hold : (Q : ℤ → Type 0) (all : List Station) → AllByRecursion (λ (s : Station). Q s.x) all → AllByRecursion (λ s. AllByRecursion (λ (n : Node). Q n.x) (chain s)) all
places_hold Q [] h = tt
places_hold Q (s ∷ rest) h = (at s.points, places_hold Q rest h.1)
  where
    at : (points : List Point) → AllByRecursion (λ (n : Node). Q n.x) (map (node_at s.x) points)
    at [] = tt
    at (p ∷ points) = (h.0, at points)

-- ---- the ends are those of stations
first_within : (stations : List Station) → 1 ≤ length stations → AllByRecursion IsStation stations → IsWithin (pos 524287) (first_x stations)
first_within [] some each = absurd (omega arith)
first_within (s ∷ rest) some each = each.0.place

last_within : (stations : List Station) → 1 ≤ length stations → AllByRecursion IsStation stations → IsWithin (pos 524287) (last_x stations)
last_within [] some each = absurd (omega arith)
last_within (s ∷ []) some each = each.0.place
last_within (s ∷ t ∷ rest) some each = last_within (t ∷ rest) (omega arith) each.1

-- ---- as the call that makes the boundary has them
module _ (stations : List Station) (hull : IsHull stations) {first last : ℤ} (e : first ≡ first_x stations) (f : last ≡ last_x stations) where
  pub ends_at : AreEnds first last
  ends_at = subst (λ m. AreEnds m last) (sym e) (subst (AreEnds (first_x stations)) (sym f) (record {
    apart = ends_apart stations hull;
    first_within = first_within stations (omega (arith, hull.some)) hull.each;
    last_within = last_within stations (omega (arith, hull.some)) hull.each;
  }))

  pub between_at : {list : List Face} → list ≡ kept (listed stations) → LieBetween first last list
  between_at e' = subst (LieBetween first last) (sym e') (subst (λ m. LieBetween m last (kept (listed stations))) (sym e) (subst (λ n. LieBetween (first_x stations) n (kept (listed stations))) (sym f) between))
    where
      Q : ℤ → Type 0
      Q x = (first_x stations ≤ℤ x) × (x ≤ℤ last_x stations)

      between : LieBetween (first_x stations) (last_x stations) (kept (listed stations))
      between = kept_hold (λ n. Q n.x) (λ n h. h) (λ n h. h) (listed stations) (listed_hold (λ n. Q n.x) (λ n h. h) (λ n h. h) stations (places_hold Q stations (hull_between stations hull.places_rise)))

-- ---- points of stations
-- what holds of all points within the limits
points_hold : (P : Point → Type 0) → ((p : Point) → IsPoint p → P p) → (stations : List Station) → AllByRecursion IsStation stations → AllPoints P stations
points_hold P holds [] each = tt
points_hold P holds (s ∷ rest) each = (of_points s.points each.0.limits, points_hold P holds rest each.1)
  where
    of_points : (points : List Point) → AllByRecursion IsPoint points → AllByRecursion P points
    of_points [] limits = tt
    of_points (p ∷ points) limits = (holds p limits.0, of_points points limits.1)

-- what holds of the key of all points holds of that of some point
met_holds : (Q : ℤ → Type 0) (key : Point → ℤ) (stations : List Station) (n : ℤ) → AllPoints (λ p. Q (key p)) stations → SomePoint (λ p. key p ≡ n) stations → Q n
met_holds Q key [] n all met = absurd met
met_holds Q key (s ∷ rest) n all (inl here) = of_points s.points all.0 here
  where
    of_points : (points : List Point) → AllByRecursion (λ p. Q (key p)) points → AnyByRecursion (λ p. key p ≡ n) points → Q n
    of_points [] all none = absurd none
    of_points (p ∷ points) all (inl e) = subst Q e all.0
    of_points (p ∷ points) all (inr later) = of_points points all.1 later
met_holds Q key (s ∷ rest) n all (inr later) = met_holds Q key rest n all.1 later

-- ---- within the greatest half-breadth and below the greatest height
module _ (half_breadth height : ℤ) where
  pub foot_inside : (n : Node) → IsInside half_breadth height n → IsInside half_breadth height (foot n)
  foot_inside n h = record { port = low h.port h.starboard; starboard = high h.port h.starboard; base = h.base; top = h.top }
    where
      low : {y : ℤ} → neg_ℤ half_breadth ≤ℤ y → y ≤ℤ half_breadth → neg_ℤ half_breadth ≤ℤ pos 0
      low h k = omega (arith, ints)

      high : {y : ℤ} → neg_ℤ half_breadth ≤ℤ y → y ≤ℤ half_breadth → pos 0 ≤ℤ half_breadth
      high h k = omega (arith, ints)

  pub mirror_inside : (n : Node) → IsInside half_breadth height n → IsInside half_breadth height (mirrored n)
  mirror_inside n h = record { port = low h.starboard; starboard = high h.port; base = h.base; top = h.top }
    where
      low : {y : ℤ} → y ≤ℤ half_breadth → neg_ℤ half_breadth ≤ℤ neg_ℤ y
      low h = omega (arith, ints)

      high : {y : ℤ} → neg_ℤ half_breadth ≤ℤ y → neg_ℤ y ≤ℤ half_breadth
      high h = omega (arith, ints)

  pub stations_inside : (stations : List Station) → AllByRecursion IsStation stations → AllPoints (λ p. p.y ≤ℤ half_breadth) stations → AllPoints (λ p. p.z ≤ℤ height) stations
      → AllByRecursion (λ s. AllByRecursion (IsInside half_breadth height) (chain s)) stations
  stations_inside [] each broad high = tt
  stations_inside (s ∷ rest) each broad high = (points_inside s.points each.0.limits broad.0 high.0, stations_inside rest each.1 broad.1 high.1)
    where
      points_inside : (points : List Point) → AllByRecursion IsPoint points → AllByRecursion (λ p. p.y ≤ℤ half_breadth) points → AllByRecursion (λ p. p.z ≤ℤ height) points → AllByRecursion (IsInside half_breadth height) (map (node_at s.x) points)
      points_inside [] limits broad high = tt
      points_inside (p ∷ points) limits broad high = (record { port = across limits.0.breadth.0 broad.0; starboard = broad.0; base = limits.0.height.0; top = high.0 }, points_inside points limits.1 broad.1 high.1)
        where
          across : {y : ℤ} → pos 0 ≤ℤ y → y ≤ℤ half_breadth → neg_ℤ half_breadth ≤ℤ y
          across h k = omega (arith, ints)

  pub inside_at : (stations : List Station) → IsHull stations → IsGreatest (λ p. p.y) stations half_breadth → IsGreatest (λ p. p.z) stations height → {list : List Face} → list ≡ kept (listed stations) → LieInside half_breadth height list
  inside_at stations hull breadth high e = subst (LieInside half_breadth height) (sym e)
      (kept_hold (IsInside half_breadth height) foot_inside mirror_inside (listed stations)
      (listed_hold (IsInside half_breadth height) foot_inside mirror_inside stations (stations_inside stations hull.each breadth.above high.above)))

  -- some point is off the centreplane
  some_outboard : (stations : List Station) → HasBreadth stations → AllPoints (λ p. p.y ≤ℤ half_breadth) stations → pos 1 ≤ℤ half_breadth
  some_outboard [] none above = absurd none
  some_outboard (s ∷ rest) (inl here) above = of_points s.points here above.0
    where
      of_points : (points : List Point) → AnyByRecursion IsOutboard points → AllByRecursion (λ p. p.y ≤ℤ half_breadth) points → pos 1 ≤ℤ half_breadth
      of_points [] none all = absurd none
      of_points (p ∷ points) (inl h) all = over h all.0
        where
          over : {y : ℤ} → pos 0 <ℤ y → y ≤ℤ half_breadth → pos 1 ≤ℤ half_breadth
          over h k = omega (arith, ints)
      of_points (p ∷ points) (inr h) all = of_points points h all.1
  some_outboard (s ∷ rest) (inr later) above = some_outboard rest later above.1

  pub reach_at : (stations : List Station) → IsHull stations → IsGreatest (λ p. p.y) stations half_breadth → IsGreatest (λ p. p.z) stations height → IsReach half_breadth height
  reach_at stations hull breadth high = record {
    broad = some_outboard stations hull.breadth breadth.above;
    above_base = met_holds (λ m. pos 0 ≤ℤ m) (λ p. p.z) stations height (points_hold (λ p. pos 0 ≤ℤ p.z) (λ p limits. limits.height.0) stations hull.each) high.met;
    breadth_limit = met_holds (λ m. m ≤ℤ pos 65535) (λ p. p.y) stations half_breadth (points_hold (λ p. p.y ≤ℤ pos 65535) (λ p limits. limits.breadth.1) stations hull.each) breadth.met;
    height_limit = met_holds (λ m. m ≤ℤ pos 65535) (λ p. p.z) stations height (points_hold (λ p. p.z ≤ℤ pos 65535) (λ p limits. limits.height.1) stations hull.each) high.met;
  }

-- the least height isn't below the base, and the greatest isn't below the least
pub heights_at : (low high : ℤ) (stations : List Station) → IsHull stations → IsLeast (λ p. p.z) stations low → IsGreatest (λ p. p.z) stations high → AreHeights low high
heights_at low high stations hull least greatest = record {
  base = met_holds (λ m. pos 0 ≤ℤ m) (λ p. p.z) stations low (points_hold (λ p. pos 0 ≤ℤ p.z) (λ p limits. limits.height.0) stations hull.each) least.met;
  ordered = met_holds (λ m. m ≤ℤ high) (λ p. p.z) stations low greatest.above least.met;
}
