-- How large the running totals of stations within their limits are, and what each strip adds to them.
use Rattle.std.proofs.Common.{ℕ, zero, suc, ◌+◌, ◌*◌, ◌≤◌, ◌<◌, ◌≡◌, refl, sym, List, [], ◌∷◌, length, get_or, map, ap, ℤ, pos, neg_ℤ, ◌≤ℤ◌, arith}
use mathlib.Core.Path.{subst}
use Rattle.std.proofs.lemmas.Int.{ints}
use Rattle.std.specs.List.{AllByRecursion}
use Rattle.hull_model.specs.declared.node.Node.{Node}
use Rattle.hull_model.specs.declared.point.Point.{Point}
use Rattle.hull_model.specs.declared.station.Station.{Station}
use Rattle.hull_model.specs.Body.{IsWithin, IsPoint, IsStation}
use Rattle.hull_model.specs.Faces.{corner_list}
use Rattle.hull_model.specs.Nodes.{IsNode, node_at, foot, mirrored}
use Rattle.hull_model.specs.Tetrahedra.{six_times, hull_tetrahedra}
use Rattle.hull_model.specs.TetrahedronCut.{tetrahedron}
use Rattle.hull_model.specs.TriangleCut.{Triangle}
use Rattle.hull_model.specs.Zipper.{chain, between_stations}
use Rattle.hull_polyhedron.specs.declared.totals.Totals.{Totals}
use Rattle.hull_polyhedron.specs.Strips.{strips_of}
use Rattle.hull_polyhedron.specs.Totals.{corner_sum, totals_of}
use Rattle.hull_polyhedron.specs.TotalsModel as model
use Rattle.hull_polyhedron.specs.TotalsModel.{plus, running_from, both_sides, triangle_totals, AreAtMost, GrowByStrips}
use Rattle.hull_polyhedron.proofs.Between.{chains_hold}
use Rattle.hull_polyhedron.proofs.RunningTotals.{three_pairs, pair_totals, triangles-append, strip_totals, strip_at_step, few_triangles, at_most-plus, at_most-more, at_most-doubled, six_small, places_small, heights_small}

-- ---- nodes within the limits
foot_node : (n : Node) → IsNode n → IsNode (foot n)
foot_node n h = record { place = h.place; port = omega (arith, ints); starboard = omega (arith, ints); height = h.height }

mirror_node : (n : Node) → IsNode n → IsNode (mirrored n)
mirror_node n h = record { place = h.place; port = turned n.y h.starboard; starboard = turned_back n.y h.port; height = h.height }
  where
    turned : (y : ℤ) → y ≤ℤ pos 65535 → neg_ℤ (pos 65535) ≤ℤ neg_ℤ y
    turned y h = omega (arith, ints)

    turned_back : (y : ℤ) → neg_ℤ (pos 65535) ≤ℤ y → neg_ℤ y ≤ℤ pos 65535
    turned_back y h = omega (arith, ints)

chain_nodes : (s : Station) → IsStation s → AllByRecursion IsNode (chain s)
chain_nodes s h = go s.x s.points h.place h.limits
  where
    low : (y : ℤ) → pos 0 ≤ℤ y → neg_ℤ (pos 65535) ≤ℤ y
    low y h = omega (arith, ints)

    go : (x : ℤ) (points : List Point) → IsWithin (pos 524287) x → AllByRecursion IsPoint points → AllByRecursion IsNode (map (node_at x) points)
    go x [] place all = tt
    go x (p ∷ points) place all = (record { place = place; port = low p.y all.0.breadth.0; starboard = all.0.breadth.1; height = all.0.height }, go x points place all.1)

-- ---- a triangle's tetrahedra, and a strip's
pair_small : (a b c d : Node) → IsNode a → IsNode b → IsNode c → IsNode d → AreAtMost 1 (totals_of (both_sides (tetrahedron a b c d ∷ [])))
pair_small a b c d h i j k = subst (AreAtMost 1) (sym (pair_totals (tetrahedron a b c d)))
    (at_most-doubled (pos (six_times (tetrahedron a b c d))) (corner_sum (λ n. n.x) (tetrahedron a b c d)) (corner_sum (λ n. n.z) (tetrahedron a b c d)) (six_small a b c d h i j k) (places_small a b c d h i j k) (heights_small a b c d h i j k))

triangle_small : (t : Triangle Node) → AllByRecursion IsNode (corner_list t) → AreAtMost 3 (triangle_totals (t ∷ []))
triangle_small t h = subst (AreAtMost 3) (sym (three_pairs (tetrahedron (foot t.a) (foot t.b) (foot t.c) t.c) (tetrahedron (foot t.a) (foot t.b) t.b t.c) (tetrahedron (foot t.a) t.a t.b t.c)))
    (at_most-plus 2 1 _ _ (at_most-plus 1 1 _ _
    (pair_small (foot t.a) (foot t.b) (foot t.c) t.c (foot_node t.a h.0) (foot_node t.b h.1.0) (foot_node t.c h.1.1.0) h.1.1.0)
    (pair_small (foot t.a) (foot t.b) t.b t.c (foot_node t.a h.0) (foot_node t.b h.1.0) h.1.0 h.1.1.0))
    (pair_small (foot t.a) t.a t.b t.c (foot_node t.a h.0) h.0 h.1.0 h.1.1.0))

triangles_small : (ts : List (Triangle Node)) → AllByRecursion (λ t. AllByRecursion IsNode (corner_list t)) ts → AreAtMost (3 * length ts) (triangle_totals ts)
triangles_small [] all = record { six = omega arith; mx24 = omega arith; mz24 = omega arith }
triangles_small (t ∷ ts) all = subst (AreAtMost (3 * suc (length ts))) (sym (triangles-append (t ∷ []) ts))
    (subst (λ (n : ℕ). AreAtMost n (plus (triangle_totals (t ∷ [])) (triangle_totals ts))) (more (length ts)) (at_most-plus 3 (3 * length ts) _ _ (triangle_small t all.0) (triangles_small ts all.1)))
  where
    more : (n : ℕ) → 3 + 3 * n ≡ 3 * suc n
    more n = omega arith

strips_small : (stations : List Station) → AllByRecursion IsStation stations → AllByRecursion (λ strip. AreAtMost 192 (totals_of (hull_tetrahedra strip))) (strips_of stations)
strips_small [] each = tt
strips_small (s ∷ []) each = tt
strips_small (s ∷ t ∷ rest) each = (
  subst (AreAtMost 192) (strip_totals s t) (at_most-more (3 * length (between_stations s t)) 192 (triangle_totals (between_stations s t)) (few (few_triangles s t each.0 each.1.0))
      (triangles_small (between_stations s t) (chains_hold IsNode foot_node mirror_node (chain s) (chain t) (chain_nodes s each.0) (chain_nodes t each.1.0)))),
  strips_small (t ∷ rest) each.1,
)
  where
    few : {n : ℕ} → n ≤ 64 → 3 * n ≤ 192
    few h = omega arith

-- ---- running totals
fewer_strips : (stations : List Station) → length (strips_of stations) ≤ length stations
fewer_strips [] = omega arith
fewer_strips (s ∷ []) = omega arith
fewer_strips (s ∷ t ∷ rest) = omega (arith, fewer_strips (t ∷ rest))

pub strips_short : (stations : List Station) → 1 ≤ length stations → length (strips_of stations) + 1 ≡ length stations
strips_short [] some = absurd (omega arith)
strips_short (s ∷ []) some = refl
strips_short (s ∷ t ∷ rest) some = omega (arith, strips_short (t ∷ rest) (omega arith))

running_small : (m : ℕ) (sum : Totals) (strips : List (List Station)) → AreAtMost m sum → AllByRecursion (λ strip. AreAtMost 192 (totals_of (hull_tetrahedra strip))) strips → m + 192 * length strips ≤ 12288
    → AllByRecursion (AreAtMost 12288) (running_from sum strips)
running_small m sum [] h all most = tt
running_small m sum (strip ∷ rest) h all most = (
  at_most-more (m + 192) 12288 _ (omega arith) (at_most-plus m 192 _ _ h all.0),
  running_small (m + 192) (plus sum (totals_of (hull_tetrahedra strip))) rest (at_most-plus m 192 _ _ h all.0) all.1 (omega arith),
)

pub running_length : (sum : Totals) (strips : List (List Station)) → length (running_from sum strips) ≡ length strips
running_length sum [] = refl
running_length sum (strip ∷ rest) = ap suc (running_length (plus sum (totals_of (hull_tetrahedra strip))) rest)

pub sizes_of : (stations : List Station) → AllByRecursion IsStation stations → length stations ≤ 64 → AllByRecursion (AreAtMost 12288) (model.none ∷ running_from model.none (strips_of stations))
sizes_of stations each few = (
  record { six = omega arith; mx24 = omega arith; mz24 = omega arith },
  running_small 0 model.none (strips_of stations) (record { six = omega arith; mx24 = omega arith; mz24 = omega arith }) (strips_small stations each) (omega (arith, fewer_strips stations, few)),
)

pub steps_of : (stations : List Station) → AllByRecursion IsStation stations → GrowByStrips (model.none ∷ running_from model.none (strips_of stations))
steps_of stations each n less = subst (AreAtMost 192) (sym (strip_at_step model.none (strips_of stations) n within)) (at_place (strips_of stations) n (strips_small stations each) within)
  where
    within : n < length (strips_of stations)
    within = omega (arith, running_length model.none (strips_of stations), less)

    at_place : (strips : List (List Station)) (n : ℕ) → AllByRecursion (λ strip. AreAtMost 192 (totals_of (hull_tetrahedra strip))) strips → n < length strips → AreAtMost 192 (totals_of (hull_tetrahedra (get_or strips n [])))
    at_place [] n all less = absurd (omega arith)
    at_place (strip ∷ rest) zero all less = all.0
    at_place (strip ∷ rest) (suc n) all less = at_place rest n all.1 (omega arith)
