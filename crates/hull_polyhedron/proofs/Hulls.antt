-- The sum of an alternating function over the signed faces of a hull's tetrahedra is that over the triangles that the boundary is listed from.
use Rattle.std.proofs.Common.{◌≤◌, ◌≡◌, refl, sym, ◌∙◌, ap, ap₂, List, [], ◌∷◌, ◌++◌, map, length, Bool, true, false, ℤ, pos, ◌+ℤ◌, ◌-ℤ◌, ◌<ℤ◌, arith}
use Rattle.std.specs.List.{flat_map, AllByRecursion}
use Rattle.exact_algebra.specs.Expression.{var, number, ◌:+◌, ◌:-◌, opposite}
use Rattle.exact_algebra.specs.Ring.{whole_numbers}
use Rattle.exact_algebra.proofs.Ring.{ring}
use Rattle.exact_algebra.proofs.WholeNumbers.{integers}
use Rattle.hull_model.specs.declared.node.Node.{Node}
use Rattle.hull_model.specs.declared.point.Point.{Point}
use Rattle.hull_model.specs.declared.station.Station.{Station}
use Rattle.hull_model.specs.Lists.{Rises}
use Rattle.hull_model.specs.Body.{IsStation}
use Rattle.hull_model.specs.Nodes.{node_at}
use Rattle.hull_model.specs.TriangleCut.{Triangle}
use Rattle.hull_model.specs.Zipper.{chain, between_stations, between_chains, strip_triangles}
use Rattle.hull_model.specs.SignedFaces.{Signed, outward_faces, signed_solids, mirror_image, signed_faces}
use Rattle.hull_model.specs.Boundary.{sum_of, IsAlternating}
use Rattle.hull_polyhedron.specs.Listed.{sides, end_wall, bottom, top, highest, strip, strips, first_end, last_end, listed}
use Rattle.hull_polyhedron.proofs.Sums.{sum-append, sum-flat_map, sum-map, sum-add, sum-same}
use Rattle.hull_polyhedron.proofs.Solids as Solids
use Rattle.hull_polyhedron.proofs.Solids.{with_sign}
use Rattle.hull_polyhedron.proofs.Telescope as Telescope
use Rattle.hull_polyhedron.proofs.Telescope.{Climbs}

-- the nodes of points that rise climb
pub climbs : (x : ℤ) (p : Point) (points : List Point) → Rises (λ p. p.z) (p ∷ points) → Climbs (node_at x p) (map (node_at x) points)
climbs x p [] rises = tt
climbs x p (q ∷ points) rises = (refl, rises.0, climbs x q points rises.1)

module _ (g : Triangle Node → ℤ) (alternating : IsAlternating whole_numbers g) where
  abbrev V : Node → Node → ℤ
  V = Solids.wall_across g alternating

  -- ---- the sum over the signed faces, triangle by triangle
  of_solid : Signed → ℤ
  of_solid s = sum_of g (outward_faces s)

  of_triangle : Triangle Node → ℤ
  of_triangle t = sum_of g (sides t) +ℤ Telescope.counted V t

  by_solids : (t : Triangle Node) → sum_of of_solid (signed_solids t) +ℤ sum_of (λ s. of_solid (mirror_image s)) (signed_solids t) ≡ of_triangle t
  unfolding of_solid of_triangle
  by_solids t = ap₂ ◌+ℤ◌ (sym (sum-flat_map g outward_faces (signed_solids t)))
      (sym (sum-map (λ s. sum_of g (outward_faces s)) mirror_image (signed_solids t)) ∙ sym (sum-flat_map g outward_faces (map mirror_image (signed_solids t))))
      ∙ Solids.solids_and_mirror_images g alternating t

  by_triangles : (stations : List Station) → sum_of g (signed_faces stations) ≡ sum_of of_triangle (strip_triangles stations)
  unfolding of_solid
  by_triangles stations =
      let triangles : List (Triangle Node) = strip_triangles stations in
      let half : List Signed = flat_map signed_solids triangles in
      sum-flat_map g outward_faces (half ++ map mirror_image half)
      ∙ sum-append of_solid half (map mirror_image half)
      ∙ ap (λ n. sum_of of_solid half +ℤ n) (sum-map of_solid mirror_image half)
      ∙ ap₂ ◌+ℤ◌ (sum-flat_map of_solid signed_solids triangles) (sum-flat_map (λ s. of_solid (mirror_image s)) signed_solids triangles)
      ∙ sum-add (λ t. sum_of of_solid (signed_solids t)) (λ t. sum_of (λ s. of_solid (mirror_image s)) (signed_solids t)) triangles
      ∙ sum-same _ of_triangle by_solids triangles

  -- ---- chains
  chain_along : List Node → ℤ
  chain_along [] = pos 0
  chain_along (p ∷ rest) = Telescope.along V p rest

  end_sum : (outwards : Bool) (nodes : List Node) → sum_of g (end_wall outwards nodes) ≡ with_sign outwards (chain_along nodes)
  unfolding chain_along
  end_sum true [] = refl
  end_sum false [] = refl
  end_sum true (p ∷ []) = refl
  end_sum false (p ∷ []) = refl
  end_sum true (p ∷ q ∷ rest) = sum-append g _ (end_wall true (q ∷ rest)) ∙ ap₂ ◌+ℤ◌ (Solids.wall_sum g alternating true p q) (end_sum true (q ∷ rest))
  end_sum false (p ∷ q ∷ rest) = sum-append g _ (end_wall false (q ∷ rest)) ∙ ap₂ ◌+ℤ◌ (Solids.wall_sum g alternating false p q) (end_sum false (q ∷ rest))
      ∙ ring integers (V p q ∷ Telescope.along V q rest ∷ []) (opposite (var 0) :+ opposite (var 1)) (opposite (var 0 :+ var 1)) refl

  -- ---- a strip
  walls_of_strip : (x y : ℤ) (os ps : List Point) → 1 ≤ length os → 1 ≤ length ps → Rises (λ p. p.z) os → Rises (λ p. p.z) ps → x <ℤ y
      → let aft = map (node_at x) os in let fore = map (node_at y) ps in
      sum_of (Telescope.counted V) (between_chains aft fore) ≡ ((sum_of g (bottom aft fore) +ℤ sum_of g (top aft fore)) +ℤ chain_along aft) -ℤ chain_along fore
  unfolding chain_along
  walls_of_strip x y [] ps some some' rises rises' less = absurd (omega arith)
  walls_of_strip x y (o ∷ os) [] some some' rises rises' less = absurd (omega arith)
  walls_of_strip x y (o ∷ os) (p ∷ ps) some some' rises rises' less =
      let aft : List Node = map (node_at x) os in
      let fore : List Node = map (node_at y) ps in
      Telescope.over_zipper V (node_at x o) aft (node_at y p) fore less (climbs x o os rises) (climbs y p ps rises')
      ∙ ring integers (V (highest (node_at x o) aft) (highest (node_at y p) fore) ∷ V (node_at x o) (node_at y p) ∷ Telescope.along V (node_at x o) aft ∷ Telescope.along V (node_at y p) fore ∷ [])
      (((var 0 :- var 1) :+ var 2) :- var 3) (((opposite (var 1) :+ var 0) :+ var 2) :- var 3) refl
      ∙ sym (ap₂ (λ m n. ((m +ℤ n) +ℤ Telescope.along V (node_at x o) aft) -ℤ Telescope.along V (node_at y p) fore)
      (Solids.wall_sum g alternating false (node_at x o) (node_at y p)) (Solids.wall_sum g alternating true (highest (node_at x o) aft) (highest (node_at y p) fore)))

  strip_sum : (s t : Station) → IsStation s → IsStation t → s.x <ℤ t.x
      → sum_of of_triangle (between_stations s t) ≡ (sum_of g (strip s t) +ℤ chain_along (chain s)) -ℤ chain_along (chain t)
  unfolding of_triangle
  strip_sum s t aft fore less =
      let triangles : List (Triangle Node) = between_stations s t in
      let low : List (Triangle Node) = bottom (chain s) (chain t) in
      let high : List (Triangle Node) = top (chain s) (chain t) in
      sym (sum-add (λ t. sum_of g (sides t)) (Telescope.counted V) triangles)
      ∙ ap₂ ◌+ℤ◌ (sym (sum-flat_map g sides triangles)) (walls_of_strip s.x t.x s.points t.points aft.some fore.some aft.heights_rise fore.heights_rise less)
      ∙ ring integers (sum_of g (flat_map sides triangles) ∷ sum_of g low ∷ sum_of g high ∷ chain_along (chain s) ∷ chain_along (chain t) ∷ [])
      (var 0 :+ (((var 1 :+ var 2) :+ var 3) :- var 4)) ((((var 0 :+ var 1) :+ var 2) :+ var 3) :- var 4) refl
      ∙ sym (ap (λ n. (n +ℤ chain_along (chain s)) -ℤ chain_along (chain t)) (sum-append g (flat_map sides triangles ++ low) high ∙ ap (λ n. n +ℤ sum_of g high) (sum-append g (flat_map sides triangles) low)))

  -- ---- all strips
  all_strips : (stations : List Station) → AllByRecursion IsStation stations → Rises (λ s. s.x) stations
      → sum_of of_triangle (strip_triangles stations) ≡ sum_of g (first_end stations) +ℤ (sum_of g (strips stations) +ℤ sum_of g (last_end stations))
  all_strips [] each rises = refl
  all_strips (s ∷ []) each rises = ring integers (chain_along (chain s) ∷ []) (number 0) (var 0 :+ (number 0 :+ opposite (var 0))) refl
      ∙ sym (ap₂ (λ m n. m +ℤ (pos 0 +ℤ n)) (end_sum true (chain s)) (end_sum false (chain s)))
  all_strips (s ∷ t ∷ rest) each rises =
      sum-append of_triangle (between_stations s t) (strip_triangles (t ∷ rest))
      ∙ ap₂ ◌+ℤ◌ (strip_sum s t each.0 each.1.0 rises.0) (all_strips (t ∷ rest) each.1 rises.1 ∙ ap (λ n. n +ℤ (sum_of g (strips (t ∷ rest)) +ℤ sum_of g (last_end (t ∷ rest)))) (end_sum true (chain t)))
      ∙ ring integers (sum_of g (strip s t) ∷ chain_along (chain s) ∷ chain_along (chain t) ∷ sum_of g (strips (t ∷ rest)) ∷ sum_of g (last_end (t ∷ rest)) ∷ [])
      (((var 0 :+ var 1) :- var 2) :+ (var 2 :+ (var 3 :+ var 4))) (var 1 :+ ((var 0 :+ var 3) :+ var 4)) refl
      ∙ sym (ap₂ (λ m n. m +ℤ (n +ℤ sum_of g (last_end (t ∷ rest)))) (end_sum true (chain s)) (sum-append g (strip s t) (strips (t ∷ rest))))

  -- the signed faces and the listed triangles
  pub signed_sum : (stations : List Station) → AllByRecursion IsStation stations → Rises (λ s. s.x) stations → sum_of g (signed_faces stations) ≡ sum_of g (listed stations)
  signed_sum stations each rises = by_triangles stations ∙ all_strips stations each rises
      ∙ ring integers (sum_of g (first_end stations) ∷ sum_of g (strips stations) ∷ sum_of g (last_end stations) ∷ []) (var 0 :+ (var 1 :+ var 2)) ((var 0 :+ var 1) :+ var 2) refl
      ∙ sym (sum-append g (first_end stations ++ strips stations) (last_end stations) ∙ ap (λ n. n +ℤ sum_of g (last_end stations)) (sum-append g (first_end stations) (strips stations)))
