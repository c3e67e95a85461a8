-- What the strips between made stations come to, at least.
use Rattle.std.proofs.Common.{◌≡◌, refl, ◌∙◌, ap, ap₂, ℕ, zero, suc, ◌+◌, ◌*◌, true, false, List, [], ◌∷◌, map, ℤ, pos, negsuc, ◌+ℤ◌, ◌-ℤ◌, ◌*ℤ◌, ◌≤ℤ◌, unsigned_abs, arith}
use Rattle.std.specs.Prelude.{int_le}
use Rattle.std.proofs.lemmas.Int.{ints}
use Rattle.hull_model.specs.declared.node.Node.{Node}
use Rattle.hull_model.specs.Boundary.{sum_of}
use Rattle.hull_model.specs.Nodes.{node_at}
use Rattle.hull_model.specs.Tetrahedra.{to_centreplane}
use Rattle.hull_model.specs.TriangleCut.{Triangle, triangle}
use Rattle.hull_model.specs.Zipper.{zipper, between_stations, strip_triangles}
use Rattle.hull_polyhedron.proofs.Sums.{sum-append}
use Rattle.hull_maker.specs.Draws.{next_state, drawn, after}
use Rattle.hull_maker.specs.MadeHull.{least_breadth, point, points_from, station, stations_from}
use Rattle.hull_maker.proofs.Columns.{six, column_six}

-- six times the volume under triangles
abbrev pub columns : List (Triangle Node) → ℤ
columns ts = sum_of (λ t. sum_of six (to_centreplane t)) ts

-- one triangle by the differences of its corners
column_by : (t : Triangle Node) (u v w y : ℤ) (a b c : ℕ) → t.b.x -ℤ t.a.x ≡ u → t.c.z -ℤ t.a.z ≡ v → t.b.z -ℤ t.a.z ≡ w → t.c.x -ℤ t.a.x ≡ y
    → t.a.y ≡ pos a → t.b.y ≡ pos b → t.c.y ≡ pos c → sum_of six (to_centreplane t) ≡ pos (unsigned_abs ((u *ℤ v) -ℤ (w *ℤ y)) * (a + b + c))
column_by t u v w y a b c e f g h i j k =
    column_six t ∙ ap₂ (λ m n. pos (unsigned_abs m * n)) (ap₂ ◌-ℤ◌ (ap₂ ◌*ℤ◌ e f) (ap₂ ◌*ℤ◌ g h)) (ap₂ ◌+◌ (ap₂ ◌+◌ (ap unsigned_abs i) (ap unsigned_abs j)) (ap unsigned_abs k))

-- the zipper where the next nodes are at one height: two triangles, and on
two_triangles : (p a q f : Node) (fore : List Node) → int_le a.z f.z ≡ true → zipper p (a ∷ []) q (f ∷ fore) ≡ triangle p a q ∷ triangle a q f ∷ zipper a [] f fore
two_triangles p a q f fore level = rw level refl

two_triangles_below : (p a q f next : Node) (aft fore : List Node) → int_le a.z f.z ≡ true → int_le next.z f.z ≡ false
    → zipper p (a ∷ next ∷ aft) q (f ∷ fore) ≡ triangle p a q ∷ triangle a q f ∷ zipper a (next ∷ aft) f fore
two_triangles_below p a q f next aft fore level higher = rw (level, higher) refl

-- the nodes of the made station i, and of the next
module _ (i : ℕ) where
  abbrev aft : ℕ → ℕ → Node
  aft j draw = node_at (pos (2500 * i)) (point i j draw)

  abbrev fore : ℕ → ℕ → Node
  fore j draw = node_at (pos (2500 * (i + 1))) (point (i + 1) j draw)

  abbrev aft_from : ℕ → ℕ → ℕ → List Node
  aft_from j count state = map (node_at (pos (2500 * i))) (points_from i j count state)

  abbrev fore_from : ℕ → ℕ → ℕ → List Node
  fore_from j count state = map (node_at (pos (2500 * (i + 1)))) (points_from (i + 1) j count state)

  next_along : pos (2500 * (i + 1)) -ℤ pos (2500 * i) ≡ pos 2500
  next_along = omega (arith, ints)

  aft_column : (j d e h : ℕ) → sum_of six (to_centreplane (triangle (aft j d) (aft (j + 1) e) (fore j h)))
      ≡ pos (1500000 * (least_breadth i j + d + (least_breadth i (j + 1) + e) + (least_breadth (i + 1) j + h)))
  aft_column j d e h = column_by (triangle (aft j d) (aft (j + 1) e) (fore j h)) (pos 0) (pos 0) (pos 600) (pos 2500) _ _ _
      (omega (arith, ints)) (omega (arith, ints)) (omega (arith, ints)) next_along refl refl refl

  fore_column : (j d e h : ℕ) → sum_of six (to_centreplane (triangle (aft (j + 1) d) (fore j e) (fore (j + 1) h)))
      ≡ pos (1500000 * (least_breadth i (j + 1) + d + (least_breadth (i + 1) j + e) + (least_breadth (i + 1) (j + 1) + h)))
  fore_column j d e h = column_by (triangle (aft (j + 1) d) (fore j e) (fore (j + 1) h)) (pos 2500) (pos 0) (negsuc 599) (pos 2500) _ _ _
      next_along (omega (arith, ints)) (omega (arith, ints)) next_along refl refl refl

  -- the half-breadths without their draws
  least_pair : ℕ → ℕ
  least_pair j = least_breadth i j + least_breadth i (j + 1) + least_breadth (i + 1) j + (least_breadth i (j + 1) + least_breadth (i + 1) j + least_breadth (i + 1) (j + 1))

  pub least_strip : ℕ → ℕ → ℕ
  least_strip j zero = 0
  least_strip j (suc n) = least_pair j + least_strip (j + 1) n

  pair_least : (j d e g h : ℕ) (rest : ℤ) (m : ℕ) → pos (1500000 * m) ≤ℤ rest
      → pos (1500000 * (least_pair j + m)) ≤ℤ (sum_of six (to_centreplane (triangle (aft j d) (aft (j + 1) e) (fore j g)))
      +ℤ (sum_of six (to_centreplane (triangle (aft (j + 1) e) (fore j g) (fore (j + 1) h))) +ℤ rest))
  unfolding least_pair
  pair_least j d e g h rest m enough = omega (arith, ints, aft_column j d e g, fore_column j e g h, enough)

  level : (j : ℕ) → int_le (pos (600 * j)) (pos (600 * j)) ≡ true
  level j = grind (arith, ints)

  higher : (j : ℕ) → int_le (pos (600 * (j + 1))) (pos (600 * j)) ≡ false
  higher j = grind (arith, ints)

  strip_least : (count j state other d e : ℕ) → pos (1500000 * least_strip j count)
      ≤ℤ columns (zipper (aft j d) (aft_from (j + 1) count state) (fore j e) (fore_from (j + 1) count other))
  unfolding least_strip
  strip_least zero j state other d e = omega (arith, ints)
  strip_least (suc zero) j state other d e =
      rw (two_triangles (aft j d) (aft (j + 1) (drawn (next_state state))) (fore j e) (fore (j + 1) (drawn (next_state other))) [] (level (j + 1)))
      (pair_least j d _ e _ (pos 0) 0 (omega (arith, ints)))
  strip_least (suc (suc count)) j state other d e =
      let up = drawn (next_state state) in
      let across = drawn (next_state other) in
      let second = drawn (next_state (next_state state)) in
      rw (two_triangles_below (aft j d) (aft (j + 1) up) (fore j e) (fore (j + 1) across) (aft (j + 1 + 1) second)
      (aft_from (j + 1 + 1 + 1) count (next_state (next_state state))) (fore_from (j + 1 + 1) (suc count) (next_state other)) (level (j + 1)) (higher (j + 1)))
      (pair_least j d up e across _ (least_strip (j + 1) (suc count)) (strip_least (suc count) (j + 1) (next_state state) (next_state other) up across))

-- six times the volume of the strips is at least 1500000 times these half-breadths: twice the area of a triangle seen along y, in mm²
pub least_strips : ℕ → ℕ → ℕ
least_strips i zero = 0
least_strips i (suc count) = least_strip i 0 15 + least_strips (i + 1) count

sum_least : (m n : ℕ) (a b c : ℤ) → pos (1500000 * m) ≤ℤ a → pos (1500000 * n) ≤ℤ b → c ≡ a +ℤ b → pos (1500000 * (m + n)) ≤ℤ c
sum_least m n a b c h k e = omega (arith, ints, h, k, e)

pub strips_least : (count i state : ℕ) → pos (1500000 * least_strips i count) ≤ℤ columns (strip_triangles (stations_from i (suc count) state))
unfolding least_strips
strips_least zero i state = omega (arith, ints)
strips_least (suc count) i state =
    sum_least (least_strip i 0 15) (least_strips (i + 1) count) _ _ _
    (strip_least i 15 0 (next_state state) (next_state (after 16 state)) (drawn (next_state state)) (drawn (next_state (after 16 state))))
    (strips_least count (i + 1) (after 16 state))
    (sum-append (λ t. sum_of six (to_centreplane t)) (between_stations (station i state) (station (i + 1) (after 16 state))) (strip_triangles (stations_from (i + 1) (suc count) (after 16 state))))

pub least_of_hull : least_strips 0 40 ≡ 19482000
unfolding least_strips least_strip least_pair least_breadth
least_of_hull = refl
