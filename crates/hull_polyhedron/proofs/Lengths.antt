-- The boundary of a hull has fewer than 16384 faces.
use Rattle.std.proofs.Common.{ℕ, suc, ◌+◌, ◌*◌, ◌^◌, ◌<◌, ◌≤◌, ◌≡◌, refl, ◌∙◌, ap, List, [], ◌∷◌, ◌++◌, map, length, Bool, true, false, arith}
use Rattle.std.proofs.lemmas.List.{length-append}
use Rattle.hull_model.specs.SignedFaces.{turns_back}
use Rattle.std.specs.Prelude.{filter, cond, not, int_le, if◌then◌else◌}
use Rattle.std.specs.List.{flat_map, AllByRecursion}
use Rattle.hull_model.specs.declared.node.Node.{Node}
use Rattle.hull_model.specs.declared.station.Station.{Station}
use Rattle.hull_model.specs.Body.{IsStation, IsHull}
use Rattle.hull_model.specs.Nodes.{node_at}
use Rattle.hull_model.specs.TriangleCut.{Triangle, triangle}
use Rattle.hull_model.specs.Faces.{face_of}
use Rattle.hull_model.specs.Zipper.{fore_triangles, advance, zipper, between_chains, between_stations, chain}
use Rattle.hull_polyhedron.specs.Listed.{has_area, kept, sides, turned_unless, mirrored_triangle, is_on_centreplane, wall, end_wall, bottom, top, highest, strip, strips, first_end, last_end, listed}

pub length_map : {A B : Type 0} (f : A → B) (xs : List A) → length (map f xs) ≡ length xs
length_map f [] = refl
length_map f (x ∷ xs) = ap suc (length_map f xs)

filter_shorter : (ts : List (Triangle Node)) → length (filter has_area ts) ≤ length ts
filter_shorter [] = omega arith
filter_shorter (t ∷ ts) = go (has_area t) (filter_shorter ts)
  where
    go : (b : Bool) → length (filter has_area ts) ≤ length ts → length (cond b (t ∷ filter has_area ts) (filter has_area ts)) ≤ suc (length ts)
    go true h = omega arith
    go false h = omega arith

pub kept_shorter : (ts : List (Triangle Node)) → length (kept ts) ≤ length ts
kept_shorter ts = omega (arith, length_map face_of (filter has_area ts), filter_shorter ts)

-- ---- a strip
fore_length : (p q : Node) (fore : List Node) → length (fore_triangles p q fore) ≡ length fore
fore_length p q [] = refl
fore_length p q (n ∷ fore) = ap suc (fore_length p n fore)

advance_length : (p n : Node) (after : Node → List Node → List (Triangle Node)) (m : ℕ) → ((q : Node) (fore : List Node) → length (after q fore) ≡ m + length fore)
    → (q : Node) (fore : List Node) → length (advance p n after q fore) ≡ suc m + length fore
advance_length p n after m over q [] = one_more (over q [])
  where
    one_more : {k : ℕ} → k ≡ m + 0 → suc k ≡ suc m + 0
    one_more e = omega arith
advance_length p n after m over q (r ∷ fore) = choose (int_le n.z r.z) (triangle p n q) (triangle p q r) (after q (r ∷ fore)) (advance p n after r fore) (over q (r ∷ fore)) (advance_length p n after m over r fore)
  where
    choose : (b : Bool) (t u : Triangle Node) (xs ys : List (Triangle Node)) → length xs ≡ m + suc (length fore) → length ys ≡ suc m + length fore
        → length (if b then t ∷ xs else u ∷ ys) ≡ suc m + suc (length fore)
    choose true t u xs ys e f = omega arith
    choose false t u xs ys e f = omega arith

zipper_length : (p : Node) (aft : List Node) (q : Node) (fore : List Node) → length (zipper p aft q fore) ≡ length aft + length fore
zipper_length p [] q fore = fore_length p q fore ∙ sym_zero (length fore)
  where
    sym_zero : (n : ℕ) → n ≡ 0 + n
    sym_zero n = omega arith
zipper_length p (n ∷ aft) q fore = advance_length p n (zipper n aft) (length aft) (zipper_length n aft) q fore

pub chains_length : (aft fore : List Node) → length (between_chains aft fore) ≤ length aft + length fore
chains_length [] fore = omega arith
chains_length (p ∷ aft) [] = omega arith
chains_length (p ∷ aft) (q ∷ fore) = omega (arith, zipper_length p aft q fore)

sides_length : (ts : List (Triangle Node)) → length (flat_map sides ts) ≤ 2 * length ts
sides_length [] = omega arith
sides_length (t ∷ ts) = omega (arith, length-append (sides t) (flat_map sides ts), two (is_on_centreplane t) (turned_unless (turns_back t) t) (turned_unless (not (turns_back t)) (mirrored_triangle t)), sides_length ts)
  where
    two : (b : Bool) (u v : Triangle Node) → length (if b then [] else u ∷ v ∷ []) ≤ 2
    two true u v = omega arith
    two false u v = omega arith

wall_length : (b : Bool) (p q : Node) → length (wall b p q) ≡ 4
unfolding wall
wall_length b p q = refl

bottom_length : (aft fore : List Node) → length (bottom aft fore) ≤ 4
bottom_length [] fore = omega arith
bottom_length (p ∷ aft) [] = omega arith
bottom_length (p ∷ aft) (q ∷ fore) = omega (arith, wall_length false p q)

top_length : (aft fore : List Node) → length (top aft fore) ≤ 4
top_length [] fore = omega arith
top_length (p ∷ aft) [] = omega arith
top_length (p ∷ aft) (q ∷ fore) = omega (arith, wall_length true (highest p aft) (highest q fore))

end_length : (b : Bool) (nodes : List Node) → length (end_wall b nodes) ≤ 4 * length nodes
end_length b [] = omega arith
end_length b (p ∷ []) = omega arith
end_length b (p ∷ q ∷ rest) = omega (arith, length-append (wall b p q) (end_wall b (q ∷ rest)), wall_length b p q, end_length b (q ∷ rest))

strip_length : (s t : Station) → IsStation s → IsStation t → length (strip s t) ≤ 136
strip_length s t aft fore = omega (
  arith,
  length-append (flat_map sides (between_stations s t) ++ bottom (chain s) (chain t)) (top (chain s) (chain t)),
  length-append (flat_map sides (between_stations s t)) (bottom (chain s) (chain t)),
  sides_length (between_stations s t),
  chains_length (chain s) (chain t),
  length_map (node_at s.x) s.points,
  length_map (node_at t.x) t.points,
  aft.few,
  fore.few,
  bottom_length (chain s) (chain t),
  top_length (chain s) (chain t),
)

strips_length : (stations : List Station) → AllByRecursion IsStation stations → length (strips stations) ≤ 136 * length stations
strips_length [] each = omega arith
strips_length (s ∷ []) each = omega arith
strips_length (s ∷ t ∷ rest) each = omega (arith, length-append (strip s t) (strips (t ∷ rest)), strip_length s t each.0 each.1.0, strips_length (t ∷ rest) each.1)

first_length : (stations : List Station) → AllByRecursion IsStation stations → length (first_end stations) ≤ 128
first_length [] each = omega arith
first_length (s ∷ rest) each = omega (arith, end_length true (chain s), length_map (node_at s.x) s.points, each.0.few)

last_length : (stations : List Station) → AllByRecursion IsStation stations → length (last_end stations) ≤ 128
last_length [] each = omega arith
last_length (s ∷ []) each = omega (arith, end_length false (chain s), length_map (node_at s.x) s.points, each.0.few)
last_length (s ∷ t ∷ rest) each = last_length (t ∷ rest) each.1

pub few_faces : (stations : List Station) → IsHull stations → length (kept (listed stations)) < 2 ^ 14
few_faces stations hull = omega (
  arith,
  kept_shorter (listed stations),
  length-append (first_end stations ++ strips stations) (last_end stations),
  length-append (first_end stations) (strips stations),
  first_length stations hull.each,
  strips_length stations hull.each,
  last_length stations hull.each,
  hull.few,
)
