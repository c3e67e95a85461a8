-- A strip's moment of height is bounded by what is seen of its faces from the side: each of a triangle's tetrahedra has a half-breadth of
-- the triangle as its height over what is seen of the triangle.
use Rattle.std.proofs.Common.{ℕ, zero, suc, ◌+◌, ◌*◌, ◌≤◌, ◌<◌, ◌≡◌, refl, sym, ◌∙◌, ap, ap₂, List, [], ◌∷◌, ◌++◌, map, length, get_or, Bool, true, false, ℤ, pos, neg_ℤ, ◌+ℤ◌, ◌*ℤ◌, ◌≤ℤ◌, unsigned_abs, arith}
use mathlib.Core.Path.{subst}
use Rattle.std.proofs.lemmas.Int.{ints, unsigned_abs-mul}
use Rattle.std.proofs.Math.Nat.{mul-le-mul}
use Rattle.std.specs.Ordering.{int_eq}
use Rattle.std.specs.Prelude.{cond, filter, not, ◌&&◌, ◌||◌, if◌then◌else◌}
use Rattle.std.specs.List.{flat_map, AllByRecursion}
use Rattle.exact_algebra.specs.Expression.{var, ◌:-◌, ◌:*◌, opposite}
use Rattle.exact_algebra.proofs.Ring.{ring}
use Rattle.exact_algebra.proofs.WholeNumbers.{integers}
use Rattle.hull_model.specs.declared.node.Node.{Node}
use Rattle.hull_model.specs.declared.station.Station.{Station}
use Rattle.hull_model.specs.Faces.{corner_list, doubled_area, face_of}
use Rattle.hull_model.specs.Nodes.{foot}
use Rattle.hull_model.specs.SignedFaces.{turned, turn, turns_back}
use Rattle.hull_model.specs.Tetrahedra.{six_times, turned_six, hull_tetrahedra}
use Rattle.hull_model.specs.TetrahedronCut.{Tetrahedron, tetrahedron}
use Rattle.hull_model.specs.TriangleCut.{Triangle}
use Rattle.hull_model.specs.Zipper.{chain, between_stations}
use Rattle.hull_polyhedron.specs.declared.totals.Totals.{Totals}
use Rattle.hull_polyhedron.specs.Between.{IsInside}
use Rattle.hull_polyhedron.specs.Listed.{has_area, kept, turned_unless, mirrored_triangle, is_on_centreplane, sides, bottom, top, strip}
use Rattle.hull_polyhedron.specs.SideAreas.{seen_from_side}
use Rattle.hull_polyhedron.specs.StripLists.{face_lists}
use Rattle.hull_polyhedron.specs.Strips.{strips_of}
use Rattle.hull_polyhedron.specs.Totals.{corner_sum, totals_of}
use Rattle.hull_polyhedron.specs.TotalsModel as model
use Rattle.hull_polyhedron.specs.TotalsModel.{totals_at, minus, running_from, both_sides, triangle_totals}
use Rattle.hull_polyhedron.proofs.Between.{chains_hold, foot_inside, mirror_inside}
use Rattle.hull_polyhedron.proofs.RunningTotals.{three_pairs, pair_totals, triangles-append, strip_totals, strip_at_step}
use Rattle.hull_polyhedron.proofs.SixVolume.{first_six, second_six, third_six}

-- ---- what is seen of triangles
abbrev seen_y : Triangle Node → ℕ
seen_y t = unsigned_abs (doubled_area t).y

abbrev seen : List (Triangle Node) → ℕ
seen [] = 0
seen (t ∷ ts) = seen_y t + seen ts

seen-append : (ts us : List (Triangle Node)) → seen (ts ++ us) ≡ seen ts + seen us
seen-append [] us = omega arith
seen-append (t ∷ ts) us = added (seen_y t) (seen ts) (seen us) (seen (ts ++ us)) (seen-append ts us)
  where
    added : (a b c d : ℕ) → d ≡ b + c → a + d ≡ (a + b) + c
    added a b c d e = omega arith

-- of those without area nothing is
seen-kept : (ts : List (Triangle Node)) → seen_from_side (kept ts) ≡ seen ts
seen-kept [] = refl
seen-kept (t ∷ ts) = go (seen-kept ts) (has_area t) refl
  where
    flat : (p q r : ℤ) → (not (int_eq p (pos 0)) || not (int_eq q (pos 0)) || not (int_eq r (pos 0))) ≡ false → unsigned_abs q ≡ 0
    flat p q r e = grind arith

    none_seen : (a b c : ℕ) → a ≡ 0 → b ≡ c → b ≡ a + c
    none_seen a b c e f = omega arith

    go : seen_from_side (kept ts) ≡ seen ts → (b : Bool) → has_area t ≡ b → seen_from_side (map face_of (cond b (t ∷ filter has_area ts) (filter has_area ts))) ≡ seen_y t + seen ts
    go rest true e = ap (λ n. seen_y t + n) rest
    go rest false e = none_seen (seen_y t) (seen_from_side (kept ts)) (seen ts) (flat (doubled_area t).x (doubled_area t).y (doubled_area t).z e) rest

-- as much is seen of a triangle the other way round
opposite_seen : (m n : ℤ) → m ≡ neg_ℤ n → unsigned_abs m ≡ unsigned_abs n
opposite_seen m n e = omega (arith, ints)

seen_turned : (b : Bool) (t : Triangle Node) → seen_y (turned_unless b t) ≡ seen_y t
seen_turned true t = refl
seen_turned false t = opposite_seen (doubled_area (turned t)).y (doubled_area t).y (ring integers (t.a.x ∷ t.a.z ∷ t.b.x ∷ t.b.z ∷ t.c.x ∷ t.c.z ∷ [])
    ((var 1 :- var 3) :* (var 4 :- var 2) :- (var 0 :- var 2) :* (var 5 :- var 3))
    (opposite ((var 3 :- var 1) :* (var 4 :- var 0) :- (var 2 :- var 0) :* (var 5 :- var 1))) refl)

seen_turn : (t : Triangle Node) → unsigned_abs (turn t) ≡ seen_y t
seen_turn t = opposite_seen (turn t) (doubled_area t).y (ring integers (t.a.x ∷ t.a.z ∷ t.b.x ∷ t.b.z ∷ t.c.x ∷ t.c.z ∷ [])
    ((var 2 :- var 0) :* (var 5 :- var 1) :- (var 3 :- var 1) :* (var 4 :- var 0))
    (opposite ((var 3 :- var 1) :* (var 4 :- var 0) :- (var 2 :- var 0) :* (var 5 :- var 1))) refl)

-- ---- the tetrahedra of a triangle whose corners lie within a half-breadth and a height
module _ (half_breadth height : ℤ) where
  abbrev B : ℕ
  B = unsigned_abs half_breadth

  abbrev H : ℕ
  H = unsigned_abs height

  abbrev Inside : Node → Type 0
  Inside = IsInside half_breadth height

  small_y : (n : Node) → Inside n → unsigned_abs n.y ≤ B
  small_y n h = go half_breadth n.y h.port h.starboard
    where
      go : (b y : ℤ) → neg_ℤ b ≤ℤ y → y ≤ℤ b → unsigned_abs y ≤ unsigned_abs b
      go b y h k = omega (arith, ints)

  small_z : (n : Node) → Inside n → unsigned_abs n.z ≤ H
  small_z n h = go height n.z h.base h.top
    where
      go : (t z : ℤ) → pos 0 ≤ℤ z → z ≤ℤ t → unsigned_abs z ≤ unsigned_abs t
      go t z h k = omega (arith, ints)

  heights : (a b c d : Node) → unsigned_abs a.z ≤ H → unsigned_abs b.z ≤ H → unsigned_abs c.z ≤ H → unsigned_abs d.z ≤ H → unsigned_abs (corner_sum (λ n. n.z) (tetrahedron a b c d)) ≤ 4 * H
  heights a b c d h i j k = go a.z b.z c.z d.z H h i j k
    where
      go : (k l m n : ℤ) (t : ℕ) → unsigned_abs k ≤ t → unsigned_abs l ≤ t → unsigned_abs m ≤ t → unsigned_abs n ≤ t → unsigned_abs (((k +ℤ l) +ℤ m) +ℤ n) ≤ 4 * t
      go k l m n t e f g h = omega (arith, ints)

  -- a tetrahedron and its mirror image, by the half-breadth over the triangle
  pair_low : (u : Tetrahedron Node) (d y : ℕ) → six_times u ≡ d * y → unsigned_abs (corner_sum (λ n. n.z) u) ≤ 4 * H → unsigned_abs (totals_of (both_sides (u ∷ []))).mz24 ≤ 8 * (d * (y * H))
  pair_low u d y e h = omega (arith, ap (λ (t : Totals). unsigned_abs t.mz24) (pair_totals u), doubled (pos (six_times u) *ℤ corner_sum (λ n. n.z) u) (d * (y * (4 * H))) product, regrouped d y H)
    where
      doubled : (n : ℤ) (k : ℕ) → unsigned_abs n ≤ k → unsigned_abs (n +ℤ n) ≤ 2 * k
      doubled n k h = omega (arith, ints)

      regrouped : (d y h : ℕ) → 2 * (d * (y * (4 * h))) ≡ 8 * (d * (y * h))
      regrouped d y h = grind arith

      grouped : (d y h : ℕ) → (d * y) * h ≡ d * (y * h)
      grouped d y h = grind arith

      same : (n : ℕ) → n ≤ n
      same n = omega arith

      product : unsigned_abs (pos (six_times u) *ℤ corner_sum (λ n. n.z) u) ≤ d * (y * (4 * H))
      product = omega (arith, unsigned_abs-mul (pos (six_times u)) (corner_sum (λ n. n.z) u), mul-le-mul (same (six_times u)) h, ap (λ n. n * (4 * H)) e, grouped d y (4 * H))

  -- the three of a triangle, with d for what is seen of it
  triangle_by : (t : Triangle Node) → AllByRecursion Inside (corner_list t) → unsigned_abs (triangle_totals (t ∷ [])).mz24 ≤ 8 * (seen_y t * ((unsigned_abs t.c.y + unsigned_abs t.b.y + unsigned_abs t.a.y) * H))
  triangle_by t h = all
    where
      za : unsigned_abs t.a.z ≤ H
      za = small_z t.a h.0

      zb : unsigned_abs t.b.z ≤ H
      zb = small_z t.b h.1.0

      zc : unsigned_abs t.c.z ≤ H
      zc = small_z t.c h.1.1.0

      first : Tetrahedron Node
      first = tetrahedron (foot t.a) (foot t.b) (foot t.c) t.c

      second : Tetrahedron Node
      second = tetrahedron (foot t.a) (foot t.b) t.b t.c

      third : Tetrahedron Node
      third = tetrahedron (foot t.a) t.a t.b t.c

      times : (m y : ℤ) → unsigned_abs (m *ℤ y) ≡ unsigned_abs m * unsigned_abs y
      times m y = unsigned_abs-mul m y

      six_by : (u : Tetrahedron Node) (y : ℤ) → unsigned_abs (turned_six u) ≡ unsigned_abs (turn t *ℤ y) → six_times u ≡ seen_y t * unsigned_abs y
      six_by u y e = e ∙ times (turn t) y ∙ ap (λ n. n * unsigned_abs y) (seen_turn t)

      six_opposite : (u : Tetrahedron Node) (y : ℤ) → turned_six u ≡ neg_ℤ (turn t *ℤ y) → unsigned_abs (turned_six u) ≡ unsigned_abs (turn t *ℤ y)
      six_opposite u y e = opposite_seen (turned_six u) (turn t *ℤ y) e

      sum_less : (k l m : ℤ) → unsigned_abs ((k +ℤ l) +ℤ m) ≤ unsigned_abs k + unsigned_abs l + unsigned_abs m
      sum_less k l m = omega (arith, ints)

      together : (d x y z h p q r s : ℕ) → s ≤ p + q + r → p ≤ 8 * (d * (x * h)) → q ≤ 8 * (d * (y * h)) → r ≤ 8 * (d * (z * h)) → s ≤ 8 * (d * ((x + y + z) * h))
      together d x y z h p q r s a b c e = omega (arith, a, b, c, e, parted d x y z h)
        where
          parted : (d x y z h : ℕ) → 8 * (d * ((x + y + z) * h)) ≡ 8 * (d * (x * h)) + 8 * (d * (y * h)) + 8 * (d * (z * h))
          parted d x y z h = grind arith

      all : unsigned_abs (triangle_totals (t ∷ [])).mz24 ≤ 8 * (seen_y t * ((unsigned_abs t.c.y + unsigned_abs t.b.y + unsigned_abs t.a.y) * H))
      all = together (seen_y t) (unsigned_abs t.c.y) (unsigned_abs t.b.y) (unsigned_abs t.a.y) H
          (unsigned_abs (totals_of (both_sides (first ∷ []))).mz24) (unsigned_abs (totals_of (both_sides (second ∷ []))).mz24) (unsigned_abs (totals_of (both_sides (third ∷ []))).mz24) (unsigned_abs (triangle_totals (t ∷ [])).mz24)
          (subst (λ (u : Totals). unsigned_abs u.mz24 ≤ unsigned_abs (totals_of (both_sides (first ∷ []))).mz24 + unsigned_abs (totals_of (both_sides (second ∷ []))).mz24 + unsigned_abs (totals_of (both_sides (third ∷ []))).mz24) (sym (three_pairs first second third))
          (sum_less (totals_of (both_sides (first ∷ []))).mz24 (totals_of (both_sides (second ∷ []))).mz24 (totals_of (both_sides (third ∷ []))).mz24))
          (pair_low first (seen_y t) (unsigned_abs t.c.y) (six_by first t.c.y (six_opposite first t.c.y (first_six t))) (heights (foot t.a) (foot t.b) (foot t.c) t.c za zb zc zc))
          (pair_low second (seen_y t) (unsigned_abs t.b.y) (six_by second t.b.y (ap unsigned_abs (second_six t))) (heights (foot t.a) (foot t.b) t.b t.c za zb zb zc))
          (pair_low third (seen_y t) (unsigned_abs t.a.y) (six_by third t.a.y (six_opposite third t.a.y (third_six t))) (heights (foot t.a) t.a t.b t.c za za zb zc))

  triangle_low : (t : Triangle Node) → AllByRecursion Inside (corner_list t) → unsigned_abs (triangle_totals (t ∷ [])).mz24 ≤ 12 * (seen (sides t) * (B * H))
  triangle_low t h = go (is_on_centreplane t) refl
    where
      on_it : (k l m : ℤ) → (int_eq k (pos 0) && (int_eq l (pos 0) && int_eq m (pos 0))) ≡ true → unsigned_abs m + unsigned_abs l + unsigned_abs k ≡ 0
      on_it k l m e = grind arith

      nothing : (s d y h k : ℕ) → s ≤ 8 * (d * (y * h)) → y ≡ 0 → s ≤ k
      nothing s d y h k a e = omega (arith, a, ap (λ n. 8 * (d * (n * h))) e, none_there d h)
        where
          none_there : (d h : ℕ) → 8 * (d * (0 * h)) ≡ 0
          none_there d h = grind arith

      broad : (s d x y z b h : ℕ) → s ≤ 8 * (d * ((x + y + z) * h)) → x ≤ b → y ≤ b → z ≤ b → s ≤ 12 * ((d + (d + 0)) * (b * h))
      broad s d x y z b h e i j k = omega (arith, e, mul-le-mul (same d) (mul-le-mul (three i j k) (same h)), regrouped d b h)
        where
          same : (n : ℕ) → n ≤ n
          same n = omega arith

          three : x ≤ b → y ≤ b → z ≤ b → x + y + z ≤ 3 * b
          three h i j = omega arith

          regrouped : (d b h : ℕ) → 8 * (d * ((3 * b) * h)) ≡ 12 * ((d + (d + 0)) * (b * h))
          regrouped d b h = grind arith

      both : (p q : ℕ) → p ≡ seen_y t → q ≡ seen_y t → p + (q + 0) ≡ seen_y t + (seen_y t + 0)
      both p q e f = ap₂ (λ m n. m + (n + 0)) e f

      go : (on : Bool) → is_on_centreplane t ≡ on → unsigned_abs (triangle_totals (t ∷ [])).mz24 ≤ 12 * (seen (if on then [] else turned_unless (turns_back t) t ∷ turned_unless (not (turns_back t)) (mirrored_triangle t) ∷ []) * (B * H))
      go true e = nothing (unsigned_abs (triangle_totals (t ∷ [])).mz24) (seen_y t) (unsigned_abs t.c.y + unsigned_abs t.b.y + unsigned_abs t.a.y) H (12 * (0 * (B * H))) (triangle_by t h) (on_it t.a.y t.b.y t.c.y e)
      go false e = subst (λ (n : ℕ). unsigned_abs (triangle_totals (t ∷ [])).mz24 ≤ 12 * (n * (B * H)))
          (sym (both (seen_y (turned_unless (turns_back t) t)) (seen_y (turned_unless (not (turns_back t)) (mirrored_triangle t))) (seen_turned (turns_back t) t) (seen_turned (not (turns_back t)) (mirrored_triangle t))))
          (broad (unsigned_abs (triangle_totals (t ∷ [])).mz24) (seen_y t) (unsigned_abs t.c.y) (unsigned_abs t.b.y) (unsigned_abs t.a.y) B H (triangle_by t h) (small_y t.c h.1.1.0) (small_y t.b h.1.0) (small_y t.a h.0))

  -- ---- all triangles of a strip
  low_sum : (m n p q : ℕ) (k l : ℤ) → unsigned_abs k ≤ 12 * (m * p) → unsigned_abs l ≤ 12 * (n * p) → q ≡ m + n → unsigned_abs (k +ℤ l) ≤ 12 * (q * p)
  low_sum m n p q k l h i e = bounded (triangle_less k l) h i (ap (λ n. 12 * (n * p)) e) (parted m n p)
    where
      triangle_less : (k l : ℤ) → unsigned_abs (k +ℤ l) ≤ unsigned_abs k + unsigned_abs l
      triangle_less k l = omega (arith, ints)

      parted : (m n p : ℕ) → 12 * ((m + n) * p) ≡ 12 * (m * p) + 12 * (n * p)
      parted m n p = grind arith

      bounded : {a b c d e f g : ℕ} → a ≤ b + c → b ≤ d → c ≤ e → f ≡ g → g ≡ d + e → a ≤ f
      bounded h i j k l = omega arith

  triangles_low : (ts : List (Triangle Node)) → AllByRecursion (λ t. AllByRecursion Inside (corner_list t)) ts → unsigned_abs (triangle_totals ts).mz24 ≤ 12 * (seen (flat_map sides ts) * (B * H))
  triangles_low [] all = none_there (B * H)
    where
      none_there : (n : ℕ) → 0 ≤ 12 * (0 * n)
      none_there n = omega arith
  triangles_low (t ∷ ts) all = subst (λ (u : Totals). unsigned_abs u.mz24 ≤ 12 * (seen (sides t ++ flat_map sides ts) * (B * H))) (sym (triangles-append (t ∷ []) ts))
      (low_sum (seen (sides t)) (seen (flat_map sides ts)) (B * H) (seen (sides t ++ flat_map sides ts)) (triangle_totals (t ∷ [])).mz24 (triangle_totals ts).mz24 (triangle_low t all.0) (triangles_low ts all.1)
      (seen-append (sides t) (flat_map sides ts)))

  strip_low : (s t : Station) → AllByRecursion Inside (chain s) → AllByRecursion Inside (chain t) → unsigned_abs (totals_of (hull_tetrahedra (s ∷ t ∷ []))).mz24 ≤ 12 * (seen_from_side (kept (strip s t)) * (B * H))
  strip_low s t aft fore = subst (λ (u : Totals). unsigned_abs u.mz24 ≤ 12 * (seen_from_side (kept (strip s t)) * (B * H))) (strip_totals s t)
      (more (unsigned_abs (triangle_totals (between_stations s t)).mz24) (seen (flat_map sides (between_stations s t))) (seen_from_side (kept (strip s t))) (B * H)
      (triangles_low (between_stations s t) (chains_hold Inside (foot_inside half_breadth height) (mirror_inside half_breadth height) (chain s) (chain t) aft fore))
      (fewer (seen (top (chain s) (chain t))) (seen (bottom (chain s) (chain t))) (seen-kept (strip s t)) (seen-append (flat_map sides (between_stations s t) ++ bottom (chain s) (chain t)) (top (chain s) (chain t))) (seen-append (flat_map sides (between_stations s t)) (bottom (chain s) (chain t)))))
    where
      fewer : {a b c e : ℕ} (d f : ℕ) → a ≡ b → b ≡ c + d → c ≡ e + f → e ≤ a
      fewer d f h i j = omega arith

      more : (u m n p : ℕ) → u ≤ 12 * (m * p) → m ≤ n → u ≤ 12 * (n * p)
      more u m n p h k = omega (arith, h, mul-le-mul k (same p))
        where
          same : (n : ℕ) → n ≤ n
          same n = omega arith

  -- each strip of stations whose points lie within the half-breadth and the height
  pub strips_low : (stations : List Station) → AllByRecursion (λ s. AllByRecursion Inside (chain s)) stations → (n : ℕ) → n < length (strips_of stations)
      → unsigned_abs (minus (totals_at (model.none ∷ running_from model.none (strips_of stations)) (suc n)) (totals_at (model.none ∷ running_from model.none (strips_of stations)) n)).mz24 ≤ 12 * (seen_from_side (get_or (face_lists stations) n []) * (B * H))
  strips_low stations inside n less = subst (λ (u : Totals). unsigned_abs u.mz24 ≤ 12 * (seen_from_side (get_or (face_lists stations) n []) * (B * H))) (sym (strip_at_step model.none (strips_of stations) n less)) (go stations inside n less)
    where
      go : (stations : List Station) → AllByRecursion (λ s. AllByRecursion Inside (chain s)) stations → (n : ℕ) → n < length (strips_of stations)
          → unsigned_abs (totals_of (hull_tetrahedra (get_or (strips_of stations) n []))).mz24 ≤ 12 * (seen_from_side (get_or (face_lists stations) n []) * (B * H))
      go [] inside n less = absurd (omega arith)
      go (s ∷ []) inside n less = absurd (omega arith)
      go (s ∷ t ∷ rest) inside zero less = strip_low s t inside.0 inside.1.0
      go (s ∷ t ∷ rest) inside (suc n) less = go (t ∷ rest) inside.1 n (omega arith)
