-- Running totals: their differences are the totals of the strips between, and how large they are.
use Rattle.std.proofs.Common.{ℕ, zero, suc, ◌+◌, ◌-◌, ◌*◌, ◌^◌, ◌≤◌, ◌<◌, ◌≡◌, refl, sym, ◌∙◌, ap, ap₂, List, [], ◌∷◌, ◌++◌, map, length, take, drop, get_or, ℤ, pos, negsuc, neg_ℤ, ◌+ℤ◌, ◌-ℤ◌, ◌*ℤ◌, ◌≤ℤ◌, unsigned_abs, arith}
use mathlib.Core.Path.{subst}
use Rattle.std.proofs.lemmas.Grind.{flat_map-append}
use Rattle.std.proofs.lemmas.Int.{ints, unsigned_abs-mul}
use Rattle.std.proofs.lemmas.List.{append-nil, append_assoc, map-append, get_or_default}
use Rattle.std.proofs.Math.Nat.{mul-le-mul, mul-le-mul_right}
use Rattle.std.proofs.Math.Seq.{take-add}
use Rattle.std.specs.List.{flat_map, slice_range}
use Rattle.exact_algebra.specs.Expression.{var, number, ◌:+◌, ◌:-◌}
use Rattle.exact_algebra.proofs.Ring.{ring}
use Rattle.exact_algebra.proofs.WholeNumbers.{integers}
use Rattle.exact_fraction.specs.Bounds.{MagnitudeBelow}
use Rattle.hull_model.specs.declared.node.Node.{Node}
use Rattle.hull_model.specs.declared.station.Station.{Station}
use Rattle.hull_model.specs.declared.vector.Vector.{Vector}
use Rattle.hull_model.specs.Body.{IsWithin, IsStation}
use Rattle.hull_model.specs.Boundary.{sum_of}
use Rattle.hull_model.specs.Nodes.{IsNode, node_at, mirrored}
use Rattle.hull_model.specs.Strips.{corners_of}
use Rattle.hull_model.specs.Tetrahedra.{turned_six, six_times, to_centreplane, hull_tetrahedra}
use Rattle.hull_model.specs.TetrahedronCut.{Tetrahedron, tetrahedron, with_corners}
use Rattle.hull_model.specs.TriangleCut.{Triangle}
use Rattle.hull_model.specs.Vectors.{way, cross, dot}
use Rattle.hull_model.specs.Zipper.{chain, between_stations}
use Rattle.hull_model.specs.declared.strip_triangle.StripTriangle.{StripTriangle}
use Rattle.hull_polyhedron.specs.declared.totals.Totals.{Totals}
use Rattle.hull_polyhedron.specs.Strips.{strips_of, tetrahedra_between}
use Rattle.hull_polyhedron.specs.Totals.{corner_sum, moment24, totals_of}
use Rattle.hull_polyhedron.specs.TotalsModel as model
use Rattle.hull_polyhedron.specs.TotalsModel.{plus, minus, totals_at, both_sides, triangle_totals, running_from, AreAtMost, GrowByStrips}
use Rattle.hull_polyhedron.proofs.Lengths.{chains_length, length_map}
use Rattle.hull_polyhedron.proofs.SixVolume.{mirrored_six}
use Rattle.hull_polyhedron.proofs.Sums.{sum-append}

-- ---- sums of totals
pub plus-none : (a : Totals) → plus a model.none ≡ a
plus-none a = λ i. record { six = right a.six i; mx24 = right a.mx24 i; mz24 = right a.mz24 i }
  where
    right : (n : ℤ) → n +ℤ pos 0 ≡ n
    right n = ring integers (n ∷ []) (var 0 :+ number 0) (var 0) refl

pub none-plus : (a : Totals) → plus model.none a ≡ a
none-plus a = λ i. record { six = left a.six i; mx24 = left a.mx24 i; mz24 = left a.mz24 i }
  where
    left : (n : ℤ) → pos 0 +ℤ n ≡ n
    left n = ring integers (n ∷ []) (number 0 :+ var 0) (var 0) refl

pub plus_assoc : (a b c : Totals) → plus (plus a b) c ≡ plus a (plus b c)
plus_assoc a b c = λ i. record { six = assoc a.six b.six c.six i; mx24 = assoc a.mx24 b.mx24 c.mx24 i; mz24 = assoc a.mz24 b.mz24 c.mz24 i }
  where
    assoc : (l m n : ℤ) → (l +ℤ m) +ℤ n ≡ l +ℤ (m +ℤ n)
    assoc l m n = ring integers (l ∷ m ∷ n ∷ []) ((var 0 :+ var 1) :+ var 2) (var 0 :+ (var 1 :+ var 2)) refl

plus_swap : (a b c d : Totals) → plus (plus a b) (plus c d) ≡ plus (plus a c) (plus b d)
plus_swap a b c d = λ i. record { six = swap a.six b.six c.six d.six i; mx24 = swap a.mx24 b.mx24 c.mx24 d.mx24 i; mz24 = swap a.mz24 b.mz24 c.mz24 d.mz24 i }
  where
    swap : (k l m n : ℤ) → (k +ℤ l) +ℤ (m +ℤ n) ≡ (k +ℤ m) +ℤ (l +ℤ n)
    swap k l m n = ring integers (k ∷ l ∷ m ∷ n ∷ []) ((var 0 :+ var 1) :+ (var 2 :+ var 3)) ((var 0 :+ var 2) :+ (var 1 :+ var 3)) refl

minus-plus : (a b c : Totals) → minus (plus a (plus b c)) (plus a b) ≡ c
minus-plus a b c = λ i. record { six = less a.six b.six c.six i; mx24 = less a.mx24 b.mx24 c.mx24 i; mz24 = less a.mz24 b.mz24 c.mz24 i }
  where
    less : (l m n : ℤ) → (l +ℤ (m +ℤ n)) -ℤ (l +ℤ m) ≡ n
    less l m n = ring integers (l ∷ m ∷ n ∷ []) ((var 0 :+ (var 1 :+ var 2)) :- (var 0 :+ var 1)) (var 2) refl

pub totals-append : (xs ys : List (Tetrahedron Node)) → totals_of (xs ++ ys) ≡ plus (totals_of xs) (totals_of ys)
totals-append xs ys = λ i. record {
  six = sum-append (λ t. pos (six_times t)) xs ys i;
  mx24 = sum-append (moment24 (λ n. n.x)) xs ys i;
  mz24 = sum-append (moment24 (λ n. n.z)) xs ys i;
}

-- ---- running totals
pub running_at : (sum : Totals) (strips : List (List Station)) (n : ℕ) → n ≤ length strips → totals_at (sum ∷ running_from sum strips) n ≡ plus sum (totals_of (flat_map hull_tetrahedra (take n strips)))
running_at sum strips zero h = sym (plus-none sum)
running_at sum [] (suc n) h = absurd (omega arith)
running_at sum (strip ∷ rest) (suc n) h = running_at (plus sum (totals_of (hull_tetrahedra strip))) rest n (omega arith)
    ∙ plus_assoc sum (totals_of (hull_tetrahedra strip)) (totals_of (flat_map hull_tetrahedra (take n rest)))
    ∙ ap (plus sum) (sym (totals-append (hull_tetrahedra strip) (flat_map hull_tetrahedra (take n rest))))

-- what the strip of a number adds
pub strip_at_step : (sum : Totals) (strips : List (List Station)) (n : ℕ) → n < length strips
    → minus (totals_at (sum ∷ running_from sum strips) (suc n)) (totals_at (sum ∷ running_from sum strips) n) ≡ totals_of (hull_tetrahedra (get_or strips n []))
strip_at_step sum [] n less = absurd (omega arith)
strip_at_step sum (strip ∷ rest) zero less = one_more sum (totals_of (hull_tetrahedra strip))
  where
    one_more : (a b : Totals) → minus (plus a b) a ≡ b
    one_more a b = λ i. record { six = rest_of a.six b.six i; mx24 = rest_of a.mx24 b.mx24 i; mz24 = rest_of a.mz24 b.mz24 i }
      where
        rest_of : (m n : ℤ) → (m +ℤ n) -ℤ m ≡ n
        rest_of m n = ring integers (m ∷ n ∷ []) ((var 0 :+ var 1) :- var 0) (var 1) refl
strip_at_step sum (strip ∷ rest) (suc n) less = strip_at_step (plus sum (totals_of (hull_tetrahedra strip))) rest n (omega arith)

pub totals_between : (stations : List Station) (from to : ℕ) → from ≤ to → to ≤ length (strips_of stations)
    → minus (totals_at (model.none ∷ running_from model.none (strips_of stations)) to) (totals_at (model.none ∷ running_from model.none (strips_of stations)) from) ≡ totals_of (tetrahedra_between stations from to)
totals_between stations from to ordered within =
    ap₂ minus (running_at model.none strips to within ∙ ap (λ xs. plus model.none (totals_of (flat_map hull_tetrahedra xs))) taken
    ∙ ap (plus model.none) (ap totals_of (flat_map-append hull_tetrahedra (take from strips) (slice_range strips from to)) ∙ totals-append (flat_map hull_tetrahedra (take from strips)) (flat_map hull_tetrahedra (slice_range strips from to))))
    (running_at model.none strips from (omega arith))
    ∙ minus-plus model.none (totals_of (flat_map hull_tetrahedra (take from strips))) (totals_of (flat_map hull_tetrahedra (slice_range strips from to)))
  where
    strips : List (List Station)
    strips = strips_of stations

    parted : to ≡ from + (to - from)
    parted = omega (arith, ordered)

    taken : take to strips ≡ take from strips ++ slice_range strips from to
    taken = ap (λ n. take n strips) parted ∙ take-add from (to - from) strips

-- ---- a strip's, triangle by triangle
pub triangles-append : (ts us : List (Triangle Node)) → triangle_totals (ts ++ us) ≡ plus (triangle_totals ts) (triangle_totals us)
triangles-append ts us =
    ap (λ (xs : List (Tetrahedron Node)). totals_of (both_sides xs)) (flat_map-append to_centreplane ts us)
    ∙ totals-append (X ++ Y) (map (with_corners mirrored) (X ++ Y))
    ∙ ap₂ plus (totals-append X Y) (ap totals_of (map-append (with_corners mirrored) X Y) ∙ totals-append (map (with_corners mirrored) X) (map (with_corners mirrored) Y))
    ∙ plus_swap (totals_of X) (totals_of Y) (totals_of (map (with_corners mirrored) X)) (totals_of (map (with_corners mirrored) Y))
    ∙ sym (ap₂ plus (totals-append X (map (with_corners mirrored) X)) (totals-append Y (map (with_corners mirrored) Y)))
  where
    X : List (Tetrahedron Node)
    X = flat_map to_centreplane ts

    Y : List (Tetrahedron Node)
    Y = flat_map to_centreplane us

pub strip_totals : (s t : Station) → triangle_totals (between_stations s t) ≡ totals_of (hull_tetrahedra (s ∷ t ∷ []))
strip_totals s t = ap triangle_totals (sym (append-nil (between_stations s t)))

-- three tetrahedra one after another, each with its mirror image
pub three_pairs : (p q r : Tetrahedron Node) → totals_of (both_sides (p ∷ q ∷ r ∷ [])) ≡ plus (plus (totals_of (both_sides (p ∷ []))) (totals_of (both_sides (q ∷ [])))) (totals_of (both_sides (r ∷ [])))
three_pairs p q r = λ i. record {
  six = three (λ t. pos (six_times t)) i;
  mx24 = three (moment24 (λ n. n.x)) i;
  mz24 = three (moment24 (λ n. n.z)) i;
}
  where
    three : (f : Tetrahedron Node → ℤ) → sum_of f (both_sides (p ∷ q ∷ r ∷ [])) ≡ (sum_of f (both_sides (p ∷ [])) +ℤ sum_of f (both_sides (q ∷ []))) +ℤ sum_of f (both_sides (r ∷ []))
    three f = ring integers (f p ∷ f q ∷ f r ∷ f (with_corners mirrored p) ∷ f (with_corners mirrored q) ∷ f (with_corners mirrored r) ∷ [])
        (var 0 :+ (var 1 :+ (var 2 :+ (var 3 :+ (var 4 :+ (var 5 :+ number 0))))))
        (((var 0 :+ (var 3 :+ number 0)) :+ (var 1 :+ (var 4 :+ number 0))) :+ (var 2 :+ (var 5 :+ number 0))) refl

-- a tetrahedron and its mirror image
mirrored_times : (t : Tetrahedron Node) → six_times (with_corners mirrored t) ≡ six_times t
mirrored_times t = ap unsigned_abs (mirrored_six t) ∙ same (turned_six t)
  where
    same : (n : ℤ) → unsigned_abs (neg_ℤ n) ≡ unsigned_abs n
    same (pos zero) = refl
    same (pos (suc n)) = refl
    same (negsuc n) = refl

pub pair_totals : (t : Tetrahedron Node) → totals_of (both_sides (t ∷ [])) ≡ model.doubled (pos (six_times t)) (corner_sum (λ n. n.x) t) (corner_sum (λ n. n.z) t)
pair_totals t = λ i. record {
  six = both (pos (six_times t)) (ap pos (mirrored_times t)) i;
  mx24 = both (moment24 (λ n. n.x) t) (ap (λ n. pos n *ℤ corner_sum (λ n. n.x) t) (mirrored_times t)) i;
  mz24 = both (moment24 (λ n. n.z) t) (ap (λ n. pos n *ℤ corner_sum (λ n. n.z) t) (mirrored_times t)) i;
}
  where
    both : (n : ℤ) {m : ℤ} → m ≡ n → n +ℤ (m +ℤ pos 0) ≡ n +ℤ n
    both n e = ap (λ k. n +ℤ (k +ℤ pos 0)) e ∙ ring integers (n ∷ []) (var 0 :+ (var 0 :+ number 0)) (var 0 :+ var 0) refl

-- ---- sizes
bound : (k l : ℤ) (p q r : ℕ) → unsigned_abs k < p → unsigned_abs l < q → p * q ≤ r → unsigned_abs (k *ℤ l) ≤ r
bound k l p q r h i most = omega (arith, unsigned_abs-mul k l, mul-le-mul (weak h) (weak i))
  where
    weak : {m n : ℕ} → m < n → m ≤ n
    weak h = omega arith

pub at_most-plus : (m n : ℕ) (a b : Totals) → AreAtMost m a → AreAtMost n b → AreAtMost (m + n) (plus a b)
at_most-plus m n a b h k = record { six = sum (2 ^ 56) a.six b.six h.six k.six; mx24 = sum (2 ^ 77) a.mx24 b.mx24 h.mx24 k.mx24; mz24 = sum (2 ^ 74) a.mz24 b.mz24 h.mz24 k.mz24 }
  where
    triangle_less : (x y : ℤ) → unsigned_abs (x +ℤ y) ≤ unsigned_abs x + unsigned_abs y
    triangle_less x y = omega (arith, ints)

    added : (u k l m n d : ℕ) → u ≤ k + l → k ≤ m * d → l ≤ n * d → u ≤ (m + n) * d
    added u k l m n d e f g = omega arith

    sum : (d : ℕ) (x y : ℤ) → unsigned_abs x ≤ m * d → unsigned_abs y ≤ n * d → unsigned_abs (x +ℤ y) ≤ (m + n) * d
    sum d x y e f = added (unsigned_abs (x +ℤ y)) (unsigned_abs x) (unsigned_abs y) m n d (triangle_less x y) e f

pub at_most-more : (m n : ℕ) (a : Totals) → m ≤ n → AreAtMost m a → AreAtMost n a
at_most-more m n a less h = record { six = more (2 ^ 56) (unsigned_abs a.six) h.six; mx24 = more (2 ^ 77) (unsigned_abs a.mx24) h.mx24; mz24 = more (2 ^ 74) (unsigned_abs a.mz24) h.mz24 }
  where
    more : (d k : ℕ) → k ≤ m * d → k ≤ n * d
    more d k e = omega (arith, e, mul-le-mul_right d less)

pub at_most-doubled : (six x z : ℤ) → MagnitudeBelow 55 six → MagnitudeBelow 21 x → MagnitudeBelow 18 z → AreAtMost 1 (model.doubled six x z)
at_most-doubled six x z h i j = record {
  six = twice six (2 ^ 55) h (omega arith);
  mx24 = double (six *ℤ x) (2 ^ 76) (2 ^ 77) (bound six x (2 ^ 55) (2 ^ 21) (2 ^ 76) h i (omega arith)) (omega arith);
  mz24 = double (six *ℤ z) (2 ^ 73) (2 ^ 74) (bound six z (2 ^ 55) (2 ^ 18) (2 ^ 73) h j (omega arith)) (omega arith);
}
  where
    double : (n : ℤ) (k d : ℕ) → unsigned_abs n ≤ k → k + k ≤ d → unsigned_abs (n +ℤ n) ≤ 1 * d
    double n k d e f = omega (arith, ints)

    twice : (n : ℤ) (k : ℕ) → unsigned_abs n < k → k + k ≤ 2 ^ 56 → unsigned_abs (n +ℤ n) ≤ 1 * 2 ^ 56
    twice n k e f = omega (arith, ints)

-- ---- six times the volume of a tetrahedron within the limits
less : (k l : ℤ) (p q : ℕ) → unsigned_abs k ≤ p → unsigned_abs l ≤ p → p + p < q → unsigned_abs (k -ℤ l) < q
less k l p q h i most = omega (arith, ints)

three_small : (k l m : ℤ) (p q : ℕ) → unsigned_abs k ≤ p → unsigned_abs l ≤ p → unsigned_abs m ≤ p → p + p + p < q → unsigned_abs ((k +ℤ l) +ℤ m) < q
three_small k l m p q h i j most = omega (arith, ints)

record IsShort (v : Vector) : Type 0 where
  x : MagnitudeBelow 19 v.x
  y : MagnitudeBelow 17 v.y
  z : MagnitudeBelow 16 v.z

way_short : (a b : Node) → IsNode a → IsNode b → IsShort (way a b)
way_short a b h k = record { x = along h.place k.place; y = across h.port h.starboard k.port k.starboard; z = up h.height k.height }
  where
    along : {m n : ℤ} → IsWithin (pos 524287) m → IsWithin (pos 524287) n → MagnitudeBelow 19 (n -ℤ m)
    along {m} {n} h k = go h.0 h.1 k.0 k.1
      where
        go : pos 0 ≤ℤ m → m ≤ℤ pos 524287 → pos 0 ≤ℤ n → n ≤ℤ pos 524287 → unsigned_abs (n -ℤ m) < 2 ^ 19
        go h i j k = omega (arith, ints)

    across : {m n : ℤ} → neg_ℤ (pos 65535) ≤ℤ m → m ≤ℤ pos 65535 → neg_ℤ (pos 65535) ≤ℤ n → n ≤ℤ pos 65535 → unsigned_abs (n -ℤ m) < 2 ^ 17
    across h i j k = omega (arith, ints)

    up : {m n : ℤ} → IsWithin (pos 65535) m → IsWithin (pos 65535) n → MagnitudeBelow 16 (n -ℤ m)
    up {m} {n} h k = go h.0 h.1 k.0 k.1
      where
        go : pos 0 ≤ℤ m → m ≤ℤ pos 65535 → pos 0 ≤ℤ n → n ≤ℤ pos 65535 → unsigned_abs (n -ℤ m) < 2 ^ 16
        go h i j k = omega (arith, ints)

dot_small : (u v w : Vector) → IsShort u → IsShort v → IsShort w → MagnitudeBelow 55 (dot (cross u v) w)
dot_small u v w a b c = three_small (((u.y *ℤ v.z) -ℤ (u.z *ℤ v.y)) *ℤ w.x) (((u.z *ℤ v.x) -ℤ (u.x *ℤ v.z)) *ℤ w.y) (((u.x *ℤ v.y) -ℤ (u.y *ℤ v.x)) *ℤ w.z) (2 ^ 53 + 2 ^ 19) (2 ^ 55)
    (bound ((u.y *ℤ v.z) -ℤ (u.z *ℤ v.y)) w.x (2 ^ 34 + 1) (2 ^ 19) (2 ^ 53 + 2 ^ 19)
    (less (u.y *ℤ v.z) (u.z *ℤ v.y) (2 ^ 33) (2 ^ 34 + 1) (bound u.y v.z (2 ^ 17) (2 ^ 16) (2 ^ 33) a.y b.z (omega arith)) (bound u.z v.y (2 ^ 16) (2 ^ 17) (2 ^ 33) a.z b.y (omega arith)) (omega arith)) c.x (omega arith))
    (bound ((u.z *ℤ v.x) -ℤ (u.x *ℤ v.z)) w.y (2 ^ 36 + 1) (2 ^ 17) (2 ^ 53 + 2 ^ 19)
    (less (u.z *ℤ v.x) (u.x *ℤ v.z) (2 ^ 35) (2 ^ 36 + 1) (bound u.z v.x (2 ^ 16) (2 ^ 19) (2 ^ 35) a.z b.x (omega arith)) (bound u.x v.z (2 ^ 19) (2 ^ 16) (2 ^ 35) a.x b.z (omega arith)) (omega arith)) c.y (omega arith))
    (bound ((u.x *ℤ v.y) -ℤ (u.y *ℤ v.x)) w.z (2 ^ 37 + 1) (2 ^ 16) (2 ^ 53 + 2 ^ 19)
    (less (u.x *ℤ v.y) (u.y *ℤ v.x) (2 ^ 36) (2 ^ 37 + 1) (bound u.x v.y (2 ^ 19) (2 ^ 17) (2 ^ 36) a.x b.y (omega arith)) (bound u.y v.x (2 ^ 17) (2 ^ 19) (2 ^ 36) a.y b.x (omega arith)) (omega arith)) c.z (omega arith))
    (omega arith)

pub six_small : (a b c d : Node) → IsNode a → IsNode b → IsNode c → IsNode d → six_times (tetrahedron a b c d) < 2 ^ 55
six_small a b c d h i j k = dot_small (way a b) (way a c) (way a d) (way_short a b h i) (way_short a c h j) (way_short a d h k)

-- the sum of a coordinate over four corners
sum_small : (a b c d : ℤ) (m : ℕ) → unsigned_abs a ≤ m → unsigned_abs b ≤ m → unsigned_abs c ≤ m → unsigned_abs d ≤ m → unsigned_abs (((a +ℤ b) +ℤ c) +ℤ d) ≤ 4 * m
sum_small a b c d m h i j k = omega (arith, ints)

within_small : (most : ℕ) (n : ℤ) → IsWithin (pos most) n → unsigned_abs n ≤ most
within_small most n h = go h.0 h.1
  where
    go : pos 0 ≤ℤ n → n ≤ℤ pos most → unsigned_abs n ≤ most
    go h i = omega (arith, ints)

strict : {m : ℕ} (k n : ℕ) → m ≤ k → k < n → m < n
strict k n h i = omega arith

pub places_small : (a b c d : Node) → IsNode a → IsNode b → IsNode c → IsNode d → MagnitudeBelow 21 (corner_sum (λ n. n.x) (tetrahedron a b c d))
places_small a b c d h i j k = strict (4 * 524287) (2 ^ 21)
    (sum_small a.x b.x c.x d.x 524287 (within_small 524287 a.x h.place) (within_small 524287 b.x i.place) (within_small 524287 c.x j.place) (within_small 524287 d.x k.place)) (omega arith)

pub heights_small : (a b c d : Node) → IsNode a → IsNode b → IsNode c → IsNode d → MagnitudeBelow 18 (corner_sum (λ n. n.z) (tetrahedron a b c d))
heights_small a b c d h i j k = strict (4 * 65535) (2 ^ 18)
    (sum_small a.z b.z c.z d.z 65535 (within_small 65535 a.z h.height) (within_small 65535 b.z i.height) (within_small 65535 c.z j.height) (within_small 65535 d.z k.height)) (omega arith)

-- as the code has them
pub pair_value : {result : Totals} {six x z : ℤ} (a b c d : Node) → result ≡ model.doubled six x z → six ≡ pos (six_times (tetrahedron a b c d)) → x ≡ corner_sum (λ n. n.x) (tetrahedron a b c d) → z ≡ corner_sum (λ n. n.z) (tetrahedron a b c d)
    → result ≡ totals_of (both_sides (tetrahedron a b c d ∷ []))
pair_value a b c d e f g h = e ∙ (λ i. model.doubled (f i) (g i) (h i)) ∙ sym (pair_totals (tetrahedron a b c d))

pub few_triangles : (s t : Station) → IsStation s → IsStation t → length (between_stations s t) ≤ 64
few_triangles s t aft fore = omega (arith, chains_length (chain s) (chain t), length_map (node_at s.x) s.points, length_map (node_at t.x) t.points, aft.few, fore.few)

-- ---- the differences of running totals
-- a difference as the sum of those of single strips
split : (a b c : Totals) → minus c a ≡ plus (minus b a) (minus c b)
split a b c = λ i. record { six = parted a.six b.six c.six i; mx24 = parted a.mx24 b.mx24 c.mx24 i; mz24 = parted a.mz24 b.mz24 c.mz24 i }
  where
    parted : (l m n : ℤ) → n -ℤ l ≡ (m -ℤ l) +ℤ (n -ℤ m)
    parted l m n = ring integers (l ∷ m ∷ n ∷ []) (var 2 :- var 0) ((var 1 :- var 0) :+ (var 2 :- var 1)) refl

nothing-between : (a : Totals) → AreAtMost 0 (minus a a)
nothing-between a = record { six = none_left a.six (2 ^ 56); mx24 = none_left a.mx24 (2 ^ 77); mz24 = none_left a.mz24 (2 ^ 74) }
  where
    none_left : (n : ℤ) (d : ℕ) → unsigned_abs (n -ℤ n) ≤ 0 * d
    none_left n d = omega (arith, ints)

-- over so many strips
grown : (totals : List Totals) → GrowByStrips totals → (from count : ℕ) → from + count < length totals → AreAtMost (192 * count) (minus (totals_at totals (from + count)) (totals_at totals from))
grown totals steps from zero less = subst (λ (n : ℕ). AreAtMost 0 (minus (totals_at totals n) (totals_at totals from))) (same from) (nothing-between (totals_at totals from))
  where
    same : (n : ℕ) → n ≡ n + 0
    same n = omega arith
grown totals steps from (suc count) less = subst (λ (n : ℕ). AreAtMost (192 * suc count) (minus (totals_at totals n) (totals_at totals from))) (next from count)
    (subst (AreAtMost (192 * suc count)) (sym (split (totals_at totals from) (totals_at totals (from + count)) (totals_at totals (suc (from + count)))))
    (subst (λ (n : ℕ). AreAtMost n (plus (minus (totals_at totals (from + count)) (totals_at totals from)) (minus (totals_at totals (suc (from + count))) (totals_at totals (from + count))))) (more count)
    (at_most-plus (192 * count) 192 _ _ (grown totals steps from count (omega arith)) (steps (from + count) (omega arith)))))
  where
    next : (m n : ℕ) → suc (m + n) ≡ m + suc n
    next m n = omega arith

    more : (n : ℕ) → 192 * n + 192 ≡ 192 * suc n
    more n = omega arith

pub total_small : (totals : List Totals) → GrowByStrips totals → (from to : ℕ) → from ≤ to → to < length totals
    → (unsigned_abs (minus (totals_at totals to) (totals_at totals from)).six ≤ (to - from) * 2 ^ 64)
    × ((unsigned_abs (minus (totals_at totals to) (totals_at totals from)).mx24 ≤ (to - from) * 2 ^ 85) × (unsigned_abs (minus (totals_at totals to) (totals_at totals from)).mz24 ≤ (to - from) * 2 ^ 82))
total_small totals steps from to ordered within = (more _ _ (2 ^ 56) (2 ^ 64) all.six (omega arith), (more _ _ (2 ^ 77) (2 ^ 85) all.mx24 (omega arith), more _ _ (2 ^ 74) (2 ^ 82) all.mz24 (omega arith)))
  where
    whole_way : from + (to - from) ≡ to
    whole_way = omega (arith, ordered)

    all : AreAtMost (192 * (to - from)) (minus (totals_at totals to) (totals_at totals from))
    all = subst (λ (n : ℕ). AreAtMost (192 * (to - from)) (minus (totals_at totals n) (totals_at totals from))) whole_way (grown totals steps from (to - from) (omega (arith, whole_way, within)))

    regrouped : (k d : ℕ) → (192 * k) * d ≡ k * (192 * d)
    regrouped k d = grind arith

    bounded : (u a b c : ℕ) → u ≤ a → a ≡ b → b ≤ c → u ≤ c
    bounded u a b c h e k = omega arith

    more : (u k d e : ℕ) → u ≤ (192 * k) * d → 192 * d ≤ e → u ≤ k * e
    more u k d e h i = bounded u ((192 * k) * d) (k * (192 * d)) (k * e) h (regrouped k d) (mul-le-mul (omega arith) i)

-- as the code reads them
pub difference_at : (totals : List Totals) (from to : ℕ) → from ≤ to → to < length totals → {result high low : Totals} → result ≡ minus high low → high ≡ get_or totals to high → low ≡ get_or totals from low
    → result ≡ minus (totals_at totals to) (totals_at totals from)
difference_at totals from to ordered within {result} {high} {low} e f g = e ∙ ap₂ minus (f ∙ get_or_default totals to high model.none within) (g ∙ get_or_default totals from low model.none (omega (arith, ordered, within)))

-- ---- the loops
-- one triangle more
triangle_next : (ts : List StripTriangle) (i : ℕ) (t : StripTriangle) (sum x next total : Totals) → i < length ts → t ≡ get_or ts i t → x ≡ triangle_totals (corners_of t ∷ []) → next ≡ plus sum x
    → plus sum (triangle_totals (map corners_of (drop i ts))) ≡ total → plus next (triangle_totals (map corners_of (drop (suc i) ts))) ≡ total
triangle_next [] i t sum x next total less e f g h = absurd (omega arith)
triangle_next (u ∷ ts) zero t sum x next total less e f g h =
    ap₂ plus (g ∙ ap (plus sum) (f ∙ ap (λ (v : StripTriangle). triangle_totals (corners_of v ∷ [])) e)) refl
    ∙ plus_assoc sum (triangle_totals (corners_of u ∷ [])) (triangle_totals (map corners_of ts)) ∙ ap (plus sum) (sym (triangles-append (corners_of u ∷ []) (map corners_of ts))) ∙ h
triangle_next (u ∷ ts) (suc i) t sum x next total less e f g h = triangle_next ts i t sum x next total (omega arith) e f g h

pub triangle_step : (ts : List StripTriangle) (i : ℕ) (t : StripTriangle) (sum x next total : Totals) → i < length ts → t ≡ get_or ts i t → x ≡ triangle_totals (corners_of t ∷ []) → next ≡ plus sum x
    → plus sum (triangle_totals (map corners_of (drop i ts))) ≡ total → plus next (triangle_totals (map corners_of (drop (i + 1) ts))) ≡ total
triangle_step ts i t sum x next total less e f g h = ap (λ n. plus next (triangle_totals (map corners_of (drop n ts)))) (after i) ∙ triangle_next ts i t sum x next total less e f g h
  where
    after : (n : ℕ) → n + 1 ≡ suc n
    after n = omega arith

pub three_more : (i : ℕ) (sum x next : Totals) → next ≡ plus sum x → AreAtMost (i * 3) sum → AreAtMost 3 x → AreAtMost ((i + 1) * 3) next
three_more i sum x next e h k = subst (AreAtMost ((i + 1) * 3)) (sym e) (subst (λ (n : ℕ). AreAtMost n (plus sum x)) (more i) (at_most-plus (i * 3) 3 sum x h k))
  where
    more : (n : ℕ) → n * 3 + 3 ≡ (n + 1) * 3
    more n = omega arith

-- one strip more
pub strip_step : (all total : List Totals) (sum next strip : Totals) (rest : List Station) (s t : Station) → 2 ≤ length rest → s ≡ get_or rest 0 s → t ≡ get_or rest 1 t
    → strip ≡ triangle_totals (between_stations s t) → next ≡ plus sum strip → all ++ running_from sum (strips_of rest) ≡ total → (all ++ (next ∷ [])) ++ running_from next (strips_of (drop 1 rest)) ≡ total
strip_step all total sum next strip [] s t some e f g h i = absurd (omega arith)
strip_step all total sum next strip (u ∷ []) s t some e f g h i = absurd (omega arith)
strip_step all total sum next strip (u ∷ v ∷ rest) s t some e f g h i =
    append_assoc all (next ∷ []) (running_from next (strips_of (v ∷ rest)))
    ∙ ap (λ (k : Totals). all ++ (k ∷ running_from k (strips_of (v ∷ rest)))) (h ∙ ap (plus sum) (g ∙ ap₂ (λ (p q : Station). triangle_totals (between_stations p q)) e f ∙ strip_totals u v)) ∙ i
