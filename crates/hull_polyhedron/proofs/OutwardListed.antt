-- Each listed triangle of some area points outwards.
use Rattle.std.proofs.Common.{ℕ, zero, suc, ◌≤◌, ◌≡◌, refl, sym, ◌∙◌, ap, ap₂, List, [], ◌∷◌, ◌++◌, map, length, take, ◌-◌, Bool, true, false, ℤ, pos, negsuc, ◌+ℤ◌, ◌-ℤ◌, ◌*ℤ◌, neg_ℤ, ◌≤ℤ◌, ◌<ℤ◌, arith}
use mathlib.Core.Logic.{◌⊎◌, inl, inr, ◌≢◌}
use mathlib.Core.Path.{subst}
use Rattle.std.proofs.lemmas.Int.{ints}
use Rattle.std.specs.Prelude.{not, ◌&&◌, int_lt, if◌then◌else◌}
use Rattle.std.specs.Ordering.{int_eq}
use Rattle.std.specs.List.{flat_map, AllByRecursion}
use Rattle.exact_algebra.specs.Expression.{Expression, var, number, ◌:+◌, ◌:-◌, ◌:*◌, opposite}
use Rattle.exact_algebra.proofs.Ring.{ring}
use Rattle.exact_algebra.proofs.WholeNumbers.{integers}
use Rattle.hull_model.specs.declared.node.Node.{Node}
use Rattle.hull_model.specs.declared.vector.Vector.{Vector}
use Rattle.hull_model.specs.declared.point.Point.{Point}
use Rattle.hull_model.specs.declared.station.Station.{Station}
use Rattle.hull_model.specs.Lists.{Rises}
use Rattle.hull_model.specs.Body.{IsPoint, IsStation, IsHull}
use Rattle.hull_model.specs.Nodes.{node_at, foot, mirrored}
use Rattle.hull_model.specs.Zipper.{chain, between_stations}
use Rattle.hull_model.specs.Submerged.{first_x, last_x}
use Rattle.hull_model.specs.TriangleCut.{Triangle, triangle}
use Rattle.hull_model.specs.Faces.{doubled_area}
use Rattle.hull_model.specs.SignedFaces.{turn, turns_back}
use Rattle.hull_model.specs.Boundary.{no_area, HasArea}
use Rattle.hull_model.proofs.Balance.{area_turned}
use Rattle.hull_polyhedron.specs.Listed.{turned_unless, mirrored_triangle, is_on_centreplane, sides, wall, highest, end_wall, bottom, top, strip, strips, first_end, last_end, listed}
use Rattle.hull_polyhedron.proofs.Solids.{with_sign}
use Rattle.hull_polyhedron.proofs.Telescope.{Climbs, product_positive}
use Rattle.hull_polyhedron.proofs.Hulls.{climbs}
use Rattle.hull_polyhedron.proofs.Proper.{IsProper, IsBroad, all-append, broad_nodes, strip_proper}
use Rattle.hull_polyhedron.proofs.Outward.{over_corners, height_of, place_of, IsOutward, side, flat, end}

-- ---- a triangle or the same the other way round
signed_vector : Bool → Vector → Vector
signed_vector b v = record { x = with_sign b v.x; y = with_sign b v.y; z = with_sign b v.z }

area_unless : (b : Bool) (t : Triangle Node) → doubled_area (turned_unless b t) ≡ signed_vector b (doubled_area t)
unfolding signed_vector
area_unless true t = refl
area_unless false t = area_turned t

corners_unless : (k : Node → ℤ) (b : Bool) (t : Triangle Node) → over_corners k (turned_unless b t) ≡ over_corners k t
corners_unless k true t = refl
corners_unless k false t = ring integers (k t.a ∷ k t.b ∷ k t.c ∷ []) ((var 1 :+ var 0) :+ var 2) ((var 0 :+ var 1) :+ var 2) refl

positive_product : (a s : ℤ) {b r : ℤ} → b ≡ a → r ≡ s → pos 0 <ℤ (a *ℤ s) → pos 0 <ℤ (b *ℤ r)
positive_product a s e f h = subst (λ (n : ℤ). pos 0 <ℤ n) (sym (ap₂ ◌*ℤ◌ e f)) h

-- ---- sides
forward : (k : ℤ) (b : Bool) → int_lt k (pos 0) ≡ b → k ≢ pos 0 → pos 0 <ℤ with_sign b (neg_ℤ k)
forward (pos n) true e h = absurd (grind arith)
forward (negsuc n) true e h = omega (arith, ints)
forward (pos zero) false e h = absurd (h refl)
forward (pos (suc n)) false e h = omega (arith, ints)
forward (negsuc n) false e h = absurd (grind arith)

some_breadth : (l m n : ℤ) → (int_eq l (pos 0) && (int_eq m (pos 0) && int_eq n (pos 0))) ≡ false → pos 0 ≤ℤ l → pos 0 ≤ℤ m → pos 0 ≤ℤ n → pos 0 <ℤ ((l +ℤ m) +ℤ n)
some_breadth (negsuc l) m n e h i j = absurd (omega (arith, ints))
some_breadth (pos (suc l)) m n e h i j = omega (arith, ints)
some_breadth (pos zero) (negsuc m) n e h i j = absurd (omega (arith, ints))
some_breadth (pos zero) (pos (suc m)) n e h i j = omega (arith, ints)
some_breadth (pos zero) (pos zero) (negsuc n) e h i j = absurd (omega (arith, ints))
some_breadth (pos zero) (pos zero) (pos (suc n)) e h i j = omega (arith, ints)
some_breadth (pos zero) (pos zero) (pos zero) e h i j = absurd (grind arith)

area_y : (t : Triangle Node) → (doubled_area t).y ≡ neg_ℤ (turn t)
area_y t = ring integers (t.a.x ∷ t.a.z ∷ t.b.x ∷ t.b.z ∷ t.c.x ∷ t.c.z ∷ [])
    ((var 3 :- var 1) :* (var 4 :- var 0) :- (var 2 :- var 0) :* (var 5 :- var 1)) (opposite ((var 2 :- var 0) :* (var 5 :- var 1) :- (var 3 :- var 1) :* (var 4 :- var 0))) refl

module _ (middle : ℤ → ℤ) (centre : ℤ) where
  abbrev Outward : Triangle Node → Type 0
  Outward t = IsOutward middle centre t

  abbrev IfArea : Triangle Node → Type 0
  IfArea t = HasArea t → Outward t

  sides_outward : (t : Triangle Node) → IsProper t → AllByRecursion IfArea (sides t)
  unfolding signed_vector
  sides_outward t proper = go (is_on_centreplane t) refl
    where
      b : Bool
      b = turns_back t

      breadth : ℤ
      breadth = over_corners (λ n. n.y) t

      y_unless : (c : Bool) (u : Triangle Node) → (doubled_area u).y ≡ neg_ℤ (turn t) → (doubled_area (turned_unless c u)).y ≡ with_sign c (neg_ℤ (turn t))
      y_unless c u e = ap (λ (v : Vector). v.y) (area_unless c u) ∙ ap (with_sign c) e

      port_breadth : over_corners (λ n. n.y) (mirrored_triangle t) ≡ neg_ℤ breadth
      port_breadth = ring integers (t.a.y ∷ t.b.y ∷ t.c.y ∷ []) ((opposite (var 0) :+ opposite (var 1)) :+ opposite (var 2)) (opposite ((var 0 :+ var 1) :+ var 2)) refl

      other : (c : Bool) (m n : ℤ) → with_sign (not c) m *ℤ neg_ℤ n ≡ with_sign c m *ℤ n
      other true m n = ring integers (m ∷ n ∷ []) (opposite (var 0) :* opposite (var 1)) (var 0 :* var 1) refl
      other false m n = ring integers (m ∷ n ∷ []) (var 0 :* opposite (var 1)) (opposite (var 0) :* var 1) refl

      positive : is_on_centreplane t ≡ false → pos 0 <ℤ (with_sign b (neg_ℤ (turn t)) *ℤ breadth)
      positive e = product_positive (with_sign b (neg_ℤ (turn t))) breadth (forward (turn t) b refl proper.turns) (some_breadth t.a.y t.b.y t.c.y e proper.a proper.b proper.c)

      go : (on : Bool) → is_on_centreplane t ≡ on → AllByRecursion IfArea (if on then [] else turned_unless b t ∷ turned_unless (not b) (mirrored_triangle t) ∷ [])
      go true e = tt
      go false e = (
        (λ area. side (positive_product (with_sign b (neg_ℤ (turn t))) breadth (y_unless b t (area_y t)) (corners_unless (λ n. n.y) b t) (positive e))),
        (
          (λ area. side (positive_product (with_sign (not b) (neg_ℤ (turn t))) (neg_ℤ breadth) (y_unless (not b) (mirrored_triangle t) (area_y t))
              (corners_unless (λ n. n.y) (not b) (mirrored_triangle t) ∙ port_breadth)
              (subst (λ (n : ℤ). pos 0 <ℤ n) (sym (other b (neg_ℤ (turn t)) breadth)) (positive e)))),
          tt,
        ),
      )

  -- ---- walls
  -- the area of a triangle of a wall: along the ship dx and up dz, with the half-breadth y
  wall_area : Bool → ℤ → ℤ → ℤ → Vector
  wall_area b dx dz y = record { x = with_sign b (neg_ℤ (dz *ℤ y)); y = pos 0; z = with_sign b (dx *ℤ y) }

  module _ (p q : Node) where
    run : ℤ
    run = q.x -ℤ p.x

    rise : ℤ
    rise = q.z -ℤ p.z

    coordinates : List ℤ
    coordinates = p.x ∷ p.y ∷ p.z ∷ q.x ∷ q.y ∷ q.z ∷ []

    -- with the corners' coordinates as expressions
    minor_of : Expression → Expression → Expression → Expression → Expression → Expression → Expression
    minor_of ai bi ci aj bj cj = (bi :- ai) :* (cj :- aj) :- (bj :- aj) :* (ci :- ai)

    first_area : doubled_area (triangle (foot p) (foot q) q) ≡ wall_area true run rise q.y
    unfolding wall_area run rise coordinates minor_of
    first_area = λ i. record {
      x = (ring integers coordinates (minor_of (number 0) (number 0) (var 4) (var 2) (var 5) (var 5)) (opposite ((var 5 :- var 2) :* var 4)) refl) i;
      y = (ring integers coordinates (minor_of (var 2) (var 5) (var 5) (var 0) (var 3) (var 3)) (number 0) refl) i;
      z = (ring integers coordinates (minor_of (var 0) (var 3) (var 3) (number 0) (number 0) (var 4)) ((var 3 :- var 0) :* var 4) refl) i;
    }

    second_area : doubled_area (triangle (foot p) p q) ≡ wall_area false run rise p.y
    unfolding wall_area run rise coordinates minor_of
    second_area = λ i. record {
      x = (ring integers coordinates (minor_of (number 0) (var 1) (var 4) (var 2) (var 2) (var 5)) (opposite (opposite ((var 5 :- var 2) :* var 1))) refl) i;
      y = (ring integers coordinates (minor_of (var 2) (var 2) (var 5) (var 0) (var 0) (var 3)) (number 0) refl) i;
      z = (ring integers coordinates (minor_of (var 0) (var 0) (var 3) (number 0) (var 1) (var 4)) (opposite ((var 3 :- var 0) :* var 1)) refl) i;
    }

    third_area : doubled_area (triangle (foot p) (foot q) (mirrored q)) ≡ wall_area false run rise q.y
    unfolding wall_area run rise coordinates minor_of
    third_area = λ i. record {
      x = (ring integers coordinates (minor_of (number 0) (number 0) (opposite (var 4)) (var 2) (var 5) (var 5)) (opposite (opposite ((var 5 :- var 2) :* var 4))) refl) i;
      y = (ring integers coordinates (minor_of (var 2) (var 5) (var 5) (var 0) (var 3) (var 3)) (number 0) refl) i;
      z = (ring integers coordinates (minor_of (var 0) (var 3) (var 3) (number 0) (number 0) (opposite (var 4))) (opposite ((var 3 :- var 0) :* var 4)) refl) i;
    }

    fourth_area : doubled_area (triangle (foot p) (mirrored p) (mirrored q)) ≡ wall_area true run rise p.y
    unfolding wall_area run rise coordinates minor_of
    fourth_area = λ i. record {
      x = (ring integers coordinates (minor_of (number 0) (opposite (var 1)) (opposite (var 4)) (var 2) (var 2) (var 5)) (opposite ((var 5 :- var 2) :* var 1)) refl) i;
      y = (ring integers coordinates (minor_of (var 2) (var 2) (var 5) (var 0) (var 0) (var 3)) (number 0) refl) i;
      z = (ring integers coordinates (minor_of (var 0) (var 0) (var 3) (number 0) (opposite (var 1)) (opposite (var 4))) ((var 3 :- var 0) :* var 1) refl) i;
    }

  combined : (b : Bool) (dx dz y : ℤ) → signed_vector (not b) (wall_area false dx dz y) ≡ wall_area b dx dz y
  unfolding signed_vector wall_area
  combined true dx dz y = λ i. record { x = twice (neg_ℤ (dz *ℤ y)) i; y = pos 0; z = twice (dx *ℤ y) i }
    where
      twice : (n : ℤ) → neg_ℤ (neg_ℤ n) ≡ n
      twice n = ring integers (n ∷ []) (opposite (opposite (var 0))) (var 0) refl
  combined false dx dz y = refl

  straight : (b : Bool) (dx dz y : ℤ) → signed_vector b (wall_area true dx dz y) ≡ wall_area b dx dz y
  unfolding signed_vector wall_area
  straight true dx dz y = refl
  straight false dx dz y = refl

  -- what one triangle of a wall has: its area by the half-breadth of one end, and a sum over its corners in which one end counts twice
  record IsPart (b : Bool) (dx dz : ℤ) (p q : Node) (t : Triangle Node) : Type 0 where
    y : ℤ
    broad : pos 0 ≤ℤ y
    area : doubled_area t ≡ wall_area b dx dz y
    heights : (over_corners (height_of middle centre) t ≡ (height_of middle centre p +ℤ height_of middle centre q) +ℤ height_of middle centre q) ⊎ (over_corners (height_of middle centre) t ≡ (height_of middle centre p +ℤ height_of middle centre p) +ℤ height_of middle centre q)
    places : (over_corners (place_of middle centre) t ≡ (place_of middle centre p +ℤ place_of middle centre q) +ℤ place_of middle centre q) ⊎ (over_corners (place_of middle centre) t ≡ (place_of middle centre p +ℤ place_of middle centre p) +ℤ place_of middle centre q)

  wall_parts : (b : Bool) (p q : Node) → IsBroad p → IsBroad q → AllByRecursion (IsPart b (run p q) (rise p q) p q) (wall b p q)
  unfolding wall
  wall_parts b p q bp bq =
      let first : IsPart b (run p q) (rise p q) p q (turned_unless b (triangle (foot p) (foot q) q)) = record {
        y = q.y;
        broad = bq;
        area = area_unless b (triangle (foot p) (foot q) q) ∙ ap (signed_vector b) (first_area p q) ∙ straight b (run p q) (rise p q) q.y;
        heights = inl (corners_unless (height_of middle centre) b (triangle (foot p) (foot q) q));
        places = inl (corners_unless (place_of middle centre) b (triangle (foot p) (foot q) q));
      } in
      let second : IsPart b (run p q) (rise p q) p q (turned_unless (not b) (triangle (foot p) p q)) = record {
        y = p.y;
        broad = bp;
        area = area_unless (not b) (triangle (foot p) p q) ∙ ap (signed_vector (not b)) (second_area p q) ∙ combined b (run p q) (rise p q) p.y;
        heights = inr (corners_unless (height_of middle centre) (not b) (triangle (foot p) p q));
        places = inr (corners_unless (place_of middle centre) (not b) (triangle (foot p) p q));
      } in
      let third : IsPart b (run p q) (rise p q) p q (turned_unless (not b) (triangle (foot p) (foot q) (mirrored q))) = record {
        y = q.y;
        broad = bq;
        area = area_unless (not b) (triangle (foot p) (foot q) (mirrored q)) ∙ ap (signed_vector (not b)) (third_area p q) ∙ combined b (run p q) (rise p q) q.y;
        heights = inl (corners_unless (height_of middle centre) (not b) (triangle (foot p) (foot q) (mirrored q)));
        places = inl (corners_unless (place_of middle centre) (not b) (triangle (foot p) (foot q) (mirrored q)));
      } in
      let fourth : IsPart b (run p q) (rise p q) p q (turned_unless b (triangle (foot p) (mirrored p) (mirrored q))) = record {
        y = p.y;
        broad = bp;
        area = area_unless b (triangle (foot p) (mirrored p) (mirrored q)) ∙ ap (signed_vector b) (fourth_area p q) ∙ straight b (run p q) (rise p q) p.y;
        heights = inr (corners_unless (height_of middle centre) b (triangle (foot p) (mirrored p) (mirrored q)));
        places = inr (corners_unless (place_of middle centre) b (triangle (foot p) (mirrored p) (mirrored q)));
      } in
      (first, (second, (third, (fourth, tt))))

  -- a part of some area has a half-breadth above 0
  some_y : {b : Bool} {dx dz : ℤ} {p q : Node} {t : Triangle Node} → (part : IsPart b dx dz p q t) → HasArea t → pos 0 <ℤ part.y
  unfolding wall_area
  some_y {b} {dx} {dz} part area = above part.y part.broad (λ e. area (part.area ∙ ap (wall_area b dx dz) e ∙ nothing b))
    where
      above : (y : ℤ) → pos 0 ≤ℤ y → y ≢ pos 0 → pos 0 <ℤ y
      above (pos zero) h n = absurd (n refl)
      above (pos (suc y)) h n = omega (arith, ints)
      above (negsuc y) h n = absurd (omega (arith, ints))

      signed_nought : (b : Bool) → with_sign b (pos 0) ≡ pos 0
      signed_nought true = refl
      signed_nought false = refl

      times : (n : ℤ) → n *ℤ pos 0 ≡ pos 0
      times n = ring integers (n ∷ []) (var 0 :* number 0) (number 0) refl

      nothing : (b : Bool) → wall_area b dx dz (pos 0) ≡ no_area
      nothing b = λ i. record { x = (ap (λ n. with_sign b (neg_ℤ n)) (times dz) ∙ signed_nought b) i; y = pos 0; z = (ap (with_sign b) (times dx) ∙ signed_nought b) i }

  sign_product : (b : Bool) (m n : ℤ) → pos 0 <ℤ m → pos 0 <ℤ with_sign b n → pos 0 <ℤ (with_sign b m *ℤ n)
  sign_product true m n h k = product_positive m n h k
  sign_product false m n h k = subst (λ (s : ℤ). pos 0 <ℤ s) (ring integers (m ∷ n ∷ []) (var 0 :* opposite (var 1)) (opposite (var 0) :* var 1) refl) (product_positive m (neg_ℤ n) h k)

  twice_one : (b : Bool) (m n : ℤ) → pos 0 ≤ℤ with_sign b m → pos 0 ≤ℤ with_sign b n → pos 0 <ℤ with_sign b (m +ℤ n) → (pos 0 <ℤ with_sign b ((m +ℤ n) +ℤ n)) × (pos 0 <ℤ with_sign b ((m +ℤ m) +ℤ n))
  twice_one true m n h k s = (omega (arith, ints), omega (arith, ints))
  twice_one false m n h k s = (omega (arith, ints), omega (arith, ints))

  flat_part : {b : Bool} {dx dz : ℤ} {p q : Node} (t : Triangle Node) → IsPart b dx dz p q t → pos 0 <ℤ dx → pos 0 ≤ℤ with_sign b (height_of middle centre p) → pos 0 ≤ℤ with_sign b (height_of middle centre q)
      → pos 0 <ℤ with_sign b (height_of middle centre p +ℤ height_of middle centre q) → IfArea t
  unfolding wall_area
  flat_part {b} {dx} {dz} {p} {q} t part less h k s area = flat (ap (λ (v : Vector). v.y) part.area) (go part.heights)
    where
      both : (pos 0 <ℤ with_sign b ((height_of middle centre p +ℤ height_of middle centre q) +ℤ height_of middle centre q)) × (pos 0 <ℤ with_sign b ((height_of middle centre p +ℤ height_of middle centre p) +ℤ height_of middle centre q))
      both = twice_one b (height_of middle centre p) (height_of middle centre q) h k s

      wide : pos 0 <ℤ (dx *ℤ part.y)
      wide = product_positive dx part.y less (some_y part area)

      go : (over_corners (height_of middle centre) t ≡ (height_of middle centre p +ℤ height_of middle centre q) +ℤ height_of middle centre q) ⊎ (over_corners (height_of middle centre) t ≡ (height_of middle centre p +ℤ height_of middle centre p) +ℤ height_of middle centre q)
          → pos 0 <ℤ ((doubled_area t).z *ℤ over_corners (height_of middle centre) t)
      go (inl e) = positive_product (with_sign b (dx *ℤ part.y)) _ (ap (λ (v : Vector). v.z) part.area) e (sign_product b (dx *ℤ part.y) _ wide both.0)
      go (inr e) = positive_product (with_sign b (dx *ℤ part.y)) _ (ap (λ (v : Vector). v.z) part.area) e (sign_product b (dx *ℤ part.y) _ wide both.1)

  -- at an end, place is before or after the middle of the ship
  end_part : {b : Bool} {dx dz : ℤ} {p q : Node} (t : Triangle Node) → IsPart b dx dz p q t → dx ≡ pos 0 → pos 0 <ℤ dz → place_of middle centre q ≡ place_of middle centre p
      → pos 0 <ℤ with_sign b (neg_ℤ (place_of middle centre p)) → IfArea t
  unfolding wall_area
  end_part {b} {dx} {dz} {p} {q} t part across up same before area = end (ap (λ (v : Vector). v.y) part.area) (ap (λ (v : Vector). v.z) part.area ∙ ap (λ n. with_sign b (n *ℤ part.y)) across ∙ none b) (go part.places)
    where
      none : (b : Bool) → with_sign b (pos 0 *ℤ part.y) ≡ pos 0
      none true = ring integers (part.y ∷ []) (number 0 :* var 0) (number 0) refl
      none false = ring integers (part.y ∷ []) (opposite (number 0 :* var 0)) (number 0) refl

      m : ℤ
      m = place_of middle centre p

      tall : pos 0 <ℤ (dz *ℤ part.y)
      tall = product_positive dz part.y up (some_y part area)

      thrice : (b : Bool) (m : ℤ) → pos 0 <ℤ with_sign b (neg_ℤ m) → pos 0 <ℤ with_sign b (neg_ℤ ((m +ℤ m) +ℤ m))
      thrice true m h = omega (arith, ints)
      thrice false m h = omega (arith, ints)

      moved : (b : Bool) (k n : ℤ) → with_sign b k *ℤ neg_ℤ n ≡ with_sign b (neg_ℤ k) *ℤ n
      moved true k n = ring integers (k ∷ n ∷ []) (var 0 :* opposite (var 1)) (opposite (var 0) :* var 1) refl
      moved false k n = ring integers (k ∷ n ∷ []) (opposite (var 0) :* opposite (var 1)) (opposite (opposite (var 0)) :* var 1) refl

      above : pos 0 <ℤ (with_sign b (neg_ℤ (dz *ℤ part.y)) *ℤ ((m +ℤ m) +ℤ m))
      above = subst (λ (s : ℤ). pos 0 <ℤ s) (moved b (dz *ℤ part.y) ((m +ℤ m) +ℤ m)) (sign_product b (dz *ℤ part.y) (neg_ℤ ((m +ℤ m) +ℤ m)) tall (thrice b m before))

      go : (over_corners (place_of middle centre) t ≡ (m +ℤ place_of middle centre q) +ℤ place_of middle centre q) ⊎ (over_corners (place_of middle centre) t ≡ (m +ℤ m) +ℤ place_of middle centre q)
          → pos 0 <ℤ ((doubled_area t).x *ℤ over_corners (place_of middle centre) t)
      go (inl e) = positive_product (with_sign b (neg_ℤ (dz *ℤ part.y))) ((m +ℤ m) +ℤ m) (ap (λ (v : Vector). v.x) part.area) (e ∙ ap (λ n. (m +ℤ n) +ℤ n) same) above
      go (inr e) = positive_product (with_sign b (neg_ℤ (dz *ℤ part.y))) ((m +ℤ m) +ℤ m) (ap (λ (v : Vector). v.x) part.area) (e ∙ ap (λ n. (m +ℤ m) +ℤ n) same) above

  mapped : {P Q : Triangle Node → Type 0} → ((t : Triangle Node) → P t → Q t) → (ts : List (Triangle Node)) → AllByRecursion P ts → AllByRecursion Q ts
  mapped f [] all = tt
  mapped f (t ∷ ts) all = (f t all.0, mapped f ts all.1)

  flat_wall : (b : Bool) (p q : Node) → IsBroad p → IsBroad q → p.x <ℤ q.x → pos 0 ≤ℤ with_sign b (height_of middle centre p) → pos 0 ≤ℤ with_sign b (height_of middle centre q)
      → pos 0 <ℤ with_sign b (height_of middle centre p +ℤ height_of middle centre q) → AllByRecursion IfArea (wall b p q)
  unfolding run
  flat_wall b p q bp bq less h k s = mapped (λ t part. flat_part t part (difference less) h k s) (wall b p q) (wall_parts b p q bp bq)
    where
      difference : {m n : ℤ} → m <ℤ n → pos 0 <ℤ (n -ℤ m)
      difference h = omega (arith, ints)

  upright_wall : (b : Bool) (p q : Node) → IsBroad p → IsBroad q → q.x ≡ p.x → p.z <ℤ q.z → pos 0 <ℤ with_sign b (neg_ℤ (place_of middle centre p)) → AllByRecursion IfArea (wall b p q)
  unfolding run rise
  upright_wall b p q bp bq e less before = mapped (λ t part. end_part t part (nothing e) (difference less) (ap (λ x. (x +ℤ x) -ℤ centre) e) before) (wall b p q) (wall_parts b p q bp bq)
    where
      difference : {m n : ℤ} → m <ℤ n → pos 0 <ℤ (n -ℤ m)
      difference h = omega (arith, ints)

      nothing : {m n : ℤ} → n ≡ m → n -ℤ m ≡ pos 0
      nothing e = omega (arith, ints)

  -- ---- chains
  highest_broad : (p : Node) (rest : List Node) → IsBroad p → AllByRecursion IsBroad rest → IsBroad (highest p rest)
  highest_broad p [] bp all = bp
  highest_broad p (q ∷ rest) bp all = highest_broad q rest all.0 all.1

  highest_x : (p : Node) (rest : List Node) → Climbs p rest → (highest p rest).x ≡ p.x
  highest_x p [] climbs = refl
  highest_x p (q ∷ rest) climbs = highest_x q rest climbs.2 ∙ climbs.0

  highest_z : (p : Node) (rest : List Node) → Climbs p rest → p.z ≤ℤ (highest p rest).z
  highest_z p [] climbs = same p.z
    where
      same : (n : ℤ) → n ≤ℤ n
      same n = omega (arith, ints)
  highest_z p (q ∷ rest) climbs = later climbs.1 (highest_z q rest climbs.2)
    where
      later : {l m n : ℤ} → l <ℤ m → m ≤ℤ n → l ≤ℤ n
      later h k = omega (arith, ints)

  higher : (p : Node) (rest : List Node) → Climbs p rest → 1 ≤ length rest → p.z <ℤ (highest p rest).z
  higher p [] climbs some = absurd (omega arith)
  higher p (q ∷ rest) climbs some = later climbs.1 (highest_z q rest climbs.2)
    where
      later : {l m n : ℤ} → l <ℤ m → m ≤ℤ n → l <ℤ n
      later h k = omega (arith, ints)

  end_outward : (b : Bool) (p : Node) (rest : List Node) → IsBroad p → AllByRecursion IsBroad rest → Climbs p rest → pos 0 <ℤ with_sign b (neg_ℤ (place_of middle centre p)) → AllByRecursion IfArea (end_wall b (p ∷ rest))
  end_outward b p [] bp all climbs before = tt
  end_outward b p (q ∷ rest) bp all climbs before = all-append IfArea (wall b p q) (end_wall b (q ∷ rest)) (upright_wall b p q bp all.0 climbs.0 climbs.1 before)
      (end_outward b q rest all.0 all.1 climbs.2 (subst (λ (x : ℤ). pos 0 <ℤ with_sign b (neg_ℤ ((x +ℤ x) -ℤ centre))) (sym climbs.0) before))

  -- the middle of a station is halfway between its lowest and its highest node
  abbrev pub IsMiddle : Node → List Node → Type 0
  IsMiddle p rest = middle p.x ≡ p.z +ℤ (highest p rest).z

  bottom_outward : (p q : Node) (aft fore : List Node) → IsBroad p → IsBroad q → Climbs p aft → Climbs q fore → p.x <ℤ q.x → IsMiddle p aft → IsMiddle q fore
      → (1 ≤ length aft) ⊎ (1 ≤ length fore) → AllByRecursion IfArea (wall false p q)
  bottom_outward p q aft fore bp bq up up' less m m' some = flat_wall false p q bp bq less (low m (highest_z p aft up)) (low m' (highest_z q fore up')) (go some)
    where
      low : {z h n : ℤ} → n ≡ z +ℤ h → z ≤ℤ h → pos 0 ≤ℤ neg_ℤ ((z +ℤ z) -ℤ n)
      low e k = omega (arith, ints)

      first : {z h n z' h' n' : ℤ} → n ≡ z +ℤ h → z <ℤ h → n' ≡ z' +ℤ h' → z' ≤ℤ h' → pos 0 <ℤ neg_ℤ (((z +ℤ z) -ℤ n) +ℤ ((z' +ℤ z') -ℤ n'))
      first e k e' k' = omega (arith, ints)

      second : {z h n z' h' n' : ℤ} → n ≡ z +ℤ h → z ≤ℤ h → n' ≡ z' +ℤ h' → z' <ℤ h' → pos 0 <ℤ neg_ℤ (((z +ℤ z) -ℤ n) +ℤ ((z' +ℤ z') -ℤ n'))
      second e k e' k' = omega (arith, ints)

      go : (1 ≤ length aft) ⊎ (1 ≤ length fore) → pos 0 <ℤ neg_ℤ (height_of middle centre p +ℤ height_of middle centre q)
      go (inl s) = first m (higher p aft up s) m' (highest_z q fore up')
      go (inr s) = second m (highest_z p aft up) m' (higher q fore up' s)

  top_outward : (p q : Node) (aft fore : List Node) → IsBroad p → IsBroad q → AllByRecursion IsBroad aft → AllByRecursion IsBroad fore → Climbs p aft → Climbs q fore → p.x <ℤ q.x → IsMiddle p aft → IsMiddle q fore
      → (1 ≤ length aft) ⊎ (1 ≤ length fore) → AllByRecursion IfArea (wall true (highest p aft) (highest q fore))
  top_outward p q aft fore bp bq all all' up up' less m m' some = flat_wall true (highest p aft) (highest q fore) (highest_broad p aft bp all) (highest_broad q fore bq all') (moved (highest_x p aft up) (highest_x q fore up') less)
      (high (ap middle (highest_x p aft up) ∙ m) (highest_z p aft up)) (high (ap middle (highest_x q fore up') ∙ m') (highest_z q fore up')) (go some)
    where
      moved : {a b c d : ℤ} → a ≡ b → c ≡ d → b <ℤ d → a <ℤ c
      moved e f h = omega (arith, ints)

      high : {z h n : ℤ} → n ≡ z +ℤ h → z ≤ℤ h → pos 0 ≤ℤ ((h +ℤ h) -ℤ n)
      high e k = omega (arith, ints)

      first : {z h n z' h' n' : ℤ} → n ≡ z +ℤ h → z <ℤ h → n' ≡ z' +ℤ h' → z' ≤ℤ h' → pos 0 <ℤ (((h +ℤ h) -ℤ n) +ℤ ((h' +ℤ h') -ℤ n'))
      first e k e' k' = omega (arith, ints)

      second : {z h n z' h' n' : ℤ} → n ≡ z +ℤ h → z ≤ℤ h → n' ≡ z' +ℤ h' → z' <ℤ h' → pos 0 <ℤ (((h +ℤ h) -ℤ n) +ℤ ((h' +ℤ h') -ℤ n'))
      second e k e' k' = omega (arith, ints)

      go : (1 ≤ length aft) ⊎ (1 ≤ length fore) → pos 0 <ℤ (height_of middle centre (highest p aft) +ℤ height_of middle centre (highest q fore))
      go (inl s) = first (ap middle (highest_x p aft up) ∙ m) (higher p aft up s) (ap middle (highest_x q fore up') ∙ m') (highest_z q fore up')
      go (inr s) = second (ap middle (highest_x p aft up) ∙ m) (highest_z p aft up) (ap middle (highest_x q fore up') ∙ m') (higher q fore up' s)

  all_sides : (ts : List (Triangle Node)) → AllByRecursion IsProper ts → AllByRecursion IfArea (flat_map sides ts)
  all_sides [] proper = tt
  all_sides (t ∷ ts) proper = all-append IfArea (sides t) (flat_map sides ts) (sides_outward t proper.0) (all_sides ts proper.1)

  -- ---- stations
  abbrev pub HasMiddle : Station → Type 0
  HasMiddle s = (p : Point) (points : List Point) → s.points ≡ p ∷ points → IsMiddle (node_at s.x p) (map (node_at s.x) points)

  walls_of_strip : (x y : ℤ) (os ps : List Point) → AllByRecursion IsPoint os → AllByRecursion IsPoint ps → Rises (λ p. p.z) os → Rises (λ p. p.z) ps → x <ℤ y
      → ((p : Point) (points : List Point) → os ≡ p ∷ points → IsMiddle (node_at x p) (map (node_at x) points))
      → ((p : Point) (points : List Point) → ps ≡ p ∷ points → IsMiddle (node_at y p) (map (node_at y) points))
      → (2 ≤ length os) ⊎ (2 ≤ length ps)
      → AllByRecursion IfArea (bottom (map (node_at x) os) (map (node_at y) ps)) × AllByRecursion IfArea (top (map (node_at x) os) (map (node_at y) ps))
  walls_of_strip x y [] ps all all' rises rises' less m m' some = (tt, tt)
  walls_of_strip x y (o ∷ os) [] all all' rises rises' less m m' some = (tt, tt)
  walls_of_strip x y (o ∷ os) (p ∷ ps) all all' rises rises' less m m' some =
      let up : Climbs (node_at x o) (map (node_at x) os) = climbs x o os rises in
      let up' : Climbs (node_at y p) (map (node_at y) ps) = climbs y p ps rises' in (
        bottom_outward (node_at x o) (node_at y p) (map (node_at x) os) (map (node_at y) ps) all.0.breadth.0 all'.0.breadth.0 up up' less (m o os refl) (m' p ps refl) (fewer some),
        top_outward (node_at x o) (node_at y p) (map (node_at x) os) (map (node_at y) ps) all.0.breadth.0 all'.0.breadth.0 (broad_nodes x os all.1) (broad_nodes y ps all'.1) up up' less (m o os refl) (m' p ps refl) (fewer some),
      )
    where
      one_less : {A B : Type 0} (f : A → B) (xs : List A) → 2 ≤ suc (length xs) → 1 ≤ length (map f xs)
      one_less f [] h = absurd (omega arith)
      one_less f (x ∷ xs) h = omega arith

      fewer : (2 ≤ suc (length os)) ⊎ (2 ≤ suc (length ps)) → (1 ≤ length (map (node_at x) os)) ⊎ (1 ≤ length (map (node_at y) ps))
      fewer (inl h) = inl (one_less (node_at x) os h)
      fewer (inr h) = inr (one_less (node_at y) ps h)

  strip_outward : (s t : Station) → IsStation s → IsStation t → s.x <ℤ t.x → HasMiddle s → HasMiddle t → (2 ≤ length s.points) ⊎ (2 ≤ length t.points) → AllByRecursion IfArea (strip s t)
  strip_outward s t aft fore less m m' some =
      let walls = walls_of_strip s.x t.x s.points t.points aft.limits fore.limits aft.heights_rise fore.heights_rise less m m' some in
      all-append IfArea (flat_map sides (between_stations s t) ++ bottom (chain s) (chain t)) (top (chain s) (chain t))
      (all-append IfArea (flat_map sides (between_stations s t)) (bottom (chain s) (chain t)) (all_sides (between_stations s t) (strip_proper s t aft fore less)) walls.0) walls.1

  -- of each two neighbouring stations one has two points at least
  pub HasStrips : List Station → Type 0
  HasStrips [] = Unit {0}
  HasStrips (s ∷ []) = Unit {0}
  HasStrips (s ∷ t ∷ rest) = ((2 ≤ length s.points) ⊎ (2 ≤ length t.points)) × HasStrips (t ∷ rest)

  strips_outward : (stations : List Station) → AllByRecursion IsStation stations → Rises (λ s. s.x) stations → AllByRecursion HasMiddle stations → HasStrips stations → AllByRecursion IfArea (strips stations)
  unfolding HasStrips
  strips_outward [] each rises middles some = tt
  strips_outward (s ∷ []) each rises middles some = tt
  strips_outward (s ∷ t ∷ rest) each rises middles some = all-append IfArea (strip s t) (strips (t ∷ rest))
      (strip_outward s t each.0 each.1.0 rises.0 middles.0 middles.1.0 some.0) (strips_outward (t ∷ rest) each.1 rises.1 middles.1 some.1)

  station_end : (b : Bool) (x : ℤ) (points : List Point) → AllByRecursion IsPoint points → Rises (λ p. p.z) points → pos 0 <ℤ with_sign b (neg_ℤ ((x +ℤ x) -ℤ centre)) → AllByRecursion IfArea (end_wall b (map (node_at x) points))
  station_end b x [] all rises before = tt
  station_end b x (p ∷ points) all rises before = end_outward b (node_at x p) (map (node_at x) points) all.0.breadth.0 (broad_nodes x points all.1) (climbs x p points rises) before

  first_outward : (stations : List Station) → AllByRecursion IsStation stations → (first_x stations +ℤ first_x stations) <ℤ centre → AllByRecursion IfArea (first_end stations)
  first_outward [] each before = tt
  first_outward (s ∷ rest) each before = station_end true s.x s.points each.0.limits each.0.heights_rise (turn_about before)
    where
      turn_about : {m n : ℤ} → m <ℤ n → pos 0 <ℤ neg_ℤ (m -ℤ n)
      turn_about h = omega (arith, ints)

  last_outward : (stations : List Station) → AllByRecursion IsStation stations → centre <ℤ (last_x stations +ℤ last_x stations) → AllByRecursion IfArea (last_end stations)
  last_outward [] each after = tt
  last_outward (s ∷ []) each after = station_end false s.x s.points each.0.limits each.0.heights_rise (twice after)
    where
      twice : {m n : ℤ} → n <ℤ m → pos 0 <ℤ neg_ℤ (neg_ℤ (m -ℤ n))
      twice h = omega (arith, ints)
  last_outward (s ∷ t ∷ rest) each after = last_outward (t ∷ rest) each.1 after

  pub listed_outward : (stations : List Station) → AllByRecursion IsStation stations → Rises (λ s. s.x) stations → AllByRecursion HasMiddle stations → HasStrips stations
      → (first_x stations +ℤ first_x stations) <ℤ centre → centre <ℤ (last_x stations +ℤ last_x stations) → AllByRecursion IfArea (listed stations)
  listed_outward stations each rises middles some before after = all-append IfArea (first_end stations ++ strips stations) (last_end stations)
      (all-append IfArea (first_end stations) (strips stations) (first_outward stations each before) (strips_outward stations each rises middles some)) (last_outward stations each after)

-- ---- the middle of each station of a hull, by its place
span_of : List Point → ℤ
span_of [] = pos 0
span_of (p ∷ points) = p.z +ℤ (highest (node_at (pos 0) p) (map (node_at (pos 0)) points)).z

pub middle_of : List Station → ℤ → ℤ
middle_of [] x = pos 0
middle_of (s ∷ stations) x = if int_eq s.x x then span_of s.points else middle_of stations x

-- the height of the highest node doesn't depend on the place
same_height : (x y : ℤ) (p : Point) (points : List Point) → (highest (node_at x p) (map (node_at x) points)).z ≡ (highest (node_at y p) (map (node_at y) points)).z
same_height x y p [] = refl
same_height x y p (q ∷ points) = same_height x y q points

here : (s : Station) (stations : List Station) → middle_of (s ∷ stations) s.x ≡ span_of s.points
unfolding middle_of
here s stations = go (int_eq s.x s.x) (self s.x)
  where
    self : (n : ℤ) → int_eq n n ≡ true
    self n = grind arith

    go : (b : Bool) → b ≡ true → (if b then span_of s.points else middle_of stations s.x) ≡ span_of s.points
    go true e = refl
    go false e = absurd (grind arith)

further_on : (s : Station) (stations : List Station) (x : ℤ) → s.x <ℤ x → middle_of (s ∷ stations) x ≡ middle_of stations x
unfolding middle_of
further_on s stations x less = go (int_eq s.x x) (differ s.x x less)
  where
    differ : (m n : ℤ) → m <ℤ n → int_eq m n ≡ false
    differ m n h = grind arith

    go : (b : Bool) → b ≡ false → (if b then span_of s.points else middle_of stations x) ≡ middle_of stations x
    go true e = absurd (grind arith)
    go false e = refl

spans : (x : ℤ) (points : List Point) (n : ℤ) → n ≡ span_of points → (p : Point) (rest : List Point) → points ≡ p ∷ rest → n ≡ p.z +ℤ (highest (node_at x p) (map (node_at x) rest)).z
unfolding span_of
spans x points n e p rest f = e ∙ ap span_of f ∙ ap (λ z. p.z +ℤ z) (same_height (pos 0) x p rest)

-- all stations after one lie fore of it
all_fore : (s : Station) (stations : List Station) → Rises (λ s. s.x) (s ∷ stations) → AllByRecursion (λ (t : Station). s.x <ℤ t.x) stations
all_fore s [] rises = tt
all_fore s (t ∷ stations) rises = (rises.0, raised stations (all_fore t stations rises.1))
  where
    trans : {l m n : ℤ} → l <ℤ m → m <ℤ n → l <ℤ n
    trans h k = omega (arith, ints)

    raised : (us : List Station) → AllByRecursion (λ (u : Station). t.x <ℤ u.x) us → AllByRecursion (λ (u : Station). s.x <ℤ u.x) us
    raised [] all = tt
    raised (u ∷ us) all = (trans rises.0 all.0, raised us all.1)

middles_kept : (s : Station) (stations us : List Station) (centre : ℤ) → AllByRecursion (λ (u : Station). s.x <ℤ u.x) us → AllByRecursion (HasMiddle (middle_of stations) centre) us → AllByRecursion (HasMiddle (middle_of (s ∷ stations)) centre) us
middles_kept s stations [] centre fore all = tt
middles_kept s stations (u ∷ us) centre fore all = ((λ p points e. further_on s stations u.x fore.0 ∙ all.0 p points e), middles_kept s stations us centre fore.1 all.1)

rises_after : (s : Station) (stations : List Station) → Rises (λ s. s.x) (s ∷ stations) → Rises (λ s. s.x) stations
rises_after s [] rises = tt
rises_after s (t ∷ stations) rises = rises.1

pub have_middles : (stations : List Station) (centre : ℤ) → Rises (λ s. s.x) stations → AllByRecursion (HasMiddle (middle_of stations) centre) stations
have_middles [] centre rises = tt
have_middles (s ∷ stations) centre rises = (
  (λ p points e. spans s.x s.points (middle_of (s ∷ stations) s.x) (here s stations) p points e),
  middles_kept s stations stations centre (all_fore s stations rises) (have_middles stations centre (rises_after s stations rises)),
)

-- ---- of each two neighbouring stations of a hull one has two points
-- all stations but the last have two points
pub AllButLast : List Station → Type 0
AllButLast [] = Unit {0}
AllButLast (s ∷ []) = Unit {0}
AllButLast (s ∷ t ∷ rest) = (2 ≤ length s.points) × AllButLast (t ∷ rest)

from_taken : (s : Station) (stations : List Station) → AllByRecursion (λ (s : Station). 2 ≤ length s.points) (take (length stations) (s ∷ stations)) → AllButLast (s ∷ stations)
unfolding AllButLast
from_taken s [] all = tt
from_taken s (t ∷ rest) all = (all.0, from_taken t rest all.1)

strips_of_rest : (middle : ℤ → ℤ) (centre : ℤ) (stations : List Station) → AllButLast stations → HasStrips middle centre stations
unfolding AllButLast HasStrips
strips_of_rest middle centre [] all = tt
strips_of_rest middle centre (s ∷ []) all = tt
strips_of_rest middle centre (s ∷ t ∷ rest) all = (inl all.0, strips_of_rest middle centre (t ∷ rest) all.1)

strips_of_all : (middle : ℤ → ℤ) (centre : ℤ) (s t u : Station) (rest : List Station) → AllButLast (t ∷ u ∷ rest) → HasStrips middle centre (s ∷ t ∷ u ∷ rest)
unfolding AllButLast HasStrips
strips_of_all middle centre s t u rest all = (inr all.0, strips_of_rest middle centre (t ∷ u ∷ rest) all)

pub hull_strips : (middle : ℤ → ℤ) (centre : ℤ) (stations : List Station) → IsHull stations → HasStrips middle centre stations
hull_strips middle centre [] hull = absurd (three hull.some)
  where
    three : 3 ≤ 0 → ⊥
    three h = omega arith
hull_strips middle centre (s ∷ []) hull = absurd (three hull.some)
  where
    three : 3 ≤ 1 → ⊥
    three h = omega arith
hull_strips middle centre (s ∷ t ∷ []) hull = absurd (three hull.some)
  where
    three : 3 ≤ 2 → ⊥
    three h = omega arith
hull_strips middle centre (s ∷ t ∷ u ∷ rest) hull = strips_of_all middle centre s t u rest (from_taken t (u ∷ rest) (subst (λ n. AllByRecursion (λ (s : Station). 2 ≤ length s.points) (take n (t ∷ u ∷ rest))) (two_less (length rest)) hull.strips))
  where
    two_less : (n : ℕ) → suc (suc (suc n)) - 1 - 1 ≡ suc n
    two_less n = omega arith

-- ---- the ends
first_before_last : (s t : Station) (rest : List Station) → Rises (λ s. s.x) (s ∷ t ∷ rest) → s.x <ℤ last_x (s ∷ t ∷ rest)
first_before_last s t [] rises = rises.0
first_before_last s t (u ∷ rest) rises = trans rises.0 (first_before_last t u rest rises.1)
  where
    trans : {l m n : ℤ} → l <ℤ m → m <ℤ n → l <ℤ n
    trans h k = omega (arith, ints)

pub ends_apart : (stations : List Station) → IsHull stations → first_x stations <ℤ last_x stations
ends_apart [] hull = absurd (three hull.some)
  where
    three : 3 ≤ 0 → ⊥
    three h = omega arith
ends_apart (s ∷ []) hull = absurd (three hull.some)
  where
    three : 3 ≤ 1 → ⊥
    three h = omega arith
ends_apart (s ∷ t ∷ rest) hull = first_before_last s t rest hull.places_rise

-- ---- each listed triangle of some area points outwards
pub hull_outward : (stations : List Station) → IsHull stations → AllByRecursion (λ t. HasArea t → IsOutward (middle_of stations) (first_x stations +ℤ last_x stations) t) (listed stations)
hull_outward stations hull = listed_outward (middle_of stations) (first_x stations +ℤ last_x stations) stations hull.each hull.places_rise
    (have_middles stations (first_x stations +ℤ last_x stations) hull.places_rise) (hull_strips (middle_of stations) (first_x stations +ℤ last_x stations) stations hull) (before (ends_apart stations hull)) (after (ends_apart stations hull))
  where
    before : {m n : ℤ} → m <ℤ n → (m +ℤ m) <ℤ (m +ℤ n)
    before h = omega (arith, ints)

    after : {m n : ℤ} → m <ℤ n → (m +ℤ n) <ℤ (n +ℤ n)
    after h = omega (arith, ints)
