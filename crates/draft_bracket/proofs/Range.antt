-- The volume at the ends of the range: nothing at the bottom, and all of the hull at the top.
use Rattle.std.proofs.Common.{◌≡◌, ◌≢◌, ◌∙◌, refl, sym, ap, List, [], ◌∷◌, ℕ, ◌≤◌, ℤ, pos, neg_ℤ, ◌+ℤ◌, ◌*ℤ◌, ◌≤ℤ◌, arith}
use Rattle.std.proofs.lemmas.Int.{ints}
use Rattle.std.specs.List.{AllByRecursion}
use Rattle.exact_algebra.specs.Expression.{var, unit, number, ◌:+◌, ◌:-◌, ◌:*◌, opposite}
use Rattle.exact_algebra.specs.OrderedField.{below, above}
use Rattle.exact_algebra.proofs.Bounds as Bounds
use Rattle.exact_algebra.proofs.Fraction.{Fraction, nought, one, ◌⊕◌, ◌⊗◌, ◌⊖◌, negative, inverse, sign, fractions, fraction_ring, ◌≼◌}
use Rattle.exact_algebra.proofs.Order as Order
use Rattle.exact_algebra.proofs.Order.{order_from, no_more, at_most, scaled, equal}
use Rattle.exact_algebra.proofs.Ring.{ring}
use Rattle.exact_algebra.proofs.Span.{positive-unit}
use Rattle.exact_algebra.proofs.Whole.{whole, whole-nought, whole-add, whole-negative, whole-mul, whole-≼, positive-whole, nonnegative-whole}
use Rattle.angle_bounds.proofs.Squares.{legs}
use Rattle.hull_model.specs.declared.node.Node.{Node}
use Rattle.hull_model.specs.Submerged.{first_x, last_x, submerged_volume}
use Rattle.hull_model.specs.Tetrahedra.{hull_tetrahedra}
use Rattle.hull_model.specs.Waterplane.{position_of, part_of_length, level_at, height}
use Rattle.hull_polyhedron.specs.declared.faces.Faces.{Faces}
use Rattle.hull_polyhedron.specs.Between.{IsInside}
use Rattle.hull_polyhedron.specs.Columns.{depth}
use Rattle.hull_polyhedron.proofs.DryAndWet.{nothing_submerged, all_submerged}
use Rattle.hull_polyhedron.proofs.HullCorners.{hull_inside}
use Rattle.hull_polyhedron.proofs.Uncut.{uncut_volume}
use Rattle.plane_clip.specs.Enclosure.{in_unit}
use Rattle.flux_moments.proofs.MeanWidths.{in_unit-in}
use Rattle.hull_model.specs.LevelPlanes.{Direction}
use Rattle.draft_bracket.specs.GridLevels.{grid_plane, volume_at, bottom_of, top_of}
use Rattle.draft_bracket.specs.DraftBracket.{OfHulls, six_of}

-- ---- levels in mm
in_mm : (z x : ℤ) → z ≡ pos 1024 *ℤ x → in_unit 10 z ≡ whole x
in_mm z x e = Order.mul_cancel fractions (Order.not_nought fractions (positive-unit 10))
    (in_unit-in 10 z ∙ ap whole e ∙ whole-mul (pos 1024) x ∙ ring fraction_ring (whole (pos 1024) ∷ whole x ∷ []) (var 0 :* var 1) (var 1 :* var 0) refl)

bottom-mm : (faces : Faces) → in_unit 10 (bottom_of faces) ≡ negative (whole faces.half_breadth)
bottom-mm faces = in_mm (bottom_of faces) (neg_ℤ faces.half_breadth) (turned faces.half_breadth) ∙ whole-negative faces.half_breadth
  where
    turned : (y : ℤ) → neg_ℤ (pos 1024 *ℤ y) ≡ pos 1024 *ℤ neg_ℤ y
    turned y = omega (arith, ints)

top-mm : (faces : Faces) → in_unit 10 (top_of faces) ≡ whole faces.high_z ⊕ whole faces.half_breadth
top-mm faces = in_mm (top_of faces) (faces.high_z +ℤ faces.half_breadth) refl ∙ whole-add faces.high_z faces.half_breadth

-- ---- the depth at a level plane
not_above : (x : Fraction) → x ≼ nought → sign x ≢ above
not_above x h e = Order.≺-not_≼ fractions (Order.positive_same fractions (ring fraction_ring (x ∷ []) (var 0 :- number 0) (var 0) refl) e) h

at_nought : {a : ℤ} → pos 0 ≤ℤ a → nought ≼ whole a
at_nought h = Order.≼_trans fractions (Order.≼_same fractions (sym whole-nought)) (whole-≼ h)

module _ (d : Direction) (at : ℤ) (first last : ℤ) where
  abbrev c : Fraction
  c = whole (pos d.c)

  abbrev s : Fraction
  s = whole (pos d.s)

  abbrev i : Fraction
  i = inverse (whole (pos d.r))

  abbrev depth_of : Node → Fraction
  depth_of n = depth (grid_plane d at) first last (position_of n)

  depth-level : (n : Node) → depth_of n ≡ in_unit 10 at ⊖ (c ⊗ whole n.z ⊕ s ⊗ whole n.y) ⊗ i
  unfolding level_at height
  depth-level n = ring fraction_ring (part_of_length (grid_plane d at) first last (whole n.x) ∷ in_unit 10 at ∷ c ∷ s ∷ i ∷ whole n.y ∷ whole n.z ∷ [])
      (((unit :- var 0) :* var 1 :+ var 0 :* var 1) :- (var 2 :* var 6 :+ var 3 :* var 5) :* var 4)
      (var 1 :- (var 2 :* var 6 :+ var 3 :* var 5) :* var 4) refl

  inverse_is : sign i ≢ below
  inverse_is = Order.nonnegative_positive fractions (Bounds.positive-inverse fractions (positive-whole d.r d.positive))

  cosine_is : sign (c ⊗ i) ≢ below
  cosine_is = Order.nonnegative-mul fractions (nonnegative-whole d.c) inverse_is

  sine_is : sign (s ⊗ i) ≢ below
  sine_is = Order.nonnegative-mul fractions (nonnegative-whole d.s) inverse_is

  leg : (n : ℕ) → n ≤ d.r → whole (pos n) ⊗ i ≼ one
  leg n h = Bounds.quotient-≼ fractions (positive-whole d.r d.positive) (Order.≼_trans fractions (whole-≼ (as_whole n d.r h))
      (Order.≼_same fractions (ring fraction_ring (whole (pos d.r) ∷ []) (var 0) (unit :* var 0) refl)))
    where
      as_whole : (m n : ℕ) → m ≤ n → pos m ≤ℤ pos n
      as_whole m n h = omega (arith, ints)

  cosine_at_most : c ⊗ i ≼ one
  cosine_at_most = leg d.c (legs d.c d.s d.r d.round).0

  sine_at_most : s ⊗ i ≼ one
  sine_at_most = leg d.s (legs d.c d.s d.r d.round).1

  module _ (half_breadth high : ℤ) (broad : pos 0 ≤ℤ half_breadth) (above_base : pos 0 ≤ℤ high) where
    abbrev values : Node → List Fraction
    values n = in_unit 10 at ∷ c ∷ s ∷ i ∷ whole n.y ∷ whole n.z ∷ whole half_breadth ∷ whole high ∷ []

    dry : in_unit 10 at ≡ negative (whole half_breadth) → (n : Node) → IsInside half_breadth high n → sign (depth_of n) ≢ above
    dry e n inside = not_above (depth_of n) (Order.≼_trans fractions (Order.≼_same fractions (depth-level n)) (order_from fractions (values n)
        ((unit, var 0, opposite (var 6)) ∷ (var 2 :* var 3, opposite (var 6), var 4) ∷ (var 1 :* var 3, number 0, var 5) ∷ (var 6, var 2 :* var 3, unit) ∷ [])
        (equal e (scaled sine_is (Order.≼_trans fractions (Order.≼_same fractions (sym (whole-negative half_breadth))) (whole-≼ inside.port)) (scaled cosine_is (at_nought inside.base)
        (scaled (Order.nonnegative_from fractions (at_nought broad)) sine_at_most no_more))))
        (var 0 :- (var 1 :* var 5 :+ var 2 :* var 4) :* var 3) (number 0) refl))

    wet : in_unit 10 at ≡ whole high ⊕ whole half_breadth → (n : Node) → IsInside half_breadth high n → sign (depth_of n) ≢ below
    wet e n inside = Order.nonnegative_from fractions (Order.≼_trans fractions (order_from fractions (values n)
        ((opposite unit, var 0, var 7 :+ var 6) ∷ (var 1 :* var 3, var 5, var 7) ∷ (var 2 :* var 3, var 4, var 6) ∷ (var 7, var 1 :* var 3, unit) ∷ (var 6, var 2 :* var 3, unit) ∷ [])
        (equal e (scaled cosine_is (whole-≼ inside.top) (scaled sine_is (whole-≼ inside.starboard)
        (scaled (Order.nonnegative_from fractions (at_nought above_base)) cosine_at_most (scaled (Order.nonnegative_from fractions (at_nought broad)) sine_at_most no_more)))))
        (number 0) (var 0 :- (var 1 :* var 5 :+ var 2 :* var 4) :* var 3) refl) (Order.≼_same fractions (sym (depth-level n))))

-- ---- of hulls
all_so : {A : Type 0} {P Q : A → Type 0} → ((x : A) → P x → Q x) → (xs : List A) → AllByRecursion P xs → AllByRecursion Q xs
all_so f [] all = tt
all_so f (x ∷ xs) all = (f x all.0, all_so f xs all.1)

some_breadth : (faces : Faces) → pos 0 ≤ℤ faces.half_breadth
some_breadth faces = over faces.half_breadth faces.reach.broad
  where
    over : (y : ℤ) → pos 1 ≤ℤ y → pos 0 ≤ℤ y
    over y h = omega (arith, ints)

pub nothing_at_bottom : (faces : Faces) → OfHulls faces (λ hull. (d : Direction) → volume_at hull d (bottom_of faces) ≡ nought)
unfolding submerged_volume
nothing_at_bottom faces hull is are d = nothing_submerged (grid_plane d (bottom_of faces)) (first_x hull) (last_x hull) (hull_tetrahedra hull)
    (all_so (λ t h. (at t.a h.0, at t.b h.1, at t.c h.2, at t.d h.3)) (hull_tetrahedra hull) (hull_inside faces.half_breadth faces.high_z hull is are.half_breadth are.high_z))
  where
    at : (n : Node) → IsInside faces.half_breadth faces.high_z n → sign (depth (grid_plane d (bottom_of faces)) (first_x hull) (last_x hull) (position_of n)) ≢ above
    at = dry d (bottom_of faces) (first_x hull) (last_x hull) faces.half_breadth faces.high_z (some_breadth faces) faces.reach.above_base (bottom-mm faces)

pub all_at_top : (faces : Faces) → OfHulls faces (λ hull. (d : Direction) → whole (six_of hull) ≡ whole (pos 6) ⊗ volume_at hull d (top_of faces))
unfolding submerged_volume
all_at_top faces hull is are d = uncut_volume (hull_tetrahedra hull) ∙ ap (λ v. whole (pos 6) ⊗ v) (sym (all_submerged (grid_plane d (top_of faces)) (first_x hull) (last_x hull) (hull_tetrahedra hull)
    (all_so (λ t h. (at t.a h.0, at t.b h.1, at t.c h.2, at t.d h.3)) (hull_tetrahedra hull) (hull_inside faces.half_breadth faces.high_z hull is are.half_breadth are.high_z))))
  where
    at : (n : Node) → IsInside faces.half_breadth faces.high_z n → sign (depth (grid_plane d (top_of faces)) (first_x hull) (last_x hull) (position_of n)) ≢ below
    at = wet d (top_of faces) (first_x hull) (last_x hull) faces.half_breadth faces.high_z (some_breadth faces) faces.reach.above_base (top-mm faces)
