-- The law of strips where nothing is cut: strips that are dry, and those that are submerged wholly.
use Rattle.std.proofs.Common.{ℕ, ◌≡◌, refl, sym, ◌∙◌, ap, ap₂, List, [], ◌∷◌, ◌++◌, map, ℤ, pos, negsuc, neg_ℤ, ◌+ℤ◌, zero, suc, arith}
use mathlib.Core.Logic.{◌≢◌, ◌⊎◌, inl, inr}
use mathlib.Core.Path.{subst}
use Rattle.std.proofs.lemmas.List.{map-append}
use Rattle.std.specs.List.{flat_map, AllByRecursion}
use Rattle.exact_algebra.specs.Expression.{Expression, var, unit, number, ◌:+◌, ◌:-◌, ◌:*◌, opposite}
use Rattle.exact_algebra.specs.OrderedField.{above}
use Rattle.exact_algebra.proofs.Ring.{ring, ring_from, none, given}
use Rattle.exact_algebra.proofs.Order as Order
use Rattle.exact_algebra.proofs.Fraction.{Fraction, nought, ◌⊕◌, ◌⊗◌, ◌⊖◌, ◌≼◌, ◌≺◌, negative, inverse, sign, fractions, fraction_ring}
use Rattle.exact_algebra.proofs.Whole.{whole, whole-nought, whole-add, whole-mul, whole-negative}
use Rattle.hull_model.specs.declared.node.Node.{Node}
use Rattle.hull_model.specs.declared.station.Station.{Station}
use Rattle.hull_model.specs.Boundary.{sum_of}
use Rattle.hull_model.specs.Fractions.{magnitude, sum_over}
use Rattle.hull_model.specs.Lid.{lids, level_area}
use Rattle.hull_model.specs.Nodes.{foot, mirrored}
use Rattle.hull_model.specs.Submerged.{determinant, volume_of, mean_of, integral, first_x, last_x}
use Rattle.hull_model.specs.Tetrahedra.{turned_six, six_times, starboard_half, hull_tetrahedra}
use Rattle.hull_model.specs.TetrahedronCut.{Tetrahedron, with_corners}
use Rattle.hull_model.specs.TriangleCut.{Triangle}
use Rattle.hull_model.specs.Waterplane.{Waterplane, Position, position_of, height, side_distance, level_at, upright, under}
use Rattle.hull_model.specs.Zipper.{chain}
use Rattle.hull_model.proofs.ShareSplits.{sum_over-append, sum_over-none, magnitude-negative}
use Rattle.hull_polyhedron.specs.StripLaw.{strip_pieces, strip_integral, depth_of, AtDepths, IsDry, IsWet, IsDeep, AreWhollySubmerged, strip_lid, DryStrips, DryLids, WetStrips, DeepLids}
use Rattle.hull_polyhedron.specs.Strips.{station_nodes}
use Rattle.hull_polyhedron.specs.Totals.{corner_sum, moment24, totals_of}
use Rattle.hull_polyhedron.proofs.DryAndWet.{AreDry, AreWet, AreDeep, no_pieces, no_lids, all_summed}
use Rattle.hull_polyhedron.proofs.HullCorners.{tetrahedra_hold, OfCorners}
use Rattle.hull_polyhedron.proofs.AftParts.{all-implied}
use Rattle.hull_polyhedron.proofs.SeenForm.{whole_inverse}
use Rattle.hull_polyhedron.proofs.SixVolume.{mirrored_six}
use Rattle.hull_polyhedron.proofs.Uncut.{whole_determinant, six_volumes, uncut_volume}

-- ---- the depths of all corners
-- what holds of two depths holds of the one halfway
abbrev HoldsHalfway : (Fraction → Type 0) → Type 0
HoldsHalfway P = (h k m : Fraction) → m ⊕ m ≡ h ⊕ k → P h → P k → P m

dry_halfway : HoldsHalfway (λ h. h ≼ nought)
dry_halfway h k m e i j = go (Order.≼_or_≺ fractions m nought)
  where
    twice : m ⊕ m ≼ nought
    twice = Order.≼_trans fractions (Order.≼_same fractions e) (Order.≼_trans fractions (Order.≼-add fractions i j) (Order.≼_same fractions (ring fraction_ring [] (number 0 :+ number 0) (number 0) refl)))

    go : (m ≼ nought) ⊎ (nought ≺ m) → m ≼ nought
    go (inl l) = l
    go (inr l) = Order.≼_trans fractions (Order.≼_trans fractions (Order.≼_same fractions (ring fraction_ring (m ∷ []) (var 0) (var 0 :+ number 0) refl))
        (Order.≼-add fractions (Order.≼_refl fractions m) (Order.≺_weak fractions l))) twice

wet_halfway : HoldsHalfway (λ h. nought ≼ h)
wet_halfway h k m e i j = go (Order.≼_or_≺ fractions nought m)
  where
    twice : nought ≼ m ⊕ m
    twice = Order.≼_trans fractions (Order.≼_trans fractions (Order.≼_same fractions (ring fraction_ring [] (number 0) (number 0 :+ number 0) refl)) (Order.≼-add fractions i j)) (Order.≼_same fractions (sym e))

    go : (nought ≼ m) ⊎ (m ≺ nought) → nought ≼ m
    go (inl l) = l
    go (inr l) = Order.≼_trans fractions twice (Order.≼_trans fractions (Order.≼-add fractions (Order.≼_refl fractions m) (Order.≺_weak fractions l))
        (Order.≼_same fractions (ring fraction_ring (m ∷ []) (var 0 :+ number 0) (var 0) refl)))

deep_halfway : HoldsHalfway (λ h. nought ≺ h)
deep_halfway h k m e i j = Order.≺_from_not fractions (λ l. Order.≺-not_≼ fractions (Order.≺-≼_trans fractions i (Order.≼_trans fractions (weak_sum (Order.≺_weak fractions j)) (Order.≼_same fractions (sym e))))
    (Order.≼_trans fractions (Order.≼-add fractions l l) (Order.≼_same fractions (ring fraction_ring [] (number 0 :+ number 0) (number 0) refl))))
  where
    weak_sum : nought ≼ k → h ≼ h ⊕ k
    weak_sum l = Order.≼_trans fractions (Order.≼_same fractions (ring fraction_ring (h ∷ []) (var 0) (var 0 :+ number 0) refl)) (Order.≼-add fractions (Order.≼_refl fractions h) l)

all_chains : (P : Node → Type 0) (strip : List Station) → AllByRecursion P (station_nodes strip) → AllByRecursion (λ s. AllByRecursion P (chain s)) strip
all_chains P [] all = tt
all_chains P (s ∷ strip) all = (first_part (chain s) (station_nodes strip) all, all_chains P strip (last_part (chain s) (station_nodes strip) all))
  where
    first_part : (xs ys : List Node) → AllByRecursion P (xs ++ ys) → AllByRecursion P xs
    first_part [] ys h = tt
    first_part (x ∷ xs) ys h = (h.0, first_part xs ys h.1)

    last_part : (xs ys : List Node) → AllByRecursion P (xs ++ ys) → AllByRecursion P ys
    last_part [] ys h = h
    last_part (x ∷ xs) ys h = last_part xs ys h.1

module _ (plane : Waterplane) (stations : List Station) where
  abbrev first : ℤ
  first = first_x stations

  abbrev last : ℤ
  last = last_x stations

  abbrev at : Node → Fraction
  at n = depth_of plane stations n

  -- the foot lies halfway between a point and its mirror image
  halfway : (n : Node) → at (foot n) ⊕ at (foot n) ≡ at n ⊕ at (mirrored n)
  unfolding height
  halfway n = ring_from fraction_ring
      (level_at plane first last (whole n.x) ∷ whole (pos plane.c) ∷ whole (pos plane.s) ∷ inverse (whole (pos plane.r)) ∷ whole n.z ∷ whole n.y ∷ whole (pos 0) ∷ whole (neg_ℤ n.y) ∷ [])
      ((opposite (var 2 :* var 3) :* number 2, var 6, number 0) ∷ (var 2 :* var 3, var 7, opposite (var 5)) ∷ [])
      (given whole-nought (given (whole-negative n.y) none))
      ((var 0 :- (var 1 :* var 4 :+ var 2 :* var 6) :* var 3) :+ (var 0 :- (var 1 :* var 4 :+ var 2 :* var 6) :* var 3))
      ((var 0 :- (var 1 :* var 4 :+ var 2 :* var 5) :* var 3) :+ (var 0 :- (var 1 :* var 4 :+ var 2 :* var 7) :* var 3)) refl

  twice_mirrored : (n : Node) → mirrored (mirrored n) ≡ n
  twice_mirrored n = λ i. record { x = n.x; y = back n.y i; z = n.z }
    where
      back : (k : ℤ) → neg_ℤ (neg_ℤ k) ≡ k
      back (pos zero) = refl
      back (pos (suc k)) = refl
      back (negsuc k) = refl

  module _ (P : Fraction → Type 0) (half : HoldsHalfway P) where
    abbrev OnBoth : Node → Type 0
    OnBoth n = P (at n) × P (at (mirrored n))

    at_foot : (n : Node) → OnBoth n → OnBoth (foot n)
    at_foot n h = (half (at n) (at (mirrored n)) (at (foot n)) (halfway n) h.0 h.1, half (at n) (at (mirrored n)) (at (foot n)) (halfway n) h.0 h.1)

    at_mirror : (n : Node) → OnBoth n → OnBoth (mirrored n)
    at_mirror n h = (h.1, subst (λ (m : Node). P (at m)) (sym (twice_mirrored n)) h.0)

    -- what holds of the depths of a strip's points holds of those of all corners
    all_corners : (strip : List Station) → AtDepths plane stations P strip
        → AllByRecursion (λ (t : Tetrahedron Node). P (at t.a) × P (at t.b) × P (at t.c) × P (at t.d)) (hull_tetrahedra strip)
    all_corners strip depths = all-implied (OfCorners OnBoth at_foot at_mirror) (λ (t : Tetrahedron Node). P (at t.a) × P (at t.b) × P (at t.c) × P (at t.d))
        (λ t h. (h.0.0, h.1.0, h.2.0, h.3.0)) (hull_tetrahedra strip) (tetrahedra_hold OnBoth at_foot at_mirror strip (all_chains OnBoth strip depths))

  minus_nought : (x : Fraction) → x ⊖ nought ≡ x
  minus_nought x = ring fraction_ring (x ∷ []) (var 0 :- number 0) (var 0) refl

  not_above : (h : Fraction) → h ≼ nought → sign h ≢ above
  not_above h l e = Order.≺-not_≼ fractions (Order.positive_same fractions (minus_nought h) e) l

  dry_corners : (strip : List Station) → IsDry plane stations strip → AreDry plane first last (hull_tetrahedra strip)
  dry_corners strip dry = all-implied _ _ (λ t h. (not_above _ h.0, not_above _ h.1, not_above _ h.2, not_above _ h.3)) (hull_tetrahedra strip) (all_corners (λ h. h ≼ nought) dry_halfway strip dry)

  wet_corners : (strip : List Station) → IsWet plane stations strip → AreWet plane first last (hull_tetrahedra strip)
  wet_corners strip wet = all-implied _ _ (λ t h. (Order.nonnegative_from fractions h.0, Order.nonnegative_from fractions h.1, Order.nonnegative_from fractions h.2, Order.nonnegative_from fractions h.3))
      (hull_tetrahedra strip) (all_corners (λ h. nought ≼ h) wet_halfway strip wet)

  is_above : (h : Fraction) → nought ≺ h → sign h ≡ above
  is_above h l = Order.positive_same fractions (sym (minus_nought h)) l

  deep_corners : (strip : List Station) → IsDeep plane stations strip → AreDeep plane first last (hull_tetrahedra strip)
  deep_corners strip deep = all-implied _ _ (λ t h. (is_above _ h.0, is_above _ h.1, is_above _ h.2, is_above _ h.3)) (hull_tetrahedra strip) (all_corners (λ h. nought ≺ h) deep_halfway strip deep)

-- ---- dry strips, and lids
pub dry_strips : DryStrips
dry_strips plane stations strip dry = record { volume = go volume_of; mx = go _; mv = go _; mu = go _ }
  where
    go : (g : Tetrahedron Position → Fraction) → sum_over g (strip_pieces plane stations strip) ≡ nought
    go g = ap (sum_over g) (no_pieces plane (first_x stations) (last_x stations) (hull_tetrahedra strip) (dry_corners plane stations strip dry)) ∙ sum_over-none g

pub dry_lids : DryLids
dry_lids at stations strip dry = record { area = go level_area; x = go _; yy = go _; xx = go _ }
  where
    go : (f : Triangle Position → Fraction) → strip_lid at stations f strip ≡ nought
    go f = ap (λ (ps : List (Tetrahedron Position)). sum_over f (lids (under (upright at) (first_x stations) (last_x stations)) ps))
        (no_pieces (upright at) (first_x stations) (last_x stations) (hull_tetrahedra strip) (dry_corners (upright at) stations strip dry)) ∙ sum_over-none f

pub deep_lids : DeepLids
deep_lids at stations strip deep = record { area = go level_area; x = go _; yy = go _; xx = go _ }
  where
    go : (f : Triangle Position → Fraction) → strip_lid at stations f strip ≡ nought
    go f = ap (sum_over f) (no_lids (upright at) (first_x stations) (last_x stations) (hull_tetrahedra strip) (deep_corners (upright at) stations strip deep)) ∙ sum_over-none f

-- ---- integrals over tetrahedra that aren't cut
abbrev placed : List (Tetrahedron Node) → List (Tetrahedron Position)
placed ts = map (with_corners position_of) ts

module _ (k : Node → ℤ) (f : Position → Fraction) (same : (n : Node) → f (position_of n) ≡ whole (k n)) where
  abbrev term_of : Tetrahedron Node → Fraction
  term_of t = volume_of (with_corners position_of t) ⊗ mean_of f (with_corners position_of t)

  corners-whole : (t : Tetrahedron Node) → whole (corner_sum k t) ≡ f (position_of t.a) ⊕ f (position_of t.b) ⊕ f (position_of t.c) ⊕ f (position_of t.d)
  corners-whole t = whole-add ((k t.a +ℤ k t.b) +ℤ k t.c) (k t.d)
      ∙ ap₂ ◌⊕◌ (whole-add (k t.a +ℤ k t.b) (k t.c) ∙ ap₂ ◌⊕◌ (whole-add (k t.a) (k t.b) ∙ ap₂ ◌⊕◌ (sym (same t.a)) (sym (same t.b))) (sym (same t.c))) (sym (same t.d))

  moment : (t : Tetrahedron Node) → whole (pos 24) ⊗ term_of t ≡ whole (moment24 k t)
  moment t = ring_from fraction_ring
      (whole (pos 24) ∷ whole (pos 6) ∷ whole (pos 4) ∷ inverse (whole (pos 4)) ∷ volume_of (with_corners position_of t)
      ∷ f (position_of t.a) ∷ f (position_of t.b) ∷ f (position_of t.c) ∷ f (position_of t.d) ∷ whole (pos (six_times t)) ∷ whole (corner_sum k t) ∷ whole (moment24 k t) ∷ [])
      ((var 4 :* four :* var 3, var 0, var 1 :* var 2) ∷ (var 1 :* var 4 :* four, var 2 :* var 3, unit) ∷ (four, var 1 :* var 4, var 9) ∷ (opposite (var 9), var 10, four) ∷ (opposite unit, var 11, var 9 :* var 10) ∷ [])
      (given (whole-mul (pos 6) (pos 4)) (given (whole_inverse 4 (omega arith)) (given (six_volumes t) (given (corners-whole t) (given (whole-mul (pos (six_times t)) (corner_sum k t)) none)))))
      (var 0 :* (var 4 :* (four :* var 3))) (var 11) refl
    where
      four : Expression
      four = var 5 :+ var 6 :+ var 7 :+ var 8

  moments : (ts : List (Tetrahedron Node)) → whole (sum_of (moment24 k) ts) ≡ whole (pos 24) ⊗ integral f (placed ts)
  unfolding sum_over
  moments [] = whole-nought ∙ ring fraction_ring (whole (pos 24) ∷ []) (number 0) (var 0 :* number 0) refl
  moments (t ∷ ts) = whole-add (moment24 k t) (sum_of (moment24 k) ts) ∙ ap₂ ◌⊕◌ (sym (moment t)) (moments ts)
      ∙ ring fraction_ring (whole (pos 24) ∷ term_of t ∷ integral f (placed ts) ∷ []) (var 0 :* var 1 :+ var 0 :* var 2) (var 0 :* (var 1 :+ var 2)) refl

  integral_by_moment : (ts : List (Tetrahedron Node)) → integral f (placed ts) ≡ whole (sum_of (moment24 k) ts) ⊗ inverse (whole (pos 24))
  integral_by_moment ts = ring_from fraction_ring (whole (pos 24) ∷ inverse (whole (pos 24)) ∷ integral f (placed ts) ∷ whole (sum_of (moment24 k) ts) ∷ [])
      ((opposite (var 2), var 0 :* var 1, unit) ∷ (opposite (var 1), var 3, var 0 :* var 2) ∷ []) (given (whole_inverse 24 (omega arith)) (given (moments ts) none))
      (var 2) (var 3 :* var 1) refl

volume_by_six : (ts : List (Tetrahedron Node)) → sum_over volume_of (placed ts) ≡ whole (totals_of ts).six ⊗ inverse (whole (pos 6))
volume_by_six ts = ring_from fraction_ring (whole (pos 6) ∷ inverse (whole (pos 6)) ∷ sum_over volume_of (placed ts) ∷ whole (totals_of ts).six ∷ [])
    ((opposite (var 2), var 0 :* var 1, unit) ∷ (opposite (var 1), var 3, var 0 :* var 2) ∷ []) (given (whole_inverse 6 (omega arith)) (given (uncut_volume ts) none))
    (var 2) (var 3 :* var 1) refl

-- of the breadth: a mirror image takes away what a tetrahedron adds
abbrev breadth_term : Tetrahedron Position → Fraction
breadth_term t = volume_of t ⊗ mean_of (λ p. p.y) t

mirrored_volume : (t : Tetrahedron Node) → volume_of (with_corners position_of (with_corners mirrored t)) ≡ volume_of (with_corners position_of t)
mirrored_volume t = ap (λ d. magnitude d ⊗ inverse (whole (pos 6)))
    (whole_determinant (with_corners mirrored t) ∙ ap whole (mirrored_six t) ∙ whole-negative (turned_six t) ∙ ap negative (sym (whole_determinant t)))
    ∙ ap (λ m. m ⊗ inverse (whole (pos 6))) (magnitude-negative (determinant (with_corners position_of t)))

mirrored_breadth : (t : Tetrahedron Node) → breadth_term (with_corners position_of (with_corners mirrored t)) ≡ negative (breadth_term (with_corners position_of t))
mirrored_breadth t = ring_from fraction_ring
    (volume_of (with_corners position_of (with_corners mirrored t)) ∷ volume_of (with_corners position_of t) ∷ inverse (whole (pos 4))
    ∷ whole t.a.y ∷ whole t.b.y ∷ whole t.c.y ∷ whole t.d.y ∷ whole (neg_ℤ t.a.y) ∷ whole (neg_ℤ t.b.y) ∷ whole (neg_ℤ t.c.y) ∷ whole (neg_ℤ t.d.y) ∷ [])
    (((var 7 :+ var 8 :+ var 9 :+ var 10) :* var 2, var 0, var 1) ∷ (var 1 :* var 2, var 7, opposite (var 3)) ∷ (var 1 :* var 2, var 8, opposite (var 4)) ∷ (var 1 :* var 2, var 9, opposite (var 5)) ∷ (var 1 :* var 2, var 10, opposite (var 6)) ∷ [])
    (given (mirrored_volume t) (given (whole-negative t.a.y) (given (whole-negative t.b.y) (given (whole-negative t.c.y) (given (whole-negative t.d.y) none)))))
    (var 0 :* ((var 7 :+ var 8 :+ var 9 :+ var 10) :* var 2)) (opposite (var 1 :* ((var 3 :+ var 4 :+ var 5 :+ var 6) :* var 2))) refl

breadths_cancel : (ts : List (Tetrahedron Node)) → sum_over breadth_term (placed ts) ⊕ sum_over breadth_term (placed (map (with_corners mirrored) ts)) ≡ nought
unfolding sum_over
breadths_cancel [] = ring fraction_ring [] (number 0 :+ number 0) (number 0) refl
breadths_cancel (t ∷ ts) = ring_from fraction_ring
    (breadth_term (with_corners position_of t) ∷ sum_over breadth_term (placed ts) ∷ breadth_term (with_corners position_of (with_corners mirrored t)) ∷ sum_over breadth_term (placed (map (with_corners mirrored) ts)) ∷ [])
    ((unit, var 2, opposite (var 0)) ∷ (unit, var 1 :+ var 3, number 0) ∷ []) (given (mirrored_breadth t) (given (breadths_cancel ts) none))
    ((var 0 :+ var 1) :+ (var 2 :+ var 3)) (number 0) refl

no_breadth : (strips : List (List Station)) → sum_over breadth_term (placed (flat_map hull_tetrahedra strips)) ≡ nought
no_breadth [] = sum_over-none breadth_term
no_breadth (strip ∷ strips) = ap (sum_over breadth_term) (map-append (with_corners position_of) (hull_tetrahedra strip) (flat_map hull_tetrahedra strips))
    ∙ sum_over-append breadth_term (placed (hull_tetrahedra strip)) (placed (flat_map hull_tetrahedra strips))
    ∙ ap₂ ◌⊕◌ (ap (sum_over breadth_term) (map-append (with_corners position_of) (starboard_half strip) (map (with_corners mirrored) (starboard_half strip)))
    ∙ sum_over-append breadth_term (placed (starboard_half strip)) (placed (map (with_corners mirrored) (starboard_half strip))) ∙ breadths_cancel (starboard_half strip)) (no_breadth strips)
    ∙ ring fraction_ring [] (number 0 :+ number 0) (number 0) refl

-- of a function that is made of two
module _ (a b c : Fraction) (f g : Position → Fraction) where
  integral-linear : (ts : List (Tetrahedron Position)) → integral (λ p. (a ⊗ f p ⊕ b ⊗ g p) ⊗ c) ts ≡ (a ⊗ integral f ts ⊕ b ⊗ integral g ts) ⊗ c
  unfolding sum_over
  integral-linear [] = ring fraction_ring (a ∷ b ∷ c ∷ []) (number 0) ((var 0 :* number 0 :+ var 1 :* number 0) :* var 2) refl
  integral-linear (t ∷ ts) = ap (λ s. (volume_of t ⊗ mean_of (λ p. (a ⊗ f p ⊕ b ⊗ g p) ⊗ c) t) ⊕ s) (integral-linear ts)
      ∙ ring fraction_ring (a ∷ b ∷ c ∷ volume_of t ∷ inverse (whole (pos 4)) ∷ f t.a ∷ f t.b ∷ f t.c ∷ f t.d ∷ g t.a ∷ g t.b ∷ g t.c ∷ g t.d ∷ integral f ts ∷ integral g ts ∷ [])
      (var 3 :* ((h 5 9 :+ h 6 10 :+ h 7 11 :+ h 8 12) :* var 4) :+ (var 0 :* var 13 :+ var 1 :* var 14) :* var 2)
      ((var 0 :* (var 3 :* ((var 5 :+ var 6 :+ var 7 :+ var 8) :* var 4) :+ var 13) :+ var 1 :* (var 3 :* ((var 9 :+ var 10 :+ var 11 :+ var 12) :* var 4) :+ var 14)) :* var 2) refl
    where
      h : ℕ → ℕ → Expression
      h m n = (var 0 :* var m :+ var 1 :* var n) :* var 2

-- ---- strips that are submerged wholly
module _ (plane : Waterplane) (stations : List Station) where
  all_of : (g : Tetrahedron Position → Fraction) → ((t : Tetrahedron Position) → volume_of t ≡ nought → g t ≡ nought) → (strips : List (List Station)) → AllByRecursion (IsWet plane stations) strips
      → sum_over (λ strip. sum_over g (strip_pieces plane stations strip)) strips ≡ sum_over g (placed (flat_map hull_tetrahedra strips))
  unfolding sum_over
  all_of g flat [] all = refl
  all_of g flat (strip ∷ strips) all =
      ap₂ ◌⊕◌ (all_summed plane (first_x stations) (last_x stations) g flat (hull_tetrahedra strip) (wet_corners plane stations strip all.0)) (all_of g flat strips all.1)
      ∙ sym (ap (sum_over g) (map-append (with_corners position_of) (hull_tetrahedra strip) (flat_map hull_tetrahedra strips)) ∙ sum_over-append g (placed (hull_tetrahedra strip)) (placed (flat_map hull_tetrahedra strips)))

  module _ (strips : List (List Station)) (wet : AllByRecursion (IsWet plane stations) strips) where
    abbrev tets : List (Tetrahedron Node)
    tets = flat_map hull_tetrahedra strips

    integrals : (f : Position → Fraction) → sum_over (strip_integral plane stations f) strips ≡ integral f (placed tets)
    integrals f = all_of (λ t. volume_of t ⊗ mean_of f t) (λ t e. ring_from fraction_ring (volume_of t ∷ mean_of f t ∷ []) ((var 1, var 0, number 0) ∷ []) (given e none) (var 0 :* var 1) (number 0) refl) strips wet

    r : Fraction
    r = inverse (whole (pos plane.r))

    side_parts : (p : Position) → side_distance plane p ≡ (whole (pos plane.s) ⊗ p.z ⊕ negative (whole (pos plane.c)) ⊗ p.y) ⊗ r
    unfolding side_distance r
    side_parts p = ring fraction_ring (whole (pos plane.s) ∷ p.z ∷ whole (pos plane.c) ∷ p.y ∷ inverse (whole (pos plane.r)) ∷ []) ((var 0 :* var 1 :- var 2 :* var 3) :* var 4) ((var 0 :* var 1 :+ opposite (var 2) :* var 3) :* var 4) refl

    height_parts : (p : Position) → height plane p ≡ (whole (pos plane.c) ⊗ p.z ⊕ whole (pos plane.s) ⊗ p.y) ⊗ r
    unfolding height r
    height_parts p = refl

    z_integral : integral (λ p. p.z) (placed tets) ≡ whole (totals_of tets).mz24 ⊗ inverse (whole (pos 24))
    z_integral = integral_by_moment (λ n. n.z) (λ p. p.z) (λ n. refl) tets

    without_breadth : (a b z y k : Fraction) → y ≡ nought → z ≡ k → (a ⊗ z ⊕ b ⊗ y) ⊗ r ≡ a ⊗ k ⊗ r
    without_breadth a b z y k e f = ring_from fraction_ring (a ∷ b ∷ z ∷ y ∷ k ∷ r ∷ []) ((var 1 :* var 5, var 3, number 0) ∷ (var 0 :* var 5, var 2, var 4) ∷ []) (given e (given f none))
        ((var 0 :* var 2 :+ var 1 :* var 3) :* var 5) (var 0 :* var 4 :* var 5) refl

    by_parts : (h : Position → Fraction) (a b : Fraction) → ((p : Position) → h p ≡ (a ⊗ p.z ⊕ b ⊗ p.y) ⊗ r) → sum_over (strip_integral plane stations h) strips ≡ a ⊗ (whole (totals_of tets).mz24 ⊗ inverse (whole (pos 24))) ⊗ r
    by_parts h a b e = integrals h ∙ (λ i. integral (λ p. e p i) (placed tets)) ∙ integral-linear a b r (λ p. p.z) (λ p. p.y) (placed tets)
        ∙ without_breadth a b (integral (λ p. p.z) (placed tets)) (integral (λ p. p.y) (placed tets)) (whole (totals_of tets).mz24 ⊗ inverse (whole (pos 24))) (no_breadth strips) z_integral

    whole_strips : AreWhollySubmerged plane stations (totals_of tets) strips
    unfolding r
    whole_strips = record {
      volume = all_of volume_of (λ t e. e) strips wet ∙ volume_by_six tets;
      x = integrals (λ p. p.x) ∙ integral_by_moment (λ n. n.x) (λ p. p.x) (λ n. refl) tets;
      y = integrals (λ p. p.y) ∙ no_breadth strips;
      z = integrals (λ p. p.z) ∙ z_integral;
      mv = by_parts (side_distance plane) (whole (pos plane.s)) (negative (whole (pos plane.c))) side_parts;
      mu = by_parts (height plane) (whole (pos plane.c)) (whole (pos plane.s)) height_parts;
    }

pub wet_strips : WetStrips
wet_strips plane stations strips wet = whole_strips plane stations strips wet
