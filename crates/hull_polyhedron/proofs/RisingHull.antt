-- The law of rising levels. What is summed aft of a place along the ship rises more at higher levels than at lower ones, from nothing to what the
-- whole sum rises by; so the rises over slabs apart from each other add up to no more than that.
use mathlib.Core.Path.{◌≡◌, refl, sym, ◌∙◌, ap, ap₂}
use native.Mathlib.Omega.{arith}
use mathlib.Core.List.{List, [], ◌∷◌}
use mathlib.Core.Bool.{Bool, true}
use lib.IntN.{ℤ, pos}
use Rattle.std.specs.Prelude.{◌≤ℤ◌, ◌<ℤ◌}
use Rattle.std.specs.List.{flat_map, AllByRecursion}
use Rattle.std.proofs.lemmas.Int.{ints}
use Rattle.exact_algebra.specs.Expression.{var, unit, number, ◌:+◌, ◌:-◌, ◌:*◌, opposite}
use Rattle.exact_algebra.proofs.Ring.{ring, ring_from, none, given}
use Rattle.exact_algebra.proofs.Fraction.{Fraction, nought, one, ◌⊕◌, ◌⊗◌, ◌⊖◌, ◌≼◌, negative, inverse, fractions, fraction_ring}
use Rattle.exact_algebra.proofs.Whole.{whole, whole-≺}
use Rattle.exact_algebra.proofs.Order as Order
use Rattle.exact_algebra.proofs.Order.{order_from, no_more, at_most, equal}
use Rattle.hull_model.specs.declared.node.Node.{Node}
use Rattle.hull_model.specs.declared.slab.Slab.{Slab}
use Rattle.hull_model.specs.declared.station.Station.{Station}
use Rattle.hull_model.specs.Body.{IsHull}
use Rattle.hull_model.specs.Fractions.{sum_over}
use Rattle.hull_model.specs.TetrahedronCut.{Tetrahedron, with_corners, kept_pieces}
use Rattle.hull_model.specs.Tetrahedra.{hull_tetrahedra}
use Rattle.hull_model.specs.Waterplane.{Waterplane, Position, position_of, under}
use Rattle.hull_model.specs.Submerged.{first_x, last_x, submerged_pieces, submerged_body, volume_of, mean_of}
use Rattle.hull_model.specs.Flooded.{cut_by, forward_of, aft_of, pieces_between, all_between, submerged_between, flooded_share, volume_left, mx_left}
use Rattle.hull_model.specs.Slabs.{are_apart}
use Rattle.hull_polyhedron.specs.RisingLaw.{IsRaised, weight, RisingLaw, WeightsAreKnown, moment_from_last, moment_from_first, MomentsRise}
use Rattle.hull_model.proofs.EdgeSplits.{IsLinearFunction}
use Rattle.hull_model.proofs.TetrahedronRounds.{depth_linear}
use Rattle.hull_polyhedron.specs.Columns.{depth, seen_sum}
use Rattle.hull_polyhedron.specs.CentralLaw.{faces_turned, PointOutwards}
use Rattle.hull_polyhedron.proofs.OneTetrahedron.{integral-term, whole_four}
use Rattle.hull_polyhedron.proofs.OutwardListed.{ends_apart}
use Rattle.hull_polyhedron.proofs.SeenForm.{whole_inverse}
use Rattle.hull_polyhedron.proofs.AftParts.{sum_over-same, all-implied}
use Rattle.hull_model.proofs.PartSums.{sum_over-flat_map, forward_linear, aft_linear}
use Rattle.hull_polyhedron.proofs.RisingPieces.{AtCorners, IsAboard, IsSolidAboard, solid_parts, sum_over-rises, weight_linear, weight_seen, integral_rises}
use Rattle.hull_polyhedron.proofs.DisjointSlabs.{RisesTo, flooded_rises_within}
use Rattle.hull_polyhedron.proofs.PartsAlong.{all_of_kept, all_of_between, some_right, part_between, part_forward}
use Rattle.hull_polyhedron.proofs.HullCorners.{hull_aboard}

sum_over-difference : {A : Type 0} (f g : A → Fraction) (xs : List A) → sum_over (λ x. f x ⊖ g x) xs ≡ sum_over f xs ⊖ sum_over g xs
unfolding sum_over
sum_over-difference f g [] = ring fraction_ring [] (number 0) (number 0 :- number 0) refl
sum_over-difference f g (x ∷ xs) = ap (λ t. (f x ⊖ g x) ⊕ t) (sum_over-difference f g xs)
    ∙ ring fraction_ring (f x ∷ g x ∷ sum_over f xs ∷ sum_over g xs ∷ []) ((var 0 :- var 1) :+ (var 2 :- var 3)) ((var 0 :+ var 2) :- (var 1 :+ var 3)) refl

abbrev at : Tetrahedron Node → Tetrahedron Position
at t = with_corners position_of t

-- ---- sums over tetrahedra of nodes
module _ (plane : Waterplane) (first last : ℤ) (tets : List (Tetrahedron Node)) (term : Tetrahedron Position → Fraction) where
  abbrev under_plane : Tetrahedron Position → Fraction
  under_plane t = sum_over term (kept_pieces (under plane first last) t)

  -- of the whole, of what lies aft of a place, and forward of it, and between two places
  abbrev total : Fraction
  total = sum_over (λ t. under_plane (at t)) tets

  abbrev aft_total : ℤ → Fraction
  aft_total place = sum_over (λ t. sum_over under_plane (kept_pieces (cut_by (aft_of place)) (at t))) tets

  abbrev forward_total : ℤ → Fraction
  forward_total place = sum_over (λ t. sum_over under_plane (kept_pieces (cut_by (forward_of place)) (at t))) tets

  abbrev between_total : ℤ → ℤ → Fraction
  between_total aft fore = sum_over (λ t. sum_over under_plane (pieces_between aft fore (at t))) tets

  submerged-total : sum_over term (submerged_pieces plane first last tets) ≡ total
  unfolding submerged_pieces
  submerged-total = sum_over-flat_map term (λ t. kept_pieces (under plane first last) (with_corners position_of t)) tets

  slab-total : (aft fore : ℤ) → sum_over term (flat_map (kept_pieces (under plane first last)) (all_between aft fore tets)) ≡ between_total aft fore
  unfolding all_between
  slab-total aft fore = sum_over-flat_map term (kept_pieces (under plane first last)) (all_between aft fore tets)
      ∙ sum_over-flat_map under_plane (λ t. pieces_between aft fore (with_corners position_of t)) tets

  module _ (f g : Position → Fraction) (f_linear : IsLinearFunction f) (g_linear : IsLinearFunction g)
      (law : (b : Bool) (t : Tetrahedron Position) → PointOutwards b t → sum_over term (kept_pieces (under plane first last) t) ≡ seen_sum plane first last f g (faces_turned b t)) where
    pub between-aft : (aft fore : ℤ) → aft ≤ℤ fore → between_total aft fore ≡ aft_total fore ⊖ aft_total aft
    between-aft aft fore h = (λ i. sum_over (λ t. part_between plane first last f g f_linear g_linear term law (at t) aft fore h i) tets)
        ∙ sum_over-difference (λ t. sum_over under_plane (kept_pieces (cut_by (aft_of fore)) (at t))) (λ t. sum_over under_plane (kept_pieces (cut_by (aft_of aft)) (at t))) tets

    pub forward-aft : (place : ℤ) → forward_total place ≡ total ⊖ aft_total place
    forward-aft place = (λ i. sum_over (λ t. part_forward plane first last f g f_linear g_linear term law (at t) place i) tets)
        ∙ sum_over-difference (λ t. under_plane (at t)) (λ t. sum_over under_plane (kept_pieces (cut_by (aft_of place)) (at t))) tets

-- ---- two waterplanes
module _ (low high : Waterplane) (raised : IsRaised low high) (first last : ℤ) (apart : first <ℤ last) (tets : List (Tetrahedron Node))
    (aboard : AllByRecursion (λ t. AtCorners (IsAboard first last) (at t)) tets)
    (start slope : Fraction) (from_first : nought ≼ start ⊕ slope ⊗ whole first) (to_last : nought ≼ start ⊕ slope ⊗ whole last) where
  abbrev w : Position → Fraction
  w = weight start slope

  abbrev term : Tetrahedron Position → Fraction
  term t = volume_of t ⊗ mean_of w t

  abbrev at_plane : Waterplane → Tetrahedron Position → Fraction
  at_plane plane t = sum_over term (kept_pieces (under plane first last) t)

  solid_of : (t : Tetrahedron Position) → AtCorners (IsAboard first last) t → (b : Bool) × IsSolidAboard first last b t
  solid_of t h = ((some_right t).0, record { right = (some_right t).1; corners = h })

  piece_rises : (b : Bool) (t : Tetrahedron Position) → IsSolidAboard first last b t → at_plane low t ≼ at_plane high t
  piece_rises b t h = integral_rises first last apart start slope from_first to_last b low high raised term (integral-term w) t h

  pieces_rise : (b : Bool) (ts : List (Tetrahedron Position)) → AllByRecursion (IsSolidAboard first last b) ts → sum_over (at_plane low) ts ≼ sum_over (at_plane high) ts
  pieces_rise b ts all = sum_over-rises (at_plane low) (at_plane high) ts (all-implied (IsSolidAboard first last b) (λ t. at_plane low t ≼ at_plane high t) (piece_rises b) ts all)

  -- sums over lists of pieces that each tetrahedron has
  module _ (parts : Tetrahedron Position → List (Tetrahedron Position))
      (closed : (b : Bool) (t : Tetrahedron Position) → IsSolidAboard first last b t → AllByRecursion (IsSolidAboard first last b) (parts t)) where
    parts_rise : sum_over (λ t. sum_over (at_plane low) (parts (at t))) tets ≼ sum_over (λ t. sum_over (at_plane high) (parts (at t))) tets
    parts_rise = sum_over-rises (λ t. sum_over (at_plane low) (parts (at t))) (λ t. sum_over (at_plane high) (parts (at t))) tets
        (all-implied (λ t. AtCorners (IsAboard first last) (at t)) (λ t. sum_over (at_plane low) (parts (at t)) ≼ sum_over (at_plane high) (parts (at t)))
        (λ t h. (let k = solid_of (at t) h in pieces_rise k.0 (parts (at t)) (closed k.0 (at t) k.1))) tets aboard)

  abbrev aft_at : Waterplane → ℤ → Fraction
  aft_at plane = aft_total plane first last tets term

  between-at : (plane : Waterplane) (aft fore : ℤ) → aft ≤ℤ fore → between_total plane first last tets term aft fore ≡ aft_at plane fore ⊖ aft_at plane aft
  between-at plane = between-aft plane first last tets term w (depth plane first last) (weight_linear start slope) (depth_linear plane first last) (weight_seen start slope plane first last term (integral-term w))

  forward-at : (plane : Waterplane) (place : ℤ) → forward_total plane first last tets term place ≡ total plane first last tets term ⊖ aft_at plane place
  forward-at plane = forward-aft plane first last tets term w (depth plane first last) (weight_linear start slope) (depth_linear plane first last) (weight_seen start slope plane first last term (integral-term w))

  -- what the sum aft of a place rises by between the two waterplanes
  abbrev along : ℤ → Fraction
  along place = aft_at high place ⊖ aft_at low place

  abbrev most : Fraction
  most = total high first last tets term ⊖ total low first last tets term

  along_rises : RisesTo most along
  along_rises = record {
    rises = λ a b h. order_from fractions (aft_at high a ∷ aft_at high b ∷ aft_at low a ∷ aft_at low b ∷ between_total low first last tets term a b ∷ between_total high first last tets term a b ∷ [])
        ((unit, var 4, var 5) ∷ (opposite unit, var 4, var 3 :- var 2) ∷ (unit, var 5, var 1 :- var 0) ∷ [])
        (at_most (parts_rise (pieces_between a b) (λ c t k. all_of_between (IsSolidAboard first last c) (solid_parts first last c) a b t k)) (equal (between-at low a b h) (equal (between-at high a b h) no_more)))
        (var 0 :- var 2) (var 1 :- var 3) refl;
    low = λ a. order_from fractions (aft_at low a ∷ aft_at high a ∷ []) ((unit, var 0, var 1) ∷ [])
        (at_most (parts_rise (kept_pieces (cut_by (aft_of a))) (λ c t k. all_of_kept (IsSolidAboard first last c) (solid_parts first last c) (aft_of a) (aft_linear a) t k)) no_more)
        (number 0) (var 1 :- var 0) refl;
    high = λ a. order_from fractions (aft_at high a ∷ aft_at low a ∷ total high first last tets term ∷ total low first last tets term ∷ forward_total low first last tets term a ∷ forward_total high first last tets term a ∷ [])
        ((unit, var 4, var 5) ∷ (opposite unit, var 4, var 3 :- var 1) ∷ (unit, var 5, var 2 :- var 0) ∷ [])
        (at_most (parts_rise (kept_pieces (cut_by (forward_of a))) (λ c t k. all_of_kept (IsSolidAboard first last c) (solid_parts first last c) (forward_of a) (forward_linear a) t k)) (equal (forward-at low a) (equal (forward-at high a) no_more)))
        (var 0 :- var 1) (var 2 :- var 3) refl;
  }

  -- ---- what is left
  abbrev flooded_at : Waterplane → List Slab → Fraction
  flooded_at plane slabs = sum_over (λ s. flooded_share s ⊗ sum_over term (flat_map (kept_pieces (under plane first last)) (all_between s.aft s.fore tets))) slabs

  weak : {a b : ℤ} → a <ℤ b → a ≤ℤ b
  weak k = omega (arith, ints)

  flooded-difference : (slabs : List Slab) → sum_over (λ s. flooded_share s ⊗ (along s.fore ⊖ along s.aft)) slabs ≡ flooded_at high slabs ⊖ flooded_at low slabs
  flooded-difference slabs = sum_over-same (λ s. flooded_share s ⊗ (along s.fore ⊖ along s.aft)) (λ s. of_slab high s ⊖ of_slab low s) slabs (each slabs)
      ∙ sum_over-difference (of_slab high) (of_slab low) slabs
    where
      of_slab : Waterplane → Slab → Fraction
      of_slab plane s = flooded_share s ⊗ sum_over term (flat_map (kept_pieces (under plane first last)) (all_between s.aft s.fore tets))

      slab : (plane : Waterplane) (s : Slab) → sum_over term (flat_map (kept_pieces (under plane first last)) (all_between s.aft s.fore tets)) ≡ aft_at plane s.fore ⊖ aft_at plane s.aft
      slab plane s = slab-total plane first last tets term s.aft s.fore ∙ between-at plane s.aft s.fore (weak s.limits.order)

      each : (ss : List Slab) → AllByRecursion (λ (s : Slab). flooded_share s ⊗ (along s.fore ⊖ along s.aft) ≡ of_slab high s ⊖ of_slab low s) ss
      each [] = tt
      each (s ∷ ss) = (
        ring fraction_ring (flooded_share s ∷ aft_at high s.fore ∷ aft_at high s.aft ∷ aft_at low s.fore ∷ aft_at low s.aft ∷ [])
            (var 0 :* ((var 1 :- var 3) :- (var 2 :- var 4))) (var 0 :* (var 1 :- var 2) :- var 0 :* (var 3 :- var 4)) refl
            ∙ ap₂ (λ x y. flooded_share s ⊗ x ⊖ flooded_share s ⊗ y) (sym (slab high s)) (sym (slab low s)),
        each ss,
      )

  pub left_rises : (slabs : List Slab) → are_apart slabs ≡ true
      → sum_over term (submerged_pieces low first last tets) ⊖ flooded_at low slabs ≼ sum_over term (submerged_pieces high first last tets) ⊖ flooded_at high slabs
  left_rises slabs separate = order_from fractions
      (sum_over term (submerged_pieces low first last tets) ∷ sum_over term (submerged_pieces high first last tets) ∷ flooded_at low slabs ∷ flooded_at high slabs
      ∷ total low first last tets term ∷ total high first last tets term ∷ sum_over (λ s. flooded_share s ⊗ (along s.fore ⊖ along s.aft)) slabs ∷ [])
      ((unit, var 6, var 5 :- var 4) ∷ (opposite unit, var 6, var 3 :- var 2) ∷ (unit, var 0, var 4) ∷ (opposite unit, var 1, var 5) ∷ [])
      (at_most (flooded_rises_within slabs separate most along along_rises) (equal (flooded-difference slabs)
      (equal (submerged-total low first last tets term) (equal (submerged-total high first last tets term) no_more))))
      (var 0 :- var 2) (var 1 :- var 3) refl

-- at the levels of a hull
pub rising_law : RisingLaw
unfolding submerged_between
rising_law low high raised stations hull slabs separate start slope positive =
    left_rises low high raised (first_x stations) (last_x stations) (ends_apart stations hull) (hull_tetrahedra stations) (hull_aboard stations hull) start slope positive.first positive.last slabs separate

-- ---- what is left of the integral of a weight, by the volume and the integral of x
sum_over-weighed : {A : Type 0} (u v : Fraction) (f g h : A → Fraction) (xs : List A) → ((x : A) → h x ≡ u ⊗ f x ⊕ v ⊗ g x) → sum_over h xs ≡ u ⊗ sum_over f xs ⊕ v ⊗ sum_over g xs
unfolding sum_over
sum_over-weighed u v f g h [] e = ring fraction_ring (u ∷ v ∷ []) (number 0) (var 0 :* number 0 :+ var 1 :* number 0) refl
sum_over-weighed u v f g h (x ∷ xs) e = ap₂ ◌⊕◌ (e x) (sum_over-weighed u v f g h xs e)
    ∙ ring fraction_ring (u ∷ v ∷ f x ∷ g x ∷ sum_over f xs ∷ sum_over g xs ∷ []) ((var 0 :* var 2 :+ var 1 :* var 3) :+ (var 0 :* var 4 :+ var 1 :* var 5)) (var 0 :* (var 2 :+ var 4) :+ var 1 :* (var 3 :+ var 5)) refl

weight-term : (start slope : Fraction) (t : Tetrahedron Position) → volume_of t ⊗ mean_of (weight start slope) t ≡ start ⊗ volume_of t ⊕ slope ⊗ (volume_of t ⊗ mean_of (λ p. p.x) t)
weight-term start slope t = ring_from fraction_ring (volume_of t ∷ start ∷ slope ∷ t.a.x ∷ t.b.x ∷ t.c.x ∷ t.d.x ∷ inverse (whole (pos 4)) ∷ whole (pos 4) ∷ [])
    ((opposite (var 0 :* var 1 :* var 7), var 8, unit :+ unit :+ unit :+ unit) ∷ (var 0 :* var 1, var 8 :* var 7, unit) ∷ [])
    (given whole_four (given (whole_inverse 4 (omega arith)) none))
    (var 0 :* (((var 1 :+ var 2 :* var 3) :+ (var 1 :+ var 2 :* var 4) :+ (var 1 :+ var 2 :* var 5) :+ (var 1 :+ var 2 :* var 6)) :* var 7))
    (var 1 :* var 0 :+ var 2 :* (var 0 :* ((var 3 :+ var 4 :+ var 5 :+ var 6) :* var 7))) refl

pub weights_are_known : WeightsAreKnown
unfolding volume_left mx_left
weights_are_known plane stations slabs start slope = ring_from fraction_ring
    (start ∷ slope ∷ sum_over h body ∷ sum_over volume_of body ∷ sum_over g body ∷ sum_over (of_slab h) slabs ∷ sum_over (of_slab volume_of) slabs ∷ sum_over (of_slab g) slabs ∷ [])
    ((unit, var 2, var 0 :* var 3 :+ var 1 :* var 4) ∷ (opposite unit, var 5, var 0 :* var 6 :+ var 1 :* var 7) ∷ [])
    (given (sum_over-weighed start slope volume_of g h body (weight-term start slope)) (given (sum_over-weighed start slope (of_slab volume_of) (of_slab g) (of_slab h) slabs slab) none))
    (var 2 :- var 5) (var 0 :* (var 3 :- var 6) :+ var 1 :* (var 4 :- var 7)) refl
  where
    body : List (Tetrahedron Position)
    body = submerged_body plane stations

    g : Tetrahedron Position → Fraction
    g t = volume_of t ⊗ mean_of (λ p. p.x) t

    h : Tetrahedron Position → Fraction
    h t = volume_of t ⊗ mean_of (weight start slope) t

    of_slab : (Tetrahedron Position → Fraction) → Slab → Fraction
    of_slab term s = flooded_share s ⊗ sum_over term (submerged_between plane stations s.aft s.fore)

    slab : (s : Slab) → of_slab h s ≡ start ⊗ of_slab volume_of s ⊕ slope ⊗ of_slab g s
    slab s = ring_from fraction_ring (flooded_share s ∷ start ∷ slope ∷ sum_over h ps ∷ sum_over volume_of ps ∷ sum_over g ps ∷ []) ((var 0, var 3, var 1 :* var 4 :+ var 2 :* var 5) ∷ [])
        (given (sum_over-weighed start slope volume_of g h ps (weight-term start slope)) none) (var 0 :* var 3) (var 1 :* (var 0 :* var 4) :+ var 2 :* (var 0 :* var 5)) refl
      where
        ps : List (Tetrahedron Position)
        ps = submerged_between plane stations s.aft s.fore

-- ---- the volume that is left, and its moments about the ends
module _ (low high : Waterplane) (raised : IsRaised low high) (stations : List Station) (hull : IsHull stations) (slabs : List Slab) (separate : are_apart slabs ≡ true) where
  -- by the law, for a weight
  left_by : (start slope : Fraction) → nought ≼ start ⊕ slope ⊗ whole (first_x stations) → nought ≼ start ⊕ slope ⊗ whole (last_x stations)
      → start ⊗ volume_left low stations slabs ⊕ slope ⊗ mx_left low stations slabs ≼ start ⊗ volume_left high stations slabs ⊕ slope ⊗ mx_left high stations slabs
  left_by start slope h k = Order.≼_trans fractions (Order.≼_same fractions (sym (weights_are_known low stations slabs start slope)))
      (Order.≼_trans fractions (rising_law low high raised stations hull slabs separate start slope (record { first = h; last = k }))
      (Order.≼_same fractions (weights_are_known high stations slabs start slope)))

  abbrev values : List Fraction
  values = volume_left low stations slabs ∷ mx_left low stations slabs ∷ volume_left high stations slabs ∷ mx_left high stations slabs ∷ whole (first_x stations) ∷ whole (last_x stations) ∷ []

  first_last : whole (first_x stations) ≼ whole (last_x stations)
  first_last = Order.≺_weak fractions (whole-≺ (ends_apart stations hull))

  volume_rises : volume_left low stations slabs ≼ volume_left high stations slabs
  volume_rises = order_from fractions values ((unit, unit :* var 0 :+ number 0 :* var 1, unit :* var 2 :+ number 0 :* var 3) ∷ [])
      (at_most (left_by one nought (even (whole (first_x stations))) (even (whole (last_x stations)))) no_more) (var 0) (var 2) refl
    where
      even : (x : Fraction) → nought ≼ one ⊕ nought ⊗ x
      even x = Order.nought-≼ fractions (Order.nonnegative_same fractions (ring fraction_ring (x ∷ []) (unit :+ number 0 :* var 0) unit refl) (Order.nonnegative-one fractions))

  from_last_rises : moment_from_last low stations slabs ≼ moment_from_last high stations slabs
  from_last_rises = order_from fractions values ((unit, var 5 :* var 0 :+ opposite unit :* var 1, var 5 :* var 2 :+ opposite unit :* var 3) ∷ [])
      (at_most (left_by (whole (last_x stations)) (negative one)
      (order_from fractions values ((unit, var 4, var 5) ∷ []) (at_most first_last no_more) (number 0) (var 5 :+ opposite unit :* var 4) refl)
      (order_from fractions values [] no_more (number 0) (var 5 :+ opposite unit :* var 5) refl)) no_more)
      (var 5 :* var 0 :- var 1) (var 5 :* var 2 :- var 3) refl

  from_first_rises : moment_from_first low stations slabs ≼ moment_from_first high stations slabs
  from_first_rises = order_from fractions values ((unit, opposite (var 4) :* var 0 :+ unit :* var 1, opposite (var 4) :* var 2 :+ unit :* var 3) ∷ [])
      (at_most (left_by (negative (whole (first_x stations))) one
      (order_from fractions values [] no_more (number 0) (opposite (var 4) :+ unit :* var 4) refl)
      (order_from fractions values ((unit, var 4, var 5) ∷ []) (at_most first_last no_more) (number 0) (opposite (var 4) :+ unit :* var 5) refl)) no_more)
      (var 1 :- var 4 :* var 0) (var 3 :- var 4 :* var 2) refl

pub moments_rise : MomentsRise
moments_rise low high raised stations hull slabs separate = record {
  volume = volume_rises low high raised stations hull slabs separate;
  from_last = from_last_rises low high raised stations hull slabs separate;
  from_first = from_first_rises low high raised stations hull slabs separate;
}
