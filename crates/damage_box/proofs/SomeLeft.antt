-- The volume that is left isn't below nought: slabs apart from each other flood no more than is submerged.
use Rattle.std.proofs.Common.{◌≡◌, ◌≢◌, inl, inr, refl, sym, ◌∙◌, ap, true, false, ℤ, ◌≤ℤ◌, ◌<ℤ◌, List, [], ◌∷◌, arith}
use Rattle.std.specs.List.{flat_map}
use Rattle.std.proofs.lemmas.Int.{ints}
use Rattle.exact_algebra.specs.OrderedField.{below}
use Rattle.exact_algebra.specs.Expression.{var, unit, number, ◌:+◌, ◌:-◌, ◌:*◌, opposite}
use Rattle.exact_algebra.proofs.Ring.{ring}
use Rattle.exact_algebra.proofs.Fraction.{Fraction, nought, one, ◌⊕◌, ◌⊗◌, ◌⊖◌, ◌≼◌, sign, fractions, fraction_ring}
use Rattle.exact_algebra.proofs.Whole.{positive-whole}
use Rattle.exact_algebra.proofs.Bounds as Bounds
use Rattle.exact_algebra.proofs.Order as Order
use Rattle.exact_algebra.proofs.Order.{order_from, no_more, at_most, equal}
use Rattle.hull_model.specs.declared.node.Node.{Node}
use Rattle.hull_model.specs.declared.slab.Slab.{Slab}
use Rattle.hull_model.specs.declared.station.Station.{Station}
use Rattle.hull_model.specs.Fractions.{sum_over, magnitude}
use Rattle.hull_model.specs.TetrahedronCut.{Tetrahedron, with_corners, kept_pieces}
use Rattle.hull_model.specs.Tetrahedra.{hull_tetrahedra}
use Rattle.hull_model.specs.Waterplane.{Waterplane, Position, position_of, under}
use Rattle.hull_model.specs.Submerged.{first_x, last_x, submerged_pieces, volume_of, mean_of, determinant}
use Rattle.hull_model.specs.Flooded.{cut_by, forward_of, aft_of, pieces_between, all_between, submerged_between, flooded_share, volume_left, mx_left}
use Rattle.hull_model.specs.Slabs.{are_apart}
use Rattle.hull_polyhedron.specs.RisingLaw.{weight}
use Rattle.hull_model.proofs.TetrahedronRounds.{depth_linear}
use Rattle.hull_model.proofs.PartSums.{sum_over-flat_map}
use Rattle.hull_polyhedron.specs.Columns.{depth}
use Rattle.hull_polyhedron.proofs.Determinants.{magnitude_signed}
use Rattle.hull_polyhedron.proofs.DisjointSlabs.{RisesTo, flooded_rises_within}
use Rattle.hull_polyhedron.proofs.OneTetrahedron.{integral-term}
use Rattle.hull_polyhedron.proofs.RisingHull.{between-aft, forward-aft, weights_are_known}
use Rattle.hull_polyhedron.proofs.RisingPieces.{weight_linear, weight_seen}

abbrev NonNegative : Fraction → Type 0
NonNegative x = sign x ≢ below

magnitude-nonnegative : (x : Fraction) → NonNegative (magnitude x)
magnitude-nonnegative x = elim (Order.nonnegative_or fractions x) [
  | inl n ↦ Order.nonnegative_same fractions (magnitude_signed true x n) n
  | inr p ↦ Order.nonnegative_same fractions (magnitude_signed false x (Order.nonnegative_positive fractions p)) (Order.nonnegative_positive fractions p)
]

sum-nonnegative : {A : Type 0} (f : A → Fraction) → ((x : A) → NonNegative (f x)) → (xs : List A) → NonNegative (sum_over f xs)
unfolding sum_over
sum-nonnegative f h [] = Order.nonnegative-nought fractions
sum-nonnegative f h (x ∷ xs) = Order.nonnegative-add fractions (h x) (sum-nonnegative f h xs)

-- the weight one
abbrev w : Position → Fraction
w = weight one nought

abbrev term : Tetrahedron Position → Fraction
term t = volume_of t ⊗ mean_of w t

term-nonnegative : (t : Tetrahedron Position) → NonNegative (term t)
term-nonnegative t = Order.nonnegative-mul fractions
    (Order.nonnegative-mul fractions (magnitude-nonnegative (determinant t)) (Order.nonnegative_positive fractions (Bounds.positive-inverse fractions (positive-whole 6 (omega arith)))))
    (Order.nonnegative-mul fractions (Order.nonnegative-add fractions (Order.nonnegative-add fractions (Order.nonnegative-add fractions (at t.a) (at t.b)) (at t.c)) (at t.d))
    (Order.nonnegative_positive fractions (Bounds.positive-inverse fractions (positive-whole 4 (omega arith)))))
  where
    at : (p : Position) → NonNegative (w p)
    at p = Order.nonnegative_same fractions (ring fraction_ring (p.x ∷ []) (unit :+ number 0 :* var 0) unit refl) (Order.nonnegative-one fractions)

module _ (plane : Waterplane) (first last : ℤ) (tets : List (Tetrahedron Node)) where
  abbrev under_plane : Tetrahedron Position → Fraction
  under_plane t = sum_over term (kept_pieces (under plane first last) t)

  under-nonnegative : (t : Tetrahedron Position) → NonNegative (under_plane t)
  under-nonnegative t = sum-nonnegative term term-nonnegative (kept_pieces (under plane first last) t)

  -- what is submerged of parts of each tetrahedron
  abbrev parts_total : (Tetrahedron Position → List (Tetrahedron Position)) → Fraction
  parts_total parts = sum_over (λ t. sum_over under_plane (parts (with_corners position_of t))) tets

  parts-nonnegative : (parts : Tetrahedron Position → List (Tetrahedron Position)) → NonNegative (parts_total parts)
  parts-nonnegative parts = sum-nonnegative (λ t. sum_over under_plane (parts (with_corners position_of t)))
      (λ t. sum-nonnegative under_plane under-nonnegative (parts (with_corners position_of t))) tets

  abbrev total : Fraction
  total = sum_over (λ t. under_plane (with_corners position_of t)) tets

  abbrev aft_total : ℤ → Fraction
  aft_total place = parts_total (kept_pieces (cut_by (aft_of place)))

  between : (aft fore : ℤ) → aft ≤ℤ fore → parts_total (pieces_between aft fore) ≡ aft_total fore ⊖ aft_total aft
  between = between-aft plane first last tets term w (depth plane first last) (weight_linear one nought) (depth_linear plane first last) (weight_seen one nought plane first last term (integral-term w))

  forward : (place : ℤ) → parts_total (kept_pieces (cut_by (forward_of place))) ≡ total ⊖ aft_total place
  forward = forward-aft plane first last tets term w (depth plane first last) (weight_linear one nought) (depth_linear plane first last) (weight_seen one nought plane first last term (integral-term w))

  rises : RisesTo total aft_total
  rises = record {
    rises = λ a b h. Order.nonnegative_same fractions (sym (between a b h)) (parts-nonnegative (pieces_between a b));
    low = λ a. Order.nought-≼ fractions (parts-nonnegative (kept_pieces (cut_by (aft_of a))));
    high = λ a. Order.nonnegative_same fractions (sym (forward a)) (parts-nonnegative (kept_pieces (cut_by (forward_of a))));
  }

  submerged-total : sum_over term (submerged_pieces plane first last tets) ≡ total
  unfolding submerged_pieces
  submerged-total = sum_over-flat_map term (λ t. kept_pieces (under plane first last) (with_corners position_of t)) tets

  slab-total : (aft fore : ℤ) → sum_over term (flat_map (kept_pieces (under plane first last)) (all_between aft fore tets)) ≡ parts_total (pieces_between aft fore)
  unfolding all_between
  slab-total aft fore = sum_over-flat_map term (kept_pieces (under plane first last)) (all_between aft fore tets)
      ∙ sum_over-flat_map under_plane (λ t. pieces_between aft fore (with_corners position_of t)) tets

  abbrev flooded : List Slab → Fraction
  flooded slabs = sum_over (λ s. flooded_share s ⊗ sum_over term (flat_map (kept_pieces (under plane first last)) (all_between s.aft s.fore tets))) slabs

  each : (slabs : List Slab) → flooded slabs ≡ sum_over (λ s. flooded_share s ⊗ (aft_total s.fore ⊖ aft_total s.aft)) slabs
  each slabs = ap (λ (f : Slab → Fraction). sum_over f slabs) (λ i s. flooded_share s ⊗ (slab-total s.aft s.fore ∙ between s.aft s.fore (weak s.limits.order)) i)
    where
      weak : {a b : ℤ} → a <ℤ b → a ≤ℤ b
      weak k = omega (arith, ints)

  left-nonnegative : (slabs : List Slab) → are_apart slabs ≡ true → nought ≼ sum_over term (submerged_pieces plane first last tets) ⊖ flooded slabs
  left-nonnegative slabs apart = order_from fractions
      (sum_over term (submerged_pieces plane first last tets) ∷ flooded slabs ∷ total ∷ sum_over (λ s. flooded_share s ⊗ (aft_total s.fore ⊖ aft_total s.aft)) slabs ∷ [])
      ((unit, var 3, var 2) ∷ (opposite unit, var 0, var 2) ∷ (unit, var 1, var 3) ∷ [])
      (at_most (flooded_rises_within slabs apart total aft_total rises) (equal submerged-total (equal (each slabs) no_more)))
      (number 0) (var 0 :- var 1) refl

pub some_left : (plane : Waterplane) (stations : List Station) (slabs : List Slab) → are_apart slabs ≡ true → nought ≼ volume_left plane stations slabs
unfolding submerged_between
some_left plane stations slabs apart = Order.≼_trans fractions (left-nonnegative plane (first_x stations) (last_x stations) (hull_tetrahedra stations) slabs apart)
    (Order.≼_same fractions (weights_are_known plane stations slabs one nought ∙ same (volume_left plane stations slabs) (mx_left plane stations slabs)))
  where
    same : (x y : Fraction) → one ⊗ x ⊕ nought ⊗ y ≡ x
    same x y = ring fraction_ring (x ∷ y ∷ []) (unit :* var 0 :+ number 0 :* var 1) (var 0) refl
