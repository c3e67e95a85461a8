-- What is left is what is submerged, less the columns of the parts that are lost.
use Rattle.std.proofs.Common.{ℤ, ◌≡◌, refl, sym, ◌∙◌, ap, List, map}
use Rattle.exact_algebra.proofs.Fraction.{Fraction, one, ◌⊗◌, ◌⊖◌}
use Rattle.hull_model.specs.declared.slab.Slab.{Slab}
use Rattle.hull_model.specs.declared.station.Station.{Station}
use Rattle.hull_model.specs.Body.{IsHull}
use Rattle.hull_model.specs.Faces.{triangle_of}
use Rattle.hull_model.specs.Flooded.{flooded_share, volume_left, mx_left, mv_left, mu_left}
use Rattle.hull_model.specs.Fractions.{sum_over}
use Rattle.hull_model.specs.Submerged.{first_x, last_x, submerged_volume, mx, mv, mu}
use Rattle.hull_model.specs.Waterplane.{Waterplane, side_distance}
use Rattle.hull_polyhedron.specs.declared.faces.Faces.{Faces}
use Rattle.hull_polyhedron.specs.Columns.{middle}
use Rattle.hull_polyhedron.specs.FacesOf.{AreFacesOf}
use Rattle.hull_polyhedron.specs.SlabLaw.{IsSummedBetween}
use Rattle.hull_polyhedron.proofs.OneTetrahedron.{one_linear, middle_linear}
use Rattle.hull_polyhedron.proofs.Placed.{side_linear}
use Rattle.hull_polyhedron.proofs.SlabOfHull.{slab_law_of_hulls}
use Rattle.flux_moments.specs.Shared.{shared_columns}
use Rattle.compartment_loss.specs.Flooding.{flooded_parts}
use Rattle.compartment_loss.proofs.LostColumns.{lost-sum}

module _ (plane : Waterplane) (stations : List Station) (hull : IsHull stations) (faces : Faces) (are : AreFacesOf stations faces) (slabs : List Slab) where
  -- between the faces' own ends
  placed : (Q : ℤ → ℤ → Fraction) → Q faces.first_x faces.last_x ≡ Q (first_x stations) (last_x stations)
  placed Q = ap (λ first. Q first faces.last_x) are.first_x ∙ ap (λ last. Q (first_x stations) last) are.last_x

  law : (s : Slab) → IsSummedBetween plane stations s.aft s.fore (map triangle_of faces.list)
  law s = slab_law_of_hulls plane stations hull (map triangle_of faces.list) are.boundary.balanced s.aft s.fore

  volume_lost : shared_columns plane faces.first_x faces.last_x (λ p. one) (flooded_parts faces.list slabs) ≡ shared_columns plane (first_x stations) (last_x stations) (λ p. one) (flooded_parts faces.list slabs)
  volume_lost = placed (λ first last. shared_columns plane first last (λ p. one) (flooded_parts faces.list slabs))

  pub volume_is_left : submerged_volume plane stations ⊖ shared_columns plane faces.first_x faces.last_x (λ p. one) (flooded_parts faces.list slabs) ≡ volume_left plane stations slabs
  unfolding submerged_volume volume_left
  volume_is_left = λ i. submerged_volume plane stations ⊖ (volume_lost ∙ lost-sum plane (first_x stations) (last_x stations) (λ p. one) (one_linear plane (first_x stations) (last_x stations)) faces.list slabs ∙ (λ j. sum_over (λ s. flooded_share s ⊗ sym (law s).volume j) slabs)) i

  mx_lost : shared_columns plane faces.first_x faces.last_x (λ p. p.x) (flooded_parts faces.list slabs) ≡ shared_columns plane (first_x stations) (last_x stations) (λ p. p.x) (flooded_parts faces.list slabs)
  mx_lost = placed (λ first last. shared_columns plane first last (λ p. p.x) (flooded_parts faces.list slabs))

  pub mx_is_left : mx plane stations ⊖ shared_columns plane faces.first_x faces.last_x (λ p. p.x) (flooded_parts faces.list slabs) ≡ mx_left plane stations slabs
  unfolding mx mx_left
  mx_is_left = λ i. mx plane stations ⊖ (mx_lost ∙ lost-sum plane (first_x stations) (last_x stations) (λ p. p.x) (λ t p q. refl) faces.list slabs ∙ (λ j. sum_over (λ s. flooded_share s ⊗ sym (law s).mx j) slabs)) i

  mv_lost : shared_columns plane faces.first_x faces.last_x (side_distance plane) (flooded_parts faces.list slabs) ≡ shared_columns plane (first_x stations) (last_x stations) (side_distance plane) (flooded_parts faces.list slabs)
  mv_lost = placed (λ first last. shared_columns plane first last (side_distance plane) (flooded_parts faces.list slabs))

  pub mv_is_left : mv plane stations ⊖ shared_columns plane faces.first_x faces.last_x (side_distance plane) (flooded_parts faces.list slabs) ≡ mv_left plane stations slabs
  unfolding mv mv_left
  mv_is_left = λ i. mv plane stations ⊖ (mv_lost ∙ lost-sum plane (first_x stations) (last_x stations) (side_distance plane) (side_linear plane) faces.list slabs ∙ (λ j. sum_over (λ s. flooded_share s ⊗ sym (law s).mv j) slabs)) i

  mu_lost : shared_columns plane faces.first_x faces.last_x (middle plane faces.first_x faces.last_x) (flooded_parts faces.list slabs) ≡ shared_columns plane (first_x stations) (last_x stations) (middle plane (first_x stations) (last_x stations)) (flooded_parts faces.list slabs)
  mu_lost = placed (λ first last. shared_columns plane first last (middle plane first last) (flooded_parts faces.list slabs))

  pub mu_is_left : mu plane stations ⊖ shared_columns plane faces.first_x faces.last_x (middle plane faces.first_x faces.last_x) (flooded_parts faces.list slabs) ≡ mu_left plane stations slabs
  unfolding mu mu_left
  mu_is_left = λ i. mu plane stations ⊖ (mu_lost ∙ lost-sum plane (first_x stations) (last_x stations) (middle plane (first_x stations) (last_x stations)) (middle_linear plane (first_x stations) (last_x stations)) faces.list slabs ∙ (λ j. sum_over (λ s. flooded_share s ⊗ sym (law s).mu j) slabs)) i
