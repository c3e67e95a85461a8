-- The sums over the columns of a hull's boundary are the integrals over its submerged body.
use Rattle.std.proofs.Common.{ℕ, pos, ℤ, ◌≡◌, ◌∙◌, refl, sym, ap, subst, ◌<◌, List, [], ◌∷◌, map}
use Rattle.exact_algebra.specs.Expression.{var, unit, ◌:*◌}
use Rattle.exact_algebra.proofs.Bounds as Bounds
use Rattle.exact_algebra.proofs.Fraction.{Fraction, one, ◌⊕◌, ◌⊗◌, inverse, fractions, fraction_ring}
use Rattle.exact_algebra.proofs.Ring.{ring_from, given, none}
use Rattle.exact_algebra.proofs.Span.{ContainsFraction}
use Rattle.exact_algebra.proofs.Whole.{whole, positive-whole}
use Rattle.hull_model.specs.declared.face.Face.{Face}
use Rattle.hull_model.specs.declared.station.Station.{Station}
use Rattle.hull_model.specs.Body.{IsHull}
use Rattle.hull_model.specs.Faces.{triangle_of}
use Rattle.hull_model.specs.Fractions.{sum_over}
use Rattle.hull_model.specs.Lid.{lid_area, lid_x, lid_yy, lid_xx}
use Rattle.hull_model.specs.Submerged.{first_x, last_x, submerged_volume, mx, mv, mu}
use Rattle.hull_model.specs.TriangleCut.{Triangle}
use Rattle.hull_model.specs.Waterplane.{Waterplane, Position, side_distance, upright}
use Rattle.hull_polyhedron.specs.CentralLaw.{IsSummedByColumns}
use Rattle.hull_polyhedron.specs.Columns.{triangle_at, column, middle, seen_part}
use Rattle.hull_polyhedron.specs.FacesOf.{AreFacesOf}
use Rattle.hull_polyhedron.specs.LidLaw.{seen_from_above, LidIsSummedByFaces}
use Rattle.hull_polyhedron.specs.declared.faces.Faces.{Faces}
use Rattle.hull_polyhedron.proofs.LidOfHull.{lid_law}
use Rattle.hull_polyhedron.proofs.WholeHull.{central_law}
use Rattle.flux_moments.specs.Columns.{face_at, columns_volume, columns_mx, columns_mv, columns_mu, lid_parts}

-- what a span holds of a multiple, it holds of the number once it is divided
pub divided : (F n : ℕ) {lo hi : ℤ} {x : Fraction} → 0 < n → ContainsFraction F lo hi ((x ⊗ whole (pos n)) ⊗ inverse (whole (pos n))) → ContainsFraction F lo hi x
divided F n {lo} {hi} {x} h c = subst (λ y. ContainsFraction F lo hi y) same c
  where
    same : (x ⊗ whole (pos n)) ⊗ inverse (whole (pos n)) ≡ x
    same = ring_from fraction_ring (x ∷ whole (pos n) ∷ inverse (whole (pos n)) ∷ []) ((var 0, var 1 :* var 2, unit) ∷ [])
        (given (Bounds.mul-inverse_positive fractions (positive-whole n h)) none) ((var 0 :* var 1) :* var 2) (var 0) refl

pub sum_at : (f : Triangle Position → Fraction) (faces : List Face) → sum_over (λ g. f (face_at g)) faces ≡ sum_over f (map triangle_at (map triangle_of faces))
unfolding sum_over
sum_at f [] = refl
sum_at f (g ∷ faces) = ap (λ s. f (face_at g) ⊕ s) (sum_at f faces)

module _ (plane : Waterplane) (stations : List Station) (hull : IsHull stations) (faces : Faces) (are : AreFacesOf stations faces) where
  law : IsSummedByColumns plane stations (map triangle_of faces.list)
  law = central_law plane stations hull (map triangle_of faces.list) are.boundary.balanced

  -- between the faces' own ends
  pub placed : (Q : ℤ → ℤ → Fraction) → Q faces.first_x faces.last_x ≡ Q (first_x stations) (last_x stations)
  placed Q = ap (λ first. Q first faces.last_x) are.first_x ∙ ap (λ last. Q (first_x stations) last) are.last_x

  pub volume_measured : columns_volume plane faces.first_x faces.last_x faces.list ≡ submerged_volume plane stations
  volume_measured = placed (λ first last. columns_volume plane first last faces.list) ∙ sum_at
      (column plane (first_x stations) (last_x stations) (λ p. one)) faces.list ∙ sym law.volume

  pub mx_measured : columns_mx plane faces.first_x faces.last_x faces.list ≡ mx plane stations
  mx_measured = placed (λ first last. columns_mx plane first last faces.list) ∙ sum_at (column plane (first_x stations) (last_x stations) (λ p. p.x))
      faces.list ∙ sym law.mx

  pub mv_measured : columns_mv plane faces.first_x faces.last_x faces.list ≡ mv plane stations
  mv_measured = placed (λ first last. columns_mv plane first last faces.list) ∙ sum_at
      (column plane (first_x stations) (last_x stations) (side_distance plane)) faces.list ∙ sym law.mv

  pub mu_measured : columns_mu plane faces.first_x faces.last_x faces.list ≡ mu plane stations
  mu_measured = placed (λ first last. columns_mu plane first last faces.list) ∙ sum_at
      (column plane (first_x stations) (last_x stations) (middle plane (first_x stations) (last_x stations))) faces.list ∙ sym law.mu

-- the lid at a level
module _ (at : Fraction) (stations : List Station) (hull : IsHull stations) (faces : Faces) (are : AreFacesOf stations faces) where
  lid : LidIsSummedByFaces at stations (map triangle_of faces.list)
  lid = lid_law at stations hull (map triangle_of faces.list) are.boundary.balanced

  seen : (f g : Position → Fraction) → lid_parts at faces.first_x faces.last_x f g faces.list ≡ seen_from_above at stations f g (map triangle_of faces.list)
  seen f g = placed (upright at) stations hull faces are (λ first last. lid_parts at first last f g faces.list)
      ∙ sum_at (seen_part (upright at) (first_x stations) (last_x stations) f g) faces.list

  pub lid_area_seen : lid_parts at faces.first_x faces.last_x (λ p. one) (λ p. one) faces.list ≡ lid_area at stations
  lid_area_seen = seen (λ p. one) (λ p. one) ∙ sym lid.area

  pub lid_x_seen : lid_parts at faces.first_x faces.last_x (λ p. p.x) (λ p. one) faces.list ≡ lid_x at stations
  lid_x_seen = seen (λ p. p.x) (λ p. one) ∙ sym lid.x

  pub lid_yy_seen : lid_parts at faces.first_x faces.last_x (λ p. p.y) (λ p. p.y) faces.list ≡ lid_yy at stations
  lid_yy_seen = seen (λ p. p.y) (λ p. p.y) ∙ sym lid.yy

  pub lid_xx_seen : lid_parts at faces.first_x faces.last_x (λ p. p.x) (λ p. p.x) faces.list ≡ lid_xx at stations
  lid_xx_seen = seen (λ p. p.x) (λ p. p.x) ∙ sym lid.xx

-- the same number under other names
pub renamed : (Q : ℤ → ℤ → List Face → Fraction) {first last first' last' : ℤ} {faces faces' : List Face} → first ≡ first' → last ≡ last' → faces ≡ faces'
    → Q first last faces ≡ Q first' last' faces'
renamed Q {first} {last} {first'} {last'} {faces} {faces'} e f g = ap (λ z. Q z last faces) e ∙ ap (λ z. Q first' z faces) f ∙ ap (λ l. Q first' last' l) g

-- what is measured is a quotient of a sum between the faces' own ends
pub measured : (faces : Faces) {first last : ℤ} {list : List Face} → first ≡ faces.first_x → last ≡ faces.last_x → list ≡ faces.list → (n : ℕ) → 0 < n
    → (Q : ℤ → ℤ → List Face → Fraction) {value : Fraction} {lo hi : ℤ}
    → Q faces.first_x faces.last_x faces.list ≡ value → ContainsFraction 20 lo hi ((Q first last list ⊗ whole (pos n)) ⊗ inverse (whole (pos n)))
    → ContainsFraction 20 lo hi value
measured faces e f g n some Q {value} {lo} {hi} same c = subst (λ (x : Fraction). ContainsFraction 20 lo hi x) (renamed Q e f g ∙ same) (divided 20 n some c)
