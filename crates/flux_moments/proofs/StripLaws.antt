-- The strips of a hull at a plane: by the columns of their faces, by their totals, and dry ones.
use Rattle.std.proofs.Common.{◌≡◌, refl, sym, ◌∙◌, ap, subst, ℕ, zero, suc, ◌+◌, ◌-◌, ◌<◌, ◌≤◌, pos, Bool, true, false, List, [], ◌∷◌, length, map, take, drop, get_or, arith}
use Rattle.std.specs.Prelude.{cond}
use Rattle.std.specs.List.{AllByRecursion, flat_map, slice_range}
use Rattle.exact_algebra.specs.Expression.{var, number, unit, ◌:+◌, ◌:*◌, opposite}
use Rattle.exact_algebra.proofs.Bounds as Bounds
use Rattle.exact_algebra.proofs.Fraction.{Fraction, nought, one, ◌⊗◌, inverse, fractions, fraction_ring, ◌≼◌, ◌≺◌}
use Rattle.exact_algebra.proofs.Order as Order
use Rattle.exact_algebra.proofs.Ring.{ring, ring_from, given, none}
use Rattle.exact_algebra.proofs.Whole.{whole, positive-whole}
use Rattle.hull_model.specs.declared.face.Face.{Face}
use Rattle.hull_model.specs.declared.node.Node.{Node}
use Rattle.hull_model.specs.declared.station.Station.{Station}
use Rattle.hull_model.specs.Body.{IsHull}
use Rattle.hull_model.specs.Faces.{triangle_of}
use Rattle.hull_model.specs.Fractions.{sum_over}
use Rattle.hull_model.specs.Nodes.{mirrored}
use Rattle.hull_model.specs.Submerged.{first_x, last_x}
use Rattle.hull_model.specs.Tetrahedra.{hull_tetrahedra}
use Rattle.hull_model.specs.TriangleCut.{Triangle}
use Rattle.hull_model.specs.Waterplane.{Waterplane, Position, height, side_distance}
use Rattle.hull_polyhedron.specs.CentralLaw.{AreColumnSums}
use Rattle.hull_polyhedron.specs.Columns.{triangle_at, column, middle}
use Rattle.hull_polyhedron.specs.FacesOf.{AreFacesOf}
use Rattle.hull_polyhedron.specs.StripLaw.{strip_pieces, strip_volume, strip_integral, IsWet, IsDry, IsDeep, HasNothingSubmerged, AreWhollySubmerged}
use Rattle.hull_polyhedron.specs.Strips.{strips_of, strip_at, is_in_strip, faces_in, triangles_in}
use Rattle.hull_polyhedron.specs.StripsOf.{strip_count, strip_faces, strip_nodes, total}
use Rattle.hull_polyhedron.specs.Totals.{totals_of}
use Rattle.hull_polyhedron.specs.declared.faces.Faces.{Faces}
use Rattle.hull_polyhedron.specs.declared.totals.Totals.{Totals}
use Rattle.hull_polyhedron.proofs.StripColumns.{columns_of_strips}
use Rattle.hull_polyhedron.proofs.StripWhole.{dry_strips, wet_strips}
use Rattle.flux_moments.specs.Columns.{face_at, depth_of, columns_volume, columns_integral}
use Rattle.flux_moments.specs.Planes.{IsIn}
use Rattle.flux_moments.specs.Water.{IsUnder, IsOut}
use Rattle.flux_moments.specs.declared.plane_box.PlaneBox.{PlaneBox}
use Rattle.flux_moments.proofs.Measured.{placed, sum_at}
use Rattle.flux_moments.proofs.Waters.{each}

-- the faces in a strip, as triangles
pub in_strip : (strip : List Station) (faces : List Face) → map triangle_of (faces_in strip faces) ≡ triangles_in strip (map triangle_of faces)
in_strip strip [] = refl
in_strip strip (f ∷ faces) = go (is_in_strip strip (triangle_of f)) (in_strip strip faces)
  where
    go : (b : Bool) → map triangle_of (faces_in strip faces) ≡ triangles_in strip (map triangle_of faces)
        → map triangle_of (cond b (f ∷ faces_in strip faces) (faces_in strip faces)) ≡ cond b (triangle_of f ∷ triangles_in strip (map triangle_of faces)) (triangles_in strip (map triangle_of faces))
    go true e = ap (λ ts. triangle_of f ∷ ts) e
    go false e = e

-- one element of a list, as a slice
first_of : {A : Type 0} (xs : List A) (n : ℕ) (other : A) → n < length xs → take 1 (drop n xs) ≡ get_or xs n other ∷ []
first_of [] n other less = absurd (omega (arith, less))
first_of (x ∷ xs) zero other less = refl
first_of (x ∷ xs) (suc n) other less = first_of xs n other (omega (arith, less))

one_in_slice : {A : Type 0} (xs : List A) (n : ℕ) (other : A) → n < length xs → slice_range xs n (n + 1) ≡ get_or xs n other ∷ []
one_in_slice xs n other less = ap (λ k. take k (drop n xs)) count ∙ first_of xs n other less
  where
    count : n + 1 - n ≡ 1
    count = omega arith

alone : {A : Type 0} (f : A → Fraction) (x : A) → sum_over f (x ∷ []) ≡ f x
unfolding sum_over
alone f x = ring fraction_ring (f x ∷ []) (var 0 :+ number 0) (var 0) refl

module _ (stations : List Station) (hull : IsHull stations) (faces : Faces) (are : AreFacesOf stations faces) (n : ℕ) (less : n < strip_count faces) where
  abbrev strip : List Station
  strip = strip_at stations n

  pub within : n < length (strips_of stations)
  within = subst (λ (k : ℕ). n < k) are.strips less

  module _ (plane : Waterplane) where
    law : AreColumnSums plane (first_x stations) (last_x stations) (strip_pieces plane stations strip) (map triangle_at (triangles_in strip (map triangle_of faces.list)))
    law = columns_of_strips plane stations hull (map triangle_of faces.list) are.boundary.balanced n within

    -- a sum over the strip's faces
    pub summed : (f : Triangle Position → Fraction) → sum_over (λ g. f (face_at g)) (strip_faces faces n) ≡ sum_over f (map triangle_at (triangles_in strip (map triangle_of faces.list)))
    summed f = ap (sum_over (λ g. f (face_at g))) (are.strip_faces n less) ∙ sum_at f (faces_in strip faces.list)
        ∙ ap (λ ts. sum_over f (map triangle_at ts)) (in_strip strip faces.list)

    pub volume_in_strip : columns_volume plane faces.first_x faces.last_x (strip_faces faces n) ≡ strip_volume plane stations strip
    volume_in_strip = placed plane stations hull faces are (λ first last. columns_volume plane first last (strip_faces faces n))
        ∙ summed (column plane (first_x stations) (last_x stations) (λ p. one)) ∙ sym law.volume

    pub mx_in_strip : columns_integral plane faces.first_x faces.last_x (λ p. p.x) (strip_faces faces n) ≡ strip_integral plane stations (λ p. p.x) strip
    mx_in_strip = placed plane stations hull faces are (λ first last. columns_integral plane first last (λ p. p.x) (strip_faces faces n))
        ∙ summed (column plane (first_x stations) (last_x stations) (λ p. p.x)) ∙ sym law.mx

    pub mv_in_strip : columns_integral plane faces.first_x faces.last_x (side_distance plane) (strip_faces faces n) ≡ strip_integral plane stations (side_distance plane) strip
    mv_in_strip = placed plane stations hull faces are (λ first last. columns_integral plane first last (side_distance plane) (strip_faces faces n))
        ∙ summed (column plane (first_x stations) (last_x stations) (side_distance plane)) ∙ sym law.mv

    pub mu_in_strip : columns_integral plane faces.first_x faces.last_x (middle plane faces.first_x faces.last_x) (strip_faces faces n) ≡ strip_integral plane stations (height plane) strip
    mu_in_strip = placed plane stations hull faces are (λ first last. columns_integral plane first last (middle plane first last) (strip_faces faces n))
        ∙ summed (column plane (first_x stations) (last_x stations) (middle plane (first_x stations) (last_x stations))) ∙ sym law.mu

    module _ (planes : PlaneBox) (is : IsIn planes plane) where
      -- what holds at the depths of the strip's points
      at_depths : (P : Fraction → Type 0) → AllByRecursion (λ n. P (depth_of plane faces.first_x faces.last_x n) × P (depth_of plane faces.first_x faces.last_x (mirrored n))) (strip_nodes faces n)
          → AllByRecursion (λ n. P (depth_of plane (first_x stations) (last_x stations) n) × P (depth_of plane (first_x stations) (last_x stations) (mirrored n))) (strip_nodes faces n)
      at_depths P all = each (λ m both. (
        subst P (placed plane stations hull faces are (λ first last. depth_of plane first last m)) both.0,
        subst P (placed plane stations hull faces are (λ first last. depth_of plane first last (mirrored m))) both.1,
      )) (strip_nodes faces n) all

      pub out_of_water : AllByRecursion (IsOut planes faces.first_x faces.last_x) (strip_nodes faces n) → IsDry plane stations strip
      out_of_water all = subst (λ (nodes : List Node). AllByRecursion (λ m. (depth_of plane (first_x stations) (last_x stations) m ≼ nought) × (depth_of plane (first_x stations) (last_x stations) (mirrored m) ≼ nought)) nodes)
          (are.strip_nodes n less) (at_depths (λ h. h ≼ nought) (each (λ m at. at plane is) (strip_nodes faces n) all))

      pub under_water : AllByRecursion (IsUnder planes faces.first_x faces.last_x) (strip_nodes faces n) → IsWet plane stations strip
      under_water all = subst (λ (nodes : List Node). AllByRecursion (λ m. (nought ≼ depth_of plane (first_x stations) (last_x stations) m) × (nought ≼ depth_of plane (first_x stations) (last_x stations) (mirrored m))) nodes)
          (are.strip_nodes n less) (at_depths (λ h. nought ≼ h) (each (λ m at. (Order.≺_weak fractions (at plane is).0, Order.≺_weak fractions (at plane is).1)) (strip_nodes faces n) all))

      pub deep_in_water : AllByRecursion (IsUnder planes faces.first_x faces.last_x) (strip_nodes faces n) → IsDeep plane stations strip
      deep_in_water all = subst (λ (nodes : List Node). AllByRecursion (λ m. (nought ≺ depth_of plane (first_x stations) (last_x stations) m) × (nought ≺ depth_of plane (first_x stations) (last_x stations) (mirrored m))) nodes)
          (are.strip_nodes n less) (at_depths (λ h. nought ≺ h) (each (λ m at. at plane is) (strip_nodes faces n) all))

      pub dry : AllByRecursion (IsOut planes faces.first_x faces.last_x) (strip_nodes faces n) → HasNothingSubmerged plane stations strip
      dry all = dry_strips plane stations strip (out_of_water all)

      module _ (all : AllByRecursion (IsUnder planes faces.first_x faces.last_x) (strip_nodes faces n)) (t : Totals) (same : t ≡ total faces n (n + 1)) where
        wet : AreWhollySubmerged plane stations t (strip ∷ [])
        wet = subst (λ (t : Totals). AreWhollySubmerged plane stations t (strip ∷ [])) (sym (same ∙ are.totals n (n + 1) ordered more
            ∙ ap (λ strips. totals_of (flat_map hull_tetrahedra strips)) (one_in_slice (strips_of stations) n [] within)))
            (wet_strips plane stations (strip ∷ []) (under_water all, tt))
          where
            ordered : n ≤ n + 1
            ordered = omega arith

            more : n + 1 ≤ strip_count faces
            more = omega (arith, less)

        pub wet_volume : strip_volume plane stations strip ≡ whole t.six ⊗ inverse (whole (pos 6))
        wet_volume = sym (alone (strip_volume plane stations) strip) ∙ wet.volume

        pub wet_mx : strip_integral plane stations (λ p. p.x) strip ≡ whole t.mx24 ⊗ inverse (whole (pos 24))
        wet_mx = sym (alone (strip_integral plane stations (λ p. p.x)) strip) ∙ wet.x

        pub wet_mv : strip_integral plane stations (side_distance plane) strip ≡ whole (pos plane.s) ⊗ (whole t.mz24 ⊗ inverse (whole (pos 24))) ⊗ inverse (whole (pos plane.r))
        wet_mv = sym (alone (strip_integral plane stations (side_distance plane)) strip) ∙ wet.mv

        pub wet_mu : strip_integral plane stations (height plane) strip ≡ whole (pos plane.c) ⊗ (whole t.mz24 ⊗ inverse (whole (pos 24))) ⊗ inverse (whole (pos plane.r))
        wet_mu = sym (alone (strip_integral plane stations (height plane)) strip) ∙ wet.mu

-- a quotient by a product, times one factor, is the quotient by the other
pub quotient_times : (x : Fraction) (m n k : ℕ) → 0 < m → 0 < k → whole (pos m) ≡ whole (pos k) ⊗ whole (pos n) → (x ⊗ inverse (whole (pos m))) ⊗ whole (pos n) ≡ x ⊗ inverse (whole (pos k))
quotient_times x m n k some_m some_k product = ring_from fraction_ring (x ∷ whole (pos m) ∷ inverse (whole (pos m)) ∷ whole (pos k) ∷ inverse (whole (pos k)) ∷ whole (pos n) ∷ [])
    ((opposite (var 0 :* var 2 :* var 5), var 3 :* var 4, unit) ∷ (var 0 :* var 4, var 1 :* var 2, unit) ∷ (opposite (var 0 :* var 4 :* var 2), var 1, var 3 :* var 5) ∷ [])
    (given (Bounds.mul-inverse_positive fractions (positive-whole k some_k)) (given (Bounds.mul-inverse_positive fractions (positive-whole m some_m)) (given product none)))
    ((var 0 :* var 2) :* var 5) (var 0 :* var 4) refl
