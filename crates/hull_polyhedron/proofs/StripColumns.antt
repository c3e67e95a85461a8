-- The law of strips, by faces: those in planes of constant x aren't seen along the height, and what is left around a strip's tetrahedra are
-- the faces in it.
use Rattle.std.proofs.Common.{ℕ, zero, suc, ◌<◌, ◌≡◌, refl, sym, ◌∙◌, ap, ap₂, List, [], ◌∷◌, ◌++◌, map, length, Bool, true, false, ℤ, pos, ◌≤ℤ◌, arith}
use mathlib.Core.Logic.{◌≢◌, ◌⊎◌, inl, inr}
use mathlib.Core.Path.{subst}
use Rattle.std.proofs.lemmas.Int.{ints}
use Rattle.std.proofs.lemmas.Grind.{flat_map-append}
use Rattle.std.specs.Prelude.{cond, not, ◌&&◌, int_le}
use Rattle.std.specs.Ordering.{int_eq}
use Rattle.std.specs.List.{flat_map, AllByRecursion}
use Rattle.exact_algebra.specs.Expression.{var, number, ◌:+◌, ◌:-◌, ◌:*◌, opposite}
use Rattle.exact_algebra.proofs.Ring.{ring, ring_from, none, given}
use Rattle.exact_algebra.proofs.WholeNumbers.{integers}
use Rattle.exact_algebra.proofs.Fraction.{Fraction, nought, one, ◌⊕◌, ◌⊗◌, negative, inverse, fraction_ring}
use Rattle.exact_algebra.proofs.Whole.{whole, whole-nought}
use Rattle.hull_model.specs.declared.node.Node.{Node}
use Rattle.hull_model.specs.declared.station.Station.{Station}
use Rattle.hull_model.specs.Body.{IsHull}
use Rattle.hull_model.specs.Boundary.{AreBalanced, IsAlternating, sum_in}
use Rattle.hull_model.specs.Faces.{doubled_area}
use Rattle.hull_model.specs.Fractions.{sum_over}
use Rattle.hull_model.specs.Lists.{Rises}
use Rattle.hull_model.specs.SignedFaces.{Signed, turned, outward_faces, signed_solids, mirror_image, signed_tetrahedra, signed_faces}
use Rattle.hull_model.specs.Submerged.{first_x, last_x, submerged_pieces}
use Rattle.hull_model.specs.TetrahedronCut.{Tetrahedron}
use Rattle.hull_model.specs.TriangleCut.{Triangle, triangle}
use Rattle.hull_model.specs.Waterplane.{Waterplane, Position, side_distance, upright}
use Rattle.hull_model.proofs.Balance.{balanced_sums}
use Rattle.hull_polyhedron.specs.CentralLaw.{AreColumnSums}
use Rattle.hull_polyhedron.specs.Columns.{depth, middle, seen_area, seen_part, seen_sum, column_sum, triangle_at}
use Rattle.hull_polyhedron.specs.LidLaw.{AreLidSums}
use Rattle.hull_polyhedron.specs.StripLaw.{ColumnsOfStrips, LidsOfStrips, strip_pieces}
use Rattle.hull_polyhedron.specs.Strips.{strips_of, strip_at, is_transverse, is_along, is_in_strip, triangles_in}
use Rattle.hull_polyhedron.proofs.Between.{hull_between, places_hold}
use Rattle.hull_polyhedron.proofs.HullCorners.{tetrahedra_hold, OfCorners}
use Rattle.hull_polyhedron.proofs.LidOfHull.{lid_law_of_solids}
use Rattle.hull_polyhedron.proofs.OutwardSolids.{points_outwards}
use Rattle.hull_polyhedron.proofs.Proper.{all-append}
use Rattle.hull_polyhedron.proofs.SeenForm.{column_sum-seen}
use Rattle.hull_polyhedron.proofs.SixVolume.{solids_of_hull}
use Rattle.hull_polyhedron.proofs.StripByStrip.{IsStrip, all_at, all_strips, ends_before, single, strip_by_strip}
use Rattle.hull_polyhedron.proofs.WholeHull.{solids_law, seen-alternating, seen_area-node, sum_over-map}

-- ---- whether a triangle is in a strip doesn't depend on the order of its corners
three_turned : (p q r : Bool) → (q && (p && r)) ≡ (p && (q && r))
three_turned p q r = grind arith

three_rotated : (p q r : Bool) → (q && (r && p)) ≡ (p && (q && r))
three_rotated p q r = grind arith

pub transverse_turned : (k l m : ℤ) → (int_eq l k && (int_eq k m && int_eq m l)) ≡ (int_eq k l && (int_eq l m && int_eq m k))
transverse_turned k l m = grind arith

in_strip-turned : (strip : List Station) (t : Triangle Node) → is_in_strip strip (turned t) ≡ is_in_strip strip t
unfolding is_in_strip
in_strip-turned strip t = ap₂ (λ p q. p && not q) (three_turned (is_along strip t.a) (is_along strip t.b) (is_along strip t.c)) (transverse_turned t.a.x t.b.x t.c.x)

in_strip-rotated : (strip : List Station) (t : Triangle Node) → is_in_strip strip (triangle t.b t.c t.a) ≡ is_in_strip strip t
unfolding is_in_strip
in_strip-rotated strip t = ap₂ (λ p q. p && not q) (three_rotated (is_along strip t.a) (is_along strip t.b) (is_along strip t.c)) (three_rotated (int_eq t.a.x t.b.x) (int_eq t.b.x t.c.x) (int_eq t.c.x t.a.x))

-- ---- triangles all of whose corners lie from one place to another
pub record LiesFrom (first last : ℤ) (t : Triangle Node) : Type 0 where
  pub a : (first ≤ℤ t.a.x) × (t.a.x ≤ℤ last)
  pub b : (first ≤ℤ t.b.x) × (t.b.x ≤ℤ last)
  pub c : (first ≤ℤ t.c.x) × (t.c.x ≤ℤ last)

along : (first last x : ℤ) → (first ≤ℤ x) × (x ≤ℤ last) → (int_le first x && int_le x last) ≡ true
along first last x h = go (h.0) (h.1)
  where
    go : first ≤ℤ x → x ≤ℤ last → (int_le first x && int_le x last) ≡ true
    go h k = grind arith

-- such a triangle of a strip is in it, or transverse
pub in_own : (strip : List Station) (t : Triangle Node) → LiesFrom (first_x strip) (last_x strip) t → is_in_strip strip t ≡ not (is_transverse t)
unfolding is_in_strip
in_own strip t lies = ap₂ (λ p q. (p && q) && not (is_transverse t)) (along (first_x strip) (last_x strip) t.a.x lies.a)
    (ap₂ (λ p q. p && q) (along (first_x strip) (last_x strip) t.b.x lies.b) (along (first_x strip) (last_x strip) t.c.x lies.c))

pub transverse_places : (k l m : ℤ) → (int_eq k l && (int_eq l m && int_eq m k)) ≡ true → (k ≡ l) × (l ≡ m)
transverse_places k l m e = grind arith

-- one of a strip before or after is in no other
both_true : (p q : Bool) → (p && q) ≡ true → (p ≡ true) × (q ≡ true)
both_true p q e = grind arith

ordered : (m n : ℤ) → int_le m n ≡ true → m ≤ℤ n
ordered m n e = grind arith

in_range : (first last x : ℤ) → (int_le first x && int_le x last) ≡ true → (first ≤ℤ x) × (x ≤ℤ last)
in_range first last x e =
    let parts : (int_le first x ≡ true) × (int_le x last ≡ true) = both_true (int_le first x) (int_le x last) e in
    (ordered first x parts.0, ordered x last parts.1)

pub same_places : (k l m : ℤ) → k ≡ l → l ≡ m → (int_eq k l && (int_eq l m && int_eq m k)) ≡ true
same_places k l m e f = grind arith

not_both : (p q : Bool) → (p ≡ true → q ≡ true) → (p && not q) ≡ false
not_both true true h = refl
not_both true false h = sym (h refl)
not_both false q h = refl

between_two : (first last first' last' k l m : ℤ) → (last ≤ℤ first') ⊎ (last' ≤ℤ first) → (first ≤ℤ k) × (k ≤ℤ last) → (first ≤ℤ l) × (l ≤ℤ last) → (first ≤ℤ m) × (m ≤ℤ last)
    → (((int_le first' k && int_le k last') && ((int_le first' l && int_le l last') && (int_le first' m && int_le m last'))) && not (int_eq k l && (int_eq l m && int_eq m k))) ≡ false
between_two first last first' last' k l m apart hk hl hm = not_both _ _ (λ e.
    let both = both_true (int_le first' k && int_le k last') ((int_le first' l && int_le l last') && (int_le first' m && int_le m last')) e in
    let rest = both_true (int_le first' l && int_le l last') (int_le first' m && int_le m last') both.1 in
    let ik = in_range first' last' k both.0 in
    let il = in_range first' last' l rest.0 in
    let im = in_range first' last' m rest.1 in
    same_places k l m (meet apart hk hl ik il) (meet apart hl hm il im))
  where
    meet : (last ≤ℤ first') ⊎ (last' ≤ℤ first) → {x y : ℤ} → (first ≤ℤ x) × (x ≤ℤ last) → (first ≤ℤ y) × (y ≤ℤ last) → (first' ≤ℤ x) × (x ≤ℤ last') → (first' ≤ℤ y) × (y ≤ℤ last') → x ≡ y
    meet (inl h) i j i' j' = fore h i.1 j.1 i'.0 j'.0
      where
        fore : {a b x y : ℤ} → a ≤ℤ b → x ≤ℤ a → y ≤ℤ a → b ≤ℤ x → b ≤ℤ y → x ≡ y
        fore h i j i' j' = omega (arith, ints)
    meet (inr h) i j i' j' = aft h i.0 j.0 i'.1 j'.1
      where
        aft : {a b x y : ℤ} → a ≤ℤ b → b ≤ℤ x → b ≤ℤ y → x ≤ℤ a → y ≤ℤ a → x ≡ y
        aft h i j i' j' = omega (arith, ints)

pub in_no_other : (strip other : List Station) (t : Triangle Node) → (last_x strip ≤ℤ first_x other) ⊎ (last_x other ≤ℤ first_x strip) → LiesFrom (first_x strip) (last_x strip) t → is_in_strip other t ≡ false
unfolding is_in_strip
in_no_other strip other t apart lies = between_two (first_x strip) (last_x strip) (first_x other) (last_x other) t.a.x t.b.x t.c.x apart lies.a lies.b lies.c

-- ---- the signed faces of a strip lie in it
module _ (first last : ℤ) where
  abbrev IsPlace : ℤ → Type 0
  IsPlace x = (first ≤ℤ x) × (x ≤ℤ last)

  abbrev AtPlace : Node → Type 0
  AtPlace n = IsPlace n.x

  faces_lie : (s : Signed) → AtPlace s.solid.a × AtPlace s.solid.b × AtPlace s.solid.c × AtPlace s.solid.d → AllByRecursion (LiesFrom first last) (outward_faces s)
  faces_lie s h = go s.outwards
    where
      lies : (p q r : Node) → AtPlace p → AtPlace q → AtPlace r → LiesFrom first last (triangle p q r)
      lies p q r i j k = record { a = i; b = j; c = k }

      go : (b : Bool) → AllByRecursion (LiesFrom first last) (outward_faces (record { outwards = b; solid = s.solid }))
      go true = (lies _ _ _ h.1 h.2 h.3, (lies _ _ _ h.0 h.3 h.2, (lies _ _ _ h.0 h.1 h.3, (lies _ _ _ h.0 h.2 h.1, tt))))
      go false = (lies _ _ _ h.2 h.1 h.3, (lies _ _ _ h.3 h.0 h.2, (lies _ _ _ h.1 h.0 h.3, (lies _ _ _ h.2 h.0 h.1, tt))))

  all_lie : (ss : List Signed) → AllByRecursion (OfCorners AtPlace (λ n h. h) (λ n h. h)) (map (λ (s : Signed). s.solid) ss) → AllByRecursion (LiesFrom first last) (flat_map outward_faces ss)
  all_lie [] all = tt
  all_lie (s ∷ ss) all = all-append (LiesFrom first last) (outward_faces s) (flat_map outward_faces ss) (faces_lie s all.0) (all_lie ss all.1)

strip_faces_lie : (strip : List Station) → Rises (λ s. s.x) strip → AllByRecursion (LiesFrom (first_x strip) (last_x strip)) (signed_faces strip)
strip_faces_lie strip rises = all_lie (first_x strip) (last_x strip) (signed_tetrahedra strip)
    (subst (λ (ts : List (Tetrahedron Node)). AllByRecursion (OfCorners (AtPlace (first_x strip) (last_x strip)) (λ n h. h) (λ n h. h)) ts) (sym (solids_of_hull strip))
    (tetrahedra_hold (AtPlace (first_x strip) (last_x strip)) (λ n h. h) (λ n h. h) strip (places_hold (IsPlace (first_x strip) (last_x strip)) strip (hull_between strip rises))))

-- ---- sums
sum_in-none : (k : Triangle Node → Fraction) (ts : List (Triangle Node)) → AllByRecursion (λ t. k t ≡ nought) ts → sum_in fraction_ring.operations k ts ≡ nought
sum_in-none k [] all = refl
sum_in-none k (t ∷ ts) all = ap₂ ◌⊕◌ all.0 (sum_in-none k ts all.1) ∙ ring fraction_ring [] (number 0 :+ number 0) (number 0) refl

sum_in-same : (k l : Triangle Node → Fraction) (ts : List (Triangle Node)) → AllByRecursion (λ t. k t ≡ l t) ts → sum_in fraction_ring.operations k ts ≡ sum_in fraction_ring.operations l ts
sum_in-same k l [] all = refl
sum_in-same k l (t ∷ ts) all = ap₂ ◌⊕◌ all.0 (sum_in-same k l ts all.1)

sum_in-append : (k : Triangle Node → Fraction) (ts us : List (Triangle Node)) → sum_in fraction_ring.operations k (ts ++ us) ≡ sum_in fraction_ring.operations k ts ⊕ sum_in fraction_ring.operations k us
sum_in-append k [] us = ring fraction_ring (sum_in fraction_ring.operations k us ∷ []) (var 0) (number 0 :+ var 0) refl
sum_in-append k (t ∷ ts) us = ap (λ s. k t ⊕ s) (sum_in-append k ts us)
    ∙ ring fraction_ring (k t ∷ sum_in fraction_ring.operations k ts ∷ sum_in fraction_ring.operations k us ∷ []) (var 0 :+ (var 1 :+ var 2)) ((var 0 :+ var 1) :+ var 2) refl

pub all-of : {A : Type 0} (P Q : A → Type 0) → ((x : A) → P x → Q x) → (xs : List A) → AllByRecursion P xs → AllByRecursion Q xs
all-of P Q f [] all = tt
all-of P Q f (x ∷ xs) all = (f x all.0, all-of P Q f xs all.1)

module _ (plane : Waterplane) (first last : ℤ) (f g : Position → Fraction) where
  abbrev part : Triangle Node → Fraction
  part t = seen_part plane first last f g (triangle_at t)

  -- a transverse triangle isn't seen
  transverse_unseen : (t : Triangle Node) → is_transverse t ≡ true → part t ≡ nought
  unfolding seen_part
  transverse_unseen t e = go (seen_area plane (triangle_at t)) _ _ unseen
    where
      go : (x y z : Fraction) → x ≡ nought → x ⊗ y ⊗ z ≡ nought
      go x y z e = ring_from fraction_ring (x ∷ y ∷ z ∷ []) ((var 1 :* var 2, var 0, number 0) ∷ []) (given e none) ((var 0 :* var 1) :* var 2) (number 0) refl

      places : (t.a.x ≡ t.b.x) × (t.b.x ≡ t.c.x)
      places = transverse_places t.a.x t.b.x t.c.x e

      flat_y : (doubled_area t).y ≡ pos 0
      flat_y = ring_from integers (t.a.x ∷ t.a.z ∷ t.b.x ∷ t.b.z ∷ t.c.x ∷ t.c.z ∷ [])
          ((opposite (var 3 :- var 1) :+ (var 5 :- var 1), var 0, var 2) ∷ (opposite (var 3 :- var 1), var 2, var 4) ∷ []) (given places.0 (given places.1 none))
          ((var 3 :- var 1) :* (var 4 :- var 0) :- (var 2 :- var 0) :* (var 5 :- var 1)) (number 0) refl

      flat_z : (doubled_area t).z ≡ pos 0
      flat_z = ring_from integers (t.a.x ∷ t.a.y ∷ t.b.x ∷ t.b.y ∷ t.c.x ∷ t.c.y ∷ [])
          ((opposite (var 5 :- var 1) :+ (var 3 :- var 1), var 0, var 2) ∷ (var 3 :- var 1, var 2, var 4) ∷ []) (given places.0 (given places.1 none))
          ((var 2 :- var 0) :* (var 5 :- var 1) :- (var 3 :- var 1) :* (var 4 :- var 0)) (number 0) refl

      unseen : seen_area plane (triangle_at t) ≡ nought
      unseen = seen_area-node plane t ∙ ring_from fraction_ring
          (whole (pos plane.s) ∷ whole (pos plane.c) ∷ inverse (whole (pos plane.r)) ∷ whole (doubled_area t).y ∷ whole (doubled_area t).z ∷ [])
          ((opposite (var 0 :* var 2), var 3, number 0) ∷ (opposite (var 1 :* var 2), var 4, number 0) ∷ [])
          (given (ap whole flat_y ∙ whole-nought) (given (ap whole flat_z ∙ whole-nought) none))
          (opposite (var 0 :* var 3 :+ var 1 :* var 4) :* var 2) (number 0) refl

  module _ (strip : List Station) where
    abbrev inside : Triangle Node → Fraction
    inside t = cond (is_in_strip strip t) (part t) nought

    inside-alternating : IsAlternating fraction_ring.operations inside
    inside-alternating = record {
      turned = λ t. ap (λ b. cond b (part (turned t)) nought) (in_strip-turned strip t) ∙ go (is_in_strip strip t) _ _ ((seen-alternating plane first last f g).turned t);
      rotated = λ t. ap (λ b. cond b (part (triangle t.b t.c t.a)) nought) (in_strip-rotated strip t) ∙ ap (λ x. cond (is_in_strip strip t) x nought) ((seen-alternating plane first last f g).rotated t);
      flat = λ t e. ap (λ x. cond (is_in_strip strip t) x nought) ((seen-alternating plane first last f g).flat t e) ∙ nothing (is_in_strip strip t);
    }
      where
        go : (b : Bool) (x y : Fraction) → x ≡ negative y → cond b x nought ≡ negative (cond b y nought)
        go true x y e = e
        go false x y e = ring fraction_ring [] (number 0) (opposite (number 0)) refl

        nothing : (b : Bool) → cond b nought nought ≡ nought
        nothing true = refl
        nothing false = refl

    -- a sum over the triangles in the strip
    filtered : (ts : List (Triangle Node)) → sum_in fraction_ring.operations part (triangles_in strip ts) ≡ sum_in fraction_ring.operations inside ts
    filtered [] = refl
    filtered (t ∷ ts) = go (is_in_strip strip t) (filtered ts)
      where
        go : (b : Bool) → sum_in fraction_ring.operations part (triangles_in strip ts) ≡ sum_in fraction_ring.operations inside ts
            → sum_in fraction_ring.operations part (cond b (t ∷ triangles_in strip ts) (triangles_in strip ts)) ≡ cond b (part t) nought ⊕ sum_in fraction_ring.operations inside ts
        go true e = ap (λ s. part t ⊕ s) e
        go false e = e ∙ ring fraction_ring (sum_in fraction_ring.operations inside ts ∷ []) (var 0) (number 0 :+ var 0) refl

    own : (t : Triangle Node) → LiesFrom (first_x strip) (last_x strip) t → inside t ≡ part t
    own t lies = ap (λ b. cond b (part t) nought) (in_own strip t lies) ∙ go (is_transverse t) refl
      where
        go : (b : Bool) → is_transverse t ≡ b → cond (not b) (part t) nought ≡ part t
        go true e = sym (transverse_unseen t e)
        go false e = refl

    other_none : (other : List Station) → Rises (λ s. s.x) other → (last_x other ≤ℤ first_x strip) ⊎ (last_x strip ≤ℤ first_x other) → sum_in fraction_ring.operations inside (signed_faces other) ≡ nought
    other_none other rises apart = sum_in-none inside (signed_faces other)
        (all-of (LiesFrom (first_x other) (last_x other)) (λ t. inside t ≡ nought) (λ t lies. ap (λ b. cond b (part t) nought) (in_no_other other strip t apart lies)) (signed_faces other) (strip_faces_lie other rises))

    own_sum : Rises (λ s. s.x) strip → sum_in fraction_ring.operations inside (signed_faces strip) ≡ sum_in fraction_ring.operations part (signed_faces strip)
    own_sum rises = sum_in-same inside part (signed_faces strip) (all-of (LiesFrom (first_x strip) (last_x strip)) (λ t. inside t ≡ part t) own (signed_faces strip) (strip_faces_lie strip rises))

    of_signed : (ss : List Signed) → Fraction
    of_signed ss = sum_in fraction_ring.operations inside (flat_map outward_faces ss)

    by_strips : (stations : List Station) → sum_in fraction_ring.operations inside (signed_faces stations) ≡ sum_over (λ s. sum_in fraction_ring.operations inside (signed_faces s)) (strips_of stations)
    unfolding of_signed
    by_strips stations = strip_by_strip signed_solids mirror_image of_signed refl
        (λ ss us. ap (sum_in fraction_ring.operations inside) (flat_map-append outward_faces ss us) ∙ sum_in-append inside (flat_map outward_faces ss) (flat_map outward_faces us)) stations

  -- the sum over the faces of a list in the strip of a number
  pub seen_in_strip : (stations : List Station) → IsHull stations → (faces : List (Triangle Node)) → AreBalanced faces (signed_faces stations) → (n : ℕ) → n < length (strips_of stations)
      → seen_sum plane first last f g (map triangle_at (signed_faces (strip_at stations n))) ≡ seen_sum plane first last f g (map triangle_at (triangles_in (strip_at stations n) faces))
  seen_in_strip stations hull faces balanced n less =
      sum_over-map (seen_part plane first last f g) triangle_at (signed_faces strip)
      ∙ sym (own_sum strip (good n less).1)
      ∙ sym (single (λ s. sum_in fraction_ring.operations (inside strip) (signed_faces s)) (strips_of stations) n [] less elsewhere)
      ∙ sym (by_strips strip stations)
      ∙ sym (balanced_sums fraction_ring (inside strip) (inside-alternating strip) faces (signed_faces stations) balanced)
      ∙ sym (filtered strip faces)
      ∙ sym (sum_over-map (seen_part plane first last f g) triangle_at (triangles_in strip faces))
    where
      strip : List Station
      strip = strip_at stations n

      good : (i : ℕ) → i < length (strips_of stations) → IsStrip (strip_at stations i)
      good i h = all_at IsStrip (strips_of stations) i [] h (all_strips stations hull.each hull.places_rise)

      before_or_after : (i n : ℕ) → i ≢ n → (i < n) ⊎ (n < i)
      before_or_after zero zero ne = absurd (ne refl)
      before_or_after zero (suc n) ne = inl (omega arith)
      before_or_after (suc i) zero ne = inr (omega arith)
      before_or_after (suc i) (suc n) ne = go (before_or_after i n (λ e. ne (ap suc e)))
        where
          go : (i < n) ⊎ (n < i) → (suc i < suc n) ⊎ (suc n < suc i)
          go (inl h) = inl (omega arith)
          go (inr h) = inr (omega arith)

      elsewhere : (i : ℕ) → i < length (strips_of stations) → i ≢ n → sum_in fraction_ring.operations (inside strip) (signed_faces (strip_at stations i)) ≡ nought
      elsewhere i h ne = other_none strip (strip_at stations i) (good i h).1 (go (before_or_after i n ne))
        where
          go : (i < n) ⊎ (n < i) → (last_x (strip_at stations i) ≤ℤ first_x (strip_at stations n)) ⊎ (last_x (strip_at stations n) ≤ℤ first_x (strip_at stations i))
          go (inl k) = inl (ends_before stations i n hull.places_rise k less)
          go (inr k) = inr (ends_before stations n i hull.places_rise k h)

  pub columns_in_strip : g ≡ depth plane first last → (stations : List Station) → IsHull stations → (faces : List (Triangle Node)) → AreBalanced faces (signed_faces stations) → (n : ℕ) → n < length (strips_of stations)
      → column_sum plane first last f (map triangle_at (signed_faces (strip_at stations n))) ≡ column_sum plane first last f (map triangle_at (triangles_in (strip_at stations n) faces))
  columns_in_strip e stations hull faces balanced n less = to_seen (signed_faces (strip_at stations n)) ∙ seen_in_strip stations hull faces balanced n less ∙ sym (to_seen (triangles_in (strip_at stations n) faces))
    where
      to_seen : (ts : List (Triangle Node)) → column_sum plane first last f (map triangle_at ts) ≡ seen_sum plane first last f g (map triangle_at ts)
      to_seen ts = column_sum-seen plane first last f (map triangle_at ts) ∙ ap (λ k. seen_sum plane first last f k (map triangle_at ts)) (sym e)

-- ---- the law
module _ (stations : List Station) (hull : IsHull stations) (faces : List (Triangle Node)) (balanced : AreBalanced faces (signed_faces stations)) (n : ℕ) (less : n < length (strips_of stations)) where
  abbrev strip : List Station
  strip = strip_at stations n

  good : IsStrip strip
  good = all_at IsStrip (strips_of stations) n [] less (all_strips stations hull.each hull.places_rise)

  strip_columns : (plane : Waterplane) → AreColumnSums plane (first_x stations) (last_x stations) (strip_pieces plane stations strip) (map triangle_at (triangles_in strip faces))
  strip_columns plane = record {
    volume = law.volume ∙ moved (λ p. one);
    mx = law.mx ∙ moved (λ p. p.x);
    mv = law.mv ∙ moved (side_distance plane);
    mu = law.mu ∙ moved (middle plane (first_x stations) (last_x stations));
  }
    where
      law : AreColumnSums plane (first_x stations) (last_x stations) (strip_pieces plane stations strip) (map triangle_at (signed_faces strip))
      law = subst (λ (ts : List (Tetrahedron Node)). AreColumnSums plane (first_x stations) (last_x stations) (submerged_pieces plane (first_x stations) (last_x stations) ts) (map triangle_at (signed_faces strip)))
          (solids_of_hull strip) (solids_law plane (first_x stations) (last_x stations) (signed_tetrahedra strip) (points_outwards strip good.0 good.1) (signed_faces strip) (λ t area. refl))

      moved : (f : Position → Fraction) → column_sum plane (first_x stations) (last_x stations) f (map triangle_at (signed_faces strip)) ≡ column_sum plane (first_x stations) (last_x stations) f (map triangle_at (triangles_in strip faces))
      moved f = columns_in_strip plane (first_x stations) (last_x stations) f (depth plane (first_x stations) (last_x stations)) refl stations hull faces balanced n less

  strip_lids : (at : Fraction) → AreLidSums at (first_x stations) (last_x stations) (strip_pieces (upright at) stations strip) (map triangle_at (triangles_in strip faces))
  strip_lids at = record {
    area = law.area ∙ moved (λ p. one) (λ p. one);
    x = law.x ∙ moved (λ p. p.x) (λ p. one);
    yy = law.yy ∙ moved (λ p. p.y) (λ p. p.y);
    xx = law.xx ∙ moved (λ p. p.x) (λ p. p.x);
  }
    where
      law : AreLidSums at (first_x stations) (last_x stations) (strip_pieces (upright at) stations strip) (map triangle_at (signed_faces strip))
      law = subst (λ (ts : List (Tetrahedron Node)). AreLidSums at (first_x stations) (last_x stations) (submerged_pieces (upright at) (first_x stations) (last_x stations) ts) (map triangle_at (signed_faces strip)))
          (solids_of_hull strip) (lid_law_of_solids at (first_x stations) (last_x stations) (signed_tetrahedra strip) (points_outwards strip good.0 good.1) (signed_faces strip) (λ t area. refl))

      moved : (f g : Position → Fraction) → seen_sum (upright at) (first_x stations) (last_x stations) f g (map triangle_at (signed_faces strip)) ≡ seen_sum (upright at) (first_x stations) (last_x stations) f g (map triangle_at (triangles_in strip faces))
      moved f g = seen_in_strip (upright at) (first_x stations) (last_x stations) f g stations hull faces balanced n less

pub columns_of_strips : ColumnsOfStrips
columns_of_strips plane stations hull faces balanced n less = strip_columns stations hull faces balanced n less plane

pub lids_of_strips : LidsOfStrips
lids_of_strips at stations hull faces balanced n less = strip_lids stations hull faces balanced n less at
