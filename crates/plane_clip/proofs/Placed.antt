-- The corners of what a triangle is clipped to lie where its own corners lie, along the ship.
use Rattle.std.proofs.Common.{Bool, true, false, ℤ, ◌≡◌, ◌∙◌, refl, sym, ap, subst, List, [], ◌∷◌}
use mathlib.Core.Logic.{inl, inr}
use Rattle.std.specs.List.{flat_map, AllByRecursion}
use Rattle.exact_algebra.specs.Expression.{var, unit, number, ◌:-◌, ◌:*◌}
use Rattle.exact_algebra.specs.OrderedField.{Sign, below, level, above}
use Rattle.exact_algebra.proofs.Ring.{ring_from, none, given}
use Rattle.exact_algebra.proofs.Fraction.{Fraction, nought, one, ◌⊗◌, ◌⊖◌, ◌≼◌, ◌≺◌, inverse, sign, fractions, fraction_ring}
use Rattle.exact_algebra.proofs.Order as Order
use Rattle.exact_algebra.proofs.Whole.{whole, whole-≼, whole-≼_out}
use Rattle.hull_model.specs.declared.face.Face.{Face}
use Rattle.hull_model.specs.Faces.{IsFace, triangle_of}
use Rattle.hull_model.specs.Flooded.{forward_of, aft_of}
use Rattle.hull_model.specs.TriangleCut.{Triangle, triangle, is_above}
use Rattle.hull_model.specs.Waterplane.{Position}
use Rattle.hull_model.proofs.Rounds.{append}
use Rattle.plane_clip.specs.declared.part.Part.{Part}
use Rattle.plane_clip.specs.Between.{HoldParts, IsPlaced, IsPartWithin}
use Rattle.plane_clip.specs.Clipped.{meets, clip_by, clip_forward, clip_aft, clipped}
use Rattle.plane_clip.specs.Parts.{face_at}
use Rattle.plane_clip.proofs.CornerCrossings.{point-is}
use Rattle.plane_clip.proofs.FaceSizes.{three_corners}

true-ne-false : true ≡ false → ⊥
true-ne-false h = cc

up : (s : Sign) → is_above s ≡ true → s ≡ above
up above h = refl
up level h = absurd (true-ne-false (sym h))
up below h = absurd (true-ne-false (sym h))

not_up : (s : Sign) → is_above s ≡ false → s ≡ above → ⊥
not_up s h e = true-ne-false (sym (ap is_above e) ∙ h)

module _ (first last : ℤ) where
  abbrev pub IsAt : Position → Type 0
  IsAt p = (whole first ≼ p.x) × (p.x ≼ whole last)

  pub record AreAt (t : Triangle Position) : Type 0 where
    pub a : IsAt t.a
    pub b : IsAt t.b
    pub c : IsAt t.c

  -- a place between two positions, where the way from one to the other meets it
  module _ (at : ℤ) (p q : Position) (h : IsAt p) (k : IsAt q) (low : q.x ≼ whole at) (high : whole at ≼ p.x) (apart : q.x ≺ p.x) where
    placed : IsAt (record { x = whole at; y = p.y; z = p.z })
    placed = (Order.≼_trans fractions k.0 low, Order.≼_trans fractions high h.1)

    way : (p.x ⊖ q.x) ⊗ inverse (p.x ⊖ q.x) ≡ one
    way = fractions.laws.mul-inverse (p.x ⊖ q.x) (Order.not_nought fractions apart)

    back : (q.x ⊖ p.x) ⊗ (nought ⊖ inverse (p.x ⊖ q.x)) ≡ one
    back = ring_from fraction_ring (p.x ∷ q.x ∷ inverse (p.x ⊖ q.x) ∷ []) ((unit, (var 0 :- var 1) :* var 2, unit) ∷ []) (given way none) ((var 1 :- var 0) :* (number 0 :- var 2)) unit refl

    at_place : (x : Fraction) → x ≡ whole at → (whole first ≼ x) × (x ≼ whole last)
    at_place x e = subst (λ (y : Fraction). (whole first ≼ y) × (y ≼ whole last)) (sym e) placed

    met : IsAt (meets at p q) × IsAt (meets at q p)
    met = (at_place _ (point-is p.x q.x (whole at) (inverse (p.x ⊖ q.x)) way), at_place _ (point-is q.x p.x (whole at) (nought ⊖ inverse (p.x ⊖ q.x)) back))

  -- what is kept, where the ways from one side to the other meet the place there
  module _ (at : ℤ) (side : Position → Bool) (over : (p q : Position) → IsAt p → IsAt q → side p ≡ true → side q ≡ false → IsAt (meets at p q) × IsAt (meets at q p)) where
    three : {p q r : Position} → IsAt p → IsAt q → IsAt r → AreAt (triangle p q r)
    three h i j = record { a = h; b = i; c = j }

    kept-placed : (a b c : Bool) (p q r : Position) → IsAt p → IsAt q → IsAt r → side p ≡ a → side q ≡ b → side r ≡ c → AllByRecursion AreAt (clip_by a b c at p q r)
    kept-placed true true true p q r h i j e f g = (three h i j, tt)
    kept-placed true true false p q r h i j e f g = let x = (over p r h j e g).1 in let z = (over q r i j f g).1 in (three x h i, (three x i z, tt))
    kept-placed true false true p q r h i j e f g = let x = (over r q j i g f).1 in let z = (over p q h i e f).1 in (three x j h, (three x h z, tt))
    kept-placed false true true p q r h i j e f g = let x = (over q p i h f e).1 in let z = (over r p j h g e).1 in (three x i j, (three x j z, tt))
    kept-placed true false false p q r h i j e f g = (three h (over p q h i e f).0 (over p r h j e g).0, tt)
    kept-placed false true false p q r h i j e f g = (three i (over q r i j f g).0 (over q p i h f e).0, tt)
    kept-placed false false true p q r h i j e f g = (three j (over r p j h g e).0 (over r q j i g f).0, tt)
    kept-placed false false false p q r h i j e f g = tt

  forward-placed : (at : ℤ) (t : Triangle Position) → AreAt t → AllByRecursion AreAt (clip_forward at t)
  forward-placed at t h = kept-placed at (λ p. is_above (sign (forward_of at p))) over _ _ _ t.a t.b t.c h.a h.b h.c refl refl refl
    where
      under : (q : Position) → is_above (sign (forward_of at q)) ≡ false → q.x ≼ whole at
      under q e = elim (Order.≼_or_≺ fractions q.x (whole at)) [ inl k ↦ k | inr k ↦ absurd (not_up (sign (forward_of at q)) e k) ]

      over : (p q : Position) → IsAt p → IsAt q → is_above (sign (forward_of at p)) ≡ true → is_above (sign (forward_of at q)) ≡ false → IsAt (meets at p q) × IsAt (meets at q p)
      over p q h k e f = let high : whole at ≺ p.x = up (sign (forward_of at p)) e in met at p q h k (under q f) (Order.≺_weak fractions high) (Order.≼-≺_trans fractions (under q f) high)

  aft-placed : (at : ℤ) (t : Triangle Position) → AreAt t → AllByRecursion AreAt (clip_aft at t)
  aft-placed at t h = kept-placed at (λ p. is_above (sign (aft_of at p))) over _ _ _ t.a t.b t.c h.a h.b h.c refl refl refl
    where
      under : (q : Position) → is_above (sign (aft_of at q)) ≡ false → whole at ≼ q.x
      under q e = elim (Order.≼_or_≺ fractions (whole at) q.x) [ inl k ↦ k | inr k ↦ absurd (not_up (sign (aft_of at q)) e k) ]

      over : (p q : Position) → IsAt p → IsAt q → is_above (sign (aft_of at p)) ≡ true → is_above (sign (aft_of at q)) ≡ false → IsAt (meets at p q) × IsAt (meets at q p)
      over p q h k e f = let low : p.x ≺ whole at = up (sign (aft_of at p)) e in
          let both = met at q p k h (Order.≺_weak fractions low) (under q f) (Order.≺-≼_trans fractions low (under q f)) in (both.1, both.0)

  all-placed : (fore : ℤ) (ts : List (Triangle Position)) → AllByRecursion AreAt ts → AllByRecursion AreAt (flat_map (clip_aft fore) ts)
  all-placed fore [] h = tt
  all-placed fore (t ∷ ts) h = append AreAt (clip_aft fore t) (flat_map (clip_aft fore) ts) (aft-placed fore t h.0) (all-placed fore ts h.1)

  pub clipped-placed : (aft fore : ℤ) (t : Triangle Position) → AreAt t → AllByRecursion AreAt (clipped aft fore t)
  unfolding clipped
  clipped-placed aft fore t h = all-placed fore (clip_forward aft t) (forward-placed aft t h)

  -- so are those of the parts that hold it
  corner-placed : (x : ℤ) {y : Fraction} → y ≡ whole x → (whole first ≼ y) × (y ≼ whole last) → IsPlaced first last x
  corner-placed x e h = let k = subst (λ (z : Fraction). (whole first ≼ z) × (z ≼ whole last)) e h in (whole-≼_out first x k.0, whole-≼_out x last k.1)

  parts-placed : (ps : List Part) (ts : List (Triangle Position)) → HoldParts ps ts → AllByRecursion AreAt ts → AllByRecursion (IsPartWithin first last) ps
  parts-placed [] [] h k = tt
  parts-placed [] (t ∷ ts) h k = absurd h
  parts-placed (p ∷ ps) [] h k = absurd h
  parts-placed (p ∷ ps) (t ∷ ts) h k = (record { a = corner-placed p.a.x h.0.a.x k.0.a; b = corner-placed p.b.x h.0.b.x k.0.b; c = corner-placed p.c.x h.0.c.x k.0.c }, parts-placed ps ts h.1 k.1)

  pub face-placed : (f : Face) → IsFace f → (aft fore : ℤ) (ps : List Part) → HoldParts ps (clipped aft fore (face_at f)) → AllByRecursion (λ n. IsPlaced first last n.x) f.p → AllByRecursion (IsPartWithin first last) ps
  face-placed f is aft fore ps h between = parts-placed ps (clipped aft fore (face_at f)) h (clipped-placed aft fore (face_at f) corners)
    where
      each : IsPlaced first last (triangle_of f).a.x × IsPlaced first last (triangle_of f).b.x × IsPlaced first last (triangle_of f).c.x
      each = three_corners (λ n. IsPlaced first last n.x) f is between

      corners : AreAt (face_at f)
      corners = record { a = (whole-≼ each.0.0, whole-≼ each.0.1); b = (whole-≼ each.1.0, whole-≼ each.1.1); c = (whole-≼ each.2.0, whole-≼ each.2.1) }
