-- The areas of the triangles that a triangle is clipped to are parts of its own, none below 0, that come to the whole of it at most.
use Rattle.std.proofs.Common.{Bool, true, false, ℕ, ◌*◌, ◌≤◌, ℤ, ◌≡◌, ◌≢◌, ◌∙◌, refl, sym, ap, subst, inl, inr, List, [], ◌∷◌, ◌++◌, length, arith}
use Rattle.std.proofs.lemmas.List.{length-append}
use Rattle.std.specs.List.{flat_map}
use Rattle.exact_algebra.specs.Expression.{var, unit, number, ◌:+◌, ◌:-◌, ◌:*◌, opposite}
use Rattle.exact_algebra.specs.OrderedField.{Sign, below, level, above}
use Rattle.exact_algebra.proofs.Bounds as Bounds
use Rattle.exact_algebra.proofs.Fraction.{Fraction, one, ◌⊕◌, ◌⊗◌, ◌⊖◌, ◌≼◌, ◌≺◌, inverse, sign, fractions, fraction_ring}
use Rattle.exact_algebra.proofs.Order as Order
use Rattle.exact_algebra.proofs.Order.{order_from, no_more, at_most, scaled, equal}
use Rattle.exact_algebra.proofs.Ring.{ring, ring_from, none, given}
use Rattle.exact_algebra.proofs.Whole.{whole}
use Rattle.hull_model.specs.FaceParts.{area_y, area_z}
use Rattle.hull_model.specs.Flooded.{forward_of, aft_of}
use Rattle.hull_model.specs.TriangleCut.{Triangle, triangle, is_above}
use Rattle.hull_model.specs.Waterplane.{Position}
use Rattle.plane_clip.specs.Clipped.{tip_at, without_tip, clip_by, clip_forward, clip_aft, clipped}
use Rattle.plane_clip.specs.Ways.{part_to}
use Rattle.plane_clip.proofs.PartAreas.{ArePortions, tip_areas, first_areas, second_areas, rolled_y, rolled_z}

-- ---- lists of parts
-- both areas of a triangle are this part of those of another
pub record IsPartBy (q : Fraction) (u t : Triangle Position) : Type 0 where
  pub some : sign q ≢ below
  pub areas : ArePortions q u t

-- so are those of each triangle of a list, and the parts come to so much at most
abbrev pub AreParts : Triangle Position → Fraction → List (Triangle Position) → Type 0
AreParts t most [] = sign most ≢ below
AreParts t most (u ∷ us) = (q : Fraction) × IsPartBy q u t × AreParts t (most ⊖ q) us

parts-more : (t : Triangle Position) (us : List (Triangle Position)) (m n : Fraction) → m ≼ n → AreParts t m us → AreParts t n us
parts-more t [] m n h k = Order.nonnegative_from fractions (Order.≼_trans fractions (Order.nought-≼ fractions k) h)
parts-more t (u ∷ us) m n h k = (k.0, k.1, parts-more t us (m ⊖ k.0) (n ⊖ k.0) (Order.≼-sub fractions h (Order.≼_refl fractions k.0)) k.2)

parts-append : (t : Triangle Position) (us vs : List (Triangle Position)) (m n : Fraction) → AreParts t m us → AreParts t n vs → AreParts t (m ⊕ n) (us ++ vs)
parts-append t [] vs m n h k = parts-more t vs _ _ (order_from fractions (m ∷ n ∷ []) ((unit, number 0, var 0) ∷ []) (at_most (Order.nought-≼ fractions h) no_more) (var 1) (var 0 :+ var 1) refl) k
parts-append t (u ∷ us) vs m n h k = (
  h.0,
  h.1,
  parts-more t (us ++ vs) _ _ (Order.≼_same fractions (ring fraction_ring (m ∷ n ∷ h.0 ∷ []) ((var 0 :- var 2) :+ var 1) ((var 0 :+ var 1) :- var 2) refl))
      (parts-append t us vs (m ⊖ h.0) n h.2 k),
)

parts-within : (t u : Triangle Position) (q : Fraction) → IsPartBy q u t → (vs : List (Triangle Position)) (m : Fraction) → AreParts u m vs → AreParts t (q ⊗ m) vs
parts-within t u q is [] m h = Order.nonnegative-mul fractions is.some h
parts-within t u q is (v ∷ vs) m h = (
  q ⊗ h.0,
  record {
    some = Order.nonnegative-mul fractions is.some h.1.some;
    areas = record {
      y = h.1.areas.y ∙ ap (λ a. a ⊗ h.0) is.areas.y ∙ fractions.laws.ring.mul_assoc (area_y t) q h.0;
      z = h.1.areas.z ∙ ap (λ a. a ⊗ h.0) is.areas.z ∙ fractions.laws.ring.mul_assoc (area_z t) q h.0;
    };
  },
  parts-more t vs _ _ (Order.≼_same fractions (ring fraction_ring (q ∷ m ∷ h.0 ∷ []) (var 0 :* (var 1 :- var 2)) (var 0 :* var 1 :- var 0 :* var 2) refl))
      (parts-within t u q is vs (m ⊖ h.0) h.2),
)

parts-flat : (t : Triangle Position) (f : Triangle Position → List (Triangle Position)) → ((u : Triangle Position) → AreParts u one (f u))
    → (us : List (Triangle Position)) (m : Fraction) → AreParts t m us → AreParts t m (flat_map f us)
parts-flat t f each [] m h = h
parts-flat t f each (u ∷ us) m h = parts-more t (f u ++ flat_map f us) _ _
    (Order.≼_same fractions (ring fraction_ring (m ∷ h.0 ∷ []) (var 1 :* unit :+ (var 0 :- var 1)) (var 0) refl))
    (parts-append t (f u) (flat_map f us) (h.0 ⊗ one) (m ⊖ h.0) (parts-within t u h.0 h.1 (f u) one (each u)) (parts-flat t f each us (m ⊖ h.0) h.2))

-- the same triangle by its second corner
rolled-parts : (a b c : Position) (us : List (Triangle Position)) → AreParts (triangle b c a) one us → AreParts (triangle a b c) one us
rolled-parts a b c us h = parts-more (triangle a b c) us _ _ (Order.≼_same fractions (ring fraction_ring [] (unit :* unit) unit refl))
    (parts-within (triangle a b c) (triangle b c a) one (record {
      some = Order.nonnegative-one fractions;
      areas = record { y = sym (rolled_y a b c) ∙ times_one (area_y (triangle a b c)); z = sym (rolled_z a b c) ∙ times_one (area_z (triangle a b c)) };
    }) us one h)
  where
    times_one : (x : Fraction) → x ≡ x ⊗ one
    times_one x = ring fraction_ring (x ∷ []) (var 0) (var 0 :* unit) refl

-- ---- the place where a way meets a plane
abbrev IsShare : Fraction → Type 0
IsShare x = (sign x ≢ below) × (x ≼ one)

-- at a part from 0 to 1 of the way, whichever end comes first
module _ (p q c : Fraction) (low : q ≼ c) (high : c ≼ p) (apart : q ≺ p) where
  abbrev r : Fraction
  r = inverse ((p ⊖ c) ⊖ (q ⊖ c))

  abbrev l : Fraction
  l = inverse ((q ⊖ c) ⊖ (p ⊖ c))

  positive : sign ((p ⊖ c) ⊖ (q ⊖ c)) ≡ above
  positive = Order.positive_same fractions (ring fraction_ring (p ∷ q ∷ c ∷ []) ((var 0 :- var 2) :- (var 1 :- var 2)) (var 0 :- var 1) refl) apart

  r_is : ((p ⊖ c) ⊖ (q ⊖ c)) ⊗ r ≡ one
  r_is = Bounds.mul-inverse_positive fractions positive

  r_above : sign r ≢ below
  r_above = Order.nonnegative_positive fractions (Bounds.positive-inverse fractions positive)

  l_is : ((q ⊖ c) ⊖ (p ⊖ c)) ⊗ l ≡ one
  l_is = fractions.laws.mul-inverse _ (λ e. Order.not_nought fractions positive
      (ring_from fraction_ring (p ∷ q ∷ c ∷ []) ((opposite unit, (var 1 :- var 2) :- (var 0 :- var 2), number 0) ∷ []) (given e none) ((var 0 :- var 2) :- (var 1 :- var 2)) (number 0) refl))

  first_share : IsShare (part_to p q c)
  first_share = (
    Order.nonnegative-mul fractions high r_above,
    order_from fractions (p ∷ q ∷ c ∷ r ∷ []) ((var 3, var 1, var 2) ∷ (unit, ((var 0 :- var 2) :- (var 1 :- var 2)) :* var 3, unit) ∷ []) (scaled r_above low (equal r_is no_more))
        ((var 0 :- var 2) :* var 3) unit refl,
  )

  second_share : IsShare (part_to q p c)
  second_share = subst IsShare (ring_from fraction_ring (p ∷ q ∷ c ∷ r ∷ l ∷ [])
      (((var 1 :- var 2) :* var 4, ((var 0 :- var 2) :- (var 1 :- var 2)) :* var 3, unit) ∷ ((var 1 :- var 2) :* var 3, ((var 1 :- var 2) :- (var 0 :- var 2)) :* var 4, unit) ∷ [])
      (given r_is (given l_is none)) ((var 2 :- var 1) :* var 3) ((var 1 :- var 2) :* var 4) refl) (
        Order.nonnegative-mul fractions low r_above,
        order_from fractions (p ∷ q ∷ c ∷ r ∷ []) ((var 3, var 2, var 0) ∷ (unit, ((var 0 :- var 2) :- (var 1 :- var 2)) :* var 3, unit) ∷ []) (scaled r_above high (equal r_is no_more))
            ((var 2 :- var 1) :* var 3) unit refl,
      )

  both_shares : IsShare (part_to p q c) × IsShare (part_to q p c)
  both_shares = (first_share, second_share)

-- ---- what is kept on one side of a plane
module _ (at : ℤ) (side : Position → Bool) where
  abbrev share : Position → Position → Fraction
  share p q = part_to p.x q.x (whole at)

  tip-parts : (a b c : Position) → IsShare (share a b) → IsShare (share a c) → AreParts (triangle a b c) one (tip_at at a b c)
  tip-parts a b c h k = (
    share a b ⊗ share a c,
    record { some = Order.nonnegative-mul fractions h.0 k.0; areas = tip_areas (share a b) (share a c) a b c },
    order_from fractions (share a b ∷ share a c ∷ []) ((var 0, var 1, unit) ∷ (unit, var 0, unit) ∷ []) (scaled h.0 k.1 (at_most h.1 no_more)) (var 0 :* var 1) unit refl,
  )

  rest-parts : (a b c : Position) → IsShare (share a b) → IsShare (share a c) → AreParts (triangle a b c) one (without_tip at a b c)
  rest-parts a b c h k = (
    one ⊖ share a b,
    record { some = h.1; areas = first_areas (share a b) (share a c) a b c },
    (
      share a b ⊗ (one ⊖ share a c),
      record { some = Order.nonnegative-mul fractions h.0 k.1; areas = second_areas (share a b) (share a c) a b c },
      Order.nonnegative_same fractions
          (ring fraction_ring (share a b ∷ share a c ∷ []) ((unit :- (unit :- var 0)) :- var 0 :* (unit :- var 1)) (var 0 :* var 1) refl) (Order.nonnegative-mul fractions h.0 k.0),
    ),
  )

  module _ (over : (p q : Position) → side p ≡ true → side q ≡ false → IsShare (share p q) × IsShare (share q p)) where
    kept-parts : (u v w : Bool) (a b c : Position) → side a ≡ u → side b ≡ v → side c ≡ w → AreParts (triangle a b c) one (clip_by u v w at a b c)
    kept-parts true true true a b c e f g = (
      one,
      record {
        some = Order.nonnegative-one fractions;
        areas = record { y = ring fraction_ring (area_y (triangle a b c) ∷ []) (var 0) (var 0 :* unit) refl; z = ring fraction_ring (area_z (triangle a b c) ∷ []) (var 0) (var 0 :* unit) refl };
      },
      Order.≼_refl fractions one,
    )
    kept-parts true true false a b c e f g = rolled-parts a b c (without_tip at c a b) (rolled-parts b c a (without_tip at c a b) (rest-parts c a b (over a c e g).1 (over b c f g).1))
    kept-parts true false true a b c e f g = rolled-parts a b c (without_tip at b c a) (rest-parts b c a (over c b g f).1 (over a b e f).1)
    kept-parts false true true a b c e f g = rest-parts a b c (over b a f e).1 (over c a g e).1
    kept-parts true false false a b c e f g = tip-parts a b c (over a b e f).0 (over a c e g).0
    kept-parts false true false a b c e f g = rolled-parts a b c (tip_at at b c a) (tip-parts b c a (over b c f g).0 (over b a f e).0)
    kept-parts false false true a b c e f g = rolled-parts a b c (tip_at at c a b) (rolled-parts b c a (tip_at at c a b) (tip-parts c a b (over c a g e).0 (over c b g f).0))
    kept-parts false false false a b c e f g = Order.nonnegative-one fractions

true-ne-false : true ≡ false → ⊥
true-ne-false h = cc

up : (s : Sign) → is_above s ≡ true → s ≡ above
up above h = refl
up level h = absurd (true-ne-false (sym h))
up below h = absurd (true-ne-false (sym h))

not_up : (s : Sign) → is_above s ≡ false → s ≡ above → ⊥
not_up s h e = true-ne-false (sym (ap is_above e) ∙ h)

forward-parts : (at : ℤ) (t : Triangle Position) → AreParts t one (clip_forward at t)
forward-parts at t = kept-parts at (λ p. is_above (sign (forward_of at p))) over _ _ _ t.a t.b t.c refl refl refl
  where
    under : (q : Position) → is_above (sign (forward_of at q)) ≡ false → q.x ≼ whole at
    under q e = elim (Order.≼_or_≺ fractions q.x (whole at)) [ inl k ↦ k | inr k ↦ absurd (not_up (sign (forward_of at q)) e k) ]

    over : (p q : Position) → is_above (sign (forward_of at p)) ≡ true → is_above (sign (forward_of at q)) ≡ false → IsShare (part_to p.x q.x (whole at)) × IsShare (part_to q.x p.x (whole at))
    over p q e f = let high : whole at ≺ p.x = up (sign (forward_of at p)) e in
        both_shares p.x q.x (whole at) (under q f) (Order.≺_weak fractions high) (Order.≼-≺_trans fractions (under q f) high)

aft-parts : (at : ℤ) (t : Triangle Position) → AreParts t one (clip_aft at t)
aft-parts at t = kept-parts at (λ p. is_above (sign (aft_of at p))) over _ _ _ t.a t.b t.c refl refl refl
  where
    under : (q : Position) → is_above (sign (aft_of at q)) ≡ false → whole at ≼ q.x
    under q e = elim (Order.≼_or_≺ fractions (whole at) q.x) [ inl k ↦ k | inr k ↦ absurd (not_up (sign (aft_of at q)) e k) ]

    over : (p q : Position) → is_above (sign (aft_of at p)) ≡ true → is_above (sign (aft_of at q)) ≡ false → IsShare (part_to p.x q.x (whole at)) × IsShare (part_to q.x p.x (whole at))
    over p q e f = let low : p.x ≺ whole at = up (sign (aft_of at p)) e in
        let both = both_shares q.x p.x (whole at) (Order.≺_weak fractions low) (under q f) (Order.≺-≼_trans fractions low (under q f)) in (both.1, both.0)

-- ---- between two planes
pub clipped-parts : (aft fore : ℤ) (t : Triangle Position) → AreParts t one (clipped aft fore t)
unfolding clipped
clipped-parts aft fore t = parts-flat t (clip_aft fore) (aft-parts fore) (clip_forward aft t) one (forward-parts aft t)

few-kept : (u v w : Bool) (at : ℤ) (a b c : Position) → length (clip_by u v w at a b c) ≤ 2
few-kept true true true at a b c = omega arith
few-kept true true false at a b c = omega arith
few-kept true false true at a b c = omega arith
few-kept false true true at a b c = omega arith
few-kept true false false at a b c = omega arith
few-kept false true false at a b c = omega arith
few-kept false false true at a b c = omega arith
few-kept false false false at a b c = omega arith

few-flat : (f : Triangle Position → List (Triangle Position)) → ((u : Triangle Position) → length (f u) ≤ 2) → (us : List (Triangle Position)) → length (flat_map f us) ≤ 2 * length us
few-flat f each [] = omega arith
few-flat f each (u ∷ us) = omega (arith, length-append (f u) (flat_map f us), each u, few-flat f each us)

pub few-clipped : (aft fore : ℤ) (t : Triangle Position) → length (clipped aft fore t) ≤ 4
unfolding clipped
few-clipped aft fore t = within (few-flat (clip_aft fore) (λ u. few-kept _ _ _ fore u.a u.b u.c) (clip_forward aft t)) (few-kept _ _ _ aft t.a t.b t.c)
  where
    within : {m n : ℕ} → m ≤ 2 * n → n ≤ 2 → m ≤ 4
    within h k = omega (arith, h, k)
