-- What an enclosure of the volumes at a level says of them, and that the box of the level gives one.
use Rattle.std.proofs.Common.{◌≡◌, ◌∙◌, refl, sym, ap, subst, [], ◌∷◌, Bool, true, false, ◌^◌, ℤ, pos, ◌+ℤ◌, ◌-ℤ◌, ◌≤ℤ◌, ◌<ℤ◌, unsigned_abs, max, arith}
use Rattle.std.proofs.lemmas.Int.{ints}
use Rattle.std.specs.Prelude.{◌↔◌, int_lt}
use Rattle.std.specs.Int.{int_max}
use Rattle.exact_algebra.specs.Expression.{var, unit, ◌:+◌, ◌:-◌, ◌:*◌}
use Rattle.exact_algebra.proofs.Fraction.{Fraction, ◌⊕◌, ◌⊗◌, fractions}
use Rattle.exact_algebra.proofs.Order as Order
use Rattle.exact_algebra.proofs.Order.{strict_order_from, no_more, at_most}
use Rattle.exact_algebra.proofs.Span.{ContainsFraction, IsLeastSpanOf, positive-unit}
use Rattle.exact_algebra.proofs.Whole.{whole, whole-≼}
use Rattle.angle_bounds.specs.declared.bracket.Bracket.{Bracket}
use Rattle.hull_polyhedron.specs.declared.faces.Faces.{Faces}
use Rattle.outward_interval.specs.Widths.{unit_of, IsNarrow}
use Rattle.plane_clip.specs.Enclosure.{in_unit}
use Rattle.flux_moments.specs.Planes.{IsIn}
use Rattle.flux_moments.specs.Sizes.{BoxSize, spread}
use Rattle.flux_moments.specs.Widths.{half_areas, reach_of, volume_bound}
use Rattle.flux_moments.specs.declared.plane_box.PlaneBox.{PlaneBox}
use Rattle.flux_moments.proofs.MeanWidths.{in_unit-in}
use Rattle.hull_model.specs.LevelPlanes.{Direction, level_plane}
use Rattle.draft_bracket.specs.GridLevels.{LiesIn, grid_plane, volume_at}
use Rattle.draft_bracket.specs.DraftBracket.{OfHulls, IsBoxFrom, IsBoxOf, DisplacesAtMost, DisplacesAtLeast, IsNearlyAbove, IsNearlyBelow}
use Rattle.draft_bracket.specs.Places.{IsPlace}

-- ---- boxes of level planes
pub box_from : (planes : PlaneBox) (bracket : Bracket) (d1 d2 first last : ℤ) → first ≡ d1 → last ≡ d2
    → (planes.bracket ≡ bracket) × (planes.a1 ≡ first) × (planes.a2 ≡ last) × (planes.f1 ≡ first) × (planes.f2 ≡ last)
    → IsBoxFrom bracket d1 d2 planes
box_from planes bracket d1 d2 first last e f same = record { directions = same.0; aft = (same.1 ∙ e, same.2 ∙ f); fore = (same.3 ∙ e, same.4 ∙ f) }

pub plane_is_in : (planes : PlaneBox) (bracket : Bracket) (d1 d2 : ℤ) → IsBoxFrom bracket d1 d2 planes → (d : Direction) → LiesIn bracket d → (at : Fraction) → ContainsFraction 10 d1 d2 at
    → IsIn planes (level_plane d at)
plane_is_in planes bracket d1 d2 is d lies at between = record {
  direction = subst (λ (b : Bracket). LiesIn b d) (sym is.directions) lies;
  aft = renamed planes.a1 planes.a2 is.aft.0 is.aft.1;
  fore = renamed planes.f1 planes.f2 is.fore.0 is.fore.1;
}
  where
    renamed : (lo hi : ℤ) → lo ≡ d1 → hi ≡ d2 → ContainsFraction 10 lo hi at
    renamed lo hi e f = record {
      from = Order.≼_trans fractions (Order.≼_same fractions (ap whole e)) between.from;
      to = Order.≼_trans fractions between.to (Order.≼_same fractions (sym (ap whole f)));
    }

pub level_is_in : (planes : PlaneBox) (bracket : Bracket) (at : ℤ) → IsBoxOf bracket at planes → (d : Direction) → LiesIn bracket d → IsIn planes (grid_plane d at)
level_is_in planes bracket at is d lies = plane_is_in planes bracket at at is d lies (in_unit 10 at)
    (record { from = Order.≼_same fractions (sym (in_unit-in 10 at)); to = Order.≼_same fractions (in_unit-in 10 at) })

-- boxes of the same numbers have the same bound
module _ (faces : Faces) (bracket : Bracket) (d1 d2 : ℤ) (p q : PlaneBox) (h : IsBoxFrom bracket d1 d2 p) (k : IsBoxFrom bracket d1 d2 q) where
  abbrev size : Bracket → (a1 a2 f1 f2 : ℤ) → BoxSize
  size b a1 a2 f1 f2 = record {
    rise = in_unit 10 (int_max (a2 -ℤ a1) (f2 -ℤ f1));
    turn = in_unit 40 (int_max (b.c.hi -ℤ b.c.lo) (b.s.hi -ℤ b.s.lo));
    level = in_unit 10 (pos (max (max (unsigned_abs a1) (unsigned_abs a2)) (max (unsigned_abs f1) (unsigned_abs f2))));
  }

  brackets : p.bracket ≡ q.bracket
  brackets = h.directions ∙ sym k.directions

  a1 : p.a1 ≡ q.a1
  a1 = h.aft.0 ∙ sym k.aft.0

  a2 : p.a2 ≡ q.a2
  a2 = h.aft.1 ∙ sym k.aft.1

  f1 : p.f1 ≡ q.f1
  f1 = h.fore.0 ∙ sym k.fore.0

  f2 : p.f2 ≡ q.f2
  f2 = h.fore.1 ∙ sym k.fore.1

  pub same_reach : reach_of faces p ≡ reach_of faces q
  same_reach = λ i. (size (brackets i) (a1 i) (a2 i) (f1 i) (f2 i)).level ⊕ whole (faces.high_z +ℤ faces.half_breadth)

  pub same_bound : volume_bound faces p ≡ volume_bound faces q
  unfolding volume_bound
  same_bound = λ i. (whole (pos 8) ⊗ (half_areas faces.list ⊕ whole (pos (2 ^ 17)))) ⊗ (spread (size (brackets i) (a1 i) (a2 i) (f1 i) (f2 i))
      ((size (brackets i) (a1 i) (a2 i) (f1 i) (f2 i)).level ⊕ whole (faces.high_z +ℤ faces.half_breadth)) ⊕ unit_of 16)

pub narrow_as : (faces : Faces) (bracket : Bracket) (at lo hi : ℤ) (p : PlaneBox) → IsBoxOf bracket at p → IsNarrow 20 (volume_bound faces p) lo hi
    → (q : PlaneBox) → IsBoxOf bracket at q → IsNarrow 20 (volume_bound faces q) lo hi
narrow_as faces bracket at lo hi p h narrow q k = subst (λ w. IsNarrow 20 w lo hi) (same_bound faces bracket at at p q h k) narrow

-- ---- whole numbers
false-ne-true : false ≡ true → ⊥
false-ne-true h = cc

less : (a b : ℤ) → int_lt a b ≡ true → a <ℤ b
less a b e = grind arith

at_least : (a b : ℤ) → int_lt a b ≡ false → b ≤ℤ a
at_least a b e = grind arith

not_less : (a b : ℤ) → (a <ℤ b → ⊥) → b ≤ℤ a
not_less a b n = go (int_lt a b) refl
  where
    go : (t : Bool) → int_lt a b ≡ t → b ≤ℤ a
    go true e = absurd (n (less a b e))
    go false e = at_least a b e

less_from : (a b : ℤ) → (a ≤ℤ b → ⊥) → b <ℤ a
less_from a b n = go (int_lt b a) refl
  where
    go : (t : Bool) → int_lt b a ≡ t → b <ℤ a
    go true e = less b a e
    go false e = absurd (n (at_least b a e))

pub less_as : (t : Bool) (a b a' b' : ℤ) → a' ≡ a → b' ≡ b → (t ≡ true) ↔ (a' <ℤ b') → (t ≡ true) ↔ (a <ℤ b)
less_as t a b a' b' e f h = subst (λ (x : ℤ). (t ≡ true) ↔ (x <ℤ b)) e (subst (λ (y : ℤ). (t ≡ true) ↔ (a' <ℤ y)) f h)

pub at_most_as : (t : Bool) (a b a' b' : ℤ) → a' ≡ a → b' ≡ b → (t ≡ true) ↔ (a' ≤ℤ b') → (t ≡ true) ↔ (a ≤ℤ b)
at_most_as t a b a' b' e f h = subst (λ (x : ℤ). (t ≡ true) ↔ (x ≤ℤ b)) e (subst (λ (y : ℤ). (t ≡ true) ↔ (a' ≤ℤ y)) f h)

-- ---- the ends of an enclosure against the least span of the need
module _ (faces : Faces) (bracket : Bracket) (at lo hi : ℤ) (need : Fraction) (down up : ℤ) (least : IsLeastSpanOf 20 down up need)
    (contains : OfHulls faces (λ hull. (d : Direction) → LiesIn bracket d → ContainsFraction 20 lo hi (volume_at hull d at)))
    (narrow : (planes : PlaneBox) → IsBoxOf bracket at planes → IsNarrow 20 (volume_bound faces planes) lo hi) where
  upper_end_at_most : hi ≤ℤ down → OfHulls faces (λ hull. DisplacesAtMost hull bracket need at)
  upper_end_at_most h hull is are d lies = Order.≼_cancel fractions (positive-unit 20)
      (Order.≼_trans fractions (contains hull is are d lies).to (Order.≼_trans fractions (whole-≼ h) least.low.below))

  lower_end_reaches : up ≤ℤ lo → OfHulls faces (λ hull. DisplacesAtLeast hull bracket need at)
  lower_end_reaches h hull is are d lies = Order.≼_cancel fractions (positive-unit 20)
      (Order.≼_trans fractions least.high.above (Order.≼_trans fractions (whole-≼ h) (contains hull is are d lies).from))

  upper_end_above : down <ℤ hi → OfHulls faces (λ hull. IsNearlyAbove faces hull bracket need at)
  upper_end_above h hull is are planes box d lies = Order.≺_cancel fractions (positive-unit 20) (strict_order_from fractions
      (need ∷ volume_bound faces planes ∷ volume_at hull d at ∷ whole (pos (2 ^ 20)) ∷ whole (down +ℤ pos 1) ∷ whole hi ∷ whole lo ∷ [])
      ((unit, var 4, var 5) ∷ (unit, var 5 :- var 6, var 1 :* var 3) ∷ (unit, var 6, var 2 :* var 3) ∷ [])
      (at_most (whole-≼ (next down hi h)) (at_most (narrow planes box).width (at_most (contains hull is are d lies).from no_more)))
      (var 4 :- var 0 :* var 3) least.low.next ((var 0 :- var 1) :* var 3) (var 2 :* var 3) refl)
    where
      next : (a b : ℤ) → a <ℤ b → (a +ℤ pos 1) ≤ℤ b
      next a b h = omega (arith, ints)

  lower_end_below : lo <ℤ up → OfHulls faces (λ hull. IsNearlyBelow faces hull bracket need at)
  lower_end_below h hull is are planes box d lies = Order.≺_cancel fractions (positive-unit 20) (strict_order_from fractions
      (need ∷ volume_bound faces planes ∷ volume_at hull d at ∷ whole (pos (2 ^ 20)) ∷ whole (up -ℤ pos 1) ∷ whole hi ∷ whole lo ∷ [])
      ((unit, var 6, var 4) ∷ (unit, var 5 :- var 6, var 1 :* var 3) ∷ (unit, var 2 :* var 3, var 5) ∷ [])
      (at_most (whole-≼ (before lo up h)) (at_most (narrow planes box).width (at_most (contains hull is are d lies).to no_more)))
      (var 0 :* var 3 :- var 4) least.high.before (var 2 :* var 3) ((var 0 :+ var 1) :* var 3) refl)
    where
      before : (a b : ℤ) → a <ℤ b → a ≤ℤ (b -ℤ pos 1)
      before a b h = omega (arith, ints)

  pub place_at : (is_over reaches : Bool) → (is_over ≡ true) ↔ (down <ℤ hi) → (reaches ≡ true) ↔ (up ≤ℤ lo) → IsPlace faces bracket need at is_over reaches
  place_at is_over reaches e f = record {
    at_most = λ n. upper_end_at_most (not_less down hi (λ h. false-ne-true (sym n ∙ e.1 h)));
    above = λ y. upper_end_above (e.0 y);
    at_least = λ y. lower_end_reaches (f.0 y);
    below = λ n. lower_end_below (less_from up lo (λ h. false-ne-true (sym n ∙ f.1 h)));
  }
