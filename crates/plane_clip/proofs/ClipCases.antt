-- A clipped triangle by the sides of its corners.
use mathlib.Core.Path.{◌≡◌, refl, sym, ◌∙◌, ap, subst}
use mathlib.Core.Bool.{Bool, true, false, not, beq}
use Rattle.std.proofs.Common.{zero, suc, ℤ, pos, negsuc, ◌-ℤ◌, int_lt, arith}
use Rattle.std.proofs.lemmas.Int.{ints}
use mathlib.Core.Logic.{inl, inr}
use Rattle.exact_algebra.proofs.Fraction.{◌⊖◌, sign, sign_of}
use Rattle.exact_algebra.proofs.Whole.{whole, whole-sub, sign-whole}
use Rattle.hull_model.specs.TriangleCut.{is_above}
use Rattle.hull_model.specs.Waterplane.{Position}
use Rattle.plane_clip.specs.Clipped.{lone_by, clip_by}
use Rattle.plane_clip.specs.declared.corner.PartCorner.{PartCorner}
use Rattle.plane_clip.specs.Ways.{IsOnWay, AreSides}

true-ne-false : true ≡ false → ⊥
true-ne-false h = cc

-- one corner lies alone
pub lone_first : (u v w : Bool) (at : ℤ) (a b c : Position) → v ≡ w → (u ≡ v → ⊥) → clip_by u v w at a b c ≡ lone_by u at a b c
lone_first true false false at a b c e n = refl
lone_first false true true at a b c e n = refl
lone_first true true true at a b c e n = absurd (n refl)
lone_first false false false at a b c e n = absurd (n refl)
lone_first u true false at a b c e n = absurd (true-ne-false e)
lone_first u false true at a b c e n = absurd (true-ne-false (sym e))

pub lone_second : (u v w : Bool) (at : ℤ) (a b c : Position) → u ≡ w → (v ≡ w → ⊥) → clip_by u v w at a b c ≡ lone_by v at b c a
lone_second false true false at a b c e n = refl
lone_second true false true at a b c e n = refl
lone_second true true true at a b c e n = absurd (n refl)
lone_second false false false at a b c e n = absurd (n refl)
lone_second true v false at a b c e n = absurd (true-ne-false e)
lone_second false v true at a b c e n = absurd (true-ne-false (sym e))

pub lone_third : (u v w : Bool) (at : ℤ) (a b c : Position) → (v ≡ w → ⊥) → (u ≡ w → ⊥) → clip_by u v w at a b c ≡ lone_by w at c a b
lone_third false false true at a b c n m = refl
lone_third true true false at a b c n m = refl
lone_third u true true at a b c n m = absurd (n refl)
lone_third u false false at a b c n m = absurd (n refl)
lone_third true false true at a b c n m = absurd (m refl)
lone_third false true false at a b c n m = absurd (m refl)

-- on different sides, one way round or the other
pub turned_way : (at x y : ℤ) → IsOnWay at x y → IsOnWay at y x
turned_way at x y (inl h) = inr h
turned_way at x y (inr h) = inl h

pub way_of_sides : (at x y : ℤ) (u v : Bool) → AreSides at x y u v → (u ≡ v → ⊥) → IsOnWay at x y
way_of_sides at x y true false h n = h
way_of_sides at x y false true h n = h
way_of_sides at x y true true h n = absurd (n refl)
way_of_sides at x y false false h n = absurd (n refl)

-- ---- tests
pub sides_forward : (at x y : ℤ) → AreSides at x y (int_lt at x) (int_lt at y)
sides_forward at x y = go (int_lt at x) (int_lt at y) refl refl
  where
    go : (u v : Bool) → int_lt at x ≡ u → int_lt at y ≡ v → AreSides at x y u v
    go true false e f = inr (omega (arith, ints, e, f), omega (arith, ints, e, f), omega (arith, ints, e, f))
    go false true e f = inl (omega (arith, ints, e, f), omega (arith, ints, e, f), omega (arith, ints, e, f))
    go true true e f = tt
    go false false e f = tt

pub sides_aft : (at x y : ℤ) → AreSides at x y (int_lt x at) (int_lt y at)
sides_aft at x y = go (int_lt x at) (int_lt y at) refl refl
  where
    go : (u v : Bool) → int_lt x at ≡ u → int_lt y at ≡ v → AreSides at x y u v
    go true false e f = inl (omega (arith, ints, e, f), omega (arith, ints, e, f), omega (arith, ints, e, f))
    go false true e f = inr (omega (arith, ints, e, f), omega (arith, ints, e, f), omega (arith, ints, e, f))
    go true true e f = tt
    go false false e f = tt

pub same_by : (u v : Bool) → beq u v ≡ true → u ≡ v
same_by true true e = refl
same_by false false e = refl
same_by true false e = absurd (true-ne-false (sym e))
same_by false true e = absurd (true-ne-false (sym e))

pub differ_by : (u v : Bool) → beq u v ≡ false → u ≡ v → ⊥
differ_by true true e h = true-ne-false e
differ_by false false e h = true-ne-false e
differ_by true false e h = true-ne-false h
differ_by false true e h = true-ne-false (sym h)

-- the same way between the same corners
pub moved : (at : ℤ) (p q p' q' : PartCorner) → p' ≡ p → q' ≡ q → IsOnWay at p.x q.x → IsOnWay at p'.x q'.x
moved at p q p' q' e f h = subst (λ (k : PartCorner). IsOnWay at p'.x k.x) (sym f) (subst (λ (k : PartCorner). IsOnWay at k.x q.x) (sym e) h)

-- the side of a whole number
pub above_is : (a b : ℤ) → is_above (sign (whole b ⊖ whole a)) ≡ int_lt a b
above_is a b = ap is_above (ap sign (sym (whole-sub b a)) ∙ sign-whole (b -ℤ a)) ∙ go (b -ℤ a) refl (int_lt a b) refl
  where
    go : (z : ℤ) → b -ℤ a ≡ z → (u : Bool) → int_lt a b ≡ u → is_above (sign_of z) ≡ u
    go (pos zero) e true f = absurd (omega (arith, ints, e, f))
    go (pos zero) e false f = refl
    go (pos (suc n)) e true f = refl
    go (pos (suc n)) e false f = absurd (omega (arith, ints, e, f))
    go (negsuc n) e true f = absurd (omega (arith, ints, e, f))
    go (negsuc n) e false f = refl

pub unlike_by : (u v : Bool) → not (beq u v) ≡ true → u ≡ v → ⊥
unlike_by true true e h = true-ne-false (sym e)
unlike_by false false e h = true-ne-false (sym e)
unlike_by true false e h = true-ne-false h
unlike_by false true e h = true-ne-false (sym h)
