-- Corners that move inwards.
use Rattle.std.proofs.Common.{◌≡◌, ◌⊎◌, subst, neg_ℤ, inl, inr, ℤ, pos, negsuc, ◌+ℤ◌, ◌-ℤ◌, ◌≤ℤ◌, ◌<ℤ◌, ◌+◌, ◌<◌, ◌≤◌, ◌^◌, refl, arith}
use Rattle.std.specs.Int.RustNames.{unsigned_abs}
use Rattle.std.proofs.lemmas.Int.{ints}
use mir.Syntax.{w64}
use mir.Val.{SFits}
use Rattle.exact_algebra.proofs.Fraction.{fractions}
use Rattle.exact_algebra.proofs.Order as Order
use Rattle.flux_moments.specs.Limits.{AreLevels}
use Rattle.damage_box.specs.Balance.{Balance, Rises, IsLevel, IsFar, HasSigns, IsSharp, IsSharpBox, mirrored, IsLastKept, IsFirstKept, AreLimits, IsInward}

pub far_fits : (z : ℤ) → IsFar z → SFits w64 z
far_fits (pos n) h = record { sfits = omega (arith, ints, h.from, h.to) }
far_fits (negsuc n) h = record { sfits = omega (arith, ints, h.from, h.to) }

record IsDoublyFar (z : ℤ) : Type 0 where
  from : neg_ℤ (pos (2 ^ 41)) ≤ℤ z
  to : z ≤ℤ pos (2 ^ 41)

pub far : {z : ℤ} → IsLevel z → IsFar z
far h = record { from = omega (arith, ints, h.from); to = omega (arith, ints, h.to) }

far_above : {z : ℤ} → IsLevel z → IsFar (z +ℤ pos 1)
far_above h = record { from = omega (arith, ints, h.from); to = omega (arith, ints, h.to) }

far_below : {z : ℤ} → IsLevel z → IsFar (z -ℤ pos 1)
far_below h = record { from = omega (arith, ints, h.from); to = omega (arith, ints, h.to) }

pub level_fits : (z : ℤ) → IsLevel z → SFits w64 z
level_fits z h = far_fits z (far h)

pub above_fits : (z : ℤ) → IsLevel z → SFits w64 (z +ℤ pos 1)
above_fits z h = far_fits (z +ℤ pos 1) (far_above h)

pub below_fits : (z : ℤ) → IsLevel z → SFits w64 (z -ℤ pos 1)
below_fits z h = far_fits (z -ℤ pos 1) (far_below h)

pub begin : {b : Balance} {a f most least : ℤ} → AreLimits a f most least → HasSigns b a f → IsInward b a f most least a f
begin {b} {a} {f} l s = record { signs = s; a_from = omega (arith, ints); a_to = l.a_to; f_from = l.f_from; f_to = omega (arith, ints) }

pub first_later : {b : Balance} {a c f : ℤ} → Rises b → a ≤ℤ c → IsFirstKept b a f → IsFirstKept b c f
first_later {b} {a} {c} {f} r h k = record { is = λ s i. Order.≼_trans fractions (k.is s i) (r.from_first s i a c f f h (omega (arith, ints))) }

pub last_earlier : {b : Balance} {a f g : ℤ} → Rises b → f ≤ℤ g → IsLastKept b a g → IsLastKept b a f
last_earlier {b} {a} {f} {g} r h k = record { is = λ s i. Order.≼_trans fractions (r.from_last s i a a f g (omega (arith, ints)) h) (k.is s i) }

pub farther : {b : Balance} {a f most least c g next row passed : ℤ} → IsInward b a f most least c g → c <ℤ next → next <ℤ passed → passed ≤ℤ (most +ℤ pos 1)
    → HasSigns b next row → least ≤ℤ row → row ≤ℤ g → IsInward b a f most least next row
farther i h k m s n o = record { signs = s; a_from = omega (arith, ints, i.a_from); a_to = omega (arith, ints); f_from = n; f_to = omega (arith, ints, i.f_to) }

pub level_a : {b : Balance} {a f most least c g : ℤ} → AreLimits a f most least → IsInward b a f most least c g → IsLevel c
level_a l i = record { from = omega (arith, ints, l.a_level.from, i.a_from); to = omega (arith, ints, l.most_level.to, i.a_to) }

pub level_f : {b : Balance} {a f most least c g : ℤ} → AreLimits a f most least → IsInward b a f most least c g → IsLevel g
level_f l i = record { from = omega (arith, ints, l.least_level.from, i.f_from); to = omega (arith, ints, l.f_level.to, i.f_to) }

pub level_next : {b : Balance} {a f most least c g next passed : ℤ} → AreLimits a f most least → IsInward b a f most least c g → c <ℤ next → next <ℤ passed → passed ≤ℤ (most +ℤ pos 1) → IsLevel next
level_next l i h k m = record { from = omega (arith, ints, l.a_level.from, i.a_from); to = omega (arith, ints, l.most_level.to) }

gap_far : {b : Balance} {a f most least c g passed : ℤ} → AreLimits a f most least → IsInward b a f most least c g → c <ℤ passed → passed ≤ℤ (most +ℤ pos 1) → IsFar (passed -ℤ c)
gap_far l i h m = record { from = omega (arith, ints); to = omega (arith, ints, l.a_level.from, i.a_from, l.most_level.to) }

pub gap_fits : {b : Balance} {a f most least g : ℤ} (c passed : ℤ) → AreLimits a f most least → IsInward b a f most least c g → c <ℤ passed → passed ≤ℤ (most +ℤ pos 1) → SFits w64 (passed -ℤ c)
gap_fits c passed l i h m = far_fits (passed -ℤ c) (gap_far l i h m)

pub weak : {a c : ℤ} → a <ℤ c → a ≤ℤ c
weak h = omega (arith, ints)

pub below_itself : {f : ℤ} → (f -ℤ pos 1) ≤ℤ f
below_itself = omega (arith, ints)

pub above_itself : {a : ℤ} → a ≤ℤ (a +ℤ pos 1)
above_itself = omega (arith, ints)

-- the limits as they are for a corner on the way
pub limits : {b : Balance} {a f most least c g : ℤ} → AreLimits a f most least → IsInward b a f most least c g → AreLimits c g most least
limits l i = record { a_level = level_a l i; f_level = level_f l i; most_level = l.most_level; least_level = l.least_level; a_to = i.a_to; f_from = i.f_from }

pub onward_last : {b : Balance} {a f most least c g d h : ℤ} → IsInward b a f most least c g → IsInward b (c +ℤ pos 1) g most least d h → IsInward b a f most least d h
onward_last i k = record { signs = k.signs; a_from = omega (arith, ints, i.a_from, k.a_from); a_to = k.a_to; f_from = k.f_from; f_to = omega (arith, ints, i.f_to, k.f_to) }

pub onward_first : {b : Balance} {a f most least c g d h : ℤ} → IsInward b a f most least c g → IsInward b c (g -ℤ pos 1) most least d h → IsInward b a f most least d h
onward_first i k = record { signs = k.signs; a_from = omega (arith, ints, i.a_from, k.a_from); a_to = k.a_to; f_from = k.f_from; f_to = omega (arith, ints, i.f_to, k.f_to) }

way : (a c : ℤ) → a ≤ℤ c → pos (unsigned_abs (c -ℤ a)) ≡ c -ℤ a
way a c h = by_sign (c -ℤ a) (omega (arith, ints))
  where
    by_sign : (z : ℤ) → pos 0 ≤ℤ z → pos (unsigned_abs z) ≡ z
    by_sign (pos n) h = refl
    by_sign (negsuc n) h = absurd (omega (arith, ints))

pub nearer_last : {b : Balance} {a f most least c g d h : ℤ} → IsInward b a f most least c g → IsInward b (c +ℤ pos 1) g most least d h
    → unsigned_abs (most -ℤ d) + unsigned_abs (h -ℤ least) < unsigned_abs (most -ℤ c) + unsigned_abs (g -ℤ least)
nearer_last {b} {a} {f} {most} {least} {c} {g} {d} {h} i k = omega (arith, ints, way d most k.a_to, way least h k.f_from, way c most i.a_to, way least g i.f_from, k.a_from, k.f_to)

pub nearer_first : {b : Balance} {a f most least c g d h : ℤ} → IsInward b a f most least c g → IsInward b c (g -ℤ pos 1) most least d h
    → unsigned_abs (most -ℤ d) + unsigned_abs (h -ℤ least) < unsigned_abs (most -ℤ c) + unsigned_abs (g -ℤ least)
nearer_first {b} {a} {f} {most} {least} {c} {g} {d} {h} i k = omega (arith, ints, way d most k.a_to, way least h k.f_from, way c most i.a_to, way least g i.f_from, k.a_from, k.f_to)

pub level_row : {b : Balance} {a f most least c g row : ℤ} → AreLimits a f most least → IsInward b a f most least c g → least ≤ℤ row → row ≤ℤ g → IsLevel row
level_row l i h k = record { from = omega (arith, ints, l.least_level.from); to = omega (arith, ints, l.f_level.to, i.f_to) }

pub short_of : (next passed most : ℤ) → next <ℤ passed → passed ≤ℤ (most +ℤ pos 1) → next ≤ℤ (most +ℤ pos 1)
short_of next passed most h m = omega (arith, ints)

pub box : {b : Balance} {a f c g a1 f2 f1 a2 : ℤ} → IsInward b a f c g a1 f2 → IsSharp b a1 f2 c g → IsInward (mirrored b) g c f2 a1 f1 a2 → IsSharp (mirrored b) f1 a2 f2 a1 → IsSharpBox b a1 a2 f1 f2
box fi fs bi bs = record {
  a_order = bi.f_from;
  f_order = bi.a_to;
  fore = fi.signs;
  aft = bi.signs;
  fore_sharp = record {
    last = elim fs.last [ inl e ↦ inl (omega (arith, ints, e, bi.f_from, bi.f_to)) | inr k ↦ inr k ];
    first = elim fs.first [ inl e ↦ inl (omega (arith, ints, e, bi.a_from, bi.a_to)) | inr k ↦ inr k ];
  };
  aft_sharp = bs;
}

pub back_limits : {b : Balance} {a f c g a1 f2 : ℤ} → AreLimits a f c g → IsInward b a f c g a1 f2 → AreLimits g c f2 a1
back_limits l i = record { a_level = l.least_level; f_level = l.most_level; most_level = level_f l i; least_level = level_a l i; a_to = i.f_from; f_from = i.a_to }

-- the levels of a box
pub small : {z : ℤ} → IsLevel z → unsigned_abs z ≤ 2 ^ 30
small {z} h = go z h
  where
    go : (z : ℤ) → IsLevel z → unsigned_abs z ≤ 2 ^ 30
    go (pos n) h = omega (arith, ints, h.to)
    go (negsuc n) h = omega (arith, ints, h.from)

pub levels : {a1 a2 f1 f2 : ℤ} → IsLevel a1 → IsLevel a2 → IsLevel f1 → IsLevel f2 → a1 ≤ℤ a2 → f1 ≤ℤ f2 → AreLevels a1 a2 f1 f2
levels h i j k a f = record { aft = a; fore = f; first = small h; second = small i; third = small j; fourth = small k }

-- neighbours at the end of a search
pub between_fits : {low high : ℤ} (failed passed : ℤ) → IsFar low → IsFar high → low ≤ℤ failed → failed <ℤ passed → passed ≤ℤ high → SFits w64 (passed -ℤ failed)
between_fits failed passed l h from order to = doubly_far (passed -ℤ failed) (record { from = omega (arith, ints, order); to = omega (arith, ints, l.from, h.to, from, to) })
  where
    doubly_far : (z : ℤ) → IsDoublyFar z → SFits w64 z
    doubly_far (pos n) h = record { sfits = omega (arith, ints, h.from, h.to) }
    doubly_far (negsuc n) h = record { sfits = omega (arith, ints, h.from, h.to) }

pub last_step : (P : ℤ → Type 0) (failed passed low : ℤ) → failed <ℤ passed → (passed -ℤ failed) ≤ℤ pos 1 → (failed ≡ low) ⊎ P failed → (passed ≡ low +ℤ pos 1) ⊎ P (passed -ℤ pos 1)
last_step P failed passed low order near lower = elim lower [ inl e ↦ inl (omega (arith, ints, e)) | inr k ↦ inr (subst P same k) ]
  where
    same : failed ≡ passed -ℤ pos 1
    same = omega (arith, ints)

-- a corner to which a search jumps
pub jump : {b : Balance} {a f most least c g : ℤ} → HasSigns b c g → a ≤ℤ c → c ≤ℤ most → least ≤ℤ g → g ≤ℤ f → IsInward b a f most least c g
jump s h i j k = record { signs = s; a_from = h; a_to = i; f_from = j; f_to = k }

pub jump_a : {a f most least c : ℤ} → AreLimits a f most least → a ≤ℤ c → c ≤ℤ most → IsLevel c
jump_a l h i = record { from = omega (arith, ints, l.a_level.from, h); to = omega (arith, ints, l.most_level.to, i) }

pub jump_f : {a f most least g : ℤ} → AreLimits a f most least → least ≤ℤ g → g ≤ℤ f → IsLevel g
jump_f l h i = record { from = omega (arith, ints, l.least_level.from, h); to = omega (arith, ints, l.f_level.to, i) }
