-- Corners from which a search starts lie apart.
use Rattle.std.proofs.Common.{◌≡◌, inl, inr, ℤ, ◌≤ℤ◌, ◌<ℤ◌, List, arith}
use Rattle.hull_model.specs.declared.station.Station.{Station}
use Rattle.damage_box.specs.Residuals.{IsHullOf}
use Rattle.std.proofs.lemmas.Int.{ints}
use Rattle.exact_algebra.proofs.Fraction.{nought, fractions, ◌≺◌}
use Rattle.exact_algebra.proofs.Order as Order
use Rattle.exact_algebra.proofs.Whole.{whole, whole-≼_out, whole-≺_out}
use Rattle.damage_box.specs.Balance.{Balance, OfHulls, Rises, HasSigns, mirrored, mirrored-rises}
use Rattle.damage_box.specs.Reading.{IsStart}
use Rattle.damage_box.specs.declared.reading.Corner.{Corner}
use Rattle.damage_box.proofs.Signs as Signs

module _ {b : Balance} (stations : List Station) (is : IsHullOf b.flood stations) where
  pub apart : (a1 f2 f1 a2 : ℤ) → Rises b → b.from_last stations a1 f2 ≺ nought → nought ≺ b.from_last stations a2 f1 → a1 <ℤ f2 → f1 <ℤ a2 → a1 ≤ℤ a2
  apart a1 f2 f1 a2 r fore aft up down = elim (Order.≼_or_≺ fractions (whole a1) (whole a2)) [ inl h ↦ whole-≼_out a1 a2 h | inr s ↦ absurd (clash (whole-≺_out a2 a1 s)) ]
    where
      clash : a2 <ℤ a1 → ⊥
      clash l = Order.≺_irrefl fractions (Order.≺_trans fractions (Order.≺-≼_trans fractions aft (r.from_last stations is a2 a1 f1 f2 (omega (arith, ints)) (omega (arith, ints)))) fore)

  pub last_below : {c : Corner} → IsStart b c → b.from_last stations c.a c.f ≺ nought
  last_below s = Signs.below_nought (s.tried.r1.contains stations is) s.qualifies.last

  pub first_above : {c : Corner} → IsStart b c → nought ≺ b.from_first stations c.a c.f
  first_above s = Signs.above_nought (s.tried.r2.contains stations is) s.qualifies.first

pub sloped : {b : Balance} {c : Corner} → IsStart b c → c.a <ℤ c.f
sloped s = omega (arith, ints, s.tried.a, s.tried.f, s.is_half.from)

pub signs : {b : Balance} {c : Corner} → IsStart b c → HasSigns b c.a c.f
signs {b} {c} s = record {
  last = record { is = λ stations is. Order.≺_weak fractions (last_below {b = b} stations is s) };
  first = record { is = λ stations is. Order.≺_weak fractions (first_above {b = b} stations is s) };
}

-- the aft corner is seen from the other end
module _ {b : Balance} {c d : Corner} (stations : List Station) (is : IsHullOf b.flood stations) (r : Rises b) (s : IsStart b c) (t : IsStart (mirrored b) d) where
  pub a_order : c.a ≤ℤ d.f
  a_order = apart {b = b} stations is c.a c.f d.a d.f r (last_below {b = b} stations is s) (first_above {b = mirrored b} stations is t) (sloped s) (sloped t)

  pub f_order : d.a ≤ℤ c.f
  f_order = apart {b = mirrored b} stations is d.a d.f c.a c.f (mirrored-rises r) (last_below {b = mirrored b} stations is t) (first_above {b = b} stations is s) (sloped t) (sloped s)

-- the signs at levels that are these for each hull
pub signs_as : {b : Balance} {a f c g : ℤ} → OfHulls b (λ stations. c ≡ a) → OfHulls b (λ stations. g ≡ f) → HasSigns b a f → HasSigns b c g
signs_as {b} h k s = record {
  last = record { is = λ stations is. rw (h stations is, k stations is) (s.last.is stations is) };
  first = record { is = λ stations is. rw (h stations is, k stations is) (s.first.is stations is) };
}
