-- The balance of a flooded hull with its load, seen from the first station.
use Rattle.std.specs.Prelude.{ℤ, pos, ◌*ℤ◌, ◌≤ℤ◌, List}
use mathlib.Core.List.{[], ◌∷◌}
use mathlib.Core.Path.{refl, sym}
use native.Mathlib.Omega.{arith}
use borrow.Author.Differences.{ints}
use Rattle.exact_algebra.proofs.Fraction.{Fraction, ◌⊖◌, ◌≼◌, fractions}
use Rattle.exact_algebra.specs.Expression.{var, unit, ◌:-◌}
use Rattle.exact_algebra.proofs.Order.{order_from, no_more, at_most}
use Rattle.exact_algebra.proofs.Whole.{whole-≼}
use Rattle.hull_model.specs.declared.station.Station.{Station}
use Rattle.hull_model.specs.declared.water.Water.{Water}
use Rattle.hull_polyhedron.specs.RisingLaw.{WhatIsLeftRises, moment_from_last, moment_from_first}
use Rattle.hull_polyhedron.proofs.DamageBox.{upright_raised}
use Rattle.hull_polyhedron.proofs.RisingHull.{moments_rise}
use Rattle.plane_clip.specs.Enclosure.{in_unit}
use Rattle.flux_moments.proofs.MeanWidths.{in_unit-in}
use Rattle.exact_algebra.proofs.Order as Order
use Rattle.exact_algebra.proofs.Span.{positive-unit}
use Rattle.compartment_loss.specs.declared.flooded_hull.FloodedHull.{FloodedHull}
use Rattle.loading_sheet.specs.declared.loading.Loading.{Loading}
use Rattle.loading_sheet.specs.Centre.{displaced}
use Rattle.damage_box.specs.Balance.{Balance, Rises}
use Rattle.damage_box.specs.Planes.{plane_at}
use Rattle.damage_box.specs.Residuals.{IsHullOf, volume_at, owed_last, owed_first, last_at, first_at}

abbrev pub balance_of : FloodedHull → Loading → Water → Balance
balance_of flood loading water = record {
  flood = flood;
  from_last = λ s a f. last_at loading water s flood.slabs.items a f;
  from_first = λ s a f. first_at loading water s flood.slabs.items a f;
  volume = λ s a f. volume_at s flood.slabs.items a f;
  need = displaced loading water;
  first = λ a f. a;
  last = λ a f. f;
  low = pos 1024 *ℤ flood.faces.now.low_z;
  high = pos 1024 *ℤ flood.faces.now.high_z;
}

-- ---- the residuals rise with both levels
level-rises : (a c : ℤ) → a ≤ℤ c → in_unit 10 a ≼ in_unit 10 c
level-rises a c h = Order.≼_cancel fractions (positive-unit 10)
    (Order.≼_trans fractions (Order.≼_same fractions (in_unit-in 10 a)) (Order.≼_trans fractions (whole-≼ h) (Order.≼_same fractions (sym (in_unit-in 10 c)))))

left-rises : (flood : FloodedHull) (stations : List Station) → IsHullOf flood stations → (a c f g : ℤ) → a ≤ℤ c → f ≤ℤ g
    → WhatIsLeftRises (plane_at a f) (plane_at c g) stations flood.slabs.items
left-rises flood stations is a c f g h k = moments_rise (plane_at a f) (plane_at c g) (upright_raised (plane_at a f) (plane_at c g) refl refl (level-rises a c h) (level-rises f g k)) stations is.hull flood.slabs.items is.apart

less-owed : (x y owed : Fraction) → x ≼ y → x ⊖ owed ≼ y ⊖ owed
less-owed x y owed h = order_from fractions (x ∷ y ∷ owed ∷ []) ((unit, var 0, var 1) ∷ []) (at_most h no_more) (var 0 :- var 2) (var 1 :- var 2) refl

pub balance-rises : (flood : FloodedHull) (loading : Loading) (water : Water) → Rises (balance_of flood loading water)
balance-rises flood loading water = record {
  from_last = λ stations is a c f g h k. less-owed (moment_from_last (plane_at a f) stations flood.slabs.items) (moment_from_last (plane_at c g) stations flood.slabs.items) (owed_last loading water stations)
      (left-rises flood stations is a c f g h k).from_last;
  from_first = λ stations is a c f g h k. less-owed (moment_from_first (plane_at a f) stations flood.slabs.items) (moment_from_first (plane_at c g) stations flood.slabs.items) (owed_first loading water stations)
      (left-rises flood stations is a c f g h k).from_first;
}

pub balance-ordered : (flood : FloodedHull) (loading : Loading) (water : Water) → (balance_of flood loading water).low ≤ℤ (balance_of flood loading water).high
balance-ordered flood loading water = times flood.faces.now.low_z flood.faces.now.high_z flood.faces.now.heights.ordered
  where
    times : (a c : ℤ) → a ≤ℤ c → (pos 1024 *ℤ a) ≤ℤ (pos 1024 *ℤ c)
    times a c h = omega (arith, ints)
