-- C2: its rule is right, and what it shows.
use Rattle.exact_algebra.proofs.Fraction.{fractions}
use Rattle.intact_criteria.specs.Figures.{Figures}
use Rattle.intact_criteria.specs.Downflooding.{IsDownflooding, IsWetAt}
use Rattle.intact_criteria.specs.Limit.{in_units}
use Rattle.intact_criteria.specs.Readings.{Readings}
use Rattle.std.proofs.Common.{sym, ℕ, arith, refl}
use Rattle.exact_algebra.proofs.Order as Order
use Rattle.intact_criteria.specs.C2 as C2
use Rattle.intact_criteria.specs.declared.finding.Finding.TheVariants as finding
use Rattle.intact_criteria.proofs.Soundness.{IsSound, IsRuleOf}
use Rattle.intact_criteria.proofs.AreaLaws.{area_holds, area_fails, from_upright}
use Rattle.intact_criteria.proofs.DownfloodingLaws.{choice_floods}
use Rattle.intact_criteria.proofs.FloodingRule.{flooding_open, flooding_bounded}
use Rattle.intact_criteria.proofs.Enclosure.{Encloses}

pub second_sound : IsSound (λ r. C2.IsFound r.leaks r.separation) C2.HoldsAt
second_sound = record {
  holds = λ r f e h. at r f e h (choice_floods f).0 (choice_floods f).1;
  fails = λ r f e shown h c. area_fails r f e 0 90 c.K shown h c.flooding (omega arith) (Order.≼_trans fractions c.area (Order.≼_same fractions (sym (from_upright f c.K))));
}
  where
    at : (r : Readings) (f : Figures) → Encloses r f → C2.IsFound r.leaks r.separation finding.Holds → (K : ℕ) → IsDownflooding (IsWetAt f) K → C2.HoldsAt f
    at r f e h K flooding = record { K = K; flooding = flooding; area = Order.≼_trans fractions (area_holds r f e 0 90 K h flooding).1 (Order.≼_same fractions (from_upright f K)) }

pub second_rule : IsRuleOf (λ r. C2.IsFound r.leaks r.separation) C2.HoldsAt 2
second_rule = record {
  sound = second_sound;
  open_where_unsure = λ r x h. flooding_open 2 r 0 (λ k. refl) x h;
  bounded = λ r small x h. flooding_bounded r.leaks small.depth r.separation small.separation 0 (omega arith) (in_units 90) x h;
}
