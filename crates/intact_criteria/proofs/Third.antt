-- C3: its rule is right, and what it shows.
use Rattle.intact_criteria.specs.Figures.{Figures}
use Rattle.intact_criteria.specs.Downflooding.{IsDownflooding, IsWetAt}
use Rattle.intact_criteria.specs.Limit.{in_units}
use Rattle.intact_criteria.specs.Readings.{Readings}
use Rattle.std.proofs.Common.{ℕ, arith, refl}
use Rattle.intact_criteria.specs.C3 as C3
use Rattle.intact_criteria.specs.declared.finding.Finding.TheVariants as finding
use Rattle.intact_criteria.proofs.Soundness.{IsSound, IsRuleOf}
use Rattle.intact_criteria.proofs.AreaLaws.{area_holds, area_fails}
use Rattle.intact_criteria.proofs.DownfloodingLaws.{choice_floods}
use Rattle.intact_criteria.proofs.FloodingRule.{flooding_open, flooding_bounded}
use Rattle.intact_criteria.proofs.Enclosure.{Encloses}

pub third_sound : IsSound (λ r. C3.IsFound r.leaks r.separation) C3.HoldsAt
third_sound = record {
  holds = λ r f e h. at r f e h (choice_floods f).0 (choice_floods f).1;
  fails = λ r f e shown h c. area_fails r f e 30 30 c.K shown h c.flooding c.late c.area;
}
  where
    at : (r : Readings) (f : Figures) → Encloses r f → C3.IsFound r.leaks r.separation finding.Holds → (K : ℕ) → IsDownflooding (IsWetAt f) K → C3.HoldsAt f
    at r f e h K flooding = record { K = K; flooding = flooding; late = (area_holds r f e 30 30 K h flooding).0; area = (area_holds r f e 30 30 K h flooding).1 }

pub third_rule : IsRuleOf (λ r. C3.IsFound r.leaks r.separation) C3.HoldsAt 3
third_rule = record {
  sound = third_sound;
  open_where_unsure = λ r x h. flooding_open 3 r 30 (λ k. refl) x h;
  bounded = λ r small x h. flooding_bounded r.leaks small.depth r.separation small.separation 30 (omega arith) (in_units 30) x h;
}
