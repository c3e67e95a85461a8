-- C1: its rule is right, and what it shows.
use Rattle.intact_criteria.specs.AreaToFlooding.{area_between}
use Rattle.intact_criteria.specs.Limit.{in_units}
use Rattle.std.proofs.Common.{arith, refl}
use Rattle.intact_criteria.specs.C1 as C1
use Rattle.intact_criteria.proofs.Soundness.{IsSound, IsRuleOf}
use Rattle.intact_criteria.proofs.AgainstLimit.{reaches_limit, below_limit}
use Rattle.intact_criteria.proofs.AreaLaws.{whole_area_contained}
use Rattle.intact_criteria.proofs.AgainstRule.{against_open, against_bounded}
use Rattle.intact_criteria.proofs.Sizes.{area-small}

pub first_sound : IsSound (λ r. C1.IsFound r.separation) C1.HoldsAt
first_sound = record {
  holds = λ r f e h. reaches_limit 55 _ _ (whole_area_contained r.separation f e.separation 30 (omega arith)) h;
  fails = λ r f e shown h c. below_limit 55 _ _ (whole_area_contained r.separation f e.separation 30 (omega arith)) h.0 c;
}

pub first_rule : IsRuleOf (λ r. C1.IsFound r.separation) C1.HoldsAt 1
first_rule = record {
  sound = first_sound;
  open_where_unsure = λ r x h. against_open 1 r 30 (area_between r.separation 0 30) (omega arith) refl x h;
  bounded = λ r small x h. against_bounded (in_units 55) 30 (area_between r.separation 0 30) (area-small r.separation small.separation 0 30 (omega arith) (omega arith)) x h;
}
