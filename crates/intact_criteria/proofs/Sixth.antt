-- C6: its rule is right, and what it shows.
use Rattle.std.proofs.Common.{refl, arith}
use Rattle.intact_criteria.specs.Limit.{in_units}
use Rattle.intact_criteria.specs.C6 as C6
use Rattle.intact_criteria.proofs.Soundness.{IsSound, IsRuleOf}
use Rattle.intact_criteria.proofs.AgainstLimit.{reaches_limit, below_limit}
use Rattle.intact_criteria.proofs.AgainstRule.{against_open, against_bounded}
use Rattle.intact_criteria.proofs.Sizes.{wider}

pub sixth_sound : IsSound (λ r. C6.IsFound r.gm) C6.HoldsAt
sixth_sound = record {
  holds = λ r f e h. reaches_limit 150 r.gm f.gm e.gm h;
  fails = λ r f e shown h c. below_limit 150 r.gm f.gm e.gm h.0 c;
}

pub sixth_rule : IsRuleOf (λ r. C6.IsFound r.gm) C6.HoldsAt 6
sixth_rule = record {
  sound = sixth_sound;
  open_where_unsure = λ r x h. against_open 6 r 0 r.gm (omega arith) refl x h;
  bounded = λ r small x h. against_bounded (in_units 150) 0 r.gm (wider r.gm small.gm) x h;
}
