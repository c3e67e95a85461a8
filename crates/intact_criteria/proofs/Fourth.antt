-- C4: its rule is right, and what it shows.
use Rattle.intact_criteria.specs.Limit.{in_units}
use Rattle.intact_criteria.specs.Readings.{Ends, Readings}
use Rattle.intact_criteria.specs.Open.{IsOpen}
use Rattle.intact_criteria.specs.declared.finding.Finding.{Finding}
use Rattle.intact_criteria.specs.declared.finding.Shown.{Shown}
use Rattle.std.proofs.Common.{ℕ, ◌≤◌, refl}
use Rattle.intact_criteria.specs.C4 as C4
use Rattle.intact_criteria.specs.declared.finding.Finding.TheVariants as finding
use Rattle.intact_criteria.proofs.Soundness.{IsSmall, IsSound, IsRuleOf, OpenFinding, BoundedFinding}
use Rattle.intact_criteria.proofs.ShownLaws.{interval_bounded, open_interval, not_at_most}
use Rattle.intact_criteria.proofs.AgainstLimit.{reaches_limit, below_limit}
use Rattle.intact_criteria.proofs.Sizes.{wider}

pub fourth_sound : IsSound (λ r. C4.IsFound r.gz) C4.HoldsAt
fourth_sound = record {
  holds = λ r f e h. record { degree = h.degree; above = h.above; below = h.below; holds = reaches_limit 200 (r.gz h.degree) (f.gz h.degree) (e.gz h.degree h.below) h.holds };
  fails = λ r f e shown h c. below_limit 200 (r.gz c.degree) (f.gz c.degree) (e.gz c.degree c.below) (h.0 c.degree c.above c.below) c.holds;
}

fourth_unsure : (r : Readings) (s : Shown) → C4.IsFound r.gz (finding.Unsure s) → IsOpen 4 r s
fourth_unsure r s found = open_interval 4 r found.2.degree (r.gz found.2.degree) found.2.reaching.below refl
    (not_at_most (in_units 200) (r.gz found.2.degree).lo (λ h. found.0 (record { degree = found.2.degree; above = found.2.reaching.above; below = found.2.reaching.below; holds = h })))
    found.2.reaching.holds s found.2.shows

fourth_open : (r : Readings) (x : Finding) → C4.IsFound r.gz x → OpenFinding 4 r x
fourth_open r finding.Holds found = tt
fourth_open r (finding.Fails s) found = tt
fourth_open r (finding.Unsure s) found = fourth_unsure r s found

fourth_bounded : (gz : ℕ → Ends) → ((k : ℕ) → k ≤ 90 → IsSmall (gz k)) → (x : Finding) → C4.IsFound gz x → BoundedFinding x
fourth_bounded gz small finding.Holds h = tt
fourth_bounded gz small (finding.Fails s) h = interval_bounded h.1.degree (gz h.1.degree) (wider _ (small h.1.degree h.1.greatest.below)) s h.1.shows
fourth_bounded gz small (finding.Unsure s) h = interval_bounded h.2.degree (gz h.2.degree) (wider _ (small h.2.degree h.2.reaching.below)) s h.2.shows

pub fourth_rule : IsRuleOf (λ r. C4.IsFound r.gz) C4.HoldsAt 4
fourth_rule = record {
  sound = fourth_sound;
  open_where_unsure = λ r x h. fourth_open r x h;
  bounded = λ r small x h. fourth_bounded r.gz small.gz x h;
}
