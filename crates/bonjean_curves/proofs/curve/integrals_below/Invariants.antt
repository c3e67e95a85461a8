use Rattle.std.proofs.Common.{◌+◌, ◌*◌, ◌^◌, ◌≤◌, ◌≡◌, length}
use Rattle.std.specs.List.{AllByRecursion}
use Rattle.exact_algebra.proofs.Fraction.{◌⊕◌, ◌⊗◌}
use Rattle.hull_model.specs.Lists.{Rises}
use Rattle.hull_model.specs.Body.{IsPoint}
use Rattle.hull_model.specs.Section.{section_area, section_moment}
use Rattle.hull_model.proofs.Trapezium.{natural}
use Rattle.bonjean_curves.proofs.curve.integrals_below.Given as goal

abbrev pub invariant-loop-rest : goal.invariant-loop-rest
invariant-loop-rest l = record {
  few : length l.rest ≤ 32;
  heights_rise : Rises (λ p. p.z) l.rest;
  limits : AllByRecursion IsPoint l.rest;
  area : l.area + 2 * 65535 ^ 2 * length l.rest ≤ 2 * 65535 ^ 2 * 32;
  moment : l.moment + 6 * 65535 ^ 3 * length l.rest ≤ 6 * 65535 ^ 3 * 32;
  area_passed : section_area l.points l.draft ≡ natural l.area ⊕ section_area l.rest l.draft;
  moment_passed : natural 3 ⊗ section_moment l.points l.draft ≡ natural l.moment ⊕ natural 3 ⊗ section_moment l.rest l.draft;
}

abbrev pub decreases-loop-rest : goal.decreases-loop-rest
decreases-loop-rest l = length l.rest
