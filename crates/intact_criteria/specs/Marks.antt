-- What is found of all six criteria by the rules, and the marks and the verdict on it.
use Rattle.std.specs.Prelude.{◌≡◌, [], ◌∷◌}
use Rattle.intact_criteria.specs.declared.finding.Finding.{Finding}
use Rattle.intact_criteria.specs.declared.finding.Findings.{Findings}
use Rattle.intact_criteria.specs.declared.finding.Found.{Found}
use Rattle.intact_criteria.specs.declared.finding.Side.{Side}
use Rattle.intact_criteria.specs.declared.finding.Side.TheVariants.{Port, Starboard}
use Rattle.intact_criteria.specs.C1 as C1
use Rattle.intact_criteria.specs.C2 as C2
use Rattle.intact_criteria.specs.C3 as C3
use Rattle.intact_criteria.specs.C4 as C4
use Rattle.intact_criteria.specs.C5 as C5
use Rattle.intact_criteria.specs.C6 as C6
use Rattle.intact_criteria.specs.Finding.{on_both, mark_of, verdict_of}
use Rattle.intact_criteria.specs.Readings.{Readings}

-- what the rule of a criterion finds on both sides
pub record IsFoundOnBoth (Rule : Side → Finding → Type 0) (found : Found) : Type 0 where
  pub on_port : Finding
  pub on_starboard : Finding
  pub port_rule : Rule Port on_port
  pub starboard_rule : Rule Starboard on_starboard
  pub joined : found ≡ on_both on_port on_starboard

-- what is found of all six
pub record AreFound (r : Side → Readings) (c1 c2 c3 c4 c5 c6 : Found) : Type 0 where
  pub first : IsFoundOnBoth (λ side. C1.IsFound (r side).separation) c1
  pub second : IsFoundOnBoth (λ side. C2.IsFound (r side).leaks (r side).separation) c2
  pub third : IsFoundOnBoth (λ side. C3.IsFound (r side).leaks (r side).separation) c3
  pub fourth : IsFoundOnBoth (λ side. C4.IsFound (r side).gz) c4
  pub fifth : IsFoundOnBoth (λ side. C5.IsFound (r side).gz) c5
  pub sixth : IsFoundOnBoth (λ side. C6.IsFound (r side).gm) c6

-- marks and verdict by the rules
pub record AreFindings (r : Side → Readings) (findings : Findings) : Type 0 where
  pub c1 : Found
  pub c2 : Found
  pub c3 : Found
  pub c4 : Found
  pub c5 : Found
  pub c6 : Found
  pub found : AreFound r c1 c2 c3 c4 c5 c6
  pub marks : findings.marks ≡ mark_of c1 ∷ mark_of c2 ∷ mark_of c3 ∷ mark_of c4 ∷ mark_of c5 ∷ mark_of c6 ∷ []
  pub verdict : findings.verdict ≡ verdict_of (c1 ∷ c2 ∷ c3 ∷ c4 ∷ c5 ∷ c6 ∷ [])
