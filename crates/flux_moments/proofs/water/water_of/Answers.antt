use Rattle.std.proofs.Common.{rules, inl, inr}
use Rattle.flux_moments.proofs.water.water_of.Goals as goal

pub returns-else-are_out-clause-clear : goal.returns-else-are_out-clause-clear
returns-else-are_out-clause-clear c b h is far e = elim far [
  | inl under ↦ let t = c.are_under.ensures.clear b h is under in search rules
  | inr out ↦ let t = c.are_out.ensures.clear b h is out in search rules
]
