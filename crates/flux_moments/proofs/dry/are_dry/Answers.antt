use Rattle.std.proofs.Common.{rules, ◌≤ℤ◌, pos}
use Rattle.std.proofs.lemmas.List.Elements.{recursion_from_All, All-from_recursion}
use Rattle.flux_moments.proofs.dry.are_dry.Goals as goal

pub returns : goal.returns
returns c = (
  λ t. recursion_from_All (λ s. s.hi ≤ℤ pos 0) c.args.depths.now (search rules),
  λ all. let each = All-from_recursion (λ s. s.hi ≤ℤ pos 0) c.args.depths.now all in search rules,
)
