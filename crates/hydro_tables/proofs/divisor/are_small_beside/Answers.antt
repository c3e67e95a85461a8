use Rattle.std.proofs.Common.{rules}
use Rattle.std.proofs.lemmas.List.Elements.{recursion_from_All, All-from_recursion}
use Rattle.hydro_tables.specs.Bounds.{IsSmallBeside}
use Rattle.hydro_tables.proofs.divisor.are_small_beside.Goals as goal

pub returns : goal.returns
returns c = (λ t. recursion_from_All (IsSmallBeside c.args.reach c.args.divisor) c.args.moments.now (search rules), λ all. let each = All-from_recursion (IsSmallBeside c.args.reach c.args.divisor) c.args.moments.now all in search rules)
