use Rattle.std.proofs.Common.{rules, subst, ◌<◌, arith}
use Rattle.std.proofs.lemmas.Option.{get_or_from_slice_get, slice_get_within}
use Rattle.draft_bracket.specs.DraftBracket.{IsOfDegree}
use Rattle.intact_criteria.proofs.brackets.degree_brackets.Goals as goal

-- what was made at a degree is the bracket of the degree
pub returns : goal.returns
returns c = record {
  count = c.from_fn.ensures.items.long;
  each = λ k bracket there.
      let few : k < 91 = omega (arith, slice_get_within c.from_fn.result k bracket there, c.from_fn.ensures.items.long) in
      let called = c.from_fn.ensures.items.at k bracket few in
      subst (IsOfDegree k) (get_or_from_slice_get c.from_fn.result k bracket bracket there) (search rules);
}
