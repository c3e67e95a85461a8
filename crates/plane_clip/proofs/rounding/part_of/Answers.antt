use Rattle.std.proofs.Common.{◌+◌, subst, ◌≤◌, sym, ℕ}
use Rattle.plane_clip.specs.Rounded.{part}
use Rattle.plane_clip.proofs.PartSteps.{in_two_steps, quotient-most}
use Rattle.plane_clip.proofs.rounding.part_of.Goals as goal

pub returns-clause-value : goal.returns-clause-value
unfolding part
returns-clause-value c = in_two_steps c.args.a (c.args.a + c.args.b) c.requires.some

pub returns-clause-most : goal.returns-clause-most
returns-clause-most c = subst (λ (x : ℕ). x ≤ 1099511627776) (sym (in_two_steps c.args.a (c.args.a + c.args.b) c.requires.some)) (quotient-most c.args.a c.args.b c.requires.some)
