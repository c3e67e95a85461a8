use Rattle.std.proofs.Math.Nat.{mod-add-mod}
use Rattle.std.proofs.Common.{◌*◌, ap}
use Rattle.hull_maker.specs.Draws.{next_state, drawn}
use Rattle.hull_maker.proofs.draws.Draws.draw.Goals as goal

pub returns-clause-state : goal.returns-clause-state
unfolding next_state
returns-clause-state c = mod-add-mod (c.args.self.now.state * 1664525) 4294967296 1013904223

pub returns-clause-value : goal.returns-clause-value
unfolding next_state drawn
returns-clause-value c = ap drawn (mod-add-mod (c.args.self.now.state * 1664525) 4294967296 1013904223)
