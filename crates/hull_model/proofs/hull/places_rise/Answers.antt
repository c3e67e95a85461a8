use Rattle.std.proofs.Common.{rules}
use Rattle.hull_model.proofs.Order.{short-Rises}
use Rattle.hull_model.proofs.hull.places_rise.Goals as goal

pub returns : goal.returns
returns c =
    let here = short-Rises (λ s. s.x) c.loop-rest.rest.now c.in_default.len_below in
    (λ _. c.loop-rest.invariant.0 here, λ _. search rules)
