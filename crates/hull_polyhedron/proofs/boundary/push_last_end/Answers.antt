use Rattle.std.proofs.Common.{ap, sym, ◌∙◌, ◌++◌, List, false}
use Rattle.hull_model.specs.declared.node.Node.{Node}
use Rattle.hull_polyhedron.specs.Listed.{kept, end_wall}
use Rattle.hull_polyhedron.proofs.Kept.{last_end_at}
use Rattle.hull_polyhedron.proofs.boundary.push_last_end.Goals as goal

pub returns-in_ok-push_end : goal.returns-in_ok-push_end
returns-in_ok-push_end c =
    c.in_ok-push_end.ensures
    ∙ ap (λ (ns : List Node). c.args.faces.now ++ kept (end_wall false ns)) (c.deref.ensures.value ∙ c.in_ok-chain.ensures.same)
    ∙ ap (λ ts. c.args.faces.now ++ kept ts) (sym (last_end_at c.args.stations.now c.last-item.result c.in-len1-up.len_at_least c.last-item.is))
