use Rattle.std.proofs.Common.{refl, subst, List}
use Rattle.draft_bracket.specs.DraftBracket.{IsTooHeavy}
use Rattle.hull_model.specs.declared.station.Station.{Station}
use Rattle.loading_sheet.specs.Centre.{displaced}
use Rattle.hull_cli.proofs.made.made_standing.Goals as goal

pub unreachable-unreachable : goal.unreachable-unreachable
unreachable-unreachable c =
    let job = c.args.job.now in
    let loading = c.args.loading.now in
    let heavy = (c.in-Err.ensures.too_heavy c.args.hull.now c.requires.hull c.requires.faces).0 refl in
    absurd (c.the_made_ship_floats.ensures.floats c.requires.seed.0 job loading c.requires.made c.requires.loaded
    (subst (λ (hull : List Station). IsTooHeavy hull (displaced loading job.water)) c.requires.seed.1 heavy))
