use Rattle.std.proofs.lemmas.Result.{err_from_is_err_and}
use Rattle.draft_bracket.specs.DraftBracket.{IsTooHeavy}
use Rattle.loading_sheet.specs.Centre.{displaced}
use Rattle.hull_cli.specs.Answers.{CanBeLoaded}
use Rattle.std.proofs.Common.{◌≡◌, true, false, arith}
use Rattle.hull_cli.proofs.AllLines.{four_joined, items_stop, masses_stop}
use Rattle.hull_cli.proofs.Counts.{few_drafts, few_in_all, few_masses, masses_within}
use Rattle.hull_cli.proofs.StabilityLines.{load_stops}
use Rattle.hull_cli.proofs.all.all_lines.Goals as goal

pub cross_lines-requires : goal.cross_lines-requires
cross_lines-requires c =
    let job = c.args.job.now in
    rw c.as_slice-masses.ensures (masses_within job.margin job.drafts job.masses job.limits)

pub returns-in_err-loading-clause-stops : goal.returns-in_err-loading-clause-stops
returns-in_err-loading-clause-stops c =
    let job = c.args.job.now in
    let p = err_from_is_err_and c.from_residual.result c.from_residual.ensures.1 in
    rw (p.1, p.2) (items_stop c.args.hull.now job _ (load_stops c.args.hull.now job.water job.items _ (rw c.as_slice-items.ensures at c.in_err-loading.ensures.stops)))

pub returns-in_err-standing-clause-stops : goal.returns-in_err-standing-clause-stops
returns-in_err-standing-clause-stops c =
    let job = c.args.job.now in
    let loaded = rw c.as_slice-items.ensures at c.in_ok-loading.ensures.loading in
    let p = err_from_is_err_and c.from_residual-in_err-standing.result c.from_residual-in_err-standing.ensures.1 in
    rw (p.1, p.2) (items_stop c.args.hull.now job _ (c.in_err-standing.ensures.stops c.args.hull.now c.requires.hull c.requires.faces job.items loaded))

pub returns-in_err-curves-clause-stops : goal.returns-in_err-curves-clause-stops
returns-in_err-curves-clause-stops c =
    let job = c.args.job.now in
    let loaded = rw c.as_slice-items.ensures at c.in_ok-loading.ensures.loading in
    let light : ¬ (IsTooHeavy c.args.hull.now (displaced c.in_ok-loading.loading job.water)) =
    λ heavy. let no : false ≡ true = (c.in_ok-standing.ensures.too_heavy c.args.hull.now c.requires.hull c.requires.faces).1 heavy in cc in
    let can : CanBeLoaded c.args.hull.now job.water job.items = (c.in_ok-loading.loading, loaded, light) in
    let stops = rw c.as_slice-masses.ensures at c.in_err-curves.ensures.stops c.args.hull.now c.requires.hull c.requires.faces in
    let p = err_from_is_err_and c.from_residual-in_err-curves.result c.from_residual-in_err-curves.ensures.1 in
    rw (p.1, p.2) (masses_stop c.args.hull.now job _ can stops)

pub returns-clause-lines : goal.returns-clause-lines
returns-clause-lines c =
    let hull = c.args.hull.now in
    let sections = rw c.deref.ensures.value at c.in_ok-extend_from_slice.ensures.items in
    let curves = rw c.deref-2.ensures.value at c.in_ok-extend_from_slice-2.ensures.items in
    let ship = rw c.deref-3.ensures.value at c.in_ok-extend_from_slice-3.ensures.items in
    record {
      rows = c.in_ok-lines.lines.items;
      hydro = rw c.as_slice-drafts.ensures at c.in_ok-lines.ensures.lines hull c.requires.hull c.requires.faces;
      sections = c.in_ok-bonjean_lines.field-0.items;
      bonjean = rw c.as_slice-drafts.ensures at c.in_ok-bonjean_lines.ensures.lines;
      curves = c.in_ok-curves.curves.items;
      cross = rw c.as_slice-masses.ensures at c.in_ok-curves.ensures.lines hull c.requires.hull c.requires.faces;
      ship = c.in_ok-ship_lines.field-0.items;
      loaded = c.in_ok-ship_lines.ensures.lines;
      whole = four_joined c.in_ok-lines.lines.items c.in_ok-bonjean_lines.field-0.items c.in_ok-curves.curves.items c.in_ok-ship_lines.field-0.items
          c.extend_from_slice.new.self.items c.extend_from_slice-2.new.self.items c.extend_from_slice-3.new.self.items sections curves ship;
    }

pub returns-clause-few : goal.returns-clause-few
returns-clause-few c =
    let job = c.args.job.now in
    let sections = rw c.as_slice-drafts.ensures at c.in_ok-bonjean_lines.ensures.count in
    let curves = rw c.as_slice-masses.ensures at c.in_ok-curves.ensures.count in
    let rows = rw c.as_slice-drafts.ensures at c.in_ok-lines.ensures.count in
    let drafts = few_drafts job.margin job.drafts job.masses job.limits in
    let masses = few_masses job.margin job.drafts job.masses job.limits in
    let all = few_in_all _ _ _ _ _ _ _ rows sections curves drafts c.requires.hull.few masses c.in_ok-ship_lines.ensures.few in
    omega (arith, all, c.in_ok-extend_from_slice.ensures.len, c.deref.ensures.len, c.in_ok-extend_from_slice-2.ensures.len, c.deref-2.ensures.len, c.in_ok-extend_from_slice-3.ensures.len, c.deref-3.ensures.len)
