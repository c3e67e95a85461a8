use Rattle.std.proofs.Common.{◌≡◌, ◌∙◌, FitsSigned, w64, to_z, of_z, ◌⊎◌, inr, length, true, arith, rules}
use Rattle.std.proofs.lemmas.Grind.{common_steps}
use Rattle.std.proofs.lemmas.Int.{to_z-of_z}
use Rattle.offset_reader.proofs.StationFacts.{few_points, many_points, fitting_points, station_is}
use Rattle.offset_reader.proofs.stations.station_of.Goals as goal

pub returns-then-kept-eq1-clause-err : goal.returns-then-kept-eq1-clause-err
returns-then-kept-eq1-clause-err c =
    inr (few_points c.args.rows.now _ c.kept_rows-kept.result.now c.args.is_end c.requires c.kept_rows-kept.ensures (search rules) (search rules))

pub returns-then-kept-gt-MOST_POINTS-clause-err : goal.returns-then-kept-gt-MOST_POINTS-clause-err
returns-then-kept-gt-MOST_POINTS-clause-err c =
    inr (many_points c.args.rows.now _ c.kept_rows-kept.result.now c.args.is_end c.requires c.kept_rows-kept.ensures c.if-kept-gt-MOST_POINTS.true)

pub returns-clause-ok : goal.returns-clause-ok
returns-clause-ok c =
    let two : (c.args.is_end ≡ true) ⊎ (length c.kept_rows-kept.result.now ≡ 1 → ⊥) = grind (arith, common_steps) in
    let fits : FitsSigned w64 c.from.result = search rules in
    let x : to_z w64 (of_z w64 c.from.result) ≡ c.from.result = to_z-of_z w64 c.from.result fits in (
      fitting_points c.args.rows.now c.kept_rows-kept.result.now c.args.is_end c.kept_rows-kept.ensures two (omega arith),
      station_is c.args.rows.now _ c.kept_rows-kept.result.now _ _ c.requires (x ∙ c.from.ensures) c.in_ok-points_of.ensures.ok c.kept_rows-kept.ensures,
    )
