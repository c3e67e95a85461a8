use Rattle.hull_polyhedron.proofs.StripColumns.{columns_of_strips, lids_of_strips}
use Rattle.hull_polyhedron.proofs.StripWhole.{dry_strips, dry_lids, wet_strips, deep_lids}
use Rattle.hull_polyhedron.proofs.StripsOfHull.{hull_by_strips, lid_by_strips}
use Rattle.hull_polyhedron.proofs.laws.strips_are_summed_by_columns.Goals as goal

pub returns-clause-columns : goal.returns-clause-columns
returns-clause-columns c = columns_of_strips

pub returns-clause-lids : goal.returns-clause-lids
returns-clause-lids c = lids_of_strips

pub returns-clause-dry : goal.returns-clause-dry
returns-clause-dry c = dry_strips

pub returns-clause-dry_lids : goal.returns-clause-dry_lids
returns-clause-dry_lids c = dry_lids

pub returns-clause-wet : goal.returns-clause-wet
returns-clause-wet c = wet_strips

pub returns-clause-deep_lids : goal.returns-clause-deep_lids
returns-clause-deep_lids c = deep_lids

pub returns-clause-hull : goal.returns-clause-hull
returns-clause-hull c = hull_by_strips

pub returns-clause-hull_lids : goal.returns-clause-hull_lids
returns-clause-hull_lids c = lid_by_strips
