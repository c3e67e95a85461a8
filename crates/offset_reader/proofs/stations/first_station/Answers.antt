use Rattle.offset_reader.proofs.StationFacts.{first_split}
use Rattle.offset_reader.proofs.stations.first_station.Goals as goal

pub returns-clause-split : goal.returns-clause-split
returns-clause-split c =
    rw (c.split_at.ensures.front, c.split_at.ensures.back) (first_split c.args.rows.now _ c.run_length.result c.requires c.run_length.ensures)
