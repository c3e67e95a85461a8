use Rattle.std.proofs.Common.{◌∙◌, length, ap, arith}
use Rattle.offset_reader.specs.Stations.{stations_of}
use Rattle.offset_reader.proofs.StationFacts.{no_stations, too_many, too_few, fitting, drop_next}
use Rattle.offset_reader.proofs.stations.check_count.Goals as goal

pub returns-then-stations-eq-MOST_STATIONS-clause-err : goal.returns-then-stations-eq-MOST_STATIONS-clause-err
returns-then-stations-eq-MOST_STATIONS-clause-err c =
    let left = rw c.if-stations-eq-MOST_STATIONS.true at c.loop-rest.invariant.left in
    too_many (stations_of c.args.rows.now) c.loop-rest.rest.now _ left (omega arith) c.in-len1-up.len_at_least

pub loop-rest-preserved : goal.loop-rest-preserved
loop-rest-preserved c =
    let left = drop_next c.loop-rest.stations (stations_of c.args.rows.now) (stations_of c.first_station.result.1.now) c.first_station.result.0.now (c.loop-rest.invariant.left ∙ c.first_station.ensures.split) in
    let more = ap length c.first_station.ensures.split in
    record { few = omega arith; left = left; count = omega arith }

pub returns-then-stations-lt-FEWEST_STATIONS-clause-err : goal.returns-then-stations-lt-FEWEST_STATIONS-clause-err
returns-then-stations-lt-FEWEST_STATIONS-clause-err c =
    let none = ap length (no_stations c.loop-rest.rest.now c.in_default.len_below) in
    too_few (stations_of c.args.rows.now) c.loop-rest.stations (omega arith) (omega arith)

pub returns-clause-ok : goal.returns-clause-ok
returns-clause-ok c =
    let none = ap length (no_stations c.loop-rest.rest.now c.in_default.len_below) in
    fitting (stations_of c.args.rows.now) (omega arith) (omega arith)
