use Rattle.std.proofs.Common.{◌≡◌, ◌∙◌, ◌||◌, append_assoc, sym, inl, inr, arith}
use Rattle.std.proofs.lemmas.Grind.{common_steps}
use Rattle.std.proofs.lemmas.List.{append-nil}
use Rattle.std.proofs.lemmas.Result.{err_from_is_err_and}
use Rattle.offset_reader.specs.Points.{is_empty, points_fault}
use Rattle.offset_reader.specs.Stations.{stations_of}
use Rattle.offset_reader.proofs.StationFacts.{no_stations, emptiness}
use Rattle.offset_reader.proofs.stations.stations_of.Goals as goal
use Rattle.offset_reader.proofs.stations.stations_of.Goals.{then-is_first, else-is_first}

pub returns-in_err-station_of-clause-err : goal.returns-in_err-station_of-clause-err
unfolding points_fault
returns-in_err-station_of-clause-err c =
    let p = err_from_is_err_and c.from_residual.result c.from_residual.ensures.1 in
    let empty = emptiness c.first_station.result.1.now in
    let flag : c.if-is_first.station_of ≡ (c.loop-rest.is_first || is_empty (stations_of c.first_station.result.1.now)) =
    elim c.if-is_first.branch [ then-is_first w ↦ grind (arith, common_steps) | else-is_first w ↦ grind (arith, common_steps) ] in
    let faults = rw c.first_station.ensures.split at c.loop-rest.invariant.faults in
    rw (p.1, p.2) (elim c.in_err-station_of.ensures.err [
      | inl memory ↦ inl memory
      | inr fault ↦ inr (sym faults ∙ rw (← flag, fault))
    ])

pub loop-rest-preserved : goal.loop-rest-preserved
loop-rest-preserved c =
    let empty = emptiness c.first_station.result.1.now in
    let flag : c.if-is_first.station_of ≡ (c.loop-rest.is_first || is_empty (stations_of c.first_station.result.1.now)) =
    elim c.if-is_first.branch [ then-is_first w ↦ grind (arith, common_steps) | else-is_first w ↦ grind (arith, common_steps) ] in
    let faults = rw (c.first_station.ensures.split, ← flag, c.in_ok-station_of.ensures.ok.0) at c.loop-rest.invariant.faults in
    let all = rw (c.first_station.ensures.split, ← c.in_ok-station_of.ensures.ok.1) at c.loop-rest.invariant.all in
    record { faults = faults; all = rw (c.in_ok-push.ensures.items, append_assoc) all }

pub returns-clause-ok : goal.returns-clause-ok
unfolding points_fault
returns-clause-ok c =
    let none = no_stations c.loop-rest.rest.now c.in_default.len_below in
    (sym (rw none at c.loop-rest.invariant.faults), sym (append-nil _) ∙ rw none at c.loop-rest.invariant.all)
