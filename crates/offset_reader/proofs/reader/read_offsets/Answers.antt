use Rattle.std.proofs.Common.{inl, inr}
use Rattle.std.proofs.lemmas.Result.{err_from_is_err_and}
use Rattle.offset_reader.specs.Records.{records_of}
use Rattle.offset_reader.proofs.OffsetFacts.{phase_1, phase_2, phase_3, phase_4, Passed, no_fault, same_hull, refused}
use Rattle.offset_reader.proofs.reader.read_offsets.Goals as goal

pub returns-in_err-records-clause-fault : goal.returns-in_err-records-clause-fault
returns-in_err-records-clause-fault c =
    let p = err_from_is_err_and c.from_residual.result c.from_residual.ensures.1 in
    rw (p.1, p.2) (inl c.in_err-records.ensures.err)

pub returns-in_err-rows-clause-fault : goal.returns-in_err-rows-clause-fault
returns-in_err-rows-clause-fault c =
    let p = err_from_is_err_and c.from_residual-in_err-rows.result c.from_residual-in_err-rows.ensures.1 in
    let records = c.in_ok-records.ensures.ok.0 in
    rw (p.1, p.2) (elim (rw (c.deref.ensures.value, records) at c.in_err-rows.ensures.err) [
      | inl memory ↦ inl memory
      | inr fault ↦ inr (phase_1 (records_of c.args.bytes.now) c.in_err-rows.field-0.0 fault)
    ])

pub returns-in_err-check_order-clause-fault : goal.returns-in_err-check_order-clause-fault
returns-in_err-check_order-clause-fault c =
    let p = err_from_is_err_and c.from_residual-in_err-check_order.result c.from_residual-in_err-check_order.ensures.1 in
    let records = c.in_ok-records.ensures.ok.0 in
    let rows = rw (c.deref.ensures.value, records) at c.in_ok-rows.ensures.ok in
    let fault = rw c.deref-2.ensures.value at c.in_err-check_order.ensures.err in
    rw (p.1, p.2) (inr (phase_2 (records_of c.args.bytes.now) c.in_ok-rows.rows.items c.in_err-check_order.field-0.0 rows.1 rows.0 fault))

pub returns-in_err-check_count-clause-fault : goal.returns-in_err-check_count-clause-fault
returns-in_err-check_count-clause-fault c =
    let p = err_from_is_err_and c.from_residual-in_err-check_count.result c.from_residual-in_err-check_count.ensures.1 in
    let records = c.in_ok-records.ensures.ok.0 in
    let rows = rw (c.deref.ensures.value, records) at c.in_ok-rows.ensures.ok in
    let h2 = rw c.deref-2.ensures.value at c.in_ok-check_order.ensures.ok in
    let fault = rw c.deref-3.ensures.value at c.in_err-check_count.ensures.err in
    rw (p.1, p.2) (inr (phase_3 (records_of c.args.bytes.now) c.in_ok-rows.rows.items c.in_err-check_count.field-0.0 rows.1 rows.0 h2 fault))

pub returns-in_err-stations-clause-fault : goal.returns-in_err-stations-clause-fault
returns-in_err-stations-clause-fault c =
    let p = err_from_is_err_and c.from_residual-in_err-stations.result c.from_residual-in_err-stations.ensures.1 in
    let records = c.in_ok-records.ensures.ok.0 in
    let rows = rw (c.deref.ensures.value, records) at c.in_ok-rows.ensures.ok in
    let h2 = rw c.deref-2.ensures.value at c.in_ok-check_order.ensures.ok in
    let h3 = rw c.deref-3.ensures.value at c.in_ok-check_count.ensures.ok in
    rw (p.1, p.2) (elim (rw c.deref-4.ensures.value at c.in_err-stations.ensures.err) [
      | inl memory ↦ inl memory
      | inr fault ↦ inr (phase_4 (records_of c.args.bytes.now) c.in_ok-rows.rows.items c.in_err-stations.field-0.0 rows.1 rows.0 h2 h3 fault)
    ])

pub returns-clause-ok : goal.returns-clause-ok
returns-clause-ok c =
    let records = c.in_ok-records.ensures.ok.0 in
    let rows = rw (c.deref.ensures.value, records) at c.in_ok-rows.ensures.ok in
    let h2 = rw c.deref-2.ensures.value at c.in_ok-check_order.ensures.ok in
    let h3 = rw c.deref-3.ensures.value at c.in_ok-check_count.ensures.ok in
    let h4 = rw c.deref-4.ensures.value at c.in_ok-stations.ensures.ok in
    let passed : Passed (records_of c.args.bytes.now) c.in_ok-rows.rows.items c.in_ok-stations.stations.items = record {
      is = rows.1;
      phase_1 = rows.0;
      phase_2 = h2;
      phase_3 = h3;
      phase_4 = h4.0;
      built = h4.1;
    } in
    rw c.ok_or.ensures.value (no_fault (records_of c.args.bytes.now) c.in_ok-rows.rows.items c.in_ok-stations.stations.items c.of.result passed c.of.ensures.some)

pub returns-clause-hull : goal.returns-clause-hull
returns-clause-hull c =
    let records = c.in_ok-records.ensures.ok.0 in
    let rows = rw (c.deref.ensures.value, records) at c.in_ok-rows.ensures.ok in
    let h2 = rw c.deref-2.ensures.value at c.in_ok-check_order.ensures.ok in
    let h3 = rw c.deref-3.ensures.value at c.in_ok-check_count.ensures.ok in
    let h4 = rw c.deref-4.ensures.value at c.in_ok-stations.ensures.ok in
    let passed : Passed (records_of c.args.bytes.now) c.in_ok-rows.rows.items c.in_ok-stations.stations.items = record {
      is = rows.1;
      phase_1 = rows.0;
      phase_2 = h2;
      phase_3 = h3;
      phase_4 = h4.0;
      built = h4.1;
    } in
    rw c.ok_or.ensures.value (same_hull (records_of c.args.bytes.now) c.in_ok-rows.rows.items c.in_ok-stations.stations.items c.of.result passed c.of.ensures.same)

pub returns-clause-fault : goal.returns-clause-fault
returns-clause-fault c =
    let records = c.in_ok-records.ensures.ok.0 in
    let rows = rw (c.deref.ensures.value, records) at c.in_ok-rows.ensures.ok in
    let h2 = rw c.deref-2.ensures.value at c.in_ok-check_order.ensures.ok in
    let h3 = rw c.deref-3.ensures.value at c.in_ok-check_count.ensures.ok in
    let h4 = rw c.deref-4.ensures.value at c.in_ok-stations.ensures.ok in
    let passed : Passed (records_of c.args.bytes.now) c.in_ok-rows.rows.items c.in_ok-stations.stations.items = record {
      is = rows.1;
      phase_1 = rows.0;
      phase_2 = h2;
      phase_3 = h3;
      phase_4 = h4.0;
      built = h4.1;
    } in
    rw c.ok_or.ensures.value (refused (records_of c.args.bytes.now) c.in_ok-rows.rows.items c.in_ok-stations.stations.items c.of.result passed c.of.ensures.some)
