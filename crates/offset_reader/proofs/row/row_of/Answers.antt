use Rattle.std.proofs.Common.{FitsSigned, w32, refl, rules}
use Rattle.std.proofs.lemmas.Int.{to_z-of_z}
use Rattle.std.proofs.lemmas.Result.{err_from_is_err_and}
use Rattle.csv.specs.Records.{fields_of}
use Rattle.offset_reader.proofs.RowFacts.{other_columns, first_no_number, second_no_number, third_no_number, sizes_fault, sizes_row}
use Rattle.offset_reader.proofs.row.row_of.Goals as goal

pub returns-in_default-clause-err : goal.returns-in_default-clause-err
returns-in_default-clause-err c = other_columns c.args.row c.args.before (fields_of c.args.fields.now) c.in_default.ensures

pub returns-in_err-x-clause-err : goal.returns-in_err-x-clause-err
returns-in_err-x-clause-err c =
    let p = err_from_is_err_and c.from_residual.result c.from_residual.ensures.1 in
    rw (p.1, p.2) (first_no_number c.args.row c.args.before (fields_of c.args.fields.now) c.in-Some.x.now c.in-Some.y.now c.in-Some.z.now c.in_err-x.field-0.0 c.in-Some.ensures c.in_err-x.ensures.err)

pub returns-in_err-y-clause-err : goal.returns-in_err-y-clause-err
returns-in_err-y-clause-err c =
    let p = err_from_is_err_and c.from_residual-in_err-y.result c.from_residual-in_err-y.ensures.1 in
    rw (p.1, p.2) (second_no_number c.args.row c.args.before (fields_of c.args.fields.now) c.in-Some.x.now c.in-Some.y.now c.in-Some.z.now c.in_ok-x.x c.in_err-y.field-0.0 c.in-Some.ensures c.in_ok-x.ensures.ok c.in_err-y.ensures.err)

pub returns-in_err-z-clause-err : goal.returns-in_err-z-clause-err
returns-in_err-z-clause-err c =
    let p = err_from_is_err_and c.from_residual-in_err-z.result c.from_residual-in_err-z.ensures.1 in
    rw (p.1, p.2) (third_no_number c.args.row c.args.before (fields_of c.args.fields.now) c.in-Some.x.now c.in-Some.y.now c.in-Some.z.now c.in_ok-x.x c.in_ok-y.y c.in_err-z.field-0.0 c.in-Some.ensures c.in_ok-x.ensures.ok c.in_ok-y.ensures.ok c.in_err-z.ensures.err)

pub returns-in_err-not_negative-clause-err : goal.returns-in_err-not_negative-clause-err
returns-in_err-not_negative-clause-err c =
    let p = err_from_is_err_and c.from_residual-in_err-not_negative.result c.from_residual-in_err-not_negative.ensures.1 in
    let fits-x : FitsSigned w32 c.in_ok-x.x = search rules in
    let fits-y : FitsSigned w32 c.in_ok-y.y = search rules in
    let fits-z : FitsSigned w32 c.in_ok-z.z = search rules in
    let err = simp to_z-of_z at c.in_err-not_negative.ensures.err in
    rw (p.1, p.2, sizes_fault c.args.row c.args.before (fields_of c.args.fields.now) c.in-Some.x.now c.in-Some.y.now c.in-Some.z.now c.in_ok-x.x c.in_ok-y.y c.in_ok-z.z c.in-Some.ensures c.in_ok-x.ensures.ok c.in_ok-y.ensures.ok c.in_ok-z.ensures.ok, err) refl

pub returns-in_err-not_negative-2-clause-err : goal.returns-in_err-not_negative-2-clause-err
returns-in_err-not_negative-2-clause-err c =
    let p = err_from_is_err_and c.from_residual-in_err-not_negative-2.result c.from_residual-in_err-not_negative-2.ensures.1 in
    let fits-x : FitsSigned w32 c.in_ok-x.x = search rules in
    let fits-y : FitsSigned w32 c.in_ok-y.y = search rules in
    let fits-z : FitsSigned w32 c.in_ok-z.z = search rules in
    let ok1 = simp to_z-of_z at c.in_ok-not_negative.ensures.ok in
    let err = simp to_z-of_z at c.in_err-not_negative-2.ensures.err in
    rw (p.1, p.2, sizes_fault c.args.row c.args.before (fields_of c.args.fields.now) c.in-Some.x.now c.in-Some.y.now c.in-Some.z.now c.in_ok-x.x c.in_ok-y.y c.in_ok-z.z c.in-Some.ensures c.in_ok-x.ensures.ok c.in_ok-y.ensures.ok c.in_ok-z.ensures.ok, ok1, err) refl

pub returns-in_err-not_negative-3-clause-err : goal.returns-in_err-not_negative-3-clause-err
returns-in_err-not_negative-3-clause-err c =
    let p = err_from_is_err_and c.from_residual-in_err-not_negative-3.result c.from_residual-in_err-not_negative-3.ensures.1 in
    let fits-x : FitsSigned w32 c.in_ok-x.x = search rules in
    let fits-y : FitsSigned w32 c.in_ok-y.y = search rules in
    let fits-z : FitsSigned w32 c.in_ok-z.z = search rules in
    let ok1 = simp to_z-of_z at c.in_ok-not_negative.ensures.ok in
    let ok2 = simp to_z-of_z at c.in_ok-not_negative-2.ensures.ok in
    let err = simp to_z-of_z at c.in_err-not_negative-3.ensures.err in
    rw (p.1, p.2, sizes_fault c.args.row c.args.before (fields_of c.args.fields.now) c.in-Some.x.now c.in-Some.y.now c.in-Some.z.now c.in_ok-x.x c.in_ok-y.y c.in_ok-z.z c.in-Some.ensures c.in_ok-x.ensures.ok c.in_ok-y.ensures.ok c.in_ok-z.ensures.ok, ok1, ok2, err) refl

pub returns-in_err-within-clause-err : goal.returns-in_err-within-clause-err
returns-in_err-within-clause-err c =
    let p = err_from_is_err_and c.from_residual-in_err-within.result c.from_residual-in_err-within.ensures.1 in
    let fits-x : FitsSigned w32 c.in_ok-x.x = search rules in
    let fits-y : FitsSigned w32 c.in_ok-y.y = search rules in
    let fits-z : FitsSigned w32 c.in_ok-z.z = search rules in
    let ok1 = simp to_z-of_z at c.in_ok-not_negative.ensures.ok in
    let ok2 = simp to_z-of_z at c.in_ok-not_negative-2.ensures.ok in
    let ok3 = simp to_z-of_z at c.in_ok-not_negative-3.ensures.ok in
    let err = simp to_z-of_z at c.in_err-within.ensures.err in
    rw (p.1, p.2, sizes_fault c.args.row c.args.before (fields_of c.args.fields.now) c.in-Some.x.now c.in-Some.y.now c.in-Some.z.now c.in_ok-x.x c.in_ok-y.y c.in_ok-z.z c.in-Some.ensures c.in_ok-x.ensures.ok c.in_ok-y.ensures.ok c.in_ok-z.ensures.ok, ok1, ok2, ok3, err) refl

pub returns-in_err-within-2-clause-err : goal.returns-in_err-within-2-clause-err
returns-in_err-within-2-clause-err c =
    let p = err_from_is_err_and c.from_residual-in_err-within-2.result c.from_residual-in_err-within-2.ensures.1 in
    let fits-x : FitsSigned w32 c.in_ok-x.x = search rules in
    let fits-y : FitsSigned w32 c.in_ok-y.y = search rules in
    let fits-z : FitsSigned w32 c.in_ok-z.z = search rules in
    let ok1 = simp to_z-of_z at c.in_ok-not_negative.ensures.ok in
    let ok2 = simp to_z-of_z at c.in_ok-not_negative-2.ensures.ok in
    let ok3 = simp to_z-of_z at c.in_ok-not_negative-3.ensures.ok in
    let ok4 = simp to_z-of_z at c.in_ok-within.ensures.ok in
    let err = simp to_z-of_z at c.in_err-within-2.ensures.err in
    rw (p.1, p.2, sizes_fault c.args.row c.args.before (fields_of c.args.fields.now) c.in-Some.x.now c.in-Some.y.now c.in-Some.z.now c.in_ok-x.x c.in_ok-y.y c.in_ok-z.z c.in-Some.ensures c.in_ok-x.ensures.ok c.in_ok-y.ensures.ok c.in_ok-z.ensures.ok, ok1, ok2, ok3, ok4, err) refl

pub returns-in_err-within-3-clause-err : goal.returns-in_err-within-3-clause-err
returns-in_err-within-3-clause-err c =
    let p = err_from_is_err_and c.from_residual-in_err-within-3.result c.from_residual-in_err-within-3.ensures.1 in
    let fits-x : FitsSigned w32 c.in_ok-x.x = search rules in
    let fits-y : FitsSigned w32 c.in_ok-y.y = search rules in
    let fits-z : FitsSigned w32 c.in_ok-z.z = search rules in
    let ok1 = simp to_z-of_z at c.in_ok-not_negative.ensures.ok in
    let ok2 = simp to_z-of_z at c.in_ok-not_negative-2.ensures.ok in
    let ok3 = simp to_z-of_z at c.in_ok-not_negative-3.ensures.ok in
    let ok4 = simp to_z-of_z at c.in_ok-within.ensures.ok in
    let ok5 = simp to_z-of_z at c.in_ok-within-2.ensures.ok in
    let err = simp to_z-of_z at c.in_err-within-3.ensures.err in
    rw (p.1, p.2, sizes_fault c.args.row c.args.before (fields_of c.args.fields.now) c.in-Some.x.now c.in-Some.y.now c.in-Some.z.now c.in_ok-x.x c.in_ok-y.y c.in_ok-z.z c.in-Some.ensures c.in_ok-x.ensures.ok c.in_ok-y.ensures.ok c.in_ok-z.ensures.ok, ok1, ok2, ok3, ok4, ok5, err) refl

pub returns-in_err-not_backwards-clause-err : goal.returns-in_err-not_backwards-clause-err
returns-in_err-not_backwards-clause-err c =
    let p = err_from_is_err_and c.from_residual-in_err-not_backwards.result c.from_residual-in_err-not_backwards.ensures.1 in
    let fits-x : FitsSigned w32 c.in_ok-x.x = search rules in
    let fits-y : FitsSigned w32 c.in_ok-y.y = search rules in
    let fits-z : FitsSigned w32 c.in_ok-z.z = search rules in
    let ok1 = simp to_z-of_z at c.in_ok-not_negative.ensures.ok in
    let ok2 = simp to_z-of_z at c.in_ok-not_negative-2.ensures.ok in
    let ok3 = simp to_z-of_z at c.in_ok-not_negative-3.ensures.ok in
    let ok4 = simp to_z-of_z at c.in_ok-within.ensures.ok in
    let ok5 = simp to_z-of_z at c.in_ok-within-2.ensures.ok in
    let ok6 = simp to_z-of_z at c.in_ok-within-3.ensures.ok in
    let err = simp to_z-of_z at c.in_err-not_backwards.ensures.err in
    rw (p.1, p.2, sizes_fault c.args.row c.args.before (fields_of c.args.fields.now) c.in-Some.x.now c.in-Some.y.now c.in-Some.z.now c.in_ok-x.x c.in_ok-y.y c.in_ok-z.z c.in-Some.ensures c.in_ok-x.ensures.ok c.in_ok-y.ensures.ok c.in_ok-z.ensures.ok, ok1, ok2, ok3, ok4, ok5, ok6, err) refl

pub returns-clause-ok : goal.returns-clause-ok
returns-clause-ok c =
    let fits-x : FitsSigned w32 c.in_ok-x.x = search rules in
    let fits-y : FitsSigned w32 c.in_ok-y.y = search rules in
    let fits-z : FitsSigned w32 c.in_ok-z.z = search rules in
    let ok1 = simp to_z-of_z at c.in_ok-not_negative.ensures.ok in
    let ok2 = simp to_z-of_z at c.in_ok-not_negative-2.ensures.ok in
    let ok3 = simp to_z-of_z at c.in_ok-not_negative-3.ensures.ok in
    let ok4 = simp to_z-of_z at c.in_ok-within.ensures.ok in
    let ok5 = simp to_z-of_z at c.in_ok-within-2.ensures.ok in
    let ok6 = simp to_z-of_z at c.in_ok-within-3.ensures.ok in
    let ok7 = simp to_z-of_z at c.in_ok-not_backwards.ensures.ok in
    let ux = simp to_z-of_z at c.unsigned_abs.ensures.value in
    let uy = simp to_z-of_z at c.unsigned_abs-2.ensures.value in
    let uz = simp to_z-of_z at c.unsigned_abs-3.ensures.value in
    (rw (sizes_fault c.args.row c.args.before (fields_of c.args.fields.now) c.in-Some.x.now c.in-Some.y.now c.in-Some.z.now c.in_ok-x.x c.in_ok-y.y c.in_ok-z.z c.in-Some.ensures c.in_ok-x.ensures.ok c.in_ok-y.ensures.ok c.in_ok-z.ensures.ok, ok1, ok2, ok3, ok4, ok5, ok6, ok7) refl, rw (ux, uy, uz, sizes_row c.args.row (fields_of c.args.fields.now) c.in-Some.x.now c.in-Some.y.now c.in-Some.z.now c.in_ok-x.x c.in_ok-y.y c.in_ok-z.z c.in-Some.ensures c.in_ok-x.ensures.ok c.in_ok-y.ensures.ok c.in_ok-z.ensures.ok) refl)
