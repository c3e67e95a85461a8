use Rattle.std.proofs.Common.{◌≡◌, ◌≤◌, true, false, ◌+◌, length, get_or, map, [], Some, arith}
use Rattle.job_reader.specs.Checks.{flooded_fault}
use Rattle.job_reader.proofs.Apart.{flooded_known, flooded_differ, ends_apart, slabs_apart}
use Rattle.job_reader.proofs.Firsts.{every_at, none_at}
use Rattle.job_reader.proofs.PartsFacts.{same_length}
use Rattle.job_reader.specs.Checks.{slab_named}
use Rattle.job_reader.proofs.parts.damages_of.Goals as goal

pub slabs_of-requires : goal.slabs_of-requires
slabs_of-requires c =
    let i = c.loop-case.case-index in
    let known = map (λ x. x.0) c.args.compartments.now in
    let none = none_at (λ x. x.value) (λ entry before names. flooded_fault known entry names) c.args.cases.now i _ c.requires.flooded c.loop-case-test.true in
    rw (c.as_slice.ensures, c.case-item.is) (flooded_known c.args.compartments.now (i + 1) 1 [] _ none)

pub unreachable-requires : goal.unreachable-requires
unreachable-requires c =
    let i = c.loop-case.case-index in
    let known = map (λ x. x.0) c.args.compartments.now in
    let none = none_at (λ x. x.value) (λ entry before names. flooded_fault known entry names) c.args.cases.now i _ c.requires.flooded c.loop-case-test.true in
    let same = rw (c.as_slice.ensures, c.case-item.is) at c.in_ok-slabs.ensures in
    let apart = slabs_apart c.args.compartments.now _ c.in_ok-slabs.slabs.items (ends_apart _ c.requires.apart) (flooded_differ known (i + 1) _ none) same in
    let few = every_at (λ x. length x.value ≤ 64) c.args.cases.now i c.case-item.result c.loop-case-test.true c.requires.few in
    let count = same_length (slab_named c.args.compartments.now) Some (get_or c.args.cases.now i c.case-item.result).value c.in_ok-slabs.slabs.items same in
    let no : false ≡ true = c.in-None.ensures.some.1 (omega (arith, few, count), apart) in
    (cc)
