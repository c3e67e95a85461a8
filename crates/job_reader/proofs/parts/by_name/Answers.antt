use Rattle.std.proofs.Common.{sym, ap, ◌∙◌, map, take}
use Rattle.std.proofs.lemmas.List.{map_more}
use Rattle.std.proofs.lemmas.Simd.{map-map}
use Rattle.job_reader.specs.declared.key.Key.TheVariants as key
use Rattle.job_reader.proofs.CheckFacts.{take_past}
use Rattle.hull_model.specs.Slabs.{ends_of}
use Rattle.job_reader.specs.Checks.{is_among}
use Rattle.job_reader.proofs.Apart.{name_new, inserted}
use Rattle.job_reader.proofs.parts.by_name.Goals as goal

pub loop-entry-preserved : goal.loop-entry-preserved
loop-entry-preserved c =
    let i = c.loop-entry.entry-index in
    let before = take i c.args.entries.now in
    let ok = rw (c.copied.ensures, c.entry-item.is, c.loop-entry.invariant) at c.in_ok-add.ensures.ok in
    let new = name_new (λ e. e.name) key.CompartmentName c.args.entries.now i _ c.requires c.loop-entry-test.true in
    let fresh = ap (is_among _) (map-map (λ p. p.0) (λ e. (e.name, e.value)) before) ∙ new in
    ok ∙ inserted (map (λ e. (e.name, e.value)) before) _ _ fresh ∙ sym (map_more (λ e. (e.name, e.value)) c.args.entries.now i _ c.loop-entry-test.true)

pub returns-clause-names : goal.returns-clause-names
returns-clause-names c =
    let same = c.loop-entry.invariant ∙ ap (map (λ e. (e.name, e.value))) (take_past c.args.entries.now c.loop-entry.entry-index c.loop-entry-test.false) in
    ap (map (λ p. p.0)) same ∙ map-map (λ p. p.0) (λ e. (e.name, e.value)) c.args.entries.now

pub returns-clause-ends : goal.returns-clause-ends
returns-clause-ends c =
    let same = c.loop-entry.invariant ∙ ap (map (λ e. (e.name, e.value))) (take_past c.args.entries.now c.loop-entry.entry-index c.loop-entry-test.false) in
    ap (map (λ p. ends_of p.1)) same ∙ map-map (λ p. ends_of p.1) (λ e. (e.name, e.value)) c.args.entries.now
