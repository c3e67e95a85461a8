use Rattle.std.proofs.Common.{◌≤◌, length, map, Some, sym, ◌∙◌, inl, inr, arith}
use Rattle.std.proofs.lemmas.Result.{err_from_is_err_and}
use Rattle.toml.specs.View.{table_view}
use Rattle.job_reader.specs.Checks.{slab_named}
use Rattle.job_reader.specs.Entries.{SaysItem, SaysOpening}
use Rattle.job_reader.specs.Job.{version_of}
use Rattle.job_reader.specs.declared.key.Key.TheVariants as key
use Rattle.job_reader.proofs.PartsFacts.{entries_are, entries_first, few_flooded, in_order, values_said, compartments_said, damages_said, room_kept}
use Rattle.job_reader.proofs.reader.job_of.Goals as goal

pub returns-in_err-compartments-clause-err : goal.returns-in_err-compartments-clause-err
returns-in_err-compartments-clause-err c =
    let parts = c.in_ok-parts.ensures in
    let p = err_from_is_err_and c.from_residual-in_err-compartments.result c.from_residual-in_err-compartments.ensures.1 in
    rw (p.1, p.2) (elim c.in_err-compartments.ensures.err [
      | inl memory ↦ inl memory
      | inr some ↦ inr (entries_first _ _ parts.ok (sym (entries_are _ c.in_ok-parts.parts parts.says) ∙ some))
    ])

pub damages_of-requires-clause-flooded : goal.damages_of-requires-clause-flooded
damages_of-requires-clause-flooded c = rw (c.in_ok-compartments.ensures.names, c.deref.ensures.value) (in_order c.in_ok-parts.parts c.in_ok-compartments.ensures.ok).flooded

pub damages_of-requires-clause-few : goal.damages_of-requires-clause-few
damages_of-requires-clause-few c = rw c.deref.ensures.value (few_flooded _ c.in_ok-parts.parts.damages.items c.in_ok-parts.ensures.says.damages)

pub damages_of-requires-clause-apart : goal.damages_of-requires-clause-apart
damages_of-requires-clause-apart c = rw c.in_ok-compartments.ensures.ends (in_order c.in_ok-parts.parts c.in_ok-compartments.ensures.ok).apart

pub invariant_of-result : goal.invariant_of-result
invariant_of-result c =
    let says = c.in_ok-parts.ensures.says in
    let parts = c.in_ok-parts.parts in
    let cases = rw c.deref.ensures.value at c.in_ok-damages.ensures in
    let damages = damages_said (λ d. map Some d.slabs) (slab_named c.in_ok-compartments.compartments) (table_view c.args.document.now) parts.damages.items c.in_ok-damages.damages.items says.damages cases in
    let few : length c.in_ok-damages.damages.items ≤ 32 = omega (arith, damages.1, says.damage_count) in
    record {
      versions = says.versions;
      limits = rw (c.new.ensures, c.new-2.ensures) says.limits;
      room = rw (c.new-3.ensures, c.in_ok-items.ensures, c.deref-2.ensures.value, c.new-4.ensures, c.in_ok-openings.ensures, c.deref-3.ensures.value, c.in_ok-compartments.ensures.same, c.new-5.ensures)
          (room_kept (λ e. e.value) (λ e. e.value) (λ e. (e.name, e.value)) parts.items.items parts.openings.items parts.compartments.items c.in_ok-damages.damages.items says.item_count says.opening_count says.compartment_count few);
    }

pub returns-clause-ok : goal.returns-clause-ok
returns-clause-ok c = entries_first _ _ c.in_ok-parts.ensures.ok (sym (entries_are _ c.in_ok-parts.parts c.in_ok-parts.ensures.says) ∙ c.in_ok-compartments.ensures.ok)

pub returns-clause-job : goal.returns-clause-job
returns-clause-job c =
    let says = c.in_ok-parts.ensures.says in
    let parts = c.in_ok-parts.parts in
    let cases = rw c.deref.ensures.value at c.in_ok-damages.ensures in
    let damages = damages_said (λ d. map Some d.slabs) (slab_named c.in_ok-compartments.compartments) (table_view c.args.document.now) parts.damages.items c.in_ok-damages.damages.items says.damages cases in
    record {
      version = says.version;
      density = says.density;
      length_bp = says.length_bp;
      margin = says.margin;
      drafts = c.new.ensures ∙ says.drafts;
      masses = c.new-2.ensures ∙ says.masses;
      items = rw (c.new-3.ensures, c.in_ok-items.ensures, c.deref-2.ensures.value) (values_said key.ItemName (SaysItem (version_of (table_view c.args.document.now))) _ parts.items.items says.items);
      openings = rw (c.new-4.ensures, c.in_ok-openings.ensures, c.deref-3.ensures.value) (values_said key.OpeningName SaysOpening _ parts.openings.items says.openings);
      compartments = rw c.in_ok-compartments.ensures.same (compartments_said _ parts.compartments.items says.compartments);
      damages = rw c.new-5.ensures damages.0;
      floodable = says.floodable;
    }
