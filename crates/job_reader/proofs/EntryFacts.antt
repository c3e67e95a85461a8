-- Entries read one after the other.
use Rattle.std.proofs.Common.{◌≡◌, ℕ, List, [], ◌∷◌, ◌++◌, map, Option, Some, None, ap, sym, ◌∙◌}
use Rattle.std.proofs.lemmas.Simd.{map-map}
use Rattle.toml.specs.Data.{Data, Members}
use Rattle.toml.specs.View.{view}
use Rattle.toml.specs.declared.value.Value.{Value}
use Rattle.job_reader.specs.declared.array.Kind.TheVariants as kind
use Rattle.job_reader.specs.declared.rule.Tables.{Tables}
use Rattle.job_reader.proofs.Elements.{elements_map}
use Rattle.job_reader.specs.declared.fault.JobFault.{JobFault}
use Rattle.job_reader.specs.Faults.{first_in}
use Rattle.job_reader.specs.Values.{at, elements_of, elements_by, array_fault}
use Rattle.job_reader.specs.Entries.{SayAll, table_in, tables_at, tables_fault}

-- one more table, and one more value that says what it does
pub say_more : {E : Type 0} (Says : Members → E → Type 0) (ts : List Members) (es : List E) (t : Members) (e : E) → SayAll Says ts es → Says t e → SayAll Says (ts ++ t ∷ []) (es ++ e ∷ [])
unfolding SayAll
say_more Says [] [] t e all says = (says, tt)
say_more Says [] (d ∷ es) t e all says = absurd all
say_more Says (s ∷ ts) [] t e all says = absurd all
say_more Says (s ∷ ts) (d ∷ es) t e all says = (all.0, say_more Says ts es t e all.1 says)

-- ---- the array of tables under a key
abbrev pub seen : Value → Members
seen v = table_in (view v)

pub no_tables : (rule : Tables) (doc : Members) → at rule.key doc ≡ None → tables_at rule doc ≡ []
no_tables rule doc missing = ap (λ found. map table_in (elements_by found)) missing

pub tables_are : (rule : Tables) (doc : Members) (d : Data) (vs : List Value) → at rule.key doc ≡ Some d → map view vs ≡ elements_of d
    → map seen vs ≡ tables_at rule doc
tables_are rule doc d vs found same = elements_map table_in rule.key doc d vs found same

pub tables_fault_is : (F : ℕ → Members → Option JobFault) (rule : Tables) (doc : Members) (d : Data) (vs : List Value) → at rule.key doc ≡ Some d
    → array_fault kind.Table rule.key rule.count 0 d ≡ None → map view vs ≡ elements_of d
    → tables_fault F rule doc ≡ first_in (λ n before t. F n t) (map seen vs)
tables_fault_is F rule doc d vs found sound same = rw (found, sound) (ap (λ ts. first_in (λ n before t. F n t) (map table_in ts)) (sym same) ∙ ap (first_in (λ n before t. F n t)) (map-map table_in view vs))
