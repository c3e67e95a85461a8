-- From what tables say to what a job has.
use Rattle.std.proofs.Common.{◌≡◌, ◌≤◌, length, le-leb, ℕ, ℤ, List, [], ◌∷◌, map, Option, Some, None, true, refl, ap, ap₂, sym, ◌∙◌}
use Rattle.std.specs.List.{AllByRecursion}
use Rattle.hull_model.specs.declared.slab.Slab.{Slab}
use Rattle.toml.specs.Data.{Data, Members, as_table}
use Rattle.job_reader.specs.declared.entry.Named.{Named}
use Rattle.job_reader.specs.declared.job.FloodPlan.{FloodPlan}
use Rattle.job_reader.specs.declared.key.Key.{Key}
use Rattle.job_reader.specs.declared.key.Key.TheVariants as key
use Rattle.job_reader.specs.declared.reader.Parts.{Parts}
use Rattle.job_reader.specs.Checks.{twice_fault, cases_fault, overlap_fault}
use Rattle.job_reader.specs.Entries.{SaysNamed, SaysCompartmentEntry, SaysDamageEntry, SaysPlan, SayAll, table_in, tables_at}
use Rattle.job_reader.specs.Faults.{◌or_later◌}
use Rattle.job_reader.specs.Job.{PlanIs, compartment_at, compartment_ends, keys_fault, entries_fault, first_fault, flooded_at}
use Rattle.job_reader.specs.Rules as rule
use Rattle.std.proofs.lemmas.List.{length-map}
use Rattle.std.proofs.lemmas.Simd.{map-map}
use Rattle.job_reader.specs.declared.fault.JobFault.{JobFault}
use Rattle.hull_model.specs.Slabs.{ends_of}
use Rattle.job_reader.specs.Limits.{has_room}
use Rattle.job_reader.specs.Parts.{SaysParts, parts_fault}
use Rattle.job_reader.specs.Values.{name_of, names_of}
use Rattle.job_reader.proofs.Firsts.{none_either}

pub plan_said : (found : Option Data) (d : Data) (t : Members) (plan : FloodPlan) → found ≡ Some d → as_table d ≡ Some t → SaysPlan t plan → PlanIs found (Some plan)
unfolding table_in
plan_said found d t plan there is_table says = rw (there, is_table) says

-- the names of entries, and what they say without their names
pub names_said : {T : Type 0} (k : Key) (Says : Members → T → Type 0) (ts : List Members) (es : List (Named T)) → SayAll (SaysNamed k Says) ts es
    → map (λ e. e.name) es ≡ map (name_of k) ts
unfolding SayAll
names_said k Says [] [] all = refl
names_said k Says [] (e ∷ es) all = absurd all
names_said k Says (t ∷ ts) [] all = absurd all
names_said k Says (t ∷ ts) (e ∷ es) all = ap₂ (λ n ns. n ∷ ns) all.0.name (names_said k Says ts es all.1)

pub values_said : {T : Type 0} (k : Key) (Says : Members → T → Type 0) (ts : List Members) (es : List (Named T)) → SayAll (SaysNamed k Says) ts es
    → SayAll Says ts (map (λ e. e.value) es)
unfolding SayAll
values_said k Says [] [] all = tt
values_said k Says [] (e ∷ es) all = absurd all
values_said k Says (t ∷ ts) [] all = absurd all
values_said k Says (t ∷ ts) (e ∷ es) all = (all.0.value, values_said k Says ts es all.1)

pub ends_said : (ts : List Members) (es : List (Named Slab)) → SayAll SaysCompartmentEntry ts es → map (λ e. ends_of e.value) es ≡ map compartment_ends ts
unfolding SayAll
ends_said [] [] all = refl
ends_said [] (e ∷ es) all = absurd all
ends_said (t ∷ ts) [] all = absurd all
ends_said (t ∷ ts) (e ∷ es) all =
    let here : ends_of e.value ≡ compartment_ends t = ap₂ (λ (a : ℤ) (f : ℤ). (a, f)) all.0.value.aft all.0.value.fore in
    ap₂ (λ x xs. x ∷ xs) here (ends_said ts es all.1)

pub cases_said : (ts : List Members) (es : List (Named (List (List ℕ)))) → SayAll SaysDamageEntry ts es → map (λ e. e.value) es ≡ map (names_of key.DamageFlooded) ts
unfolding SayAll
cases_said [] [] all = refl
cases_said [] (e ∷ es) all = absurd all
cases_said (t ∷ ts) [] all = absurd all
cases_said (t ∷ ts) (e ∷ es) all = ap₂ (λ x xs. x ∷ xs) all.0.value.names (cases_said ts es all.1)

pub few_flooded : (ts : List Members) (es : List (Named (List (List ℕ)))) → SayAll SaysDamageEntry ts es → AllByRecursion (λ e. length e.value ≤ rule.most_flooded) es
unfolding SayAll
few_flooded [] [] all = tt
few_flooded [] (e ∷ es) all = absurd all
few_flooded (t ∷ ts) [] all = absurd all
few_flooded (t ∷ ts) (e ∷ es) all = (all.0.value.few, few_flooded ts es all.1)

pub compartments_said : (ts : List Members) (es : List (Named Slab)) → SayAll SaysCompartmentEntry ts es → SayAll compartment_at ts (map (λ e. (e.name, e.value)) es)
unfolding SayAll
compartments_said [] [] all = tt
compartments_said [] (e ∷ es) all = absurd all
compartments_said (t ∷ ts) [] all = absurd all
compartments_said (t ∷ ts) (e ∷ es) all = ((all.0.name, all.0.value), compartments_said ts es all.1)

-- the entries held against each other are those of the document
pub entries_are : (doc : Members) (parts : Parts) → SaysParts doc parts → parts_fault parts ≡ entries_fault doc
unfolding parts_fault entries_fault
entries_are doc parts says =
    let items = names_said key.ItemName _ _ parts.items.items says.items in
    let openings = names_said key.OpeningName _ _ parts.openings.items says.openings in
    let compartments = names_said key.CompartmentName _ _ parts.compartments.items says.compartments in
    let damages = names_said key.DamageName _ _ parts.damages.items says.damages in
    let cases = cases_said _ parts.damages.items says.damages in
    let ends = ends_said _ parts.compartments.items says.compartments in
    λ i. twice_fault key.ItemName (items i) or_later twice_fault key.OpeningName (openings i) or_later twice_fault key.CompartmentName (compartments i)
    or_later twice_fault key.DamageName (damages i) or_later cases_fault (compartments i) (cases i) or_later overlap_fault (ends i)

-- where there is no fault, the damage cases flood what is there, and no compartments overlap
pub record InOrder (parts : Parts) : Type 0 where
  pub flooded : cases_fault (map (λ e. e.name) parts.compartments.items) (map (λ e. e.value) parts.damages.items) ≡ None
  pub apart : overlap_fault (map (λ e. ends_of e.value) parts.compartments.items) ≡ None

pub in_order : (parts : Parts) → parts_fault parts ≡ None → InOrder parts
unfolding parts_fault
in_order parts h =
    let a = none_either (twice_fault key.ItemName (map (λ e. e.name) parts.items.items)) _ h in
    let b = none_either (twice_fault key.OpeningName (map (λ e. e.name) parts.openings.items)) _ a.1 in
    let c = none_either (twice_fault key.CompartmentName (map (λ e. e.name) parts.compartments.items)) _ b.1 in
    let d = none_either (twice_fault key.DamageName (map (λ e. e.name) parts.damages.items)) _ c.1 in
    let e = none_either (cases_fault (map (λ e. e.name) parts.compartments.items) (map (λ e. e.value) parts.damages.items)) _ d.1 in
    record { flooded = e.0; apart = e.1 }

-- where the keys have no fault, the first fault is that of the entries
pub entries_first : (doc : Members) (o : Option JobFault) → keys_fault doc ≡ None → entries_fault doc ≡ o → first_fault doc ≡ o
unfolding first_fault
entries_first doc o keys entries = rw keys entries

pub same_length : {A B C : Type 0} (f : A → C) (g : B → C) (xs : List A) (ys : List B) → map f xs ≡ map g ys → length xs ≡ length ys
same_length f g xs ys h = sym (length-map xs f) ∙ ap length h ∙ length-map ys g

pub room_kept : {A B C D E F G : Type 0} (item : A → B) (opening : C → D) (compartment : E → F) (xs : List A) (ys : List C) (zs : List E) (ds : List G)
    → length xs ≤ 256 → length ys ≤ 64 → length zs ≤ 64 → length ds ≤ 32 → has_room (map item xs) (map opening ys) (map compartment zs) ds ≡ true
room_kept item opening compartment xs ys zs ds h k l m =
    rw (length-map xs item, length-map ys opening, length-map zs compartment, le-leb _ _ h, le-leb _ _ k, le-leb _ _ l) (le-leb _ _ m)

-- the damage cases of the document, by slabs
pub damages_said : {D : Type 0} (slabs : D → List (Option Slab)) (find : List ℕ → Option Slab) (doc : Members) (es : List (Named (List (List ℕ)))) (ds : List D)
    → SayAll SaysDamageEntry (tables_at rule.damages doc) es → map (λ e. map find e.value) es ≡ map slabs ds
    → (map (map find) (flooded_at doc) ≡ map slabs ds) × (length ds ≡ length es)
damages_said slabs find doc es ds says same =
    (ap (map (map find)) (sym (cases_said (tables_at rule.damages doc) es says)) ∙ map-map (map find) (λ e. e.value) es ∙ same, sym (same_length (λ e. map find e.value) slabs es ds same))
