-- The elements of an array, as values and as data.
use Rattle.std.proofs.Common.{◌≡◌, ℕ, Bool, true, false, List, [], ◌∷◌, length, map, Some, None, refl, ap, sym, ◌∙◌}
use Rattle.std.specs.List.{list_all}
use Rattle.toml.specs.Data.{Data, string, integer, float, boolean, datetime, array, table, as_array}
use Rattle.toml.specs.View.{view, items_view}
use Rattle.toml.specs.declared.value.Value.{Value}
use Rattle.std.specs.Prelude.{nat_le}
use Rattle.std.proofs.lemmas.List.Folds.{list_all-map}
use Rattle.std.proofs.lemmas.List.{length-map}
use Rattle.job_reader.specs.declared.array.Kind.{Kind}
use Rattle.job_reader.specs.declared.key.Key.{Key}
use Rattle.job_reader.specs.declared.fault.JobFault.TheVariants as fault
use Rattle.std.proofs.lemmas.Simd.{map-map}
use Rattle.toml.specs.Data.{Members}
use Rattle.job_reader.specs.declared.array.Kind.TheVariants as kind
use Rattle.job_reader.specs.declared.rule.Wholes.{Wholes}
use Rattle.job_reader.specs.Values.{list_of, elements_of, is_of, array_fault, at, is_number_within, number_in, wholes_fault, wholes_of, elements_by, elements_at, text_in, names_fault, names_of}
use Rattle.job_reader.specs.Names.{is_name}
use Rattle.job_reader.specs.Faults.{◌or_later◌, unless}

pub list_view : (vs : List Value) → list_of (items_view vs) ≡ map view vs
list_view [] = refl
list_view (v ∷ vs) = ap (λ ds. view v ∷ ds) (list_view vs)

-- an array's elements are its items
pub elements_are : (d : Data) (vs : List Value) → as_array d ≡ Some (items_view vs) → elements_of d ≡ map view vs
elements_are (array items) vs h = let same : items ≡ items_view vs = cc in ap list_of same ∙ list_view vs
elements_are (string s) vs h = absurd cc
elements_are (integer z) vs h = absurd cc
elements_are (float x) vs h = absurd cc
elements_are (boolean b) vs h = absurd cc
elements_are (datetime dt) vs h = absurd cc
elements_are (table ms) vs h = absurd cc

-- the first fault of an array of values
pub array_fault_is : (k : Kind) (key : Key) (count entry : ℕ) (d : Data) (vs : List Value) → as_array d ≡ Some (items_view vs)
    → array_fault k key count entry d ≡ (unless (list_all (λ v. is_of k (view v)) vs) (fault.Kind key entry) or_later unless (nat_le (length vs) count) (fault.Many key entry))
array_fault_is k key count entry d vs h =
    let same = elements_are d vs h in
    let all = list_all-map (is_of k) view vs in
    let long : length (map view vs) ≡ length vs = length-map vs view in
    rw (h, same, all, long) refl

elements_at_is : (k : Key) (doc : Members) (d : Data) → at k doc ≡ Some d → elements_at k doc ≡ elements_of d
elements_at_is k doc d found = ap elements_by found

elements_all : (p : Data → Bool) (d : Data) (vs : List Value) (b : Bool) → map view vs ≡ elements_of d → list_all (λ v. p (view v)) vs ≡ b → list_all p (elements_of d) ≡ b
elements_all p d vs b same h = rw (← same) (list_all-map p view vs ∙ h)

-- f of each element under a key
pub elements_map : {A : Type 0} (f : Data → A) (k : Key) (doc : Members) (d : Data) (vs : List Value) → at k doc ≡ Some d → map view vs ≡ elements_of d
    → map (λ v. f (view v)) vs ≡ map f (elements_at k doc)
elements_map f k doc d vs found same = sym (map-map f view vs) ∙ ap (map f) (same ∙ sym (elements_at_is k doc d found))

-- ---- an array of whole numbers under a key
pub wholes_range : (rule : Wholes) (entry : ℕ) (doc : Members) (d : Data) (vs : List Value) → at rule.key doc ≡ Some d
    → array_fault kind.Whole rule.key rule.count entry d ≡ None → map view vs ≡ elements_of d
    → list_all (λ v. is_number_within rule.least rule.most (view v)) vs ≡ false
    → wholes_fault rule entry doc ≡ Some (fault.Range rule.key entry)
wholes_range rule entry doc d vs found sound same out = rw (found, sound, elements_all (is_number_within rule.least rule.most) d vs false same out) refl

pub wholes_none : (rule : Wholes) (entry : ℕ) (doc : Members) (d : Data) (vs : List Value) → at rule.key doc ≡ Some d
    → array_fault kind.Whole rule.key rule.count entry d ≡ None → map view vs ≡ elements_of d
    → list_all (λ v. is_number_within rule.least rule.most (view v)) vs ≡ true
    → wholes_fault rule entry doc ≡ None
wholes_none rule entry doc d vs found sound same all = rw (found, sound, elements_all (is_number_within rule.least rule.most) d vs true same all) refl

pub wholes_are : (rule : Wholes) (doc : Members) (d : Data) (vs : List Value) → at rule.key doc ≡ Some d → map view vs ≡ elements_of d
    → map (λ v. number_in (view v)) vs ≡ wholes_of rule doc
wholes_are rule doc d vs found same = elements_map number_in rule.key doc d vs found same

-- ---- an array of names under a key
pub names_other : (k : Key) (count entry : ℕ) (doc : Members) (d : Data) (vs : List Value) → at k doc ≡ Some d
    → array_fault kind.Text k count entry d ≡ None → map view vs ≡ elements_of d
    → list_all (λ v. is_name (text_in (view v))) vs ≡ false
    → names_fault k count entry doc ≡ Some (fault.Name k entry)
names_other k count entry doc d vs found sound same out = rw (found, sound, elements_all (λ element. is_name (text_in element)) d vs false same out) refl

pub names_none : (k : Key) (count entry : ℕ) (doc : Members) (d : Data) (vs : List Value) → at k doc ≡ Some d
    → array_fault kind.Text k count entry d ≡ None → map view vs ≡ elements_of d
    → list_all (λ v. is_name (text_in (view v))) vs ≡ true
    → names_fault k count entry doc ≡ None
names_none k count entry doc d vs found sound same all = rw (found, sound, elements_all (λ element. is_name (text_in element)) d vs true same all) refl

pub names_are : (k : Key) (doc : Members) (d : Data) (vs : List Value) → at k doc ≡ Some d → map view vs ≡ elements_of d
    → map (λ v. text_in (view v)) vs ≡ names_of k doc
names_are k doc d vs found same = elements_map text_in k doc d vs found same
