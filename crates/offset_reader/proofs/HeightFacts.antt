-- The order of heights, as the rows are climbed.
use Rattle.std.proofs.Common.{◌≡◌, ◌∙◌, ap, sym, ◌<◌, arith, length, Bool, true, false, ◌==◌, ◌&&◌, ◌||◌, not, nat_lt, if◌then◌else◌, List, [], ◌∷◌, ◌++◌, append_assoc, Option, Some, None, refl}
use Rattle.std.specs.List.{list_all}
use Rattle.std.proofs.lemmas.Grind.{common_steps}
use Rattle.std.proofs.lemmas.List.Folds.{list_all-append}
use Rattle.offset_reader.specs.declared.fault.OffsetFault.{OffsetFault}
use Rattle.offset_reader.specs.declared.fault.OffsetFault.TheVariants.{Height}
use Rattle.offset_reader.specs.declared.row.Row.{Row}
use Rattle.offset_reader.specs.Heights.{is_level, height_fault_after, height_fault}
use Rattle.offset_reader.specs.Points.{above_bottom, below_deck}

pub short_bottom : (xs : List Row) → length xs < 2 → above_bottom xs ≡ xs
short_bottom [] h = refl
short_bottom (r ∷ []) h = refl
short_bottom (r ∷ s ∷ rest) h = absurd (omega arith)

pub short_deck : (xs : List Row) → length xs < 2 → below_deck xs ≡ xs
short_deck [] h = refl
short_deck (r ∷ []) h = refl
short_deck (r ∷ s ∷ rest) h = absurd (omega arith)

-- the first height out of order among rows, of which those up to the first are level or not
abbrev pub climb_fault : Bool → List Row → Option OffsetFault
climb_fault flat [] = None
climb_fault flat (before ∷ []) = None
climb_fault flat (before ∷ this ∷ later) =
    if nat_lt this.z before.z || ((this.z == before.z) && (not flat && not (is_level (before ∷ this ∷ later))))
    then Some (Height this.number)
    else climb_fault (flat && (this.z == before.z)) (this ∷ later)

pub climb_short : (flat : Bool) (xs : List Row) → length xs < 2 → climb_fault flat xs ≡ None
climb_short flat [] h = refl
climb_short flat (r ∷ []) h = refl
climb_short flat (r ∷ s ∷ rest) h = absurd (omega arith)

-- rows at the height of a first one
abbrev pub at_height : Row → List Row → Bool
at_height r rows = list_all (λ s. s.z == r.z) rows

same_height : (r s : Row) (rows : List Row) → s.z ≡ r.z → at_height r rows ≡ at_height s rows
same_height r s rows e = rw e refl

pub climb_level : (flat : Bool) (xs : List Row) → is_level xs ≡ true → climb_fault flat xs ≡ None
climb_level flat [] h = refl
climb_level flat (r ∷ []) h = refl
climb_level flat (r ∷ s ∷ rest) h =
    let here : s.z ≡ r.z = grind (arith, common_steps) in
    let above : at_height r rest ≡ true = grind (arith, common_steps) in
    let later = climb_level (flat && (s.z == r.z)) (s ∷ rest) (sym (same_height r s rest here) ∙ above) in
    grind (arith, common_steps)

-- a flat bottom changes nothing
pub climb_start : (xs : List Row) → climb_fault true xs ≡ climb_fault false (above_bottom xs)
climb_start [] = refl
climb_start (r ∷ []) = refl
climb_start (r ∷ s ∷ rest) =
    let later = climb_start (s ∷ rest) in
    grind (arith, common_steps)

level_more : (earlier : List Row) (b t : Row) → is_level (earlier ++ (b ∷ t ∷ [])) ≡ (is_level (earlier ++ (b ∷ [])) && (t.z == b.z))
level_more [] b t = grind (arith, common_steps)
level_more (r ∷ earlier) b t = grind (arith, common_steps, list_all-append (λ (s : Row). s.z == r.z) earlier (b ∷ t ∷ []), list_all-append (λ (s : Row). s.z == r.z) earlier (b ∷ []))

same_test : (lower e a f l : Bool) → a ≡ (f && e) → (lower || (e && (not a && not l))) ≡ (lower || (e && (not f && not l)))
same_test lower false a f l h = refl
same_test lower true a true l h = rw h refl
same_test lower true a false l h = rw h refl

height_climbs : (earlier : List Row) (b : Row) (rest : List Row) → height_fault_after earlier (b ∷ rest) ≡ climb_fault (is_level (earlier ++ (b ∷ []))) (b ∷ rest)
height_climbs earlier b [] = refl
height_climbs earlier b (t ∷ later) =
    let more = height_climbs (earlier ++ (b ∷ [])) t later in
    let flat = level_more earlier b t in
    let test = same_test (nat_lt t.z b.z) (t.z == b.z) (is_level (earlier ++ (b ∷ t ∷ []))) (is_level (earlier ++ (b ∷ []))) (is_level (b ∷ t ∷ later)) flat in
    let next : height_fault_after (earlier ++ (b ∷ [])) (t ∷ later) ≡ climb_fault (is_level (earlier ++ (b ∷ [])) && (t.z == b.z)) (t ∷ later) = more ∙ ap (λ f. climb_fault f (t ∷ later)) (ap is_level (append_assoc earlier (b ∷ []) (t ∷ [])) ∙ flat) in
    rw (test, next) refl

pub height_climb : (xs : List Row) → height_fault xs ≡ climb_fault true xs
unfolding height_fault
height_climb [] = refl
height_climb (b ∷ rest) = height_climbs [] b rest
