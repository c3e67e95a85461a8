-- The faces that are listed for a strip are those in it: the others lie before it or after it, or in planes of constant x.
use Rattle.std.proofs.Common.{ℕ, zero, suc, ◌<◌, ◌≡◌, refl, sym, ◌∙◌, ap, ap₂, List, [], ◌∷◌, ◌++◌, map, length, get_or, Bool, true, false, ℤ, pos, ◌≤ℤ◌, ◌<ℤ◌, arith}
use mathlib.Core.Logic.{◌≢◌, ◌⊎◌, inl, inr}
use Rattle.std.proofs.lemmas.Int.{ints}
use Rattle.std.proofs.lemmas.List.{append-nil}
use Rattle.std.proofs.lemmas.List.Elements.{filter-append}
use Rattle.std.specs.Prelude.{cond, filter, not, ◌&&◌, if◌then◌else◌}
use Rattle.std.specs.List.{flat_map, AllByRecursion}
use Rattle.exact_algebra.specs.Expression.{var, number, ◌:+◌, ◌:-◌, ◌:*◌, opposite}
use Rattle.exact_algebra.proofs.Ring.{ring_from, none, given}
use Rattle.exact_algebra.proofs.WholeNumbers.{integers}
use Rattle.hull_model.specs.declared.face.Face.{Face}
use Rattle.hull_model.specs.declared.node.Node.{Node}
use Rattle.hull_model.specs.declared.point.Point.{Point}
use Rattle.hull_model.specs.declared.station.Station.{Station}
use Rattle.hull_model.specs.Body.{IsStation, IsHull}
use Rattle.hull_model.specs.Faces.{face_of, triangle_of}
use Rattle.hull_model.specs.Lists.{Rises}
use Rattle.hull_model.specs.Nodes.{node_at, foot, mirrored}
use Rattle.hull_model.specs.SignedFaces.{turn, turns_back}
use Rattle.hull_model.specs.Submerged.{first_x, last_x}
use Rattle.hull_model.specs.TriangleCut.{Triangle, triangle}
use Rattle.hull_model.specs.Zipper.{chain, between_stations}
use Rattle.hull_polyhedron.specs.Listed.{has_area, kept, turned_unless, mirrored_triangle, is_on_centreplane, sides, wall, end_wall, bottom, highest, top, strip, strips, first_end, last_end, listed}
use Rattle.hull_polyhedron.specs.StripLists.{joined, node_lists, face_lists}
use Rattle.hull_polyhedron.specs.Strips.{strips_of, strip_at, station_nodes, is_transverse, is_in_strip, faces_in}
use Rattle.hull_polyhedron.proofs.Between.{strip_holds, end_wall_holds, highest_holds, places_hold}
use Rattle.hull_polyhedron.proofs.Kept.{kept-append}
use Rattle.hull_polyhedron.proofs.Proper.{IsProper, all-append, strip_proper}
use Rattle.hull_polyhedron.proofs.StripByStrip.{ends_before}
use Rattle.hull_polyhedron.proofs.StripColumns.{LiesFrom, transverse_places, same_places, transverse_turned, in_own, in_no_other, all-of}

abbrev IsAcross : Triangle Node → Type 0
IsAcross t = is_transverse t ≡ false

from_true : (b : Bool) → (b ≡ true → ⊥) → b ≡ false
from_true true h = absurd (h refl)
from_true false h = refl

-- ---- no face of a strip lies in a plane of constant x
transverse-turned : (b : Bool) (t : Triangle Node) → is_transverse (turned_unless b t) ≡ is_transverse t
transverse-turned true t = refl
transverse-turned false t = transverse_turned t.a.x t.b.x t.c.x

no_turn : (t : Triangle Node) → is_transverse t ≡ true → turn t ≡ pos 0
no_turn t e = let places = transverse_places t.a.x t.b.x t.c.x e in
    ring_from integers (t.a.x ∷ t.a.z ∷ t.b.x ∷ t.b.z ∷ t.c.x ∷ t.c.z ∷ [])
    ((opposite (var 5 :- var 1) :+ (var 3 :- var 1), var 0, var 2) ∷ (var 3 :- var 1, var 2, var 4) ∷ []) (given places.0 (given places.1 none))
    ((var 2 :- var 0) :* (var 5 :- var 1) :- (var 3 :- var 1) :* (var 4 :- var 0)) (number 0) refl

sides_across : (ts : List (Triangle Node)) → AllByRecursion IsProper ts → AllByRecursion IsAcross (flat_map sides ts)
sides_across [] proper = tt
sides_across (t ∷ ts) proper = all-append IsAcross (sides t) (flat_map sides ts) (go (is_on_centreplane t)) (sides_across ts proper.1)
  where
    across : IsAcross t
    across = from_true (is_transverse t) (λ e. proper.0.turns (no_turn t e))

    go : (on : Bool) → AllByRecursion IsAcross (if on then [] else turned_unless (turns_back t) t ∷ turned_unless (not (turns_back t)) (mirrored_triangle t) ∷ [])
    go true = tt
    go false = (transverse-turned (turns_back t) t ∙ across, (transverse-turned (not (turns_back t)) (mirrored_triangle t) ∙ across, tt))

wall_across : (b : Bool) (p q : Node) → p.x <ℤ q.x → AllByRecursion IsAcross (wall b p q)
unfolding wall
wall_across b p q less = (
  transverse-turned b (triangle (foot p) (foot q) q) ∙ first q.x,
  (
    transverse-turned (not b) (triangle (foot p) p q) ∙ second p.x,
    (transverse-turned (not b) (triangle (foot p) (foot q) (mirrored q)) ∙ first q.x, (transverse-turned b (triangle (foot p) (mirrored p) (mirrored q)) ∙ second p.x, tt)),
  ),
)
  where
    apart : p.x ≡ q.x → ⊥
    apart e = differ less e
      where
        differ : {m n : ℤ} → m <ℤ n → m ≡ n → ⊥
        differ h e = omega (arith, ints)

    first : (m : ℤ) → is_transverse (triangle (foot p) (foot q) (node_at m (record { y = pos 0; z = pos 0 }))) ≡ false
    first m = from_true _ (λ e. apart (transverse_places p.x q.x m e).0)

    second : (m : ℤ) → is_transverse (triangle (foot p) (node_at m (record { y = pos 0; z = pos 0 })) (foot q)) ≡ false
    second m = from_true _ (λ e. apart ((transverse_places p.x m q.x e).0 ∙ (transverse_places p.x m q.x e).1))

module _ (x y : ℤ) (less : x <ℤ y) where
  moved : (p q : Node) → p.x ≡ x → q.x ≡ y → p.x <ℤ q.x
  moved p q e f = go less e f
    where
      go : {a b c d : ℤ} → a <ℤ b → c ≡ a → d ≡ b → c <ℤ d
      go h e f = omega (arith, ints)

  bottom_across : (aft fore : List Node) → AllByRecursion (λ (n : Node). n.x ≡ x) aft → AllByRecursion (λ (n : Node). n.x ≡ y) fore → AllByRecursion IsAcross (bottom aft fore)
  bottom_across [] fore h k = tt
  bottom_across (p ∷ aft) [] h k = tt
  bottom_across (p ∷ aft) (q ∷ fore) h k = wall_across false p q (moved p q h.0 k.0)

  top_across : (aft fore : List Node) → AllByRecursion (λ (n : Node). n.x ≡ x) aft → AllByRecursion (λ (n : Node). n.x ≡ y) fore → AllByRecursion IsAcross (top aft fore)
  top_across [] fore h k = tt
  top_across (p ∷ aft) [] h k = tt
  top_across (p ∷ aft) (q ∷ fore) h k = wall_across true (highest p aft) (highest q fore)
      (moved (highest p aft) (highest q fore) (highest_holds (λ (n : Node). n.x ≡ x) (λ n e. e) (λ n e. e) p aft h.0 h.1) (highest_holds (λ (n : Node). n.x ≡ y) (λ n e. e) (λ n e. e) q fore k.0 k.1))

chain_places : (x : ℤ) (points : List Point) → AllByRecursion (λ (n : Node). n.x ≡ x) (map (node_at x) points)
chain_places x [] = tt
chain_places x (p ∷ points) = (refl, chain_places x points)

strip_across : (s t : Station) → IsStation s → IsStation t → s.x <ℤ t.x → AllByRecursion IsAcross (strip s t)
strip_across s t aft fore less = all-append IsAcross (flat_map sides (between_stations s t) ++ bottom (chain s) (chain t)) (top (chain s) (chain t))
    (all-append IsAcross (flat_map sides (between_stations s t)) (bottom (chain s) (chain t)) (sides_across (between_stations s t) (strip_proper s t aft fore less))
    (bottom_across s.x t.x less (chain s) (chain t) (chain_places s.x s.points) (chain_places t.x t.points)))
    (top_across s.x t.x less (chain s) (chain t) (chain_places s.x s.points) (chain_places t.x t.points))

-- ---- and all lie from its aft station to its fore one
strip_lies : (s t : Station) → s.x <ℤ t.x → AllByRecursion (LiesFrom s.x t.x) (strip s t)
strip_lies s t less = all-of _ (LiesFrom s.x t.x) (λ u h. record { a = h.0; b = h.1.0; c = h.1.1.0 }) (strip s t)
    (strip_holds (λ (n : Node). (s.x ≤ℤ n.x) × (n.x ≤ℤ t.x)) (λ n h. h) (λ n h. h) s t chains.0 chains.1.0)
  where
    same : (n : ℤ) → n ≤ℤ n
    same n = omega (arith, ints)

    weak : {m n : ℤ} → m <ℤ n → m ≤ℤ n
    weak h = omega (arith, ints)

    chains : AllByRecursion (λ u. AllByRecursion (λ (n : Node). (s.x ≤ℤ n.x) × (n.x ≤ℤ t.x)) (chain u)) (s ∷ t ∷ [])
    chains = places_hold (λ (x : ℤ). (s.x ≤ℤ x) × (x ≤ℤ t.x)) (s ∷ t ∷ []) ((same s.x, weak less), ((weak less, same t.x), tt))

both-of : {A : Type 0} (P Q R : A → Type 0) → ((x : A) → P x → Q x → R x) → (xs : List A) → AllByRecursion P xs → AllByRecursion Q xs → AllByRecursion R xs
both-of P Q R f [] h k = tt
both-of P Q R f (x ∷ xs) h k = (f x h.0 k.0, both-of P Q R f xs h.1 k.1)

-- ---- ends
end_transverse : (x : ℤ) (b : Bool) (points : List Point) → AllByRecursion (λ t. is_transverse t ≡ true) (end_wall b (map (node_at x) points))
end_transverse x b points = all-of _ (λ t. is_transverse t ≡ true) (λ t h. same_places t.a.x t.b.x t.c.x (h.0 ∙ sym h.1.0) (h.1.0 ∙ sym h.1.1.0)) (end_wall b (map (node_at x) points))
    (end_wall_holds (λ (n : Node). n.x ≡ x) (λ n e. e) (λ n e. e) b (map (node_at x) points) (chain_places x points))

first_transverse : (stations : List Station) → AllByRecursion (λ t. is_transverse t ≡ true) (first_end stations)
first_transverse [] = tt
first_transverse (s ∷ rest) = end_transverse s.x true s.points

last_transverse : (stations : List Station) → AllByRecursion (λ t. is_transverse t ≡ true) (last_end stations)
last_transverse [] = tt
last_transverse (s ∷ []) = end_transverse s.x false s.points
last_transverse (s ∷ t ∷ rest) = last_transverse (t ∷ rest)

-- ---- what is kept of a list
module _ (place : List Station) where
  abbrev In : Triangle Node → Bool
  In t = is_in_strip place t

  all_in : (ts : List (Triangle Node)) → AllByRecursion (λ t. In t ≡ true) ts → faces_in place (kept ts) ≡ kept ts
  all_in [] all = refl
  all_in (t ∷ ts) all = go (has_area t) (all_in ts all.1)
    where
      first : (b : Bool) (fs : List Face) → b ≡ true → faces_in place fs ≡ fs → cond b (face_of t ∷ faces_in place fs) (faces_in place fs) ≡ face_of t ∷ fs
      first true fs e f = ap (λ gs. face_of t ∷ gs) f
      first false fs e f = absurd (grind arith)

      go : (b : Bool) → faces_in place (kept ts) ≡ kept ts → faces_in place (map face_of (cond b (t ∷ filter has_area ts) (filter has_area ts))) ≡ map face_of (cond b (t ∷ filter has_area ts) (filter has_area ts))
      go true e = first (In t) (kept ts) all.0 e
      go false e = e

  none_in : (ts : List (Triangle Node)) → AllByRecursion (λ t. In t ≡ false) ts → faces_in place (kept ts) ≡ []
  none_in [] all = refl
  none_in (t ∷ ts) all = go (has_area t) (none_in ts all.1)
    where
      first : (b : Bool) (fs : List Face) → b ≡ false → fs ≡ [] → cond b (face_of t ∷ fs) fs ≡ []
      first true fs e f = absurd (grind arith)
      first false fs e f = f

      go : (b : Bool) → faces_in place (kept ts) ≡ [] → faces_in place (map face_of (cond b (t ∷ filter has_area ts) (filter has_area ts))) ≡ []
      go true e = first (In t) (faces_in place (kept ts)) all.0 e
      go false e = e

  transverse_out : (t : Triangle Node) → is_transverse t ≡ true → In t ≡ false
  unfolding is_in_strip
  transverse_out t e = go _ (is_transverse t) e
    where
      go : (p q : Bool) → q ≡ true → (p && not q) ≡ false
      go p q e = grind arith

  own_strip : (s t : Station) → place ≡ s ∷ t ∷ [] → IsStation s → IsStation t → s.x <ℤ t.x → faces_in place (kept (strip s t)) ≡ kept (strip s t)
  own_strip s t e aft fore less = all_in (strip s t) (both-of (LiesFrom s.x t.x) IsAcross (λ u. In u ≡ true) here (strip s t) (strip_lies s t less) (strip_across s t aft fore less))
    where
      here : (u : Triangle Node) → LiesFrom s.x t.x u → IsAcross u → In u ≡ true
      here u lies across = ap (λ (p : List Station). is_in_strip p u) e ∙ in_own (s ∷ t ∷ []) u lies ∙ ap not across

  other_strip : (s t : Station) → (t.x ≤ℤ first_x place) ⊎ (last_x place ≤ℤ s.x) → s.x <ℤ t.x → faces_in place (kept (strip s t)) ≡ []
  other_strip s t apart less = none_in (strip s t) (all-of (LiesFrom s.x t.x) (λ u. In u ≡ false) (λ u lies. in_no_other (s ∷ t ∷ []) place u apart lies) (strip s t) (strip_lies s t less))

-- ---- strip by strip
pub lists-length : (stations : List Station) → length (face_lists stations) ≡ length (strips_of stations)
lists-length [] = refl
lists-length (s ∷ []) = refl
lists-length (s ∷ t ∷ rest) = ap suc (lists-length (t ∷ rest))

pub kept-joined : (stations : List Station) → kept (strips stations) ≡ joined (face_lists stations)
kept-joined [] = refl
kept-joined (s ∷ []) = refl
kept-joined (s ∷ t ∷ rest) = kept-append (strip s t) (strips (t ∷ rest)) ∙ ap (λ fs. kept (strip s t) ++ fs) (kept-joined (t ∷ rest))

-- what holds of each two neighbouring stations and what is listed for them
at_strip : (Q : List Station → List Face → Type 0) → ((s t : Station) → IsStation s → IsStation t → s.x <ℤ t.x → Q (s ∷ t ∷ []) (kept (strip s t)))
    → (stations : List Station) → AllByRecursion IsStation stations → Rises (λ s. s.x) stations → (i : ℕ) → i < length (strips_of stations) → Q (strip_at stations i) (get_or (face_lists stations) i [])
at_strip Q holds [] each rises i less = absurd (omega arith)
at_strip Q holds (s ∷ []) each rises i less = absurd (omega arith)
at_strip Q holds (s ∷ t ∷ rest) each rises zero less = holds s t each.0 each.1.0 rises.0
at_strip Q holds (s ∷ t ∷ rest) each rises (suc i) less = at_strip Q holds (t ∷ rest) each.1 rises.1 i (omega arith)

picked : (P : Face → Bool) (lists : List (List Face)) (n : ℕ) → n < length lists → filter P (get_or lists n []) ≡ get_or lists n []
    → ((i : ℕ) → i < length lists → i ≢ n → filter P (get_or lists i []) ≡ []) → filter P (joined lists) ≡ get_or lists n []
picked P [] n less own rest = absurd (omega arith)
picked P (fs ∷ lists) zero less own rest = filter-append P fs (joined lists) ∙ ap₂ ◌++◌ own (nothing lists (λ i h. rest (suc i) (omega arith) (λ e. absurd (omega arith)))) ∙ append-nil fs
  where
    nothing : (ls : List (List Face)) → ((i : ℕ) → i < length ls → filter P (get_or ls i []) ≡ []) → filter P (joined ls) ≡ []
    nothing [] all = refl
    nothing (gs ∷ ls) all = filter-append P gs (joined ls) ∙ ap₂ ◌++◌ (all 0 (omega arith)) (nothing ls (λ i h. all (suc i) (omega arith)))
picked P (fs ∷ lists) (suc n) less own rest = filter-append P fs (joined lists)
    ∙ ap₂ ◌++◌ (rest 0 (omega arith) (λ e. absurd (omega arith))) (picked P lists n (omega arith) own (λ i h ne. rest (suc i) (omega arith) (λ e. ne (omega arith))))

pub listed_in_strip : (stations : List Station) → IsHull stations → (n : ℕ) → n < length (strips_of stations) → faces_in (strip_at stations n) (kept (listed stations)) ≡ get_or (face_lists stations) n []
listed_in_strip stations hull n less =
    ap (faces_in place) (kept-append (first_end stations ++ strips stations) (last_end stations) ∙ ap (λ fs. fs ++ kept (last_end stations)) (kept-append (first_end stations) (strips stations)))
    ∙ filter-append P (kept (first_end stations) ++ kept (strips stations)) (kept (last_end stations))
    ∙ ap₂ ◌++◌ (filter-append P (kept (first_end stations)) (kept (strips stations)) ∙ ap₂ ◌++◌ (end_out (first_end stations) (first_transverse stations)) (ap (filter P) (kept-joined stations) ∙ middle)) (end_out (last_end stations) (last_transverse stations))
    ∙ append-nil (get_or (face_lists stations) n [])
  where
    place : List Station
    place = strip_at stations n

    P : Face → Bool
    P f = is_in_strip place (triangle_of f)

    end_out : (ts : List (Triangle Node)) → AllByRecursion (λ t. is_transverse t ≡ true) ts → faces_in place (kept ts) ≡ []
    end_out ts all = none_in place ts (all-of (λ t. is_transverse t ≡ true) (λ t. is_in_strip place t ≡ false) (transverse_out place) ts all)

    as_long : {i : ℕ} → i < length (face_lists stations) → i < length (strips_of stations)
    as_long h = omega (arith, lists-length stations)

    own : faces_in place (get_or (face_lists stations) n []) ≡ get_or (face_lists stations) n []
    own = at_strip (λ strip fs. place ≡ strip → faces_in place fs ≡ fs) (λ s t aft fore less e. own_strip place s t e aft fore less) stations hull.each hull.places_rise n less refl

    before_or_after : (i n : ℕ) → i ≢ n → (i < n) ⊎ (n < i)
    before_or_after zero zero ne = absurd (ne refl)
    before_or_after zero (suc n) ne = inl (omega arith)
    before_or_after (suc i) zero ne = inr (omega arith)
    before_or_after (suc i) (suc n) ne = go (before_or_after i n (λ e. ne (ap suc e)))
      where
        go : (i < n) ⊎ (n < i) → (suc i < suc n) ⊎ (suc n < suc i)
        go (inl h) = inl (omega arith)
        go (inr h) = inr (omega arith)

    other : (i : ℕ) → i < length (face_lists stations) → i ≢ n → faces_in place (get_or (face_lists stations) i []) ≡ []
    other i h ne = at_strip (λ strip fs. (last_x strip ≤ℤ first_x place) ⊎ (last_x place ≤ℤ first_x strip) → faces_in place fs ≡ []) (λ s t aft fore less apart. other_strip place s t apart less)
        stations hull.each hull.places_rise i (as_long h) (go (before_or_after i n ne))
      where
        go : (i < n) ⊎ (n < i) → (last_x (strip_at stations i) ≤ℤ first_x place) ⊎ (last_x place ≤ℤ first_x (strip_at stations i))
        go (inl k) = inl (ends_before stations i n hull.places_rise k less)
        go (inr k) = inr (ends_before stations n i hull.places_rise k (as_long h))

    middle : filter P (joined (face_lists stations)) ≡ get_or (face_lists stations) n []
    middle = picked P (face_lists stations) n (omega (arith, lists-length stations, less)) own other

pub nodes-length : (stations : List Station) → length (node_lists stations) ≡ length (strips_of stations)
nodes-length stations = go (strips_of stations)
  where
    go : (xs : List (List Station)) → length (map station_nodes xs) ≡ length xs
    go [] = refl
    go (x ∷ xs) = ap suc (go xs)

pub nodes_at : (stations : List Station) (n : ℕ) → get_or (node_lists stations) n [] ≡ station_nodes (strip_at stations n)
nodes_at stations n = go (strips_of stations) n
  where
    go : (xs : List (List Station)) (n : ℕ) → get_or (map station_nodes xs) n [] ≡ station_nodes (get_or xs n [])
    go [] n = refl
    go (x ∷ xs) zero = refl
    go (x ∷ xs) (suc n) = go xs n
