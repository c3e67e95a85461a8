-- The faces that are kept of triangles, of one list after another.
use Rattle.std.proofs.Common.{ℕ, zero, suc, ◌≡◌, refl, sym, ◌∙◌, ap, ap₂, List, [], ◌∷◌, ◌++◌, map, length, get_or, ◌<◌, ◌≤◌, ◌-◌, Bool, true, false, ℤ, pos, negsuc, ◌-ℤ◌, ◌*ℤ◌, neg_ℤ, arith}
use Rattle.std.proofs.lemmas.Int.{ints}
use Rattle.std.specs.Prelude.{not, int_lt, if◌then◌else◌}
use Rattle.std.proofs.lemmas.List.{append-nil, append_assoc, map-append}
use Rattle.std.proofs.lemmas.List.Elements.{filter-append}
use Rattle.hull_model.specs.declared.face.Face.{Face}
use Rattle.hull_model.specs.declared.station.Station.{Station}
use Rattle.hull_model.specs.Zipper.{chain}
use Rattle.hull_model.specs.declared.node.Node.{Node}
use Rattle.hull_model.specs.Nodes.{foot, mirrored}
use Rattle.hull_model.specs.SignedFaces.{turns_back}
use Rattle.hull_model.specs.TriangleCut.{Triangle, triangle}
use Rattle.hull_model.specs.Faces.{face_of, doubled_area}
use Rattle.hull_polyhedron.specs.Listed.{has_area, kept, turned_unless, wall, sides, is_on_centreplane, highest, top, end_wall, strips, last_end}

pub kept-append : (ts us : List (Triangle Node)) → kept (ts ++ us) ≡ kept ts ++ kept us
kept-append ts us = ap (map face_of) (filter-append has_area ts us) ∙ map-append face_of _ _

-- a list after another, and more after both
pub further : (faces : List Face) (ts us : List (Triangle Node)) → (faces ++ kept ts) ++ kept us ≡ faces ++ kept (ts ++ us)
further faces ts us = append_assoc faces (kept ts) (kept us) ∙ ap (λ fs. faces ++ fs) (sym (kept-append ts us))

pub two : (old a b : List Face) (t u : Triangle Node) → a ≡ old ++ kept (t ∷ []) → b ≡ a ++ kept (u ∷ []) → b ≡ old ++ kept (t ∷ u ∷ [])
two old a b t u e f = f ∙ ap (λ fs. fs ++ kept (u ∷ [])) e ∙ further old (t ∷ []) (u ∷ [])

pub four : (old a b c d : List Face) (t u v w : Triangle Node) → a ≡ old ++ kept (t ∷ []) → b ≡ a ++ kept (u ∷ []) → c ≡ b ++ kept (v ∷ []) → d ≡ c ++ kept (w ∷ []) → d ≡ old ++ kept (t ∷ u ∷ v ∷ w ∷ [])
four old a b c d t u v w e f g h = two b c d v w g h ∙ ap (λ fs. fs ++ kept (v ∷ w ∷ [])) (two old a b t u e f) ∙ further old (t ∷ u ∷ []) (v ∷ w ∷ [])

-- the wall along an edge, given the feet and the mirror images of its ends
pub wall_kept : (old a b c new : List Face) (outwards : Bool) (p q pf qf pm qm : Node) → pf ≡ foot p → qf ≡ foot q → pm ≡ mirrored p → qm ≡ mirrored q
    → a ≡ old ++ kept (turned_unless outwards (triangle pf qf q) ∷ []) → b ≡ a ++ kept (turned_unless (not outwards) (triangle pf p q) ∷ [])
    → c ≡ b ++ kept (turned_unless (not outwards) (triangle pf qf qm) ∷ []) → new ≡ c ++ kept (turned_unless outwards (triangle pf pm qm) ∷ [])
    → new ≡ old ++ kept (wall outwards p q)
unfolding wall
wall_kept old a b c new outwards p q pf qf pm qm e f g h k l m n = four old a b c new (turned_unless outwards (triangle pf qf q)) (turned_unless (not outwards) (triangle pf p q)) (turned_unless (not outwards) (triangle pf qf qm)) (turned_unless outwards (triangle pf pm qm)) k l m n ∙ (λ i. old ++ kept (
    turned_unless outwards (triangle (e i) (f i) q) ∷ turned_unless (not outwards) (triangle (e i) p q) ∷ turned_unless (not outwards) (triangle (e i) (f i) (h i)) ∷ turned_unless outwards (triangle (e i) (g i) (h i)) ∷ []))

-- the sides of a strip triangle that isn't on the centreplane
pub sides_kept : (old first new : List Face) (t : Triangle Node) (back : Bool) (a b c : Node) → is_on_centreplane t ≡ false → back ≡ turns_back t → a ≡ mirrored t.a → b ≡ mirrored t.b → c ≡ mirrored t.c
    → first ≡ old ++ kept (turned_unless back t ∷ []) → new ≡ first ++ kept (turned_unless (not back) (triangle a b c) ∷ []) → new ≡ old ++ kept (sides t)
sides_kept old first new t back a b c off e f g h k l = two old first new (turned_unless back t) (turned_unless (not back) (triangle a b c)) k l
    ∙ (λ i. old ++ kept (turned_unless (e i) t ∷ turned_unless (not (e i)) (triangle (f i) (g i) (h i)) ∷ []))
    ∙ ap (λ ts. old ++ kept ts) (chosen (is_on_centreplane t) off (turned_unless (turns_back t) t ∷ turned_unless (not (turns_back t)) (triangle (mirrored t.a) (mirrored t.b) (mirrored t.c)) ∷ []))
  where
    chosen : (b : Bool) → b ≡ false → (ts : List (Triangle Node)) → ts ≡ (if b then [] else ts)
    chosen true e ts = absurd (grind arith)
    chosen false e ts = refl

-- a triangle turns back where its area vector points to starboard
pub turn_by_area : (t : Triangle Node) → int_lt (pos 0) (doubled_area t).y ≡ turns_back t
turn_by_area t = opposite ((t.b.z -ℤ t.a.z) *ℤ (t.c.x -ℤ t.a.x)) ((t.b.x -ℤ t.a.x) *ℤ (t.c.z -ℤ t.a.z))
  where
    opposite : (m n : ℤ) → int_lt (pos 0) (m -ℤ n) ≡ int_lt (n -ℤ m) (pos 0)
    opposite m n = ap (λ (k : ℤ). int_lt (pos 0) k) (same m n) ∙ flip (n -ℤ m)
      where
        same : (m n : ℤ) → m -ℤ n ≡ neg_ℤ (n -ℤ m)
        same m n = omega (arith, ints)

        flip : (k : ℤ) → int_lt (pos 0) (neg_ℤ k) ≡ int_lt k (pos 0)
        flip (pos zero) = refl
        flip (pos (suc n)) = grind arith
        flip (negsuc n) = grind arith

-- the last element of a list is that of the list after the first
pub last_of_rest : {A : Type 0} (x y : A) (rest : List A) (other : A) → get_or (x ∷ y ∷ rest) (length (x ∷ y ∷ rest) - 1) other ≡ get_or (y ∷ rest) (length (y ∷ rest) - 1) other
last_of_rest x y rest other = ap (λ n. get_or (x ∷ y ∷ rest) n other) (one_less (length rest))
  where
    one_less : (n : ℕ) → suc (suc n) - 1 ≡ suc (suc n - 1)
    one_less n = omega arith

-- the last nodes of two chains
pub top_at : (old new : List Face) (aft fore : List Node) (other : Node) → 1 ≤ length aft → 1 ≤ length fore
    → new ≡ old ++ kept (wall true (get_or aft (length aft - 1) other) (get_or fore (length fore - 1) other)) → new ≡ old ++ kept (top aft fore)
top_at old new [] fore other some some' e = absurd (omega arith)
top_at old new (p ∷ aft) [] other some some' e = absurd (omega arith)
top_at old new (p ∷ aft) (q ∷ fore) other some some' e = e ∙ ap₂ (λ (m n : Node). old ++ kept (wall true m n)) (last_node p aft other) (last_node q fore other)
  where
    last_node : (p : Node) (rest : List Node) (other : Node) → get_or (p ∷ rest) (length (p ∷ rest) - 1) other ≡ highest p rest
    last_node p [] other = refl
    last_node p (q ∷ rest) other = last_of_rest p q rest other ∙ last_node q rest other

-- the last station
pub last_end_at : (stations : List Station) (last : Station) → 1 ≤ length stations → last ≡ get_or stations (length stations - 1) last → last_end stations ≡ end_wall false (chain last)
last_end_at [] last some e = absurd (omega arith)
last_end_at (s ∷ []) last some e = ap (λ (t : Station). end_wall false (chain t)) (sym e)
last_end_at (s ∷ t ∷ rest) last some e = last_end_at (t ∷ rest) last (omega arith) (e ∙ last_of_rest s t rest last)

-- fewer than two nodes have no wall, and fewer than two stations no strip
pub no_wall : (faces : List Face) (outwards : Bool) (nodes : List Node) → length nodes < 2 → faces ++ kept (end_wall outwards nodes) ≡ faces
no_wall faces outwards [] few = append-nil faces
no_wall faces outwards (p ∷ []) few = append-nil faces
no_wall faces outwards (p ∷ q ∷ rest) few = absurd (omega arith)

pub no_strip : (faces : List Face) (stations : List Station) → length stations < 2 → faces ++ kept (strips stations) ≡ faces
no_strip faces [] few = append-nil faces
no_strip faces (s ∷ []) few = append-nil faces
no_strip faces (s ∷ t ∷ rest) few = absurd (omega arith)
