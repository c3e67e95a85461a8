-- Parts that are added one after another.
use Rattle.std.proofs.Common.{ℕ, refl, pos, negsuc, ◌≤ℤ◌, unsigned_abs, ◌+◌, ◌*◌, ◌^◌, ◌<◌, ◌≤◌, ℤ, ◌≡◌, sym, subst, List, [], ◌∷◌, ◌++◌, length, take, drop, get_or, ◌-◌, arith}
use Rattle.std.proofs.lemmas.Int.{ints}
use Rattle.std.proofs.lemmas.List.{append-nil, append_assoc, length-append}
use Rattle.std.specs.List.{AllByRecursion}
use Rattle.std.specs.Result.{OnOk}
use Rattle.std.specs.declared.result.Result.{Result}
use Rattle.std.specs.declared.result.Result.TheVariants.{Ok, Err}
use Rattle.exact_algebra.proofs.Fraction.{Fraction}
use Rattle.hull_model.specs.declared.face.Face.{Face}
use Rattle.hull_model.specs.declared.slab.Slab.{Slab}
use Rattle.hull_model.specs.TriangleCut.{Triangle}
use Rattle.hull_model.specs.Waterplane.{Position}
use Rattle.hull_polyhedron.specs.declared.faces.Faces.{Faces}
use Rattle.hull_polyhedron.specs.Between.{IsBetween, LieInside}
use Rattle.plane_clip.specs.declared.part.Part.{Part}
use Rattle.plane_clip.specs.Between.{HoldParts}
use Rattle.plane_clip.specs.Parts.{HoldsPart, HoldsShare}
use Rattle.flux_moments.specs.Shared.{Shared, HoldShares}
use Rattle.hull_model.proofs.Rounds.{append}
use Rattle.plane_clip.proofs.EachLists.{each-append}
use Rattle.plane_clip.proofs.SpanLists.{after-first}
use Rattle.compartment_loss.specs.Flooding.{Room, room_of, IsFaceIn, LieIn, IsPartIn, Grows, shared, face_in, faces_in, flooded_parts}

module _ (r : Room) where
  pub grows-none : (ps : List Part) → Grows r ps ps [] 0
  grows-none ps = record {
    held = λ ts h. subst (λ (us : List Shared). HoldShares ps us) (sym (append-nil ts)) h;
    placed = λ h. h;
    few = omega arith;
  }

  pub grows-then : (a b c : List Part) (xs ys : List Shared) (m n : ℕ) → Grows r a b xs m → Grows r b c ys n → Grows r a c (xs ++ ys) (m + n)
  grows-then a b c xs ys m n h k = record {
    held = λ ts i. subst (λ (us : List Shared). HoldShares c us) (append_assoc ts xs ys) (k.held (ts ++ xs) (h.held ts i));
    placed = λ i. k.placed (h.placed i);
    few = omega (arith, h.few, k.few);
  }

  pub grows-more : (a b : List Part) (xs : List Shared) (m n : ℕ) → m ≤ n → Grows r a b xs m → Grows r a b xs n
  grows-more a b xs m n few h = record { held = h.held; placed = h.placed; few = omega (arith, few, h.few) }

  grows-one : (ps : List Part) (q : Part) (t : Shared) → HoldsShare q t.share t.at → IsPartIn r 3 q → Grows r ps (ps ++ q ∷ []) (t ∷ []) 1
  grows-one ps q t h k = record {
    held = λ ts i. each-append (λ p t. HoldsShare p t.share t.at) ps (q ∷ []) ts (t ∷ []) i (h, tt);
    placed = λ i. append (IsPartIn r 3) ps (q ∷ []) i (k, tt);
    few = omega (arith, length-append ps (q ∷ []));
  }

  -- ---- the shares of parts
  pub record SharesLead (share : Fraction) (before now all rest : List Part) (us : List (Triangle Position)) : Type 0 where
    pub left : List (Triangle Position)
    pub held : HoldParts rest left
    pub placed : AllByRecursion (IsPartIn r 2) rest
    pub lead : (after : List Part) → Grows r now after (shared share left) (length rest) → Grows r before after (shared share us) (length all)

  module _ (share : Fraction) (before all : List Part) (us : List (Triangle Position)) where
    pub shares-start : HoldParts all us → AllByRecursion (IsPartIn r 2) all → SharesLead share before before all all us
    shares-start h k = record { left = us; held = h; placed = k; lead = λ after g. g }

    pub shares-step : (now rest : List Part) (p q : Part) → ((t : Triangle Position) → HoldsPart p t → HoldsShare q share t) → (IsPartIn r 2 p → IsPartIn r 3 q)
        → SharesLead share before now all (p ∷ rest) us → SharesLead share before (now ++ q ∷ []) all rest us
    shares-step now rest p q holds places h = by_left h.left h.held h.placed h.lead
      where
        by_left : (left : List (Triangle Position)) → HoldParts (p ∷ rest) left → AllByRecursion (IsPartIn r 2) (p ∷ rest)
            → ((after : List Part) → Grows r now after (shared share left) (length (p ∷ rest)) → Grows r before after (shared share us) (length all))
            → SharesLead share before (now ++ q ∷ []) all rest us
        by_left [] held placed lead = absurd held
        by_left (u ∷ left) held placed lead = record {
          left = left;
          held = held.1;
          placed = placed.1;
          lead = λ after g. lead after (grows-more now after (shared share (u ∷ left)) (1 + length rest) (length (p ∷ rest)) (omega arith)
              (grows-then now (now ++ q ∷ []) after (record { share = share; at = u } ∷ []) (shared share left) 1 (length rest) (grows-one now q (record { share = share; at = u }) (holds u held.0) (places placed.0)) g));
        }

    pub shares-next : (now rest : List Part) (p q : Part) → 1 ≤ length rest → p ≡ get_or rest 0 p → ((t : Triangle Position) → HoldsPart p t → HoldsShare q share t) → ((r : Room) → IsPartIn r 2 p → IsPartIn r 3 q)
        → SharesLead share before now all rest us → SharesLead share before (now ++ q ∷ []) all (take (length rest - 1) (drop 1 rest)) us
    shares-next now [] p q some e holds places h = absurd (omega (arith, some))
    shares-next now (x ∷ rest) p q some e holds places h = subst (λ (qs : List Part). SharesLead share before (now ++ q ∷ []) all qs us) (sym (after-first x rest))
        (shares-step now rest p q holds (places r) (subst (λ (y : Part). SharesLead share before now all (y ∷ rest) us) (sym e) h))

    pub shares-end : (now rest : List Part) → length rest < 1 → SharesLead share before now all rest us → Grows r before now (shared share us) (length all)
    shares-end now [] few h = by_left h.left h.held h.lead
      where
        by_left : (left : List (Triangle Position)) → HoldParts [] left → ((after : List Part) → Grows r now after (shared share left) 0 → Grows r before after (shared share us) (length all)) → Grows r before now (shared share us) (length all)
        by_left [] held lead = lead now (grows-none now)
        by_left (u ∷ left) held lead = absurd held
    shares-end now (p ∷ rest) few h = absurd (omega (arith, few))

  -- ---- the faces in a slab
  pub record FacesLead (s : Slab) (before now : List Part) (all rest : List Face) : Type 0 where
    pub between : LieIn r rest
    pub lead : (after : List Part) → Grows r now after (faces_in rest s) (4 * length rest) → Grows r before after (faces_in all s) (4 * length all)

  module _ (s : Slab) (before : List Part) (all : List Face) where
    pub faces-start : LieIn r all → FacesLead s before before all all
    faces-start h = record { between = h; lead = λ after g. g }

    pub faces-step : (now more : List Part) (f : Face) (rest : List Face) → (IsFaceIn r f → Grows r now more (face_in s f) 4)
        → FacesLead s before now all (f ∷ rest) → FacesLead s before more all rest
    faces-step now more f rest grows h = record {
      between = h.between.1;
      lead = λ after g. h.lead after (grows-more now after (faces_in (f ∷ rest) s) (4 + 4 * length rest) (4 * length (f ∷ rest)) (omega arith)
          (grows-then now more after (face_in s f) (faces_in rest s) 4 (4 * length rest) (grows h.between.0) g));
    }

    pub faces-next : (now more : List Part) (others : List Face) (f : Face) → 1 ≤ length others → (IsFaceIn r (get_or others 0 f) → Grows r now more (face_in s (get_or others 0 f)) 4)
        → FacesLead s before now all others → FacesLead s before more all (take (length others - 1) (drop 1 others))
    faces-next now more [] f some grows h = absurd (omega (arith, some))
    faces-next now more (x ∷ others) f some grows h = subst (λ (fs : List Face). FacesLead s before more all fs) (sym (after-first x others)) (faces-step now more x others grows h)

    pub faces-end : (now : List Part) (rest : List Face) → length rest < 1 → FacesLead s before now all rest → Grows r before now (faces_in all s) (4 * length all)
    faces-end now [] few h = h.lead now (grows-more now now [] 0 0 (omega arith) (grows-none now))
    faces-end now (f ∷ rest) few h = absurd (omega (arith, few))

  -- ---- the slabs
  pub record SlabsLead (faces : List Face) (now : List Part) (all rest : List Slab) : Type 0 where
    pub lead : (after : List Part) → Grows r now after (flooded_parts faces rest) (65532 * length rest) → Grows r [] after (flooded_parts faces all) (65532 * length all)

  module _ (faces : List Face) (all : List Slab) where
    pub slabs-start : SlabsLead faces [] all all
    slabs-start = record { lead = λ after g. g }

    pub slabs-step : length faces < 2 ^ 14 → (now more : List Part) (s : Slab) (rest : List Slab) → Grows r now more (faces_in faces s) (4 * length faces) → SlabsLead faces now all (s ∷ rest) → SlabsLead faces more all rest
    slabs-step few now more s rest grows h = record {
      lead = λ after g. h.lead after (grows-more now after (flooded_parts faces (s ∷ rest)) (4 * length faces + 65532 * length rest) (65532 * length (s ∷ rest)) (omega (arith, few))
          (grows-then now more after (faces_in faces s) (flooded_parts faces rest) (4 * length faces) (65532 * length rest) grows g));
    }

    pub slabs-next : length faces < 2 ^ 14 → (now more : List Part) (others : List Slab) (s : Slab) (list : List Face) → list ≡ faces → LieIn r faces → 1 ≤ length others
        → (LieIn r list → Grows r now more (faces_in list (get_or others 0 s)) (4 * length list)) → SlabsLead faces now all others → SlabsLead faces more all (take (length others - 1) (drop 1 others))
    slabs-next few now more [] s list e between some grows h = absurd (omega (arith, some))
    slabs-next few now more (x ∷ others) s list e between some grows h = subst (λ (ss : List Slab). SlabsLead faces more all ss) (sym (after-first x others))
        (slabs-step few now more x others (subst (λ (fs : List Face). LieIn r fs → Grows r now more (faces_in fs x) (4 * length fs)) e grows between) h)

    pub slabs-end : (now : List Part) (rest : List Slab) → length rest < 1 → SlabsLead faces now all rest → Grows r [] now (flooded_parts faces all) (65532 * length all)
    slabs-end now [] few h = h.lead now (grows-more now now [] 0 0 (omega arith) (grows-none now))
    slabs-end now (s ∷ rest) few h = absurd (omega (arith, few))

pub all-next : {A : Type 0} (P : A → Type 0) (xs : List A) → AllByRecursion P xs → AllByRecursion P (take (length xs - 1) (drop 1 xs))
all-next P [] h = tt
all-next P (x ∷ xs) h = subst (λ ys. AllByRecursion P ys) (sym (after-first x xs)) h.1

-- two facts of each, together and apart
pub all-both : {A : Type 0} (P Q : A → Type 0) (xs : List A) → AllByRecursion P xs → AllByRecursion Q xs → AllByRecursion (λ x. P x × Q x) xs
all-both P Q [] h k = tt
all-both P Q (x ∷ xs) h k = ((h.0, k.0), all-both P Q xs h.1 k.1)

pub all-of : {A : Type 0} (P Q : A → Type 0) → ((x : A) → P x → Q x) → (xs : List A) → AllByRecursion P xs → AllByRecursion Q xs
all-of P Q f [] h = tt
all-of P Q f (x ∷ xs) h = (f x h.0, all-of P Q f xs h.1)

-- the faces of a hull lie in its room
pub lie_in : (faces : Faces) → LieIn (room_of faces) faces.list
lie_in faces = all-both (λ f. AllByRecursion (IsBetween faces.first_x faces.last_x) f.p) _ faces.list faces.between
    (subst (λ (y : ℤ). LieInside y (pos (unsigned_abs faces.high_z)) faces.list) (natural faces.half_breadth (weak faces.half_breadth faces.reach.broad))
    (subst (λ (z : ℤ). LieInside faces.half_breadth z faces.list) (natural faces.high_z faces.reach.above_base) faces.inside))
  where
    natural : (n : ℤ) → pos 0 ≤ℤ n → n ≡ pos (unsigned_abs n)
    natural (pos n) h = refl
    natural (negsuc n) h = absurd (omega (arith, ints, h))

    weak : (n : ℤ) → pos 1 ≤ℤ n → pos 0 ≤ℤ n
    weak n h = omega (arith, ints, h)

-- what holds where all went well
pub on-ok : {E : Type 0} {P Q : Type 0} (r : Result (Unit {0}) E) → (P → Q) → OnOk r P → OnOk r Q
on-ok (Ok x) f h = f h
on-ok (Err e) f h = h

pub few-lost : (n m : ℕ) → n ≤ 0 + 65532 * m → m ≤ 64 → n < 2 ^ 22
few-lost n m h k = omega (arith, h, k)
