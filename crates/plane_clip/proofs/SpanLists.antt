-- Span faces that are made of parts one by one.
use Rattle.std.proofs.Common.{ℕ, pos, ◌≡◌, ◌∙◌, refl, sym, ap, subst, ◌+◌, ◌-◌, ◌<◌, ◌≤◌, List, [], ◌∷◌, ◌++◌, length, take, drop, get_or, arith}
use Rattle.std.proofs.lemmas.List.{append-nil, append_assoc, length-append}
use Rattle.hull_model.specs.TriangleCut.{Triangle}
use Rattle.hull_model.specs.Waterplane.{Position}
use Rattle.hull_model.specs.declared.node.Node.{Node}
use Rattle.hull_model.specs.Nodes.{IsNode}
use Rattle.hull_polyhedron.specs.Between.{IsInside}
use Rattle.std.specs.List.{AllByRecursion}
use Rattle.plane_clip.specs.declared.part.Part.{Part}
use Rattle.plane_clip.specs.declared.span_face.SpanFace.{SpanFace}
use Rattle.plane_clip.specs.Between.{HoldParts}
use Rattle.plane_clip.specs.Parts.{HoldsPart}
use Rattle.plane_clip.specs.SpanFaces.{HoldsFace, HoldFaces, IsThinFace, AreThinFaces}
use Rattle.plane_clip.specs.Extents.{IsPartExtent, ArePartExtents}
use Rattle.hull_model.proofs.Rounds.{append}
use Rattle.plane_clip.proofs.EachLists.{each-append}

take-length : {A : Type 0} (xs : List A) → take (length xs) xs ≡ xs
take-length [] = refl
take-length (x ∷ xs) = ap (λ ys. x ∷ ys) (take-length xs)

pub after-first : {A : Type 0} (x : A) (xs : List A) → take (length (x ∷ xs) - 1) (drop 1 (x ∷ xs)) ≡ xs
after-first x xs = ap (λ n. take n xs) fewer ∙ take-length xs
  where
    fewer : length (x ∷ xs) - 1 ≡ length xs
    fewer = omega arith

-- those made so far, and the parts that are left
pub record AreMade (spans : List SpanFace) (rest : List Part) (ts : List (Triangle Position)) : Type 0 where
  pub done : List (Triangle Position)
  pub left : List (Triangle Position)
  pub all : done ++ left ≡ ts
  pub made : HoldFaces spans done
  pub held : HoldParts rest left
  pub thin : AreThinFaces 2 spans
  pub rest_thin : ArePartExtents 65535 65535 2 rest
  pub few : length spans + length rest ≤ 4

-- the corners of a face lie within the limits
pub inside_limits : (nodes : List Node) → AllByRecursion IsNode nodes → AllByRecursion (IsInside (pos 65535) (pos 65535)) nodes
inside_limits [] all = tt
inside_limits (n ∷ nodes) all = (record { port = all.0.port; starboard = all.0.starboard; base = all.0.height.0; top = all.0.height.1 }, inside_limits nodes all.1)

pub made-start : (parts : List Part) (ts : List (Triangle Position)) → HoldParts parts ts → ArePartExtents 65535 65535 2 parts → length parts ≤ 4 → AreMade [] parts ts
made-start parts ts h thin few = record { done = []; left = ts; all = refl; made = tt; held = h; thin = tt; rest_thin = thin; few = omega (arith, few) }

pub made-next : (spans : List SpanFace) (rest : List Part) (ts : List (Triangle Position)) (p : Part) (f : SpanFace) → 1 ≤ length rest → p ≡ get_or rest 0 p → ((t : Triangle Position) → HoldsPart p t → HoldsFace f t)
    → ((y z k : ℕ) → IsPartExtent y z k p → IsThinFace k f) → AreMade spans rest ts → AreMade (spans ++ f ∷ []) (take (length rest - 1) (drop 1 rest)) ts
made-next spans [] ts p f some e holds thin h = absurd (omega (arith, some))
made-next spans (x ∷ rest) ts p f some e holds thin h = subst (λ (r : List Part). AreMade (spans ++ f ∷ []) r ts) (sym (after-first x rest)) (by_left h.left h.all h.held)
  where
    by_left : (left : List (Triangle Position)) → h.done ++ left ≡ ts → HoldParts (x ∷ rest) left → AreMade (spans ++ f ∷ []) rest ts
    by_left [] all held = absurd held
    by_left (t ∷ left) all held = record {
      done = h.done ++ t ∷ [];
      left = left;
      all = append_assoc h.done (t ∷ []) left ∙ all;
      made = each-append HoldsFace spans (f ∷ []) h.done (t ∷ []) h.made (holds t (subst (λ (y : Part). HoldsPart y t) (sym e) held.0), tt);
      held = held.1;
      thin = append (IsThinFace 2) spans (f ∷ []) h.thin (thin 65535 65535 2 (subst (λ (y : Part). IsPartExtent 65535 65535 2 y) (sym e) h.rest_thin.0), tt);
      rest_thin = h.rest_thin.1;
      few = omega (arith, h.few, length-append spans (f ∷ []));
    }

pub made-end : (spans : List SpanFace) (rest : List Part) (ts : List (Triangle Position)) → length rest < 1 → AreMade spans rest ts → HoldFaces spans ts
made-end spans [] ts few h = by_left h.left h.all h.held
  where
    by_left : (left : List (Triangle Position)) → h.done ++ left ≡ ts → HoldParts [] left → HoldFaces spans ts
    by_left [] all held = subst (λ (us : List (Triangle Position)). HoldFaces spans us) (sym (append-nil h.done) ∙ all) h.made
    by_left (t ∷ left) all held = absurd held
made-end spans (p ∷ rest) ts few h = absurd (omega (arith, few))

pub room : (spans : List SpanFace) (rest : List Part) (ts : List (Triangle Position)) → 1 ≤ length rest → AreMade spans rest ts → length spans < 5
room spans rest ts some h = omega (arith, some, h.few)
