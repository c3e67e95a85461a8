-- Parts that hold triangles, one by one.
use Rattle.std.proofs.Common.{ℤ, ◌≡◌, sym, subst, ◌≤◌, List, [], ◌∷◌, ◌++◌, length, arith}
use Rattle.std.specs.List.{flat_map}
use Rattle.std.proofs.lemmas.List.{append-nil}
use Rattle.hull_model.specs.TriangleCut.{Triangle}
use Rattle.hull_model.specs.Waterplane.{Position}
use Rattle.plane_clip.specs.declared.clip.Clip.{Clip}
use Rattle.plane_clip.specs.declared.clip.Clip.TheVariants.{Nothing, One, Two}
use Rattle.plane_clip.specs.declared.part.Part.{Part}
use Rattle.plane_clip.specs.Between.{HoldParts}
use Rattle.plane_clip.specs.Clipped.{clip_forward, clip_aft, clipped}
use Rattle.plane_clip.specs.Clips.{HoldsClip, clip_parts}
use Rattle.plane_clip.specs.Parts.{HoldsPart}
use Rattle.plane_clip.proofs.EachLists.{each-append}

pub clip-parts : (clip : Clip) (ts : List (Triangle Position)) → HoldsClip clip ts → HoldParts (clip_parts clip) ts
clip-parts Nothing [] h = h
clip-parts Nothing (t ∷ ts) h = absurd h
clip-parts (One p) [] h = absurd h
clip-parts (One p) (t ∷ []) h = (h, tt)
clip-parts (One p) (t ∷ u ∷ ts) h = absurd h
clip-parts (Two p q) [] h = absurd h
clip-parts (Two p q) (t ∷ []) h = absurd h
clip-parts (Two p q) (t ∷ u ∷ []) h = (h.0, (h.1, tt))
clip-parts (Two p q) (t ∷ u ∷ v ∷ ts) h = absurd h

-- what the parts of a clip are clipped to again
module _ (aft fore : ℤ) (t : Triangle Position) where
  pub none-again : (clip : Clip) → HoldsClip clip (clip_forward aft t) → clip ≡ Nothing → HoldParts [] (clipped aft fore t)
  unfolding clipped
  none-again clip h e = none (clip_forward aft t) (subst (λ (k : Clip). HoldsClip k (clip_forward aft t)) e h)
    where
      none : (ts : List (Triangle Position)) → HoldsClip Nothing ts → HoldParts [] (flat_map (clip_aft fore) ts)
      none [] h = tt
      none (t ∷ ts) h = absurd h

  pub one-again : (clip : Clip) (p : Part) (k : Clip) → HoldsClip clip (clip_forward aft t) → clip ≡ One p
      → ((t : Triangle Position) → HoldsPart p t → HoldsClip k (clip_aft fore t)) → HoldParts (clip_parts k) (clipped aft fore t)
  unfolding clipped
  one-again clip p k h e again = one (clip_forward aft t) (subst (λ (k : Clip). HoldsClip k (clip_forward aft t)) e h)
    where
      one : (ts : List (Triangle Position)) → HoldsClip (One p) ts → HoldParts (clip_parts k) (flat_map (clip_aft fore) ts)
      one [] h = absurd h
      one (u ∷ []) h = subst (λ (us : List (Triangle Position)). HoldParts (clip_parts k) us) (sym (append-nil (clip_aft fore u))) (clip-parts k (clip_aft fore u) (again u h))
      one (u ∷ v ∷ ts) h = absurd h

  pub two-again : (clip : Clip) (p q : Part) (k l : Clip) → HoldsClip clip (clip_forward aft t) → clip ≡ Two p q
      → ((t : Triangle Position) → HoldsPart p t → HoldsClip k (clip_aft fore t)) → ((t : Triangle Position) → HoldsPart q t → HoldsClip l (clip_aft fore t))
      → HoldParts (clip_parts k ++ clip_parts l) (clipped aft fore t)
  unfolding clipped
  two-again clip p q k l h e again more = two (clip_forward aft t) (subst (λ (k : Clip). HoldsClip k (clip_forward aft t)) e h)
    where
      two : (ts : List (Triangle Position)) → HoldsClip (Two p q) ts → HoldParts (clip_parts k ++ clip_parts l) (flat_map (clip_aft fore) ts)
      two [] h = absurd h
      two (u ∷ []) h = absurd h
      two (u ∷ v ∷ []) h = each-append HoldsPart (clip_parts k) (clip_parts l) (clip_aft fore u) (clip_aft fore v ++ []) (clip-parts k (clip_aft fore u) (again u h.0))
          (subst (λ (us : List (Triangle Position)). HoldParts (clip_parts l) us) (sym (append-nil (clip_aft fore v))) (clip-parts l (clip_aft fore v) (more v h.1)))
      two (u ∷ v ∷ w ∷ ts) h = absurd h

-- at most four in all
pub few-parts : (k l : Clip) → length (clip_parts k ++ clip_parts l) ≤ 4
few-parts Nothing Nothing = omega arith
few-parts Nothing (One p) = omega arith
few-parts Nothing (Two p q) = omega arith
few-parts (One p) Nothing = omega arith
few-parts (One p) (One q) = omega arith
few-parts (One p) (Two q r) = omega arith
few-parts (Two p q) Nothing = omega arith
few-parts (Two p q) (One r) = omega arith
few-parts (Two p q) (Two r s) = omega arith
