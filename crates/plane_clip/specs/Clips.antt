-- What a clipped triangle holds.
use Rattle.std.specs.Prelude.{List, [], ◌∷◌, ⊤}
use Rattle.hull_model.specs.TriangleCut.{Triangle}
use Rattle.hull_model.specs.Waterplane.{Position}
use Rattle.plane_clip.specs.declared.clip.Clip.{Clip}
use Rattle.plane_clip.specs.declared.clip.Clip.TheVariants.{Nothing, One, Two}
use Rattle.plane_clip.specs.declared.part.Part.{Part}
use Rattle.plane_clip.specs.Parts.{HoldsPart}

-- its parts
abbrev pub clip_parts : Clip → List Part
clip_parts Nothing = []
clip_parts (One p) = p ∷ []
clip_parts (Two p q) = p ∷ q ∷ []

-- each part holds its triangle
abbrev pub HoldsClip : Clip → List (Triangle Position) → Type 0
HoldsClip Nothing [] = ⊤
HoldsClip (One p) (t ∷ []) = HoldsPart p t
HoldsClip (Two p q) (t ∷ u ∷ []) = HoldsPart p t × HoldsPart q u
HoldsClip _ _ = ⊥
