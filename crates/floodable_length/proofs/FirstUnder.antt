-- The first station where the margin line is under a plane, as a loop along the stations finds it.
use Rattle.std.proofs.Common.{◌≡◌, refl, sym, ◌∙◌, ap, ap₂, subst, ℕ, zero, ◌+◌, ◌≤◌, ◌<◌, ℤ, Bool, true, false, List, [], ◌∷◌, length, get_or, Some, None, arith}
use Rattle.std.specs.Prelude.{cond, Option}
use Rattle.std.specs.List.{position_from}
use Rattle.hull_model.specs.declared.station.Station.{Station}
use Rattle.hull_model.specs.Submerged.{first_x, last_x}
use Rattle.hull_polyhedron.specs.FacesOf.{AreFacesOf}
use Rattle.hull_polyhedron.specs.declared.faces.Faces.{Faces}
use Rattle.floodable_length.specs.MarginLine.{is_under, first_under}

-- the test passes at the first element left, and there is none left
passes : {A : Type 0} (P : A → Bool) (rest : List A) (x : A) (n : ℕ) → 1 ≤ length rest → x ≡ get_or rest 0 x → true ≡ P x → position_from P n rest ≡ Some n
passes P [] x n some e t = absurd (omega arith)
passes P (y ∷ ys) x n some e t = go (P y) (sym (t ∙ ap P e))
  where
    go : (b : Bool) → b ≡ true → cond b (Some n) (position_from P (n + 1) ys) ≡ Some n
    go true e = refl
    go false e = absurd (grind arith)

none_left : {A : Type 0} (P : A → Bool) (rest : List A) (n : ℕ) → length rest < 1 → position_from P n rest ≡ None
none_left P [] n less = refl
none_left P (y ∷ ys) n less = absurd (omega arith)

module _ (margin : ℕ) (stations : List Station) (faces : Faces) (are : AreFacesOf stations faces) (a f : ℤ) where
  abbrev test : Station → Bool
  test = is_under margin faces.first_x faces.last_x a f

  by_stations : position_from test 0 stations ≡ first_under margin stations a f
  by_stations = ap₂ (λ first last. position_from (is_under margin first last a f) 0 stations) are.first_x are.last_x

  pub found : (rest : List Station) (s : Station) (n : ℕ) → 1 ≤ length rest → s ≡ get_or rest 0 s → true ≡ test s → position_from test n rest ≡ position_from test 0 stations → Some n ≡ first_under margin stations a f
  found rest s n some e t h = sym (passes test rest s n some e t) ∙ h ∙ by_stations

  pub not_found : (rest : List Station) (n : ℕ) → length rest < 1 → position_from test n rest ≡ position_from test 0 stations → None ≡ first_under margin stations a f
  not_found rest n less h = sym (none_left test rest n less) ∙ h ∙ by_stations
