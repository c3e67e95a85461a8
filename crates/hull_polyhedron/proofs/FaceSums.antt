-- A sum over faces, a face at a time.
use Rattle.std.proofs.Common.{ℕ, suc, ◌+◌, ◌-◌, ◌*◌, ◌^◌, ◌≤◌, ◌≡◌, sym, List, [], ◌∷◌, map, length, get_or, take, drop, ℤ, ◌+ℤ◌, unsigned_abs, arith}
use mathlib.Core.Path.{subst}
use Rattle.std.proofs.lemmas.Int.{ints}
use Rattle.std.proofs.lemmas.List.{take_rest}
use Rattle.std.specs.List.{AllByRecursion}
use Rattle.hull_model.specs.declared.face.Face.{Face}
use Rattle.hull_model.specs.Boundary.{sum_of}
use Rattle.hull_model.specs.Faces.{determinant, triangle_of, IsFace}

-- what is left of the faces, and the sum so far
pub record Left (rest : List Face) (sum total : ℤ) : Type 0 where
  pub limits : AllByRecursion IsFace rest
  pub size : unsigned_abs sum + length rest * 2 ^ 63 ≤ 2 ^ 77
  pub sum_is : sum +ℤ sum_of determinant (map triangle_of rest) ≡ total

pub face_step : (rest : List Face) (other : Face) (s t d total : ℤ) → 1 ≤ length rest → t ≡ s +ℤ d → d ≡ determinant (triangle_of (get_or rest 0 other)) → unsigned_abs t ≤ unsigned_abs s + 2 ^ 63
    → Left rest s total → Left (take (length rest - 1) (drop 1 rest)) t total
face_step rest other s t d total some e f small left = subst (λ (fs : List Face). Left fs t total) (sym (take_rest rest 1)) (go rest some f left)
  where
    smaller : (m n k : ℕ) → m ≤ n + 2 ^ 63 → n + suc k * 2 ^ 63 ≤ 2 ^ 77 → m + k * 2 ^ 63 ≤ 2 ^ 77
    smaller m n k h i = omega arith

    moved : (s w : ℤ) {t d v total : ℤ} → t ≡ s +ℤ d → d ≡ v → s +ℤ (v +ℤ w) ≡ total → t +ℤ w ≡ total
    moved s w e f h = omega (arith, ints)

    go : (rest : List Face) → 1 ≤ length rest → d ≡ determinant (triangle_of (get_or rest 0 other)) → Left rest s total → Left (drop 1 rest) t total
    go [] some f left = absurd (omega arith)
    go (face ∷ rest) some f left = record { limits = left.limits.1; size = smaller (unsigned_abs t) (unsigned_abs s) (length rest) small left.size; sum_is = moved s (sum_of determinant (map triangle_of rest)) e f left.sum_is }
