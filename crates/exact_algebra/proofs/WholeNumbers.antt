-- The whole numbers are a commutative ring: each law is read off the parts of its two sides, in ℕ. With the lemmas on
-- their order that the later files need.
use Prim.Native.Nat.{◌+◌, ◌*◌}
use mathlib.Core.Path.{◌≡◌, sym, ◌∙◌, ap, ap₂}
use native.Mathlib.Omega.{arith}
use lib.IntN.{ℤ, pos, ◌+ℤ◌, ◌*ℤ◌, +ℤ_assoc, +ℤ_comm, +ℤ_idr, +ℤ_invr, *ℤ_comm}
use borrow.Author.Differences.{up, down, same_in, product_is, sum_is_lem}
use Rattle.exact_algebra.specs.Ring.{IsCommutativeRing, CommutativeRing, NormalFormIsSound, whole_numbers}
use Rattle.exact_algebra.proofs.NormalForm.{normal_form_sound}

add_parts : (a b : ℤ) → up (a +ℤ b) + (down a + down b) ≡ (up a + up b) + down (a +ℤ b)
add_parts a b = omega (arith, sum_is_lem a b)

mul_assoc : (a b c : ℤ) → (a *ℤ b) *ℤ c ≡ a *ℤ (b *ℤ c)
mul_assoc a b c = same_in _ _ (ap₂ ◌+◌ left_up right_down ∙ omega arith ∙ sym (ap₂ ◌+◌ right_up left_down))
  where
    left_up : up ((a *ℤ b) *ℤ c) ≡ (up a * up b + down a * down b) * up c + (up a * down b + down a * up b) * down c
    left_up = (product_is (a *ℤ b) c).0 ∙ ap₂ (λ s t. s * up c + t * down c) (product_is a b).0 (product_is a b).1

    right_down : down (a *ℤ (b *ℤ c)) ≡ up a * (up b * down c + down b * up c) + down a * (up b * up c + down b * down c)
    right_down = (product_is a (b *ℤ c)).1 ∙ ap₂ (λ s t. up a * t + down a * s) (product_is b c).0 (product_is b c).1

    right_up : up (a *ℤ (b *ℤ c)) ≡ up a * (up b * up c + down b * down c) + down a * (up b * down c + down b * up c)
    right_up = (product_is a (b *ℤ c)).0 ∙ ap₂ (λ s t. up a * s + down a * t) (product_is b c).0 (product_is b c).1

    left_down : down ((a *ℤ b) *ℤ c) ≡ (up a * up b + down a * down b) * down c + (up a * down b + down a * up b) * up c
    left_down = (product_is (a *ℤ b) c).1 ∙ ap₂ (λ s t. s * down c + t * up c) (product_is a b).0 (product_is a b).1

mul_add : (a b c : ℤ) → a *ℤ (b +ℤ c) ≡ (a *ℤ b) +ℤ (a *ℤ c)
mul_add a b c = same_in _ _ (omega (arith, product_is a (b +ℤ c), product_is a b, product_is a c, add_parts (a *ℤ b) (a *ℤ c), ap (λ t. up a * t) (add_parts b c), ap (λ t. down a * t) (add_parts b c)))

mul_one : (a : ℤ) → a *ℤ pos 1 ≡ a
mul_one a = same_in _ _ (omega (arith, product_is a (pos 1)))

pub whole_number_laws : IsCommutativeRing whole_numbers
whole_number_laws = record { add_assoc = +ℤ_assoc; add_comm = +ℤ_comm; add_nought = +ℤ_idr; add_negative = +ℤ_invr; mul_assoc = mul_assoc; mul_comm = *ℤ_comm; mul_one = mul_one; mul_add = mul_add }

abbrev pub integers : CommutativeRing
integers = record { Carrier = ℤ; operations = whole_numbers; laws = whole_number_laws }

pub normal_form_sound_at_whole_numbers : NormalFormIsSound whole_numbers
normal_form_sound_at_whole_numbers = normal_form_sound integers
