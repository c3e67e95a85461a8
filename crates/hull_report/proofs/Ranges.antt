-- Bytes within a range, and separators that don't stand among them.
use Rattle.std.proofs.Common.{◌≡◌, ◌<◌, ◌≤◌, ℕ, ◌+◌, ◌/◌, ◌%◌, ◌^◌, zero, suc, Bool, true, false, ◌&&◌, ltb, eqb, List, [], ◌∷◌, ◌++◌, codes, decimal, ℤ, pos, negsuc, FitsSigned, ◌⊎◌, inl, inr, refl, arith}
use Rattle.std.specs.List.{AllByRecursion}
use Rattle.std.specs.Int.{w128}
use Rattle.std.specs.Fmt.{signed_decimal}
use Rattle.std.specs.Int.RustNames.{unsigned_abs}
use Rattle.std.proofs.lemmas.Bool.{ne_eqb, ltb-true}
use Rattle.std.proofs.Math.Nat.{div-le_self}
use Rattle.std.proofs.lemmas.Fmt.{decimal_by_steps_wide}
use Rattle.outward_interval.specs.Text.{last_digits, sign, end_text, figure_text}
use Rattle.hull_report.specs.Spelling.{is_graphic}

-- each byte is from low on and below high
abbrev pub Within : ℕ → ℕ → List ℕ → Type 0
Within low high bytes = AllByRecursion (λ b. (low ≤ b) × (b < high)) bytes

pub within_append : (low high : ℕ) (a b : List ℕ) → Within low high a → Within low high b → Within low high (a ++ b)
within_append low high [] b h k = k
within_append low high (x ∷ a) b h k = (h.0, within_append low high a b h.1 k)

pub wider : (low high low' high' : ℕ) (bytes : List ℕ) → low' ≤ low → high ≤ high' → Within low high bytes → Within low' high' bytes
wider low high low' high' [] l r h = tt
wider low high low' high' (x ∷ bytes) l r h = ((omega (arith, h.0.0), omega (arith, h.0.1)), wider low high low' high' bytes l r h.1)

-- a separator isn't among the bytes
abbrev pub Lacks : ℕ → List ℕ → Type 0
Lacks s bytes = AllByRecursion (λ b. eqb b s ≡ false) bytes

pub lacks : (low high s : ℕ) (bytes : List ℕ) → (s < low) ⊎ (high ≤ s) → Within low high bytes → Lacks s bytes
lacks low high s [] out h = tt
lacks low high s (x ∷ bytes) (inl l) h = (ne_eqb x s (λ e. omega (arith, h.0.0, e)), lacks low high s bytes (inl l) h.1)
lacks low high s (x ∷ bytes) (inr r) h = (ne_eqb x s (λ e. omega (arith, h.0.1, e)), lacks low high s bytes (inr r) h.1)

-- bytes above the space
abbrev pub Above : List ℕ → Type 0
Above bytes = AllByRecursion (λ b. 32 < b) bytes

both : (a b : Bool) → (a && b) ≡ true → (a ≡ true) × (b ≡ true)
both true b h = (refl, h)
both false b h = absurd cc

pub graphic : (bytes : List ℕ) → is_graphic bytes ≡ true → Above bytes
graphic [] h = tt
graphic (x ∷ bytes) h =
    let parts = both (ltb 32 x) (is_graphic bytes) h in
    (ltb-true 32 x parts.0, graphic bytes parts.1)

pub above : (low high : ℕ) (bytes : List ℕ) → 32 < low → Within low high bytes → Above bytes
above low high [] l h = tt
above low high (x ∷ bytes) l h = (omega (arith, h.0.0), above low high bytes l h.1)

pub above_append : (a b : List ℕ) → Above a → Above b → Above (a ++ b)
above_append [] b h k = k
above_append (x ∷ a) b h k = (h.0, above_append a b h.1 k)

pub above_lacks : (s : ℕ) (bytes : List ℕ) → s ≤ 32 → Above bytes → Lacks s bytes
above_lacks s [] l h = tt
above_lacks s (x ∷ bytes) l h = (ne_eqb x s (λ e. omega (arith, h.0, e)), above_lacks s bytes l h.1)

-- digits
pub decimal_digits : (n : ℕ) → n < 10 ^ 64 → Within 48 58 (decimal n)
decimal_digits n h = decimal_by_steps_wide (λ n ds. Within 48 58 ds)
    (λ n small. ((omega arith, omega arith), tt))
    (λ n ds big so_far. within_append 48 58 ds ((48 + n % 10) ∷ []) so_far ((omega arith, omega arith), tt)) n h

pub last_digits_digits : (k n : ℕ) → Within 48 58 (last_digits k n)
last_digits_digits zero n = tt
last_digits_digits (suc k) n = within_append 48 58 (last_digits k (n / 10)) ((48 + n % 10) ∷ []) (last_digits_digits k (n / 10)) ((omega arith, omega arith), tt)

-- signs, digits and points
pub signed_bytes : (z : ℤ) → unsigned_abs z < 10 ^ 64 → Within 45 58 (signed_decimal z)
signed_bytes (pos n) h = wider 48 58 45 58 (decimal n) (omega arith) (omega arith) (decimal_digits n h)
signed_bytes (negsuc n) h = ((omega arith, omega arith), wider 48 58 45 58 (decimal (suc n)) (omega arith) (omega arith) (decimal_digits (suc n) h))

sign_bytes : (z : ℤ) → Within 45 58 (sign z)
sign_bytes (pos n) = tt
sign_bytes (negsuc n) = ((omega arith, omega arith), tt)

-- the text of one end of a figure
pub end_bytes : (places : ℕ) (z : ℤ) → unsigned_abs z < 10 ^ 64 → Within 45 58 (end_text places z)
end_bytes places z h =
    let m = unsigned_abs z in
    let whole : Within 45 58 (decimal (m / 10 ^ places)) = wider 48 58 45 58 (decimal (m / 10 ^ places)) (omega arith) (omega arith) (decimal_digits (m / 10 ^ places) (omega (arith, h, div-le_self m (10 ^ places)))) in
    let decimals : Within 45 58 (last_digits places (m % 10 ^ places)) = wider 48 58 45 58 (last_digits places (m % 10 ^ places)) (omega arith) (omega arith) (last_digits_digits places (m % 10 ^ places)) in
    within_append 45 58 ((sign z ++ decimal (m / 10 ^ places)) ++ codes ".") (last_digits places (m % 10 ^ places))
    (within_append 45 58 (sign z ++ decimal (m / 10 ^ places)) (codes ".") (within_append 45 58 (sign z) (decimal (m / 10 ^ places)) (sign_bytes z) whole) ((omega arith, omega arith), tt))
    decimals

pub abs_small : (z : ℤ) → FitsSigned w128 z → unsigned_abs z < 10 ^ 64
abs_small (pos n) f = omega (arith, f.sfits)
abs_small (negsuc n) f = omega (arith, f.sfits)

pub figure_above : (places : ℕ) (low high : ℤ) → FitsSigned w128 low → FitsSigned w128 high → Above (figure_text places low high)
figure_above places low high l h =
    let from = above 45 58 (end_text places low) (omega arith) (end_bytes places low (abs_small low l)) in
    let to = above 45 58 (end_text places high) (omega arith) (end_bytes places high (abs_small high h)) in
    let opened : Above (codes "[" ++ end_text places low) = (omega arith, from) in
    let parted = above_append (codes "[" ++ end_text places low) (codes ",") opened (omega arith, tt) in
    above_append (((codes "[" ++ end_text places low) ++ codes ",") ++ end_text places high) (codes "]") (above_append ((codes "[" ++ end_text places low) ++ codes ",") (end_text places high) parted to) (omega arith, tt)

pub lacks_append : (s : ℕ) (a b : List ℕ) → Lacks s a → Lacks s b → Lacks s (a ++ b)
lacks_append s [] b h k = k
lacks_append s (x ∷ a) b h k = (h.0, lacks_append s a b h.1 k)
