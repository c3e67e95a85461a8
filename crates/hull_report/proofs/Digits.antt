-- Numbers that are written by digits.
use Rattle.std.proofs.Common.{◌≡◌, ◌≤◌, ◌<◌, ℕ, zero, suc, ◌+◌, ◌-◌, ◌*◌, true, ltb, ◌/◌, ◌%◌, ◌^◌, decimal, List, [], ◌∷◌, ◌++◌, length, get_or, drop, Option, Some, None, refl, ap, ◌∙◌, arith}
use Rattle.std.proofs.Math.ListN.{drop_of_length-le}
use Rattle.std.proofs.lemmas.Fmt.{decimal_by_steps_wide}
use Rattle.std.proofs.lemmas.Bool.{lt-ltb}
use Rattle.std.proofs.lemmas.Grind.{common_steps}
use Rattle.std.proofs.Math.Nat.{pow-suc}
use Rattle.std.specs.Char.{is_ascii_digit}
use Rattle.outward_interval.specs.Text.{last_digits}
use Rattle.hull_report.proofs.Cuts.{drop_one}
use Rattle.hull_report.specs.Reading.{◌>>=◌, digit_after, digits_after}

-- one digit of those that are left
pub digits_step : (n i : ℕ) (ds : List ℕ) → i < length ds → digits_after n (drop i ds) ≡ (digit_after n (get_or ds i 0) >>= λ next. digits_after next (drop (i + 1) ds))
unfolding digits_after
digits_step n i ds h = ap (digits_after n) (drop_one ds i h)

pub digits_end : (n i : ℕ) (ds : List ℕ) → length ds ≤ i → digits_after n (drop i ds) ≡ Some n
unfolding digits_after
digits_end n i ds h = ap (digits_after n) (drop_of_length-le ds h)

-- digits behind digits
digits_append : (n : ℕ) (a b : List ℕ) → digits_after n (a ++ b) ≡ (digits_after n a >>= λ k. digits_after k b)
unfolding digits_after
digits_append n [] b = refl
digits_append n (x ∷ a) b = through (digit_after n x) (λ k. digits_append k a b)
  where
    through : (next : Option ℕ) → ((k : ℕ) → digits_after k (a ++ b) ≡ (digits_after k a >>= λ k. digits_after k b)) → (next >>= λ k. digits_after k (a ++ b)) ≡ ((next >>= λ k. digits_after k a) >>= λ k. digits_after k b)
    through None e = refl
    through (Some k) e = e k

one_digit : (n d : ℕ) → d < 10 → n * 10 + d < 2 ^ 128 → digits_after n ((48 + d) ∷ []) ≡ Some (n * 10 + d)
unfolding digits_after
one_digit n d small fits =
    let digit : is_ascii_digit (48 + d) ≡ true = grind (arith, common_steps) in
    let same : 48 + d - 48 ≡ d = omega arith in
    let shifted : ltb (n * 10) (2 ^ 128) ≡ true = lt-ltb _ _ (omega (arith, fits)) in
    let next : ltb (n * 10 + d) (2 ^ 128) ≡ true = lt-ltb _ _ fits in
    rw (digit, shifted, same, next) refl

-- the number that decimal n writes
pub decimal_number : (n : ℕ) → n < 2 ^ 128 → digits_after 0 (decimal n) ≡ Some n
decimal_number n h = decimal_by_steps_wide (λ n ds. n < 2 ^ 128 → digits_after 0 ds ≡ Some n)
    (λ n small fits. one_digit 0 n small (omega arith) ∙ ap Some (omega arith))
    (λ n ds big so_far fits. digits_append 0 ds ((48 + n % 10) ∷ [])
    ∙ ap (λ k. k >>= λ k. digits_after k ((48 + n % 10) ∷ [])) (so_far (omega arith))
    ∙ one_digit (n / 10) (n % 10) (omega arith) (omega arith)
    ∙ ap Some (omega arith)) n (omega arith) h

-- the decimals behind a whole part
pub decimals_number : (k w n : ℕ) → n < 10 ^ k → w * 10 ^ k + n < 2 ^ 128 → digits_after w (last_digits k n) ≡ Some (w * 10 ^ k + n)
unfolding digits_after
decimals_number zero w n small fits = ap Some (omega (arith, small))
decimals_number (suc k) w n small fits =
    let power : 10 ^ suc k ≡ 10 ^ k * 10 = pow-suc 10 k in
    let moved : w * 10 ^ suc k ≡ w * 10 ^ k * 10 = ap (λ t. w * t) power ∙ omega arith in
    digits_append w (last_digits k (n / 10)) ((48 + n % 10) ∷ [])
    ∙ ap (λ k. k >>= λ k. digits_after k ((48 + n % 10) ∷ [])) (decimals_number k w (n / 10) (omega (arith, small, power)) (omega (arith, fits, moved)))
    ∙ one_digit (w * 10 ^ k + n / 10) (n % 10) (omega arith) (omega (arith, fits, moved))
    ∙ ap Some (omega (arith, moved))
