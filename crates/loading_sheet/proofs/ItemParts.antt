-- What an item keeps, one by one.
use Rattle.std.proofs.Common.{◌≡◌, sym, subst, T, ℕ, ◌*◌, ◌^◌, ◌≤◌, ℤ, pos, negsuc, neg_ℤ, ◌*ℤ◌, ◌≤ℤ◌, unsigned_abs, Bool, true, ◌&&◌, int_le, arith}
use Rattle.std.proofs.lemmas.Bool.{and_parts}
use Rattle.std.proofs.lemmas.Int.{ints, unsigned_abs-mul}
use Rattle.std.proofs.Math.Nat.{mul-le-mul}
use lib.Dec.{leb→le}
use Rattle.job_reader.specs.Limits.{is_mass, is_whole_from, is_whole_near, is_item}

pub record ItemParts (mass : ℕ) (x y z : ℤ) (free : ℕ) : Type 0 where
  pub most : mass ≤ 2 ^ 36
  pub aft : pos 0 ≤ℤ x
  pub fore : x ≤ℤ pos 524287
  pub aside : unsigned_abs y ≤ 65535
  pub low : pos 0 ≤ℤ z
  pub high : z ≤ℤ pos 131071
  pub surfaces : free ≤ 2 ^ 36

holds : {b : Bool} → b ≡ true → T b
holds e = subst (λ (b : Bool). T b) (sym e) tt

is_at_most : {a b : ℤ} → int_le a b ≡ true → a ≤ℤ b
is_at_most e = record { le = holds e }

is_at_most_mass : (n : ℕ) → is_mass n ≡ true → n ≤ 2 ^ 36
is_at_most_mass n e = leb→le n (2 ^ 36) (holds e)

is_from : (most : ℕ) (n : ℤ) → is_whole_from 0 most n ≡ true → (pos 0 ≤ℤ n) × (n ≤ℤ pos most)
is_from most n e =
    let parts = and_parts (int_le (pos 0) n) (int_le n (pos most)) e in
    (is_at_most parts.0, is_at_most parts.1)

is_near : (n : ℤ) → is_whole_near 65535 n ≡ true → unsigned_abs n ≤ 65535
is_near n e =
    let parts = and_parts (int_le (neg_ℤ (pos 65535)) n) (int_le n (pos 65535)) e in
    go n (is_at_most parts.0) (is_at_most parts.1)
  where
    go : (n : ℤ) → neg_ℤ (pos 65535) ≤ℤ n → n ≤ℤ pos 65535 → unsigned_abs n ≤ 65535
    go n h k = omega (arith, ints, h, k)

pub item-parts : (mass : ℕ) (x y z : ℤ) (free : ℕ) → is_item mass x y z free ≡ true → ItemParts mass x y z free
item-parts mass x y z free e =
    let first = and_parts (((is_mass mass && is_whole_from 0 524287 x) && is_whole_near 65535 y) && is_whole_from 0 131071 z) (is_mass free) e in
    let second = and_parts ((is_mass mass && is_whole_from 0 524287 x) && is_whole_near 65535 y) (is_whole_from 0 131071 z) first.0 in
    let third = and_parts (is_mass mass && is_whole_from 0 524287 x) (is_whole_near 65535 y) second.0 in
    let fourth = and_parts (is_mass mass) (is_whole_from 0 524287 x) third.0 in
    let along = is_from 524287 x fourth.1 in
    let height = is_from 131071 z second.1 in
    record {
      most = is_at_most_mass mass fourth.0;
      aft = along.0;
      fore = along.1;
      aside = is_near y third.1;
      low = height.0;
      high = height.1;
      surfaces = is_at_most_mass free first.1;
    }

-- how far each of an item's moments lies from 0
pub product_from : (m most : ℕ) (x : ℤ) → pos 0 ≤ℤ x → x ≤ℤ pos most → (pos 0 ≤ℤ (pos m *ℤ x)) × ((pos m *ℤ x) ≤ℤ pos (most * m))
product_from m most (pos a) h k = (omega (arith, ints), omega (arith, ints, mul-le-mul within same))
  where
    within : a ≤ most
    within = omega (arith, ints, k)

    same : m ≤ m
    same = omega arith
product_from m most (negsuc a) h k = absurd (omega (arith, ints, h))

pub product_near : (m most : ℕ) (y : ℤ) → unsigned_abs y ≤ most → unsigned_abs (pos m *ℤ y) ≤ most * m
product_near m most y h = omega (arith, unsigned_abs-mul (pos m) y, mul-le-mul h same)
  where
    same : m ≤ m
    same = omega arith

pub arm_small : (most : ℕ) (n : ℤ) → pos 0 ≤ℤ n → n ≤ℤ pos most → unsigned_abs n ≤ most
arm_small most n h k = omega (arith, ints, h, k)
