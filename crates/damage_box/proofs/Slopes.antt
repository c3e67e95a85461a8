-- Levels on a slope.
use Rattle.std.proofs.Common.{◌≡◌, ◌⊎◌, inl, inr, ℤ, pos, ◌+ℤ◌, ◌-ℤ◌, ◌≤ℤ◌, ◌<ℤ◌, arith}
use Rattle.std.proofs.lemmas.Int.{ints}
use Rattle.damage_box.specs.Balance.{Balance, IsFar, IsHeight, IsHalf, IsOnSlope, IsEnough, IsShort, IsCandidate}

pub far_height : {l : ℤ} → IsHeight l → IsFar l
far_height h = record { from = omega (arith, ints, h.from); to = omega (arith, ints, h.to) }

pub first_far : {l k : ℤ} → IsHeight l → IsHalf k → IsFar (l -ℤ k)
first_far h m = record { from = omega (arith, ints, h.from, m.to); to = omega (arith, ints, h.to, m.from) }

pub before_far : {l k : ℤ} → IsHeight l → IsHalf k → IsFar ((l -ℤ k) -ℤ pos 1)
before_far h m = record { from = omega (arith, ints, h.from, m.to); to = omega (arith, ints, h.to, m.from) }

pub last_far : {l k : ℤ} → IsHeight l → IsHalf k → IsFar (l +ℤ k)
last_far h m = record { from = omega (arith, ints, h.from, m.from); to = omega (arith, ints, h.to, m.to) }

pub order : (b : Balance) {l h k : ℤ} → l ≡ b.low → h ≡ b.high → b.low ≤ℤ b.high → IsHalf k → ((l -ℤ k) -ℤ pos 1) <ℤ (h +ℤ k)
order b e d o m = omega (arith, ints, e, d, o, m.from)

pub on_slope : {l h k : ℤ} (x : ℤ) → IsHeight l → IsHeight h → IsHalf k → ((l -ℤ k) -ℤ pos 1) <ℤ x → x ≤ℤ (h +ℤ k) → IsOnSlope x k
on_slope x i j m from to = record {
  m_level = record { from = omega (arith, ints, i.from, m.to); to = omega (arith, ints, j.to, m.to) };
  half_level = record { from = omega (arith, ints, m.from); to = omega (arith, ints, m.to) };
  a_level = record { from = omega (arith, ints, i.from, m.to); to = omega (arith, ints, j.to, m.to, m.from) };
  f_level = record { from = omega (arith, ints, i.from, m.to, m.from); to = omega (arith, ints, j.to, m.to) };
}

pub weak : {a c : ℤ} → a <ℤ c → a ≤ℤ c
weak h = omega (arith, ints)

pub made : {b : Balance} {l h k m : ℤ} → l ≡ b.low → h ≡ b.high → ((l -ℤ k) -ℤ pos 1) <ℤ m → m ≤ℤ (h +ℤ k)
    → (m ≡ ((l -ℤ k) -ℤ pos 1) +ℤ pos 1) ⊎ IsShort b ((m -ℤ pos 1) -ℤ k) ((m -ℤ pos 1) +ℤ k) → (m ≡ h +ℤ k) ⊎ IsEnough b (m -ℤ k) (m +ℤ k) → IsCandidate b k m
made {b} {l} {h} {k} {m} e d from to lower upper = record {
  from = omega (arith, ints, e, from);
  to = omega (arith, ints, d, to);
  enough = elim upper [ inl p ↦ inl (omega (arith, ints, d, p)) | inr q ↦ inr q ];
  lower = elim lower [ inl p ↦ inl (omega (arith, ints, e, p)) | inr q ↦ inr q ];
}
