-- Numbers that are drawn one after another from a state of 32 bits.
use Rattle.std.specs.Prelude.{ℕ, zero, suc, ◌+◌, ◌*◌, ◌^◌, ◌%◌, ◌/◌}

-- the state that a draw leaves
unfoldable pub next_state : ℕ → ℕ
next_state state = (state * 1664525 + 1013904223) % 2 ^ 32

-- the number that a draw gives, by the state that it leaves
unfoldable pub drawn : ℕ → ℕ
drawn state = state / 65536 % 100

-- the state after so many draws
abbrev pub after : ℕ → ℕ → ℕ
after zero state = state
after (suc n) state = after n (next_state state)
