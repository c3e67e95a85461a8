-- A model of the private functions of `strip`: the strip between two points is a trapezium on its side.
use Rattle.std.specs.Prelude.{ℕ, ◌+◌, ◌-◌, ◌*◌}

-- three times the moment of its full breadth, divided by its rise
abbrev pub thrice_moment : ℕ → ℕ → ℕ → ℕ → ℕ
thrice_moment foot head lower upper = foot * (2 * lower + upper) + head * (lower + 2 * upper)

-- its half-breadth at a height, times its rise
abbrev pub breadth_at : ℕ → ℕ → ℕ → ℕ → ℕ → ℕ
breadth_at foot head lower upper height = lower * (head - height) + upper * (height - foot)

-- the area of its full breadth below a draft, times its rise
abbrev pub area_below : ℕ → ℕ → ℕ → ℕ → ℕ → ℕ
area_below foot head lower upper draft = (breadth_at foot head lower upper foot + breadth_at foot head lower upper draft) * (draft - foot)

-- three times the moment of its full breadth below a draft, times its rise
abbrev pub moment_below : ℕ → ℕ → ℕ → ℕ → ℕ → ℕ
moment_below foot head lower upper draft = thrice_moment foot draft (breadth_at foot head lower upper foot) (breadth_at foot head lower upper draft) * (draft - foot)
