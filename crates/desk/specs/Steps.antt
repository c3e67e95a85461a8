-- What a put does to a sink that goes step by step.
use Rattle.std.specs.Prelude.{◌≡◌, ℕ, ◌+◌, ◌-◌, ◌^◌, ◌==◌, Bool, ◌&&◌, not, if◌then◌else◌, min, List, ◌++◌, length, take, get_or}
use Rattle.desk.specs.declared.step_sink.StepSink.{StepSink}

-- how many bytes of a piece the put takes: the least of its number, the piece's length and the room left
abbrev pub count_of : StepSink → List ℕ → ℕ
count_of sink piece = min (min (get_or sink.takes.items sink.turn 0) (length piece)) (sink.room.most - length sink.room.bytes.items)

-- a put fails where it takes nothing of a piece that isn't empty
abbrev pub fails : StepSink → List ℕ → Bool
fails sink piece = (count_of sink piece == 0) && not (length piece == 0)

-- the turn of the put after that of this turn: the last number serves all later puts
abbrev pub next_turn : List ℕ → ℕ → ℕ
next_turn takes turn = min (turn + 1) (length takes - 1)

-- the sink before a put of a piece, and after it
pub record IsStep (piece : List ℕ) (before after : StepSink) : Type 0 where
  pub bytes : after.room.bytes.items ≡ before.room.bytes.items ++ take (count_of before piece) piece
  pub faults : after.faults ≡ (if fails before piece then min (before.faults + 1) (2 ^ 64 - 1) else before.faults)
  pub turn : after.turn ≡ next_turn before.takes.items before.turn
  pub takes : after.takes ≡ before.takes
  pub most : after.room.most ≡ before.room.most
