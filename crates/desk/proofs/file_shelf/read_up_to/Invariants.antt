use Rattle.std.proofs.Common.{◌≤◌, vec_len}
use Rattle.desk.proofs.file_shelf.read_up_to.Given as goal

abbrev pub invariant-loop-turn : goal.invariant-loop-turn
invariant-loop-turn g l = (vec_len l.bytes ≤ l.most) × (l._turn ≤ vec_len l.bytes)
