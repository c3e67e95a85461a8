use Rattle.floodable_length.proofs.weighing.reason_of.Goals as goal

pub returns-in-Sinks : goal.returns-in-Sinks
returns-in-Sinks c ship slabs flood flooded fault = record { flood = flood; flooded = flooded; left = c.in-Sinks.left; sunk = rw c.in-Sinks.is at fault }

pub returns-in-NoStart : goal.returns-in-NoStart
returns-in-NoStart c ship slabs flood flooded fault = record { flood = flood; flooded = flooded; tip = c.in-NoStart.tip; tried = c.in-NoStart.tried; no_start = rw c.in-NoStart.is at fault }
